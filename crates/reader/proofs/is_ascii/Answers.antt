-- The largest byte is above 127 where any is.
-- Assumes nothing.
use borrow.Author.Rules.{rules}
use borrow.Author.Tests.{tests}
use Rattle.std.proofs.lemmas.Iterator.{YieldsList-from_slice}
use Rattle.std.proofs.lemmas.Iterator.Consumers.{fold_from_yields_List}
use Rattle.reader.proofs.Lending.{larger, largest_asked}
use Rattle.reader.proofs.is_ascii.Goals as goal

pub returns : goal.returns
returns c =
    let s = c.args.source.now in
    largest_asked s (fold_from_yields_List _ larger 0 c.fold.result c.fold.ensures.ran (YieldsList-from_slice s cc) (λ a x b q k. search (rules, tests)))
