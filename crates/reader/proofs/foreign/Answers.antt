use mathlib.Core.Path.{sym, ◌∙◌}
use borrow.Author.Rules.{rules}
use borrow.Author.Tests.{tests}
use Rattle.std.proofs.lemmas.Iterator.{IsFirst-from_position, YieldsList-from_slice}
use Rattle.reader.proofs.Lending.{none_found, searched, High, Low}
use Rattle.reader.proofs.foreign.Goals as goal

pub returns-then-is_ascii : goal.returns-then-is_ascii
returns-then-is_ascii c = none_found _ (sym c.is_ascii.ensures ∙ c.if-is_ascii.true)

pub returns : goal.returns
returns c =
    let s = c.args.source.now in
    searched s c.position.result (IsFirst-from_position _ _ c.position.result High Low c.position.ensures.ran (YieldsList-from_slice s cc) (λ x q k. search (rules, tests)) (λ x q k. search (rules, tests)))
