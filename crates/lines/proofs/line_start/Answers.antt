-- The line begins behind the last line feed before its end.
-- Assumes nothing.
use lib.ListN.{take}
use borrow.Author.Rules.{rules}
use borrow.Author.Tests.{tests}
use Rattle.std.specs.Slice.Iter.{iter_steps_back}
use Rattle.std.proofs.lemmas.Iterator.{IsFirst-from_position}
use Rattle.lines.proofs.Searches.{Feed, Other, slice_back, passed_back, start_behind}
use Rattle.lines.proofs.line_start.Goals as goal

pub returns : goal.returns
returns c =
    let s = c.args.source.now in
    let e = c.args.end in
    let (q, ran, far) = passed_back iter_steps_back _ _ _ _ _ c.rposition.result c.rposition.ensures.ran in
    let first = IsFirst-from_position _ _ q Feed Other ran (slice_back (take e s) cc) (λ x q k. search (rules, tests)) (λ x q k. search (rules, tests)) in
    start_behind s e c.requires c.rposition.result q (cc) first far c.map_or.ensures (λ i k. search rules)
