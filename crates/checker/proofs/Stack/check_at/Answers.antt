-- Two bytes are the mark's letters, and the others are behind it; with fewer there is no record.
-- Assumes nothing.
use mathlib.Core.Path.{sym, ap, refl, ◌∙◌}
use Prim.Native.Nat.{◌-◌}
use lib.ListN.{length, take, drop}
use Rattle.records.proofs.Writes.{rest_of}
use Rattle.checker.specs.Checker.{next_pass, stack_of}
use Rattle.checker.proofs.Walk.{alone, next_at}
use Rattle.checker.proofs.Stack.check_at.Goals as goal

pub returns-in_default : goal.returns-in_default
returns-in_default c =
    let l = c.args.listing.now in
    sym (alone _ _ _ (rw (rest_of l c.args.at) at c.in_default.len_below))

pub returns : goal.returns
returns c =
    let a = c.args in
    let l = a.listing.now in
    let s = take (length l - a.at) (drop a.at l) in
    c.check.ensures ∙ next_at _ _ s 0 _ _ c.in-len2-up.len_at_least refl (rest_of s 2) ∙ ap (next_pass a.length (stack_of a.self)) (rest_of l a.at)
