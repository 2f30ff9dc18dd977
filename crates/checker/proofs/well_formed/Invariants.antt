-- The invariant: what the rules say of the bytes that are left, with the stack that stands, is what they say of the whole.
-- Assumes nothing.
use Prim.Native.Nat.{◌-◌}
use lib.ListN as ListN
use Rattle.checker.specs.Checker.{stack_of}
use Rattle.checker.proofs.Walk.{Stands}
use Rattle.checker.proofs.well_formed.Given as goal

abbrev pub invariant-loop-at : goal.invariant-loop-at
invariant-loop-at l = Stands l.listing l.length (stack_of l.k) l.at

abbrev pub decreases-loop-at : goal.decreases-loop-at
decreases-loop-at l = ListN.length l.listing - l.at
