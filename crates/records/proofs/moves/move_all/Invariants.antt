-- The invariant: the records before i are moved, and the bytes from i on are the old ones.
-- Assumes nothing.
use Prim.Native.Nat.{◌-◌}
use lib.ListN.{length}
use Rattle.records.proofs.Walks.{Moved}
use Rattle.records.proofs.moves.move_all.Given as goal

abbrev pub invariant-loop-i : goal.invariant-loop-i
invariant-loop-i l = Moved l.shift.new l.shift.old l.initial.s l.s l.i

abbrev pub decreases-loop-i : goal.decreases-loop-i
decreases-loop-i l = length l.initial.s - l.i
