-- The invariant: what is below the place and from it on is settled by the records from i on.
-- Assumes nothing.
use Prim.Native.Nat.{◌-◌}
use lib.ListN.{length}
use Rattle.records.proofs.Walks.{Passes}
use Rattle.records.proofs.moves.first_from.Given as goal

abbrev pub invariant-loop-i : goal.invariant-loop-i
invariant-loop-i l = Passes l.listing l.from l.place l.i

abbrev pub decreases-loop-i : goal.decreases-loop-i
decreases-loop-i l = length l.listing - l.i
