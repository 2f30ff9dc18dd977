-- The records before the place are printed. Where no record is left, their lines and the last one are the whole text.
use Prim.Native.Nat.{◌-◌}
use lib.ListN.{length}
use Rattle.printing.proofs.Records.{Begun}
use Rattle.printing.proofs.listing_text.Given as goal

abbrev pub invariant-loop-size : goal.invariant-loop-size
invariant-loop-size l = Begun l.listing l.at l.count l.initial.text l.text

abbrev pub decreases-loop-size : goal.decreases-loop-size
decreases-loop-size l = length l.listing - l.at
