-- The invariant: the bytes of the run below i are written.
use Rattle.std.proofs.Common.{◌≡◌, take}
use Rattle.records.specs.Writes.{stores}
use Rattle.records.proofs.copy.Given as goal

abbrev pub invariant-loop-i : goal.invariant-loop-i
invariant-loop-i l = l.out ≡ stores l.initial.out l.at (take l.i l.run)
