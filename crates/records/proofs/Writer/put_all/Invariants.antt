-- The invariant: the bytes so far are put.
-- Assumes nothing.
use lib.ListN.{take}
use Rattle.records.specs.Writers.{Puts}
use Rattle.records.proofs.Writer.put_all.Given as goal

abbrev pub invariant-loop-b : goal.invariant-loop-b
invariant-loop-b l = Puts (take l.b-index l.run) l.initial.self l.self
