-- The bytes so far are put.
use lib.ListN.{take}
use Rattle.text.specs.Text.{Put}
use Rattle.text.proofs.Text.put_all.Given as goal

abbrev pub invariant-loop-b : goal.invariant-loop-b
invariant-loop-b l = Put (take l.b-index l.text) l.fn.self l.self
