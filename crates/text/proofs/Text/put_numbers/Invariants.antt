-- The bytes so far are put as numbers.
use lib.ListN.{take}
use Rattle.text.specs.Text.{numbers, Put}
use Rattle.text.proofs.Text.put_numbers.Given as goal

abbrev pub invariant-loop-b : goal.invariant-loop-b
invariant-loop-b l = Put (numbers (take l.b-index l.data)) l.fn.self l.self
