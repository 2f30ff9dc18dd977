use mathlib.Core.List.{[]}
use Rattle.text.specs.Text.{numbers}
use Rattle.text.proofs.Puts.{nothing, number_behind}
use Rattle.text.proofs.Text.put_numbers.Goals as goal

pub loop-b-init : goal.loop-b-init
unfolding numbers
loop-b-init c = nothing _

pub loop-b-preserved : goal.loop-b-preserved
loop-b-preserved c = number_behind [] _ c.loop-b-test.true c.loop-b.invariant (rw c.from.ensures at c.put_number.ensures)
