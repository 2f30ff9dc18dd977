use Rattle.text.proofs.Puts.{nothing, one_more}
use Rattle.text.proofs.Text.put_all.Goals as goal

pub loop-b-init : goal.loop-b-init
loop-b-init c = nothing _

pub loop-b-preserved : goal.loop-b-preserved
loop-b-preserved c = one_more _ c.loop-b-test.true c.loop-b.invariant c.put.ensures
