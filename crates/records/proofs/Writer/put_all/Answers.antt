-- A byte more is put behind those that are.
-- Assumes nothing.
use native.Mathlib.Numerals.{add-one}
use lib.Seq.{take-suc}
use Rattle.records.proofs.Writers.{puts_nothing, puts_follow}
use Rattle.records.proofs.Writer.put_all.Goals as goal

pub loop-b-init : goal.loop-b-init
loop-b-init c = puts_nothing _

pub loop-b-preserved : goal.loop-b-preserved
loop-b-preserved c = rw (add-one, take-suc c.args.run.now c.loop-b.b-index 0 c.loop-b-test.true) (puts_follow _ _ c.loop-b.invariant c.put.ensures)
