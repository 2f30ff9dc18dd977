use native.Mathlib.Omega.{arith}
use Rattle.laqhoncu.proofs.Counting.{count_end, counts_more}
use Rattle.laqhoncu.proofs.laqhoncu_count.Goals as goal

pub loop-at-smaller : goal.loop-at-smaller
loop-at-smaller c = omega (arith, (counts_more _ _ c.loop-at.invariant c.loop-at-test.true c.scan-at.ensures).1, c.loop-at-test.true)

pub loop-at-preserved : goal.loop-at-preserved
loop-at-preserved c = (counts_more _ _ c.loop-at.invariant c.loop-at-test.true c.scan-at.ensures).0

pub returns : goal.returns
returns c = omega (arith, c.loop-at.invariant.2, count_end c.args.source.now c.loop-at.at c.loop-at-test.false)
