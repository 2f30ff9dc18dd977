use Rattle.state.proofs.Chain.{exits}
use Rattle.statements.proofs.Run.{run_starts, run_turns, run_ends, run_denied, statement_falls}
use Rattle.statements.proofs.statements.Goals as goal

pub loop-after-init : goal.loop-after-init
loop-after-init c = run_starts _ _ _ _

pub returns-in_err-after : goal.returns-in_err-after
returns-in_err-after c = rw (exits c.from_residual.ensures.1) (run_denied _ c.loop-after.invariant c.in_err-after.ensures.lent c.in_err-after.ensures.so)

pub loop-after-smaller : goal.loop-after-smaller
loop-after-smaller c = statement_falls _ (rw c.in-Read.is at c.in_ok-after.ensures).so

pub loop-after-preserved : goal.loop-after-preserved
loop-after-preserved c = run_turns _ c.loop-after.invariant (rw c.in-Read.is at c.in_ok-after.ensures).so

pub returns-in-NoneLeft : goal.returns-in-NoneLeft
returns-in-NoneLeft c = run_ends _ c.loop-after.invariant (rw c.in-NoneLeft.is at c.in_ok-after.ensures).so
