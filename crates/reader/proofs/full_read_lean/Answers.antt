-- 1 and 2, then the reading of all statements.
-- Assumes nothing.
use Rattle.state.proofs.Chain.{exits}
use Rattle.reader.proofs.FullReads.{call_read, call_refused}
use Rattle.reader.proofs.full_read_lean.Goals as goal

pub returns-in_err-readable : goal.returns-in_err-readable
returns-in_err-readable c = rw (exits c.from_residual.ensures.1) (call_refused _ _ c.in_err-readable.ensures)

pub returns : goal.returns
returns c = call_read _ _ c.in_ok-readable.ensures c.kept_in.ensures
