-- The token is passed, and its record written.
-- Assumes nothing.
use Rattle.rules.specs.Reader.{◌>>◌}
use Rattle.state.proofs.Chain.{starts, ends, comes, reads_done, writes, stops}
use Rattle.expressions.proofs.token_record.Goals as goal

pub returns-in_err-q : goal.returns-in_err-q
unfolding ◌>>◌
returns-in_err-q g c = stops c.from_residual.ensures.1 _ _ (starts _ _ _ _ _) c.in_err-q.ensures.so

pub returns : goal.returns
unfolding ◌>>◌
returns g c = reads_done (ends (comes _ _ (starts _ _ _ _ _) c.in_ok-q.ensures.so) (writes _ c.put_record.ensures))
