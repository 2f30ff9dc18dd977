-- The colon is passed and the second expression read, each as the rules say, and the record is OF.
-- Assumes nothing.
use Rattle.rules.specs.Reader.{◌>>◌}
use Rattle.rules.specs.Records.{OF, encode}
use Rattle.lexer.specs.Text.{bytes}
use Rattle.state.proofs.Chain.{starts, ends, called, comes, reads_done, writes, is_passed, exits, reads_refused, reads_refused_on}
use Rattle.operands.proofs.Laws.{next_denied, behind_denied}
use Rattle.operands.proofs.far.Goals as goal

pub returns-in_err-q : goal.returns-in_err-q
returns-in_err-q c = rw (exits c.from_residual.ensures.1) (reads_refused (next_denied _ c.in_err-q.ensures.so))

pub returns-in_err-after : goal.returns-in_err-after
unfolding ◌>>◌
returns-in_err-after c = rw (exits c.from_residual-in_err-after.ensures.1) (reads_refused_on c.in_err-after.ensures.lent (behind_denied _ _ c.in_ok-q.ensures.so c.in_err-after.ensures.so))

pub returns : goal.returns
unfolding ◌>>◌ encode bytes
returns c = reads_done (ends (comes _ _ (called _ _ (comes _ _ (starts _ _ _ _ _) c.in_ok-q.ensures.so) c.in_ok-after.ensures.so) is_passed) (writes (OF _ _) c.put_record.ensures))
