-- The comma is passed and the second operand read; the span goes from the first to the last token taken.
-- Assumes nothing.
use Rattle.rules.specs.Reader.{◌>>◌}
use Rattle.state.proofs.Chain.{starts, lands, called, comes, reads_with, returns as gives, is_passed, exits, reads_denied, reads_denied_on}
use Rattle.operands.proofs.Laws.{next_denied, behind_denied}
use Rattle.operands.proofs.second_operand.Goals as goal

pub returns-in_err-q : goal.returns-in_err-q
returns-in_err-q c = rw (exits c.from_residual.ensures.1) (reads_denied (next_denied _ c.in_err-q.ensures.so))

pub returns-in_err-after : goal.returns-in_err-after
unfolding ◌>>◌
returns-in_err-after c = rw (exits c.from_residual-in_err-after.ensures.1) (reads_denied_on c.in_err-after.ensures.lent (behind_denied _ _ c.in_ok-q.ensures.so c.in_err-after.ensures.so))

pub returns : goal.returns
unfolding ◌>>◌
returns c = reads_with (lands (comes _ _ (called _ _ (comes _ _ (starts _ _ _ _ _) c.in_ok-q.ensures.so) c.in_ok-after.ensures.so) is_passed) (gives _))
