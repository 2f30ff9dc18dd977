-- The four parts of an address, one after the other.
-- Assumes nothing.
use Rattle.state.proofs.Chain.{starts, called, comes, hands_on, then_denied, first_denied, exits, reads_refused, reads_refused_on}
use Rattle.operands.proofs.address.Goals as goal

pub returns-in_err-q : goal.returns-in_err-q
returns-in_err-q c = rw (exits c.from_residual.ensures.1) (reads_refused (first_denied _ c.in_err-q.ensures.so))

pub returns-in_err-after : goal.returns-in_err-after
returns-in_err-after c = rw (exits c.from_residual-in_err-after.ensures.1) (reads_refused (then_denied _ c.in_ok-q.ensures.so (first_denied _ c.in_err-after.ensures.so)))

pub returns-in_err-end : goal.returns-in_err-end
returns-in_err-end c = rw (exits c.from_residual-in_err-end.ensures.1) (reads_refused_on c.in_err-end.ensures.lent (then_denied _ c.in_ok-q.ensures.so (then_denied _ c.in_ok-after.ensures.so (first_denied _ c.in_err-end.ensures.so))))

pub returns : goal.returns
returns c = hands_on (called _ _ (comes _ _ (comes _ _ (starts _ _ _ _ _) c.in_ok-q.ensures.so) c.in_ok-after.ensures.so) c.in_ok-end.ensures.so) c.close.ensures
