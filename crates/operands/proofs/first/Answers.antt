-- The register is passed, and what follows it is read.
-- Assumes nothing.
use Rattle.rules.specs.Reader.{◌>>◌}
use mathlib.Core.Option.{some}
use Rattle.state.proofs.Chain.{looks_comes, returns as gives, then_comes, exits, looks_denied}
use Rattle.operands.proofs.Laws.{next_denied, behind_denied}
use Rattle.operands.proofs.first.Goals as goal

pub returns-in_err-q : goal.returns-in_err-q
returns-in_err-q c = rw (exits c.from_residual.ensures.1) (looks_denied (next_denied _ c.in_err-q.ensures.so))

pub returns-in_err-after : goal.returns-in_err-after
returns-in_err-after c = rw (exits c.from_residual-in_err-after.ensures.1) (looks_denied (behind_denied _ _ c.in_ok-q.ensures.so c.in_err-after.ensures.so))

pub returns : goal.returns
unfolding ◌>>◌
returns c = looks_comes (then_comes _ c.in_ok-q.ensures.so (then_comes _ c.in_ok-after.ensures.so (gives (some _))))
