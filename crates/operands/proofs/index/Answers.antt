-- The second register is passed first; then the first one says whether it is 33.
-- Assumes nothing.
use mathlib.Core.Path.{sym}
use mathlib.Core.Option.{some}
use Rattle.rules.specs.Reader.{at, ◌>>◌}
use Rattle.state.proofs.Chain.{looks_comes, looks_denied, refuses, returns as gives, is_passed, then_comes, then_denied, exits}
use Rattle.operands.proofs.Laws.{next_denied}
use Rattle.operands.proofs.index.Goals as goal

pub returns-in_err-q : goal.returns-in_err-q
returns-in_err-q c = rw (exits c.from_residual.ensures.1) (looks_denied (next_denied _ c.in_err-q.ensures.so))

pub returns-then-is_index : goal.returns-then-is_index
unfolding ◌>>◌
returns-then-is_index c = looks_denied (then_denied _ c.in_ok-q.ensures.so (then_denied _ is_passed (rw (sym c.if-is_index.ensures) (refuses (at 33 _ _) c.refused_at.ensures))))

pub returns : goal.returns
unfolding ◌>>◌
returns c = looks_comes (then_comes _ c.in_ok-q.ensures.so (then_comes _ is_passed (rw (sym c.if-is_index.ensures, c.paired.ensures) (gives (some _)))))
