-- A segment ahead is passed, and its colon.
-- Assumes nothing.
use Rattle.rules.specs.Reader.{◌>>◌}
use mathlib.Core.Path.{refl}
use Rattle.names.specs.Names.{segments}
use Rattle.rules.specs.Operands.{override}
use Rattle.state.proofs.Chain.{looks_comes, returns as gives, is_kind, then_comes, then_denied, first_denied, exits, looks_denied}
use Rattle.state.proofs.Flat.{plain}
use Rattle.operands.proofs.Laws.{within, is_found, is_absent}
use Rattle.operands.proofs.segment_override.Goals as goal

pub returns-in_default : goal.returns-in_default
unfolding override ◌>>◌
returns-in_default c = looks_comes (then_comes _ is_kind (rw (is_absent _ c.in_default.ensures) (gives 0)))

pub next-requires : goal.next-requires
next-requires c = within c.args.source.text.now c.args.p segments (is_found _ c.in-Some.ensures)

pub returns-in_err-q : goal.returns-in_err-q
unfolding override ◌>>◌
returns-in_err-q c = rw (exits c.from_residual.ensures.1) (looks_denied (then_denied _ is_kind (rw (is_found _ c.in-Some.ensures) (first_denied _ c.in_err-q.ensures.so))))

pub returns-in_err-after : goal.returns-in_err-after
unfolding override ◌>>◌
returns-in_err-after c = rw (exits c.from_residual-in_err-after.ensures.1) (looks_denied (then_denied _ is_kind (rw (is_found _ c.in-Some.ensures) (then_denied _ c.in_ok-q.ensures.so (first_denied _ (c.in_err-after.ensures.so ":" refl (plain ":" refl)).so)))))

pub returns : goal.returns
unfolding override ◌>>◌
returns c = looks_comes (then_comes _ is_kind (rw (is_found _ c.in-Some.ensures) (then_comes _ c.in_ok-q.ensures.so (then_comes _ (c.in_ok-after.ensures.so ":" refl (plain ":" refl)).so (gives _)))))
