-- Nothing before the closing bracket, else an expression.
-- Assumes nothing.
use Rattle.rules.specs.Reader.{◌>>◌}
use mathlib.Core.Path.{refl}
use Rattle.lexer.specs.declared.Kind.TheVariants as kind
use Rattle.rules.specs.Operands.{displacement}
use Rattle.state.proofs.Chain.{starts, still, lands, ends, called, comes, reads_with, returns as gives, is_kind, then_comes, then_denied, first_denied, exits, reads_denied_on}
use Rattle.state.proofs.Flat.{plain}
use Rattle.operands.proofs.Laws.{mark_there, other_there}
use Rattle.operands.proofs.displacement.Goals as goal

pub returns-then-eq : goal.returns-then-eq
unfolding displacement ◌>>◌
returns-then-eq c = reads_with (still _ (then_comes _ is_kind (rw (mark_there c.args.source.text.now c.args.p kind.CloseBracket "]" (plain "]" refl) refl c.if-eq.ensures) (gives 0))))

pub returns-in_err-after : goal.returns-in_err-after
unfolding displacement ◌>>◌
returns-in_err-after c = rw (exits c.from_residual.ensures.1) (reads_denied_on c.in_err-after.ensures.lent (then_denied _ is_kind (rw (other_there c.args.source.text.now c.args.p kind.CloseBracket "]" (plain "]" refl) refl c.if-eq.ensures) (first_denied _ c.in_err-after.ensures.so))))

pub returns : goal.returns
unfolding displacement ◌>>◌
returns c = reads_with (ends (comes _ _ (starts _ _ _ _ _) is_kind) (rw (other_there c.args.source.text.now c.args.p kind.CloseBracket "]" (plain "]" refl) refl c.if-eq.ensures) (lands (called _ _ (starts _ _ _ _ _) c.in_ok-after.ensures.so) (gives 1))))
