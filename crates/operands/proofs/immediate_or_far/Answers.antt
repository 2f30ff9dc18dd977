-- An expression, and by the token behind it the record OI, or what `far` reads.
-- Assumes nothing.
use Rattle.rules.specs.Reader.{◌>>◌}
use mathlib.Core.Path.{refl}
use Rattle.rules.specs.Records.{OI, encode}
use Rattle.lexer.specs.Text.{bytes}
use Rattle.lexer.specs.declared.Kind.TheVariants as kind
use Rattle.rules.specs.Operands.{immediate_or_far}
use Rattle.state.proofs.Chain.{starts, ends, called, comes, hands_on, reads_done, writes, is_ahead, is_kind, is_passed, first_denied, then_denied, exits, reads_refused_on}
use Rattle.state.proofs.Flat.{plain}
use Rattle.operands.proofs.Laws.{mark_there, other_there}
use Rattle.operands.proofs.immediate_or_far.Goals as goal

pub returns-in_err-q : goal.returns-in_err-q
unfolding immediate_or_far ◌>>◌
returns-in_err-q c = rw (exits c.from_residual.ensures.1) (reads_refused_on c.in_err-q.ensures.lent (then_denied _ is_ahead (first_denied _ c.in_err-q.ensures.so)))

pub returns-then-eq : goal.returns-then-eq
unfolding immediate_or_far ◌>>◌
returns-then-eq c = hands_on (comes _ _ (called _ _ (comes _ _ (starts _ _ _ _ _) is_ahead) c.in_ok-q.ensures.so) is_kind) (rw (mark_there c.args.source.text.now c.in_ok-q.q kind.Colon ":" (plain ":" refl) refl c.if-eq.ensures) c.far.ensures)

pub returns : goal.returns
unfolding immediate_or_far ◌>>◌ encode bytes
returns c = reads_done (ends (comes _ _ (called _ _ (comes _ _ (starts _ _ _ _ _) is_ahead) c.in_ok-q.ensures.so) is_kind) (rw (other_there c.args.source.text.now c.in_ok-q.q kind.Colon ":" (plain ":" refl) refl c.if-eq.ensures) (ends (comes _ _ (starts _ _ _ _ _) is_passed) (writes (OI _ _) c.put_record.ensures))))
