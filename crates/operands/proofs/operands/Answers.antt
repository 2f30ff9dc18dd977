-- By the token ahead no operand, or one; by the token behind it the end, a second one, or 11.
-- Assumes nothing.
use Rattle.rules.specs.Reader.{◌>>◌}
use mathlib.Core.Path.{refl}
use Rattle.lexer.specs.declared.Kind.TheVariants as kind
use Rattle.rules.specs.Operands.{operands as rules-operands}
use Rattle.state.proofs.Chain.{starts, still, lands, ends, denied, called, comes, reads_with, returns as gives, refuses_here, is_ahead, is_kind, is_passed, then_comes, then_denied, first_denied, exits, reads_denied_on}
use Rattle.state.proofs.Flat.{plain, end_ahead}
use Rattle.operands.proofs.Laws.{mark_there, other_there, hands_with}
use Rattle.operands.proofs.operands.Goals as goal

pub returns-then-is_line_end : goal.returns-then-is_line_end
unfolding rules-operands ◌>>◌
returns-then-is_line_end c = reads_with (still _ (then_comes _ is_ahead (then_comes _ is_passed (rw (end_ahead c.args.source.text.now c.args.p c.is_line_end.ensures c.if-is_line_end.true) (gives _)))))

pub returns-in_err-q : goal.returns-in_err-q
unfolding rules-operands ◌>>◌
returns-in_err-q c = rw (exits c.from_residual.ensures.1) (reads_denied_on c.in_err-q.ensures.lent (then_denied _ is_ahead (then_denied _ is_passed (rw (end_ahead c.args.source.text.now c.args.p c.is_line_end.ensures c.if-is_line_end.false) (first_denied _ c.in_err-q.ensures.so)))))

pub returns-then-is_line_end-2 : goal.returns-then-is_line_end-2
unfolding rules-operands ◌>>◌
returns-then-is_line_end-2 c = reads_with (ends (comes _ _ (comes _ _ (starts _ _ _ _ _) is_ahead) is_passed) (rw (end_ahead c.args.source.text.now c.args.p c.is_line_end.ensures c.if-is_line_end.false) (ends (comes _ _ (called _ _ (starts _ _ _ _ _) c.in_ok-q.ensures.so) is_kind) (rw (end_ahead c.args.source.text.now c.in_ok-q.q c.is_line_end-2.ensures c.if-is_line_end-2.true) (lands (comes _ _ (starts _ _ _ _ _) is_passed) (gives _))))))

pub returns-then-eq : goal.returns-then-eq
unfolding rules-operands ◌>>◌
returns-then-eq c = hands_with (comes _ _ (comes _ _ (starts _ _ _ _ _) is_ahead) is_passed) (rw (end_ahead c.args.source.text.now c.args.p c.is_line_end.ensures c.if-is_line_end.false) (hands_with (comes _ _ (called _ _ (starts _ _ _ _ _) c.in_ok-q.ensures.so) is_kind) (rw (end_ahead c.args.source.text.now c.in_ok-q.q c.is_line_end-2.ensures c.if-is_line_end-2.false, mark_there c.args.source.text.now c.in_ok-q.q kind.Comma "," (plain "," refl) refl c.if-eq.ensures) c.second_operand.ensures)))

pub returns : goal.returns
unfolding rules-operands ◌>>◌
returns c = reads_denied_on c.in_ok-q.ensures.lent (then_denied _ is_ahead (then_denied _ is_passed (rw (end_ahead c.args.source.text.now c.args.p c.is_line_end.ensures c.if-is_line_end.false) (denied (comes _ _ (called _ _ (starts _ _ _ _ _) c.in_ok-q.ensures.so) is_kind) (rw (end_ahead c.args.source.text.now c.in_ok-q.q c.is_line_end-2.ensures c.if-is_line_end-2.false, other_there c.args.source.text.now c.in_ok-q.q kind.Comma "," (plain "," refl) refl c.if-eq.ensures) (refuses_here 11 c.refuse_here.ensures))))))
