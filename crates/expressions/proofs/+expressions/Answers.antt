use Prim.Native.Nat.{suc, ◌-◌}
use mathlib.Core.Path.{◌≡◌, refl, sym}
use native.Mathlib.Omega.{arith}
use native.Mathlib.Nat.{le_refl}
use borrow.Author.Tests.{lt-ltb, ne_eqb}
use denote.Enum.Bare.{same_false}
use lib.ListN.{length}
use Rattle.lexer.specs.contracts.Kind.{the_type}
use Rattle.lexer.specs.declared.Kind.TheVariants.{OpenParenthesis}
use Rattle.rules.specs.Records.{PF, IN}
use Rattle.rules.specs.Reader.{nowhere, ◌>>◌}
use Rattle.state.specs.Views.{line_of}
use Rattle.state.proofs.ByNumber.{number_tells}
use Rattle.state.proofs.Chain.{starts, called, called_denied, comes, ends, denied, lands, writes, returns, refuses, refuses_here, is_passed, is_left, reads_done, reads_refused, hands_on}
use Rattle.state.proofs.Flat.{plain}
use Rattle.state.proofs.Steps.{one_less}
use Rattle.state.proofs.Chain.{stops, stops_on}
use Rattle.expressions.proofs.Reading.{reads_passed, operator_inside, operator_in_line, level_small, primary_opens, primary_signed, primary_operand, primary_no_operand, primary_atom, expr_over, expr_begins, none_left, too_loose, takes}
use Rattle.expressions.proofs.Shorter.{no_longer}
use Rattle.expressions.proofs.+expressions.Goals as goal

pub expression-returns-then-left-eq0 : goal.expression-returns-then-left-eq0
expression-returns-then-left-eq0 t c = reads_refused (denied (expr_over _ _ c.args.out.now _ c.if-left-eq0.true) (refuses_here 3 c.refuse_here.ensures))

pub expression-returns-in_err-q : goal.expression-returns-in_err-q
unfolding ◌>>◌
expression-returns-in_err-q t c =
    let e : c.args.left ≡ suc (c.args.left - 1) = omega arith in
    stops_on c.from_residual.ensures.1 _ _ (expr_begins _ _ _ _ e) c.in_err-q.ensures.lent c.in_err-q.ensures.so

pub expression-returns : goal.expression-returns
unfolding ◌>>◌
expression-returns t c =
    let e : c.args.left ≡ suc (c.args.left - 1) = omega arith in
    hands_on (comes _ _ (called _ _ (expr_begins _ _ _ _ e) c.in_ok-q.ensures.so) is_left) c.infixes.ensures

pub infixes-loop-op-init : goal.infixes-loop-op-init
infixes-loop-op-init t c = (length (line_of c.args.source.text.now c.args.p).more, le_refl _, starts _ _ _ _ _)

pub infixes-returns-then-binds-level : goal.infixes-returns-then-binds-level
infixes-returns-then-binds-level t c = reads_done (lands (too_loose _ _ _ _ _ (sym c.in-Some.ensures) _ (rw (← c.infix_level-binds.ensures) (lt-ltb _ _ c.if-binds-level.true)) c.loop-op.invariant.2) (returns tt))

pub infixes-next-requires : goal.infixes-next-requires
infixes-next-requires t c = operator_in_line c.loop-op.left.kind (sym c.in-Some.ensures)

pub infixes-returns-in_err-behind : goal.infixes-returns-in_err-behind
unfolding ◌>>◌
infixes-returns-in_err-behind t c =
    let turn = takes _ _ _ _ _ c.in-Some.op (sym c.in-Some.ensures) c.loop-op.invariant.1 c.infix_level-binds.ensures c.if-binds-level.false c.loop-op.invariant.2 in
    stops c.from_residual.ensures.1 _ _ turn.2 c.in_err-behind.ensures.so

pub infixes-overflow_add-binds : goal.infixes-overflow_add-binds
infixes-overflow_add-binds t c = omega (arith, level_small c.in-Some.op, c.infix_level-binds.ensures)

pub infixes-returns-in_err-right : goal.infixes-returns-in_err-right
unfolding ◌>>◌
infixes-returns-in_err-right t c =
    let turn = takes _ _ _ _ _ c.in-Some.op (sym c.in-Some.ensures) c.loop-op.invariant.1 c.infix_level-binds.ensures c.if-binds-level.false c.loop-op.invariant.2 in
    stops_on c.from_residual-in_err-right.ensures.1 _ _ (comes _ _ turn.2 c.in_ok-behind.ensures.so) c.in_err-right.ensures.lent c.in_err-right.ensures.so

pub infixes-loop-op-smaller : goal.infixes-loop-op-smaller
infixes-loop-op-smaller t c =
    let i = operator_inside _ (sym c.in-Some.ensures) in
    let less = one_less c.args.source.text.now c.loop-op.left i.0 i.1 c.in_ok-behind.ensures.so in
    let no_more = no_longer _ _ c.in_ok-right.ensures.so in
    omega arith

pub infixes-loop-op-preserved : goal.infixes-loop-op-preserved
unfolding ◌>>◌
infixes-loop-op-preserved t c =
    let i = operator_inside _ (sym c.in-Some.ensures) in
    let less = one_less c.args.source.text.now c.loop-op.left i.0 i.1 c.in_ok-behind.ensures.so in
    let no_more = no_longer _ _ c.in_ok-right.ensures.so in
    let turn = takes _ _ _ _ _ c.in-Some.op (sym c.in-Some.ensures) c.loop-op.invariant.1 c.infix_level-binds.ensures c.if-binds-level.false c.loop-op.invariant.2 in (
      turn.0,
      omega (arith, c.loop-op.invariant.1, turn.1),
      called _ _ (comes _ _ (called _ _ (comes _ _ turn.2 c.in_ok-behind.ensures.so) c.in_ok-right.ensures.so) is_passed) (writes (IN _ _ _) (rw c.number.ensures at c.put_record.ensures)),
    )

pub infixes-returns : goal.infixes-returns
infixes-returns t c = reads_done (lands (none_left _ _ _ _ _ _ (sym c.in_default.ensures) c.loop-op.invariant.2) (returns tt))

pub parenthesis-returns-in_err-q : goal.parenthesis-returns-in_err-q
unfolding ◌>>◌
parenthesis-returns-in_err-q t c = stops c.from_residual.ensures.1 _ _ (primary_opens _ _ c.args.out.now _ c.requires) (called_denied _ _ (starts _ _ _ _ c.args.out.now) c.in_err-q.ensures.so)

pub parenthesis-returns-in_err-inner : goal.parenthesis-returns-in_err-inner
unfolding ◌>>◌
parenthesis-returns-in_err-inner t c = stops_on c.from_residual-in_err-inner.ensures.1 _ _ (primary_opens _ _ _ _ c.requires) c.in_err-inner.ensures.lent (denied (comes _ _ (starts _ _ _ _ c.args.out.now) c.in_ok-q.ensures.so) c.in_err-inner.ensures.so)

pub parenthesis-returns : goal.parenthesis-returns
unfolding ◌>>◌
parenthesis-returns t c = hands_on (called _ _ (primary_opens _ _ _ _ c.requires) (ends (comes _ _ (starts _ _ _ _ _) c.in_ok-q.ensures.so) c.in_ok-inner.ensures.so))
    (reads_passed (c.expect.ensures.so ")" refl (plain ")" refl)))

pub prefixed-next-requires : goal.prefixed-next-requires
prefixed-next-requires t c = operator_in_line c.args.p.kind c.requires

pub prefixed-returns-in_err-q : goal.prefixed-returns-in_err-q
unfolding ◌>>◌
prefixed-returns-in_err-q t c = stops c.from_residual.ensures.1 _ _ (primary_signed _ _ c.args.out.now _ c.args.op c.requires) c.in_err-q.ensures.so

pub prefixed-returns-in_default : goal.prefixed-returns-in_default
unfolding ◌>>◌
prefixed-returns-in_default t c = reads_refused (called_denied _ _ (comes _ _ (primary_no_operand _ _ c.args.out.now _ c.args.op c.requires (sym c.in_default.ensures)) c.in_ok-q.ensures.so) (refuses (nowhere 22) c.refused_nowhere.ensures))

pub prefixed-returns-in_err-inner : goal.prefixed-returns-in_err-inner
unfolding ◌>>◌
prefixed-returns-in_err-inner t c = stops_on c.from_residual-in_err-inner.ensures.1 _ _ (comes _ _ (primary_operand _ _ _ _ c.args.op c.requires (sym c.in-Some.ensures)) c.in_ok-q.ensures.so) c.in_err-inner.ensures.lent c.in_err-inner.ensures.so

pub prefixed-returns : goal.prefixed-returns
unfolding ◌>>◌
prefixed-returns t c = reads_done
    (ends (comes _ _ (called _ _ (comes _ _ (primary_operand _ _ _ _ c.args.op c.requires (sym c.in-Some.ensures)) c.in_ok-q.ensures.so) c.in_ok-inner.ensures.so) is_passed) (writes (PF _ _ _) (rw c.number.ensures at c.put_record.ensures)))

pub primary-returns-in-None : goal.primary-returns-in-None
primary-returns-in-None t c =
    let other = same_false the_type _ _ (sym c.if-eq.ensures) in
    hands_on (primary_atom _ _ _ _ (ne_eqb _ _ (λ h. other (number_tells {b = OpenParenthesis} h))) (sym c.in-None.ensures)) c.atom.ensures
