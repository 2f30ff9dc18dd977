use mathlib.Core.Path.{sym, ◌∙◌}
use native.Mathlib.Omega.{arith}
use Rattle.lexer.specs.declared.Kind.TheVariants as kind
use Rattle.state.proofs.Chain.{exits}
use Rattle.statements.proofs.Lines.{same_kind, inside_falls}
use Rattle.statements.proofs.Data.{front_starts, front_ends, front_refused, front_turns, front_stops, comma_inside, comma_turns, comma_stops}
use Rattle.statements.proofs.literals.Goals as goal

pub loop-width-init : goal.loop-width-init
loop-width-init c = front_starts _ _ _ _

pub returns-in_err-some : goal.returns-in_err-some
returns-in_err-some c = rw (exits c.from_residual.ensures.1) (front_refused c.loop-width.invariant c.in_err-some.ensures.lent c.in_err-some.ensures.so)

pub returns-in_err-q : goal.returns-in_err-q
returns-in_err-q c = rw (exits c.from_residual-in_err-q.ensures.1) (front_stops c.loop-width.invariant c.in_ok-some.ensures.so c.in_err-q.ensures.so)

pub returns-in_err-q-2 : goal.returns-in_err-q-2
returns-in_err-q-2 c =
    let so = front_turns c.loop-width.invariant c.in_ok-some.ensures.so (sym c.is_line_end.ensures ∙ c.loop-width-test.true) c.in_ok-q.ensures.so in
    let e = same_kind kind.Comma _ c.if-eq.ensures in
    rw (exits c.from_residual-in_err-q-2.ensures.1) (comma_stops so e c.in_err-q-2.ensures.so)

pub loop-width-smaller-then-eq : goal.loop-width-smaller-then-eq
loop-width-smaller-then-eq c =
    let i = sym c.is_line_end.ensures ∙ c.loop-width-test.true in
    let so = front_turns c.loop-width.invariant c.in_ok-some.ensures.so i c.in_ok-q.ensures.so in
    let e = same_kind kind.Comma _ c.if-eq.ensures in
    omega (arith, inside_falls i c.in_ok-q.ensures.so, inside_falls (comma_inside so e) c.in_ok-q-2.ensures.so)

pub loop-width-preserved-then-eq : goal.loop-width-preserved-then-eq
loop-width-preserved-then-eq c =
    let so = front_turns c.loop-width.invariant c.in_ok-some.ensures.so (sym c.is_line_end.ensures ∙ c.loop-width-test.true) c.in_ok-q.ensures.so in
    let e = same_kind kind.Comma _ c.if-eq.ensures in
    comma_turns so e c.in_ok-q-2.ensures.so

pub loop-width-smaller : goal.loop-width-smaller
loop-width-smaller c = omega (arith, inside_falls (sym c.is_line_end.ensures ∙ c.loop-width-test.true) c.in_ok-q.ensures.so)

pub loop-width-preserved : goal.loop-width-preserved
loop-width-preserved c = front_turns c.loop-width.invariant c.in_ok-some.ensures.so (sym c.is_line_end.ensures ∙ c.loop-width-test.true) c.in_ok-q.ensures.so

pub returns : goal.returns
returns c = front_ends c.loop-width.invariant (sym c.is_line_end.ensures ∙ c.loop-width-test.false)
