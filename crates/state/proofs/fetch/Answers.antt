use mathlib.Core.Path.{refl, sym, ap, ◌∙◌}
use native.Mathlib.Omega.{arith}
use borrow.Author.Rules.{rules}
use Rattle.lexer.specs.Scanned.{number_of}
use Rattle.lexer.specs.declared.Scanned.{Scanned}
use Rattle.state.proofs.Stream.{size_le, gap_step, gap_not_end, token_step}
use Rattle.state.proofs.fetch.Goals as goal

pub loop-at-init : goal.loop-at-init
loop-at-init c = (refl, search rules)

pub overflow_cast-end : goal.overflow_cast-end
overflow_cast-end c = omega (arith, ap (λ (t : Scanned). t.end) c.scan-t.ensures, size_le c.args.source.text.now c.loop-at.at, c.args.source.short, c.loop-at.invariant.1)

pub loop-at-smaller : goal.loop-at-smaller
loop-at-smaller c = let e = sym c.is_gap.ensures ∙ c.if-is_gap.true in let g = (gap_step c.args.source.text.now c.loop-at.at (ap (λ (t : Scanned). number_of t.kind) c.scan-t.ensures) (ap (λ (t : Scanned). t.end) c.scan-t.ensures) (gap_not_end _ e) e) in omega (arith, g.1, g.2)

pub loop-at-preserved : goal.loop-at-preserved
loop-at-preserved c = let e = sym c.is_gap.ensures ∙ c.if-is_gap.true in let g = (gap_step c.args.source.text.now c.loop-at.at (ap (λ (t : Scanned). number_of t.kind) c.scan-t.ensures) (ap (λ (t : Scanned). t.end) c.scan-t.ensures) (gap_not_end _ e) e) in (sym g.0 ∙ c.loop-at.invariant.0, omega (arith, g.2, c.args.source.short))

pub returns-else-is_gap : goal.returns-else-is_gap
returns-else-is_gap c = record { tokens = sym c.loop-at.invariant.0 ∙ token_step _ _ (ap (λ (t : Scanned). number_of t.kind) c.scan-t.ensures) (ap (λ (t : Scanned). t.end) c.scan-t.ensures) (ap (λ (t : Scanned). t.value) c.scan-t.ensures) (sym c.is_gap.ensures ∙ c.if-is_gap.false) }
