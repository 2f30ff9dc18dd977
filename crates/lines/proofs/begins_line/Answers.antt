-- A line begins at 0 and behind a line feed.
-- Assumes nothing.
use mathlib.Core.Path.{refl, sym, ◌∙◌}
use native.Mathlib.Omega.{arith}
use borrow.Author.Tests.{eq-eqb}
use Rattle.lines.proofs.Laws.{begins_first}
use Rattle.lines.proofs.Searches.{begins_got}
use Rattle.lines.proofs.begins_line.Goals as goal

pub returns-then-place-eq0 : goal.returns-then-place-eq0
returns-then-place-eq0 c = eq-eqb _ _ c.if-place-eq0.true ∙ sym (begins_first _ _ (omega (arith, c.if-place-eq0.true)))

pub returns-else-place-eq0 : goal.returns-else-place-eq0
returns-else-place-eq0 c = c.eq.ensures ∙ begins_got _ _ c.get.result _ c.if-place-eq0.false refl c.get.ensures.lookup.3
