-- A bare line is passed; the first that has more is the nearest.
-- Assumes nothing.
use Prim.Native.Nat.{◌-◌}
use mathlib.Core.Path.{refl, sym, ◌∙◌}
use native.Mathlib.Omega.{arith}
use Rattle.rules.specs.Statements.{present}
use Rattle.rules.specs.Patch.{above, leaves_open}
use Rattle.lines.proofs.Laws.{begins_within, past_bare, at_nearest, none_above}
use Rattle.patch.proofs.open.nearest_open.Goals as goal

pub line_start-begin-requires : goal.line_start-begin-requires
line_start-begin-requires c = omega (arith, begins_within _ _ c.loop-below.invariant.0)

pub slice_bounds-line-end : goal.slice_bounds-line-end
slice_bounds-line-end c = omega (arith, begins_within _ _ c.loop-below.invariant.0)

pub returns-then-not-is_bare : goal.returns-then-not-is_bare
unfolding above
returns-then-not-is_bare c =
    let from = c.line_start-begin in
    c.leaves_open.ensures
    ∙ at_nearest c.args.source.text.now c.loop-below.below from.result (c.loop-below.below - 1) (leaves_open present) c.loop-below.invariant.0 c.loop-below-test.true refl
    from.ensures.1 from.ensures.0 from.ensures.2 (sym c.is_bare.ensures ∙ c.if-not-is_bare.true)
    ∙ c.loop-below.invariant.1

pub loop-below-preserved : goal.loop-below-preserved
loop-below-preserved c =
    let from = c.line_start-begin in (
      from.ensures.1,
      past_bare c.args.source.text.now c.loop-below.below from.result (c.loop-below.below - 1) (leaves_open present) c.loop-below.invariant.0 c.loop-below-test.true refl
          from.ensures.1 from.ensures.0 from.ensures.2 (sym c.is_bare.ensures ∙ c.if-not-is_bare.false)
          ∙ c.loop-below.invariant.1,
    )

pub returns : goal.returns
unfolding above
returns c = none_above _ _ (leaves_open present) c.loop-below-test.false ∙ c.loop-below.invariant.1
