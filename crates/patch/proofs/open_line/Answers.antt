-- The three lines, each read alone.
-- Assumes nothing.
use mathlib.Core.Path.{sym, ◌∙◌}
use mathlib.Core.Bool.{true≢false}
use native.Mathlib.Omega.{arith}
use Rattle.lines.proofs.Laws.{begins_within}
use Rattle.patch.proofs.Rereading.{end_within}
use Rattle.patch.proofs.Order.{old_open, new_open, near_open}
use Rattle.patch.proofs.open_line.Goals as goal
use Rattle.patch.proofs.open_line.Goals.{then-leaves_open, else-leaves_open}

pub slice_bounds-leaves_open-end : goal.slice_bounds-leaves_open-end
slice_bounds-leaves_open-end c = let x = c.args.x in omega (arith, end_within x.old.text.now x.place (begins_within x.old.text.now x.place x.begins), x.ends)

pub returns-then-leaves_open-2 : goal.returns-then-leaves_open-2
returns-then-leaves_open-2 c =
    elim c.if-leaves_open.branch [
      | then-leaves_open w ↦ c.if-leaves_open-2.true ∙ old_open c.args.x c.leaves_open.ensures w.if-leaves_open.true
      | else-leaves_open w ↦
          c.if-leaves_open-2.true ∙ new_open c.args.x c.leaves_open.ensures w.if-leaves_open.false w.leaves_open-else-leaves_open.ensures (sym w.value-is ∙ c.if-leaves_open-2.true)
    ]

pub returns-else-leaves_open-2 : goal.returns-else-leaves_open-2
returns-else-leaves_open-2 c =
    elim c.if-leaves_open.branch [
      | then-leaves_open w ↦ absurd (true≢false (sym w.if-leaves_open.true ∙ sym w.value-is ∙ c.if-leaves_open-2.false))
      | else-leaves_open w ↦
          near_open c.args.x c.leaves_open.ensures w.if-leaves_open.false w.leaves_open-else-leaves_open.ensures (sym w.value-is ∙ c.if-leaves_open-2.false) c.nearest_open.ensures
    ]
