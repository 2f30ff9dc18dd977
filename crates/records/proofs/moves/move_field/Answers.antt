-- The field is read, moved and written back.
-- Assumes nothing.
use mathlib.Core.Path.{ap, ◌∙◌}
use Prim.Native.Nat.{ℕ, ◌+◌, ◌-◌}
use mathlib.Core.List.{List}
use Rattle.rules.specs.Records.{field}
use Rattle.records.specs.Writes.{stores}
use Rattle.records.specs.Moves.{move_field}
use Rattle.records.proofs.Writes.{four_of}
use Rattle.records.proofs.moves.move_field.Goals as goal

pub returns : goal.returns
unfolding move_field field
returns c =
    let a = c.args in
    c.copy.ensures
    ∙ ap (λ (b : List ℕ). stores a.s.now a.at b) (four_of _ _ c.to_le_bytes.ensures)
    ∙ ap (λ (w : ℕ). stores a.s.now a.at (field w)) (c.saturating_sub-moved.ensures ∙ ap (λ (v : ℕ). v + a.shift.new - a.shift.old) c.field_at.ensures)
