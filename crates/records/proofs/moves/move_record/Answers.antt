-- The mark says which fields are places.
-- Assumes nothing.
use mathlib.Core.Path.{ap, ◌∙◌}
use mathlib.Core.List.{List}
use Prim.Native.Nat.{ℕ, ◌+◌}
use native.Mathlib.Omega.{arith}
use Rattle.records.specs.Moves.{move_field}
use Rattle.records.proofs.OneRecord.{room_six, room_ten}
use Rattle.records.proofs.Walks.{moved_times, moved_statement, moved_line, moved_spans}
use Rattle.records.proofs.moves.move_record.Goals as goal

pub move_field-requires : goal.move_field-requires
move_field-requires c = omega (arith, room_six c.requires)

pub move_field-requires-in_default : goal.move_field-requires-in_default
move_field-requires-in_default c = omega (arith, room_six c.requires)

pub move_field-requires-in_default-2 : goal.move_field-requires-in_default-2
move_field-requires-in_default-2 c = omega (arith, room_ten c.requires c.in_default.not-ST)

pub returns-in-LT : goal.returns-in-LT
returns-in-LT c = moved_times _ _ c.requires c.in-LT.is

pub returns-in-ST : goal.returns-in-ST
returns-in-ST c = c.move_field.ensures ∙ moved_statement _ _ c.requires c.in-ST.is

pub returns-in-LI : goal.returns-in-LI
returns-in-LI c =
    let a = c.args in
    let step : ℕ → List ℕ → List ℕ = λ n l. move_field a.shift.new a.shift.old l (a.at + n) in
    c.move_field-in-LI-4.ensures ∙ ap (step 22) (c.move_field-in-LI-3.ensures ∙ ap (step 18) (c.move_field-in-LI-2.ensures ∙ ap (step 6) c.move_field-in-LI.ensures)) ∙ moved_line _ _ c.requires c.in-LI.is

pub returns-in_default : goal.returns-in_default
returns-in_default c =
    let a = c.args in
    c.move_field-in_default-2.ensures ∙ ap (λ (l : List ℕ). move_field a.shift.new a.shift.old l (a.at + 6)) c.move_field-in_default.ensures
    ∙ moved_spans _ _ c.requires c.in_default.not-LT c.in_default.not-ST c.in_default.not-LI
