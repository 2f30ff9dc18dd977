-- A name that holds a dot names nothing, so it is read as a label, or as a name in an expression.
use mathlib.Core.Path.{◌≡◌, refl, ◌∙◌}
use mathlib.Core.Option.{none}
use Prim.Native.Nat.{ℕ, zero, suc}
use Rattle.names.specs.Claims.{DotsNameNothing}
use Rattle.names.proofs.Dots.{dots_name_nothing}
use Rattle.rules.specs.Lexemes.{text_of, name_in, operation_in}
use Rattle.rules.specs.Records.{VL}
use Rattle.rules.specs.Reader.{Reader, Line, thence, ◌>>=◌, ◌>>◌, return, write, next, ahead, kind, passed, is_mark}
use Rattle.rules.specs.Expressions.{atom_of, atom}
use Rattle.rules.specs.Operands.{immediate_or_far, override, registers_ahead, is_word, operand_sized}
use Rattle.rules.specs.Statements.{Profile, present, State, over, in_line, passing, label, line}
use Rattle.rules.specs.Dots.{HoldsDot, DottedRead}
use Rattle.rules.proofs.Append.{after_nil}

module _ (profile : Profile) (nothing : DotsNameNothing profile.table) where
  as_label_lem : (times : Reader State (Unit {0})) (s : State) → HoldsDot s.line.here → line profile times s ≡ passing (in_line (label s.line.here)) s
  unfolding line ahead in_line over ◌>>=◌ thence operation_in name_in is_word text_of
  as_label_lem times s h = rw (h.name, nothing.operation h.text h.dot, nothing.directive h.text h.dot) (after_nil _)

  as_operand_lem : (n size : ℕ) (l : Line) → HoldsDot l.here → operand_sized n size l ≡ immediate_or_far l
  unfolding operand_sized ahead ◌>>=◌ thence name_in text_of is_mark
  as_operand_lem zero size l h = refl
  as_operand_lem (suc n) size l h =
      rw (h.name, nothing.register h.text h.dot, nothing.segment h.text h.dot, nothing.size h.text h.dot) (after_nil _)

  as_value_lem : (l : Line) → HoldsDot l.here → atom l ≡ (next >> write (VL l.here.from l.here.to)) l
  unfolding atom atom_of ahead ◌>>=◌ thence
  as_value_lem l h = rw h.name (after_nil _)

  no_segment_lem : (l : Line) → HoldsDot l.here → override l ≡ return 0 l
  unfolding override kind ◌>>=◌ thence name_in text_of
  no_segment_lem l h = rw (h.name, nothing.segment h.text h.dot) (after_nil _)

  no_register_lem : (l : Line) → HoldsDot l.here → registers_ahead l ≡ return none l
  unfolding registers_ahead ahead passed ◌>>=◌ thence name_in text_of
  no_register_lem l h = rw (h.name, nothing.register h.text h.dot) (after_nil _ ∙ after_nil _)

  -- NAMES WITH DOTS ARE READ AS NAMES.
  pub dotted_by : DottedRead profile
  dotted_by = record { as_label = as_label_lem; as_operand = as_operand_lem; as_value = as_value_lem; no_segment = no_segment_lem; no_register = no_register_lem }

pub dotted_read : DottedRead present
dotted_read = dotted_by present dots_name_nothing
