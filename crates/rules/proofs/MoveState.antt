-- SHIFT for statements and the reading.
use Rattle.std.specs.Prelude.{if◌then◌else◌}
use mathlib.Core.Path.{◌≡◌, refl, ap, ◌∙◌}
use mathlib.Core.Bool.{Bool, true, false, ◌||◌}
use mathlib.Core.List.{List, [], ◌∷◌, ◌++◌, map}
use Prim.Native.Nat.{ℕ, zero, suc}
use lib.Dec.{ltb, eqb}
use lib.ListN.{take}
use Rattle.lexer.specs.Text.{is}
use Rattle.rules.specs.Lexemes.{Kind, word, number, quoted, mark, newline, blank, comment, invalid, end, bad, Lexeme, name_in, operation_in}
use Rattle.names.specs.Names.{directives}
use Rattle.rules.specs.Records.{field, move_record}
use Rattle.rules.specs.Reader.{Answer, done, refused, Reader, Line, arrive, next, is_mark, is_line_end, ahead, passed, left, refuse_here}
use Rattle.rules.specs.Operands.{operands, is_word}
use Rattle.rules.specs.Expressions.{expression}
use Rattle.rules.specs.Statements.{Profile, Row, State, over, in_line, first_of, enter, step_row, next_row, line_end, skip, skip_lines, passing, label, rep, repne, instruction, constant, literal_of, literals, some_data, data_of, line, content, times, begun, statement}
use Rattle.rules.proofs.Move.{Mild, Any, AnyRecord, wrote_any, Stays, arrived, Gentle, gentle, next_mild, same, carry, Moves, bind, and_then, returns, writes, refuses, whether, perhaps, move_token, move_refusal, move_line, Shifts, arrive_moves, next_shifts, ahead_shifts, kind_shifts, passed_shifts, left_shifts, here_shifts, expression_shifts, move_operands, operands_shifts}

module _ (f : ℕ → ℕ) where
  unfoldable pub move_row : Row → Row
  move_row r = record { first = move_token f r.first; more = map (move_token f) r.more }

  unfoldable pub move_state : State → State
  move_state s = record { line = move_line f s.line; below = map move_row s.below }

  over_carry : {A : Type 0} (g : A → A) (rs : List Row) (p : Answer Line A)
      → over (map move_row rs) (carry (move_line f) (move_record f) (move_refusal f) g p) ≡ carry move_state (move_record f) (move_refusal f) g (over rs p)
  unfolding over carry move_state
  over_carry g rs (done w a l) = refl
  over_carry g rs (refused r) = refl

  step_row_shifts : (rs : List Row) (s : State) → step_row (map move_row rs) (move_state s) ≡ carry move_state (move_record f) (move_refusal f) same (step_row rs s)
  unfolding step_row carry move_state move_row first_of enter move_line move_token
  step_row_shifts [] s = refl
  step_row_shifts (r ∷ rs) s = arrive_moves f move_state same r.first _ _ refl

  if_carry : {A : Type 0} (g : A → A) (b : Bool) (p q p' q' : Answer State A)
      → p' ≡ carry move_state (move_record f) (move_refusal f) g p → q' ≡ carry move_state (move_record f) (move_refusal f) g q
      → (if b then p' else q') ≡ carry move_state (move_record f) (move_refusal f) g (if b then p else q)
  if_carry g true p q p' q' e e' = e
  if_carry g false p q p' q' e e' = e'

  skip_shifts : (l : Line) (rs : List Row) → skip (move_line f l) (map move_row rs) ≡ carry move_state (move_record f) (move_refusal f) same (skip l rs)
  unfolding skip carry move_state move_row first_of move_line move_token
  skip_shifts l [] = refl
  skip_shifts l (r ∷ rs) = if_carry same (is_line_end l.here.kind) _ _ _ _ (arrive_moves f move_state same r.first _ _ (skip_shifts _ rs)) refl

pub unit_state : (l : Line) (rs : List Row) → Unit {0} → Stays (λ _. Unit {0}) Mild (next l)
unit_state l rs h = next_mild.law l

pub unit_row : (l : Line) (r : Row) (rs : List Row) → Unit {0} → Unit {0}
unit_row l r rs h = tt

module _ (f : ℕ → ℕ) (P : Line → Type 0) (closed : (s : Line) → P s → Stays P Mild (next s)) where
  pub label_shifts : (x : Lexeme) → Shifts f P same (label x) (label (move_token f x))
  unfolding label move_token move_record
  label_shifts x = bind _ (kind_shifts f P closed) λ k. and_then (whether (is_mark ":" k) (next_shifts f P closed) (returns same tt)) (writes _ tt)

  literal_of_shifts : (takes : ℕ → ℕ → Bool) (k : Kind) (width : ℕ) {others : Reader Line (List ℕ)} → Shifts f P same others others → Shifts f P same (literal_of takes k width others) (literal_of takes k width others)
  unfolding literal_of
  literal_of_shifts takes newline width o = returns same []
  literal_of_shifts takes end width o = returns same []
  literal_of_shifts takes (mark c) width o = whether (is "," c) (and_then (next_shifts f P closed) o) (here_shifts f P closed same 15 refl)
  literal_of_shifts takes (quoted shut s) width o = whether shut (bind _ (and_then (next_shifts f P closed) o) λ ds. returns same (s ++ ds)) (here_shifts f P closed same 26 refl)
  literal_of_shifts takes (number v) width o = whether (takes width v) (bind _ (and_then (next_shifts f P closed) o) λ ds. returns same (take width (field v) ++ ds)) (here_shifts f P closed same 60 refl)
  literal_of_shifts takes (word w) width o = here_shifts f P closed same 15 refl
  literal_of_shifts takes blank width o = here_shifts f P closed same 15 refl
  literal_of_shifts takes comment width o = here_shifts f P closed same 15 refl
  literal_of_shifts takes invalid width o = here_shifts f P closed same 15 refl
  literal_of_shifts takes (bad r) width o = here_shifts f P closed same 15 refl

  pub literals_shifts : (takes : ℕ → ℕ → Bool) (n width : ℕ) → Shifts f P same (literals takes n width) (literals takes n width)
  unfolding literals
  literals_shifts takes zero width = returns same []
  literals_shifts takes (suc n) width = bind _ (kind_shifts f P closed) λ k. literal_of_shifts takes k width (literals_shifts takes n width)

module _ (f : ℕ → ℕ) (P : State → Type 0) where
  abbrev pub ShiftsState : {A : Type 0} → (A → A) → Reader State A → Reader State A → Type 0
  ShiftsState g m m' = Moves (move_state f) (move_record f) (move_refusal f) P Any AnyRecord g m m'

-- The laws of what reads in a line, for any P of lines, and of what reads in a state.
module _ (f : ℕ → ℕ) (P : State → Type 0)
    (closed : (l : Line) (rs : List Row) → P (record { line = l; below = rs }) → Stays (λ t. P (record { line = t; below = rs })) Mild (next l))
    (closed_row : (l : Line) (r : Row) (rs : List Row) → P (record { line = l; below = r ∷ rs }) → P (enter r rs)) where
  over_stays : {A : Type 0} (rs : List Row) (p : Answer Line A) → Stays (λ t. P (record { line = t; below = rs })) Mild p → Stays P Any (over rs p)
  unfolding over
  over_stays rs (done w a l) h = h
  over_stays rs (refused r) h = tt

  step_row_stays : (l : Line) (rs : List Row) → P (record { line = l; below = rs }) → Stays P Any (step_row rs (record { line = l; below = rs }))
  unfolding step_row
  step_row_stays l [] h = h
  step_row_stays l (r ∷ rs) h = arrived (Stays P Any) r.first (λ n e. tt) (closed_row l r rs h)

  skip_stays : (l : Line) (rs : List Row) → P (record { line = l; below = rs }) → Stays P Any (skip l rs)
  unfolding skip enter
  skip_stays l [] h = h
  skip_stays l (r ∷ rs) h = go (is_line_end l.here.kind) (skip_stays (first_of r) rs (closed_row l r rs h))
    where
      t : Line
      t = first_of r

      go : (c : Bool) → Stays P Any (skip t rs) → Stays P Any (if◌then◌else◌ {A = Answer State (Unit {0})} c (arrive r.first (skip t rs)) (done [] tt (record { line = l; below = r ∷ rs })))
      go true i = arrived (Stays P Any) r.first (λ n e. tt) i
      go false i = h

  pub in_lines : {A : Type 0} {g : A → A} {m m' : Reader Line A} → ((Q : Line → Type 0) → ((l : Line) → Q l → Stays Q Mild (next l)) → Shifts f Q g m m') → ShiftsState f P g (in_line m) (in_line m')
  unfolding in_line move_state
  in_lines {g = g} {m} p = record {
    law = λ s. ap (over (map (move_row f) s.below)) ((p (λ _. Unit {0}) (λ l h. next_mild.law l)).law s.line) ∙ over_carry f g s.below (m s.line);
    keeps = λ s h. over_stays s.below (m s.line) ((p (λ t. P (record { line = t; below = s.below })) (λ l i. closed l s.below i)).keeps s.line h);
    wrote = λ s. wrote_any (over s.below (m s.line));
  }

  next_row_shifts : ShiftsState f P same next_row next_row
  unfolding next_row move_state
  next_row_shifts = record { law = λ s. step_row_shifts f s.below s; keeps = λ s h. step_row_stays s.line s.below h; wrote = λ s. wrote_any (step_row s.below s) }

  line_end_shifts : ShiftsState f P same line_end line_end
  unfolding line_end
  line_end_shifts = bind _ (in_lines (kind_shifts f)) λ k. whether (is_line_end k) next_row_shifts (in_lines (λ Q c. here_shifts f Q c same 10 refl))

  pub skip_lines_shifts : ShiftsState f P same skip_lines skip_lines
  unfolding skip_lines move_state
  skip_lines_shifts = record { law = λ s. skip_shifts f s.line s.below; keeps = λ s h. skip_stays s.line s.below h; wrote = λ s. wrote_any (skip s.line s.below) }

  passing_shifts : {m m' : Reader State (Unit {0})} → ShiftsState f P same m m' → ShiftsState f P same (passing m) (passing m')
  unfolding passing
  passing_shifts p = and_then (in_lines (next_shifts f)) p

  pub instruction_shifts : (x : Lexeme) (op : ℕ) → ShiftsState f P same (instruction x op) (instruction (move_token f x) op)
  unfolding instruction move_token move_record move_operands
  instruction_shifts x op = whether (eqb op rep || eqb op repne)
      (bind _ (in_lines (passed_shifts f)) λ t. writes _ tt)
      (bind _ (in_lines (operands_shifts f)) λ o. bind _ (in_lines (passed_shifts f)) λ t. and_then line_end_shifts (writes _ tt))

  pub constant_shifts : (x : Lexeme) → ShiftsState f P same (constant x) (constant (move_token f x))
  unfolding constant move_token move_record
  constant_shifts x = and_then (in_lines (expression_shifts f)) (bind _ (in_lines (passed_shifts f)) λ t. and_then line_end_shifts (writes _ tt))

  some_data_shifts : (x : Lexeme) (ds : List ℕ) → ShiftsState f P same (some_data x ds) (some_data (move_token f x) ds)
  unfolding some_data move_token move_record move_refusal
  some_data_shifts x [] = refuses same _ tt
  some_data_shifts x (b ∷ bs) = bind _ (in_lines (passed_shifts f)) λ t. and_then line_end_shifts (writes _ tt)

  pub data_of_shifts : (takes : ℕ → ℕ → Bool) (x : Lexeme) (width : ℕ) → ShiftsState f P same (data_of takes x width) (data_of takes (move_token f x) width)
  unfolding data_of
  data_of_shifts takes x width = bind _ (in_lines (left_shifts f)) λ n. bind _ (in_lines (λ Q c. literals_shifts f Q c takes (suc n) width)) λ ds. some_data_shifts x ds

  module _ (profile : Profile) where
    line_shifts : {m : Reader State (Unit {0})} → ShiftsState f P same m m → ShiftsState f P same (line profile m) (line profile m)
    unfolding line move_token
    line_shifts p = bind _ (in_lines (ahead_shifts f)) λ x. perhaps (operation_in profile.table x.kind) (perhaps (name_in directives x.kind)
        (whether (is_word x.kind) (passing_shifts (in_lines (λ Q c. label_shifts f Q c x))) (in_lines (λ Q c. here_shifts f Q c same 20 refl)))
        λ n. whether (eqb n 0) (passing_shifts (constant_shifts x)) (whether (ltb n 3) (passing_shifts (data_of_shifts profile.takes x n)) p)) λ op. passing_shifts (instruction_shifts x op)

    pub content_shifts : {m : Reader State (Unit {0})} (x : Lexeme) → ShiftsState f P same m m → ShiftsState f P same (content profile m x) (content profile m (move_token f x))
    unfolding content move_token move_record move_refusal
    content_shifts x p = bind _ (in_lines (kind_shifts f)) λ k. and_then (whether (is_line_end k) (refuses same _ tt) (line_shifts p)) (writes _ tt)

    pub times_shifts : (n : ℕ) → ShiftsState f P same (times profile n) (times profile n)
    unfolding times
    times_shifts zero = in_lines (λ Q c. here_shifts f Q c same 5 refl)
    times_shifts (suc n) = bind _ (in_lines (ahead_shifts f)) λ x. passing_shifts (and_then (in_lines (expression_shifts f)) (and_then skip_lines_shifts (content_shifts x (times_shifts n))))

    begun_shifts : ShiftsState f P same (begun profile) (begun profile)
    unfolding begun move_token move_record
    begun_shifts = bind _ (in_lines (ahead_shifts f)) λ x. whether (is_line_end x.kind) (returns same false)
        (and_then (and_then (writes _ tt) (line_shifts (times_shifts 16))) (returns same true))

    pub statement_shifts : ShiftsState f P same (statement profile) (statement profile)
    unfolding statement
    statement_shifts = and_then skip_lines_shifts begun_shifts

-- What is read within a line is never refused with 34, so that it doesn't depend on the lines below: it rides along with moving.
pub ahead_mild : Gentle ahead
ahead_mild = gentle (ahead_shifts same)

pub passed_mild : Gentle passed
passed_mild = gentle (passed_shifts same)

pub left_mild : Gentle left
left_mild = gentle (left_shifts same)

pub here_mild : {A : Type 0} (n : ℕ) → (eqb n 34 || eqb n 0) ≡ false → Gentle (refuse_here {A = A} n)
here_mild n h = gentle (λ P c. here_shifts same P c same n h)

pub expression_mild : Gentle expression
expression_mild = gentle (expression_shifts same)

pub operands_mild : Gentle operands
operands_mild = gentle (operands_shifts same)

pub label_mild : (x : Lexeme) → Gentle (label x)
label_mild x = gentle (λ P c. label_shifts same P c x)

pub literals_mild : (takes : ℕ → ℕ → Bool) (n width : ℕ) → Gentle (literals takes n width)
literals_mild takes n width = gentle (λ P c. literals_shifts same P c takes n width)
