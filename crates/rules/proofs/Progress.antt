-- Every statement read moves forward, so that the counter of the reading is enough.
use Rattle.std.specs.Prelude.{if◌then◌else◌}
use mathlib.Core.Path.{◌≡◌, refl, sym, ◌∙◌}
use mathlib.Core.Bool.{Bool, true, false, true≢false}
use mathlib.Core.List.{List, [], ◌∷◌, append-nil}
use mathlib.Core.Option.{Option, none, some}
use Prim.Native.Nat.{ℕ, zero, suc, ◌+◌, ◌≤◌}
use native.Mathlib.Omega.{arith}
use lib.Dec.{eqb, ltb}
use lib.ListN.{length}
use Rattle.lexer.specs.Text.{maybe}
use Rattle.rules.specs.Lexemes.{Kind, Lexeme, name_in, operation_in}
use Rattle.names.specs.Names.{directives}
use Rattle.rules.specs.Records.{Record, ST}
use Rattle.rules.specs.Reader.{at, Answer, done, refused, Reader, Line, after, thence, ◌>>=◌, ◌>>◌, return, write, refused_as, arrive, step, next, ahead, refuse_here, is_line_end}
use Rattle.rules.specs.Operands.{is_word}
use Rattle.rules.specs.Statements.{Profile, Row, State, over, in_line, first_of, enter, skip_lines, passing, label, instruction, constant, data_of, line, times, begun, statement, statements}
use Rattle.rules.proofs.TokenKinds.{word_inside, name_inside, operation_inside}
use Rattle.rules.proofs.Move.{Mild, Any, Stays, arrived, bad_mild, same, and_then, after_stays, thence_stays, expression_shifts}
use Rattle.rules.proofs.MoveState.{skip_lines_shifts, in_lines, label_shifts, instruction_shifts, constant_shifts, data_of_shifts, content_shifts, times_shifts}
use Rattle.rules.proofs.Append.{Reads, stop, fail, go}

abbrev pub Ended : Lexeme → List Lexeme → Type 0
Ended x [] = is_line_end x.kind ≡ true
Ended x (y ∷ ys) = Ended y ys

abbrev pub AllEnded : List Row → Type 0
AllEnded [] = Unit {0}
AllEnded (r ∷ rs) = Ended r.first r.more × AllEnded rs

abbrev pub total : List Row → ℕ
total [] = 0
total (r ∷ rs) = suc (length r.more) + total rs

-- how many tokens are left, of rows that each end a line
unfoldable pub size : State → ℕ
size s = length s.line.more + total s.below

pub record Below (n : ℕ) (s : State) : Type 0 where
  pub few : size s ≤ n
  pub ended : Ended s.line.here s.line.more
  pub others : AllEnded s.below

module _ (n : ℕ) where
  pub closed : (l : Line) (rs : List Row) → Below n (record { line = l; below = rs }) → Stays (λ t. Below n (record { line = t; below = rs })) Mild (next l)
  unfolding next step size is_line_end
  closed l rs h = stepped l.more h.few h.ended
    where
      stepped : (ys : List Lexeme) → length ys + total rs ≤ n → Ended l.here ys → Stays (λ t. Below n (record { line = t; below = rs })) Mild (step ys (record { last = l.last; here = l.here; more = ys }))
      stepped [] i j = record { few = i; ended = refl; others = h.others }
      stepped (y ∷ ys) i j = arrived (Stays (λ (t : Line). Below n (record { line = t; below = rs })) Mild) y (λ m e. bad_mild y.kind m e) (record { few = omega arith; ended = j; others = h.others })

  closed_row : (l : Line) (r : Row) (rs : List Row) → Below n (record { line = l; below = r ∷ rs }) → Below n (enter r rs)
  unfolding first_of enter size
  closed_row l r rs h =
      let k : length l.more + (suc (length r.more) + total rs) ≤ n = h.few in
      record { few = omega arith; ended = h.others.0; others = h.others.1 }

-- fewer than n
abbrev pub Lower : ℕ → State → Type 0
Lower zero s = ⊥
Lower (suc n) s = Below n s

pub next_falls : (n l : ℕ) (x : Lexeme) (ys : List Lexeme) (rs : List Row) → Below n (record { line = record { last = l; here = x; more = ys }; below = rs }) → is_line_end x.kind ≡ false
    → Stays (Lower n) Any (in_line next (record { line = record { last = l; here = x; more = ys }; below = rs }))
unfolding in_line over next step arrive size
next_falls n l x [] rs h i = absurd (true≢false (sym h.ended ∙ i))
next_falls zero l x (y ∷ ys) rs h i = absurd (never h.few)
  where
    never : suc (length ys) + total rs ≤ 0 → ⊥
    never k = omega arith
next_falls (suc n) l x (y ∷ ys) rs h i = arrived (refused_as y.kind)
  where
    arrived : (o : Option ℕ) → Stays (Below n) Any (over {A = Unit {0}} rs (maybe o (done [] tt (record { last = x.to; here = y; more = ys })) (λ k. refused (at k y.from y.to))))
    arrived none =
        let k : suc (length ys) + total rs ≤ suc n = h.few in
        record { few = omega arith; ended = h.ended; others = h.others }
    arrived (some k) = tt

passing_falls : (n : ℕ) (s : State) → Below n s → is_line_end s.line.here.kind ≡ false → (m : Reader State (Unit {0})) → ((k : ℕ) (t : State) → Below k t → Stays (Below k) Any (m t))
    → Stays (Lower n) Any (passing m s)
unfolding passing ◌>>◌ ◌>>=◌
passing_falls n s h i m g = thence_stays (Lower n) Any (λ _. m) (λ _ t j. lowered n t j) (in_line next s) (next_falls n s.line.last s.line.here s.line.more s.below h i)
  where
    lowered : (k : ℕ) (t : State) → Lower k t → Stays (Lower k) Any (m t)
    lowered zero t j = absurd j
    lowered (suc k) t j = g k t j

abbrev here' : State → Kind
here' s = s.line.here.kind

module _ (profile : Profile) where
  times_falls : (k n : ℕ) (s : State) → Below n s → is_line_end (here' s) ≡ false → Stays (Lower n) Any (times profile k s)
  unfolding times in_line over refuse_here ahead ◌>>=◌ thence
  times_falls zero n s h i = tt
  times_falls (suc k) n s h i = after_stays (Lower n) Any [] _ (passing_falls n s h i _ (λ q t j.
      (and_then (in_lines same (Below q) (closed q) (closed_row q) (expression_shifts same)) (and_then (skip_lines_shifts same (Below q) (closed q) (closed_row q))
      (content_shifts same (Below q) (closed q) (closed_row q) profile s.line.here (times_shifts same (Below q) (closed q) (closed_row q) profile k)))).keeps t j))

  module _ (k n : ℕ) (s : State) (h : Below n s) where
    x : Lexeme
    x = s.line.here

    line_falls : Stays (Lower n) Any (line profile (times profile k) s)
    unfolding line in_line over ahead refuse_here ◌>>=◌ thence
    line_falls = after_stays (Lower n) Any [] _ (by_operation (operation_in profile.table (here' s)) refl)
      where
        by_word : (b : Bool) → is_word (here' s) ≡ b → Stays (Lower n) Any (if◌then◌else◌ {A = Reader State (Unit {0})} b (passing (in_line (label s.line.here))) (in_line (refuse_here 20)) s)
        by_word true e = passing_falls n s h (word_inside (here' s) e) _ (λ q t j. (in_lines same (Below q) (closed q) (closed_row q) (λ Q c. label_shifts same Q c s.line.here)).keeps t j)
        by_word false e = tt

        by_number : is_line_end (here' s) ≡ false → (d : ℕ) (b b' : Bool) → Stays (Lower n) Any (if◌then◌else◌ {A = Reader State (Unit {0})} b (passing (constant s.line.here)) (if b' then (passing (data_of profile.takes s.line.here d)) else (times profile k)) s)
        by_number i d true b' = passing_falls n s h i _ (λ q t j. (constant_shifts same (Below q) (closed q) (closed_row q) s.line.here).keeps t j)
        by_number i d false true = passing_falls n s h i _ (λ q t j. (data_of_shifts same (Below q) (closed q) (closed_row q) profile.takes s.line.here d).keeps t j)
        by_number i d false false = times_falls k n s h i

        by_directive : (o : Option ℕ) → name_in directives (here' s) ≡ o → Stays (Lower n) Any (maybe {B = Reader State (Unit {0})} o (if is_word (here' s) then (passing (in_line (label s.line.here))) else (in_line (refuse_here 20)))
            (λ d. if eqb d 0 then (passing (constant s.line.here)) else if ltb d 3 then (passing (data_of profile.takes s.line.here d)) else (times profile k)) s)
        by_directive none e = by_word (is_word (here' s)) refl
        by_directive (some d) e = by_number (name_inside directives (here' s) d e) d (eqb d 0) (ltb d 3)

        by_operation : (o : Option ℕ) → operation_in profile.table (here' s) ≡ o → Stays (Lower n) Any (maybe {B = Reader State (Unit {0})} o (maybe (name_in directives (here' s)) (if is_word (here' s) then (passing (in_line (label s.line.here))) else (in_line (refuse_here 20)))
            (λ d. if eqb d 0 then (passing (constant s.line.here)) else if ltb d 3 then (passing (data_of profile.takes s.line.here d)) else (times profile k))) (λ op. passing (instruction s.line.here op)) s)
        by_operation none e = by_directive (name_in directives (here' s)) refl
        by_operation (some op) e = passing_falls n s h (operation_inside profile.table (here' s) op e) _ (λ q t j. (instruction_shifts same (Below q) (closed q) (closed_row q) s.line.here op).keeps t j)

  -- what a statement leaves: fewer tokens where one was read
  abbrev Left : ℕ → Answer State Bool → Type 0
  Left n (done w true t) = Lower n t
  Left n (done w false t) = Unit {0}
  Left n (refused r) = Unit {0}

  after_left : (n : ℕ) (w : List Record) (p : Answer State Bool) → Left n p → Left n (after w p)
  unfolding after
  after_left n w (done v true t) h = h
  after_left n w (done v false t) h = tt
  after_left n w (refused r) h = tt

  true_left : (n : ℕ) (p : Answer State (Unit {0})) → Stays (Lower n) Any p → Left n (thence p (λ _. return true))
  unfolding thence return after
  true_left n (done w a t) h = h
  true_left n (refused r) h = tt

  begun_left : (n : ℕ) (s : State) → Below n s → Left n (begun profile s)
  unfolding begun in_line over ahead write return ◌>>=◌ ◌>>◌ thence
  begun_left n s h = after_left n [] _ (by_end (is_line_end (here' s)))
    where
      by_end : (b : Bool) → Left n (if◌then◌else◌ {A = Reader State Bool} b (return false) (write (ST s.line.here.from) >> line profile (times profile 16) >> return true) s)
      by_end true = tt
      by_end false = true_left n (after (ST s.line.here.from ∷ []) (line profile (times profile 16) s)) (after_stays (Lower n) Any (ST s.line.here.from ∷ []) (line profile (times profile 16) s) (line_falls 16 n s h))

  skipped_left : (n : ℕ) (p : Answer State (Unit {0})) → Stays (Below n) Any p → Left n (thence p (λ _. begun profile))
  unfolding thence
  skipped_left n (done w a t) h = after_left n w (begun profile t) (begun_left n t h)
  skipped_left n (refused r) h = tt

  pub statement_left : (n : ℕ) (s : State) → Below n s → Left n (statement profile s)
  unfolding statement ◌>>◌ ◌>>=◌
  statement_left n s h = skipped_left n (skip_lines s) ((skip_lines_shifts same (Below n) (closed n) (closed_row n)).keeps s h)

  -- THE FUEL IS ENOUGH: with more fuel than tokens left, `statements` is the run.
  from_fuel : (n : ℕ) (s : State) → ((t : State) → Lower n t → Reads profile t (statements profile n t)) → (p : Answer State Bool) → statement profile s ≡ p → Left n p
      → Reads profile s (thence p (λ more. if more then (statements profile n) else (return tt)))
  unfolding thence after return
  from_fuel n s ih (done w true t) e l = go e (ih t l)
  from_fuel n s ih (done w false t) e l = rw (append-nil w) (stop e)
  from_fuel n s ih (refused r) e l = fail e

  pub enough : (n : ℕ) (s : State) → Below n s → Reads profile s (statements profile (suc n) s)
  unfolding statements ◌>>=◌
  enough zero s h = from_fuel zero s (λ t j. absurd j) (statement profile s) refl (statement_left zero s h)
  enough (suc n) s h = from_fuel (suc n) s (λ t j. enough n t j) (statement profile s) refl (statement_left (suc n) s h)

  -- A run is the only one.
  pub only : {s : State} {p q : Answer State (Unit {0})} → Reads profile s p → Reads profile s q → p ≡ q
  only (stop a) (stop b) = cc
  only (stop a) (fail b) = cc
  only (stop a) (go b r) = cc
  only (fail a) (stop b) = cc
  only (fail a) (fail b) = cc
  only (fail a) (go b r) = cc
  only (go a r) (stop b) = cc
  only (go a r) (fail b) = cc
  only (go {t = t} {w} {p} a r) (go {t = t'} {w = w'} {p = p'} b r') =
      let c : t' ≡ t = cc in
      let i : p ≡ p' = only r (rw c at r') in
      cc
