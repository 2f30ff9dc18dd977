-- What is read of an expression leaves no more of the line than there was, so that its loop of operators ends.
-- Assumes nothing.
use Prim.Native.Nat.{ℕ, zero, suc, ◌≤◌, zero-le}
use Prim.Native.Char.{Char}
use mathlib.Core.Path.{subst}
use mathlib.Core.List.{List, [], ◌∷◌}
use mathlib.Core.Bool.{Bool, true, false}
use native.Mathlib.Omega.{arith}
use native.Mathlib.Nat.{le_refl}
use lib.Dec.{ltb}
use lib.ListN.{length}
use Rattle.lexer.specs.Text.{is}
use Rattle.rules.specs.Lexemes.{Kind, word, number, quoted, mark, newline, blank, comment, invalid, end, bad, Lexeme}
use Rattle.rules.specs.Records.{Record}
use Rattle.rules.specs.Reader.{Answer, done, refused, Reader, Line, ◌>>=◌, write, step, next, ahead, kind, passed, is_mark, expect}
use Rattle.rules.specs.Expressions.{operator_of, left_level, right_level, prefix_level, character, atom_of, atom, primary, infixes, expr}
use Rattle.rules.proofs.Hoare.{Post, holds, fails, Triple, and_then, whether, perhaps, now, returns, refuses, writes, before, arrive_post, ask_ahead, ask_kind, ask_passed, ask_left, here_fails}
use Rattle.state.specs.declared.Parser.{Parser}
use Rattle.records.specs.declared.Writer.{Writer}
use Rattle.state.specs.Views.{line_of, line, Gives}

-- records don't matter here
abbrev Any : Unit {0} → Record → Unit {0} → Type 0
Any _ _ _ = Unit {0}

-- at most n tokens are left behind the one ahead
record Few (n : ℕ) (g : Unit {0}) (s : Line) : Type 0 where
  few : length s.more ≤ n

module _ {n : ℕ} where
  step_few : (g : Unit {0}) (xs : List Lexeme) (s : Line) → length xs ≤ n → Post Any (λ _. Few n) g (step xs s)
  unfolding step
  step_few g [] s h = now (record { few = zero-le })
  step_few g (x ∷ xs) s h = arrive_post x (now (record { few = omega arith }))

  next_few : Triple Any (Few n) next (λ _. Few n)
  unfolding next
  next_few = record { law = λ g s h. step_few g s.more s h.few }

  write_few : (r : Record) → Triple Any (Few n) (write r) (λ _. Few n)
  write_few r = writes r λ g s h. (g, tt, h)

  module _ {B : Type 0} {R : B → Unit {0} → Line → Type 0} where
    ahead_few : {f : Lexeme → Reader Line B} → ((x : Lexeme) → Triple Any (Few n) (f x) R) → Triple Any (Few n) (ahead >>= f) R
    ahead_few e = ask_ahead λ x. before (λ g s h. h.1) (e x)

    kind_few : (f : Kind → Reader Line B) → ((k : Kind) → Triple Any (Few n) (f k) R) → Triple Any (Few n) (kind >>= f) R
    kind_few f e = ask_kind f λ x. before (λ g s h. h.1) (e x.kind)

    passed_few : {f : ℕ → Reader Line B} → ((t : ℕ) → Triple Any (Few n) (f t) R) → Triple Any (Few n) (passed >>= f) R
    passed_few e = ask_passed λ t. before (λ g s h. h.1) (e t)

  expect_few : (a : Char) (k : ℕ) → Triple Any (Few n) (expect a k) (λ _. Few n)
  unfolding expect
  expect_few a k = kind_few _ λ t. whether (is_mark a t) (λ _. next_few) (λ _. here_fails k)

  character_few : (b : Bool) (s : List ℕ) (x : Lexeme) → Triple Any (Few n) (character b s x) (λ _. Few n)
  unfolding character
  character_few false s x = here_fails 16
  character_few true [] x = here_fails 17
  character_few true (c ∷ []) x = and_then next_few (λ _. write_few _)
  character_few true (c ∷ d ∷ s) x = here_fails 17

  atom_of_few : (k : Kind) (x : Lexeme) → Triple Any (Few n) (atom_of k x) (λ _. Few n)
  unfolding atom_of
  atom_of_few (number v) x = and_then next_few (λ _. write_few _)
  atom_of_few (quoted b s) x = character_few b s x
  atom_of_few (word w) x = and_then next_few (λ _. write_few _)
  atom_of_few (mark c) x = whether (is "$" c)
      (λ _. and_then next_few (λ _. kind_few _ λ k. whether (is_mark "$" k) (λ _. and_then next_few (λ _. write_few _)) (λ _. write_few _)))
      (λ _. here_fails 21)
  atom_of_few newline x = here_fails 21
  atom_of_few blank x = here_fails 21
  atom_of_few comment x = here_fails 21
  atom_of_few invalid x = here_fails 21
  atom_of_few end x = here_fails 21
  atom_of_few (bad b) x = here_fails 21

  module _ {inner : ℕ → Reader Line (Unit {0})} (each : (level : ℕ) → Triple Any (Few n) (inner level) (λ _. Few n)) where
    primary_few : Triple Any (Few n) (primary inner) (λ _. Few n)
    unfolding primary atom
    primary_few = ahead_few λ x. whether (is_mark "(" x.kind)
        (λ _. and_then (and_then next_few (λ _. each 0)) (λ _. expect_few ")" 14))
        (λ _. perhaps (operator_of x.kind) (ahead_few λ y. atom_of_few y.kind y)
        (λ op _. and_then next_few (λ _. and_then (whether (ltb op 2) (λ _. each prefix_level) (λ _. refuses _)) (λ _. passed_few λ t. write_few _))))

    infixes_few : (k level f : ℕ) → Triple Any (Few n) (infixes k inner level f) (λ _. Few n)
    unfolding infixes
    infixes_few zero level f = returns tt (λ g s h. h)
    infixes_few (suc k) level f = kind_few _ λ t. perhaps (operator_of t) (returns tt (λ g s h. h)) λ op _.
        whether (ltb (left_level op) level) (λ _. returns tt (λ g s h. h))
        (λ _. and_then next_few (λ _. and_then (each (right_level op)) (λ _. passed_few λ u. and_then (write_few _) (λ _. infixes_few k level f))))

  expr_few : (d level : ℕ) → Triple Any (Few n) (expr d level) (λ _. Few n)
  unfolding expr
  expr_few zero level = here_fails 3
  expr_few (suc d) level = ahead_few λ x. and_then (primary_few (expr_few d)) (λ _. ask_left λ k. infixes_few (expr_few d) k level x.from)

-- said of an answer
abbrev Left : ℕ → Answer Line (Unit {0}) → Type 0
Left n (done v a t) = length t.more ≤ n
Left n (refused r) = Unit {0}

left_of_lem : {n : ℕ} {g : Unit {0}} {o : Answer Line (Unit {0})} → Post Any (λ _. Few n) g o → Left n o
left_of_lem (holds r q) = q.few
left_of_lem fails = tt

pub no_longer : {s : List ℕ} {p q : Parser} (d level : ℕ) {o n : Writer} → Gives line s p (expr d level) o n q tt → length (line_of s q).more ≤ length (line_of s p).more
no_longer {s} {p} d level h = subst (Left (length (line_of s p).more)) h.reads (left_of_lem ((expr_few d level).law tt (line_of s p) (record { few = le_refl _ })))
