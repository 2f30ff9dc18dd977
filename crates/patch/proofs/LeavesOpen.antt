-- A line leaves a `times` without its content where the full read of it alone answers with the number 34.
-- Assumes nothing.
use Prim.Native.Nat.{ℕ}
use mathlib.Core.Path.{◌≡◌, refl, ◌∙◌}
use mathlib.Core.Bool.{Bool, false}
use mathlib.Core.List.{List}
use lib.Dec.{eqb}
use Rattle.rules.specs.Statements.{present}
use Rattle.rules.specs.Records.{Record}
use Rattle.rules.specs.Calls.{Result, gives, refuses, full_read}
use Rattle.rules.specs.Patch.{is_open, leaves_open}
use Rattle.rules.proofs.Alone.{open_any_room}
use Rattle.refusals.specs.declared.Refusal.{Refusal}
use Rattle.std.specs.Prelude.{Result as Answer, Ok, Err, MatchResult}
use Rattle.refusals.specs.Refusals.{Numbers, number_of, by_numbers}
use Rattle.reader.specs.Calls.{full_answer}

abbrev answers_open : Answer ℕ Numbers → Bool
answers_open (Ok n) = false
answers_open (Err r) = eqb r.number 34

answer_tells : (x : Result (List Record)) → answers_open (full_answer x) ≡ is_open x
unfolding is_open
answer_tells (gives w) = refl
answer_tells (refuses c) = refl

module _ (l : List ℕ) (room : ℕ) where
  open_by : (r : Answer ℕ Refusal) → by_numbers r ≡ full_answer (full_read present l room) → answers_open (by_numbers r) ≡ leaves_open present l
  open_by r e = (λ i. answers_open (e i)) ∙ answer_tells (full_read present l room) ∙ open_any_room present l room

  pub open_tells : (r : Answer ℕ Refusal) → by_numbers r ≡ full_answer (full_read present l room) → {b : Bool}
      → MatchResult r (λ _. b ≡ false) (λ e. b ≡ eqb (number_of e.reason) 34) → b ≡ leaves_open present l
  open_tells (Ok n) e k = k ∙ open_by (Ok n) e
  open_tells (Err r) e k = k ∙ open_by (Err r) e
