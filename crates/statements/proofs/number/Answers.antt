-- A number that fits is in its one byte or two, low first; one that doesn't is 60.
-- Assumes nothing.
use Prim.Native.Nat.{ℕ, ◌%◌}
use mathlib.Core.Path.{◌≡◌, refl, ap, ◌∙◌}
use native.Mathlib.Omega.{arith}
use borrow.Author.Rules.{rules}
use Rattle.std.specs.Prelude.{Result, Ok, Err, OkIff, MatchResult}
use Rattle.state.proofs.Chain.{exits}
use Rattle.lexer.specs.Scanned.{number_of}
use Rattle.rules.specs.Records.{field}
use Rattle.rules.specs.Statements.{largest}
use Rattle.statements.proofs.Data.{within, beyond, is_number, is_wide}
use Rattle.statements.proofs.number.Goals as goal

-- `map_err` keeps what fits, and asks the closure for what doesn't.
kept : {E P : Type 0} {v : ℕ} (D : Type 0) (x : ℕ) (t : Result ℕ E) → OkIff t P v → MatchResult t (λ y. ◌≡◌ {A = Result ℕ D} (Ok x) (Ok y)) (λ e. ⊥) → P × (x ≡ v)
kept D x (Ok y) h e = let z : x ≡ y = cc in (h.0, z ∙ h.1)
kept D x (Err d) h e = absurd e

mapped : {E D P : Type 0} (v : ℕ) (d : D) (Q : E → Type 0) (t : Result ℕ E) → OkIff t P v → MatchResult t (λ y. ◌≡◌ {A = Result ℕ D} (Err d) (Ok y)) Q → (P → ⊥) × (e : E) × Q e
mapped v d Q (Ok y) h e = cc
mapped v d Q (Err x) h e = (h, x, e)

pub returns-in_err-byte-in-Byte : goal.returns-in_err-byte-in-Byte
unfolding largest
returns-in_err-byte-in-Byte c s =
    let (large, _, made) = mapped _ _ _ _ c.try_from.ensures c.in_err-byte-in-Byte.ensures.cases in
    rw (c.in-Byte.is, exits c.from_residual.ensures.1) (is_wide _ _ _ (ap number_of c.requires) (beyond 1 _ refl large) (search rules))

pub returns-in_err-word-in-Word : goal.returns-in_err-word-in-Word
unfolding largest
returns-in_err-word-in-Word c s =
    let (large, _, made) = mapped _ _ _ _ c.try_from-in-Word.ensures c.in_err-word-in-Word.ensures.cases in
    rw (c.in-Word.is, exits c.from_residual-in_err-word-in-Word.ensures.1) (is_wide _ _ _ (ap number_of c.requires) (beyond 2 _ refl large) (search rules))

pub returns-in_ok-byte-in-Byte : goal.returns-in_ok-byte-in-Byte
unfolding largest field
returns-in_ok-byte-in-Byte c s =
    let (small, same) = kept _ _ _ c.try_from.ensures c.in_ok-byte-in-Byte.ensures.cases in
    let e : c.args.p.value % 256 ≡ c.in_ok-byte-in-Byte.byte = omega (arith, small, same) in
    rw c.in-Byte.is (is_number _ _ 1 (ap number_of c.requires) (within 1 _ refl small) (omega arith) (rw e c.put.ensures))

pub returns-in_ok-word-in-Word : goal.returns-in_ok-word-in-Word
unfolding largest field
returns-in_ok-word-in-Word c s =
    let (small, same) = kept _ _ _ c.try_from-in-Word.ensures c.in_ok-word-in-Word.ensures.cases in
    rw c.in-Word.is (is_number _ _ 2 (ap number_of c.requires) (within 2 _ refl small) (omega arith) (rw (c.to_le_bytes.ensures, same) at c.put-in-Word.ensures))
