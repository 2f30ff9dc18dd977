-- What the laws ask of a table of operations, and that the table of the names has it: one test, computed over its rows.
use Rattle.std.specs.Prelude.{if◌then◌else◌}
use mathlib.Core.Path.{◌≡◌, refl, ap}
use mathlib.Core.Bool.{Bool, true, false, ◌&&◌, false≢true, true≢false}
use mathlib.Core.List.{List, [], ◌∷◌, map}
use mathlib.Core.Option.{Option, some}
use Prim.Native.Nat.{ℕ, zero, suc, ◌≤◌, ◌<◌}
use native.Mathlib.Omega.{arith}
use lib.Dec.{eqb, leb, ltb}
use lib.ListN.{length, length-map, drop, get_or}
use borrow.Author.Tests.{leb-true, ltb-true}
use Rattle.lexer.specs.Text.{lower, same, open_text}
use Rattle.lexer.proofs.Branches.{and_split}
use Rattle.names.specs.Names.{rows_in, spelling, operation_from, operation_named}
use Rattle.names.specs.Table.{spellings, row, rows_of, operations}

-- The numbers are those of operations, and a spelling has two letters or more.
pub record Proper (table : List ℕ) : Type 0 where
  pub small : (w : List ℕ) (r : ℕ) → operation_named table w ≡ some r → r < 99
  pub long : (w : List ℕ) (r : ℕ) → operation_named table w ≡ some r → 2 ≤ length w

unfoldable proper_rows : ℕ → List ℕ → Bool
proper_rows zero table = true
proper_rows (suc n) table = ltb (get_or table 7 0) 99 && (leb 2 (length (spelling table)) && proper_rows n (drop 8 table))

pub same_length : (a b : List ℕ) → same a b ≡ true → length a ≡ length b
unfolding same
same_length [] [] h = refl
same_length [] (c ∷ t) h = absurd (false≢true h)
same_length (c ∷ s) [] h = absurd (false≢true h)
same_length (c ∷ s) (d ∷ t) h = go (eqb c d) h (λ e. same_length s t e)
  where
    go : (b : Bool) → (if b then (same s t) else false) ≡ true → (same s t ≡ true → length s ≡ length t) → suc (length s) ≡ suc (length t)
    go true i again = ap suc (again i)
    go false i again = absurd (false≢true i)

proper_from : (n : ℕ) (w table : List ℕ) (r : ℕ) → proper_rows n table ≡ true → operation_from n w table ≡ some r → (r < 99) × (2 ≤ length w)
unfolding operation_from proper_rows
proper_from zero w table r p h = absurd (true≢false cc)
proper_from (suc n) w table r p h =
    let (a, q) = and_split (ltb (get_or table 7 0) 99) _ p in
    let (b, others) = and_split (leb 2 (length (spelling table))) _ q in
    go a b (same w (spelling table)) refl h (λ i. proper_from n w (drop 8 table) r others i)
  where
    go : ltb (get_or table 7 0) 99 ≡ true → leb 2 (length (spelling table)) ≡ true → (o : Bool) → same w (spelling table) ≡ o
        → ◌≡◌ {A = Option ℕ} (if o then (some (get_or table 7 0)) else (operation_from n w (drop 8 table))) (some r)
        → (operation_from n w (drop 8 table) ≡ some r → (r < 99) × (2 ≤ length w)) → (r < 99) × (2 ≤ length w)
    go a b true e i again =
        let z : get_or table 7 0 ≡ r = cc in
        (omega (arith, ltb-true (get_or table 7 0) 99 a), omega (arith, leb-true 2 (length (spelling table)) b, same_length w (spelling table) e))
    go a b false e i again = again i

proper_rows_lem : proper_rows (rows_in operations) operations ≡ true
unfolding open_text proper_rows spelling spellings row rows_of operations
proper_rows_lem = refl

pub proper : Proper operations
unfolding operation_named
proper = record {
  small = λ w r h. (proper_from (rows_in operations) (map lower w) operations r proper_rows_lem h).0;
  long = λ w r h. omega (arith, (proper_from (rows_in operations) (map lower w) operations r proper_rows_lem h).1, length-map w lower);
}
