-- A record that the rules read and check, as the code does it: the test for room, the tests of its fields, and the stack behind it.
use Rattle.std.specs.Prelude.{if◌then◌else◌}
use mathlib.Core.Path.{◌≡◌, refl, sym, ap, ◌∙◌}
use mathlib.Core.Bool.{Bool, true, false, ◌&&◌}
use mathlib.Core.List.{List}
use mathlib.Core.Option.{Option, none, some}
use Prim.Native.Nat.{ℕ, ◌+◌, ◌*◌, ◌≤◌, ◌<◌}
use native.Mathlib.Omega.{arith}
use lib.Dec.{leb, ltb}
use lib.ListN.{length, take, drop, length-drop}
use lib.Seq.{length-take-le}
use borrow.Author.Tests.{le-leb, lt-leb, leb-true, leb-false}
use Rattle.rules.specs.Records.{Record, laden, form_of}
use Rattle.rules.specs.Decode.{Sized, nth, nths_from, having, data_at, record_of}
use Rattle.rules.specs.WellFormed.{Stack, given, checked}
use Rattle.records.specs.declared.marks.Mark.{Mark}
use Rattle.records.specs.Marks.{letters_of}
use Rattle.checker.specs.Checker.{Pass, field_in, sized, passes, whole}
use Rattle.checker.proofs.Fields.{field_nth}

module _ (n : ℕ) (k : Stack) (s : List ℕ) where
  behind : (j : ℕ) (r : Record) (b : Bool) (o : Option Stack) → (4 * j ≤ length s → given b o ≡ checked n k r) → whole (4 * j) s b o ≡ passes n k (having j s r)
  unfolding whole having
  behind j r b o f = go (leb (4 * j) (length s)) refl
    where
      go : (p : Bool) → leb (4 * j) (length s) ≡ p
          → ◌≡◌ {A = Option Pass} (if p then (sized (4 * j + 2) (given b o)) else none) (passes n k (if p then (some (record { what = r; size = 2 + 4 * j })) else none))
      go true e = let z : 4 * j + 2 ≡ 2 + 4 * j = omega arith in rw (f (leb-true (4 * j) (length s) e), z)
      go false e = refl

  -- the record with the letters l of the mark m, which is x
  marked : {l : List ℕ} {m x : Mark} {z : Option Sized} → letters_of m ≡ l → m ≡ x → record_of (letters_of x) s ≡ z → passes n k z ≡ passes n k (record_of l s)
  marked {l} {m} {x} {z} d e f = sym (ap (λ (a : List ℕ). passes n k (record_of a s)) (sym d ∙ ap letters_of e) ∙ ap (passes n k) f)

  -- a record of j fields
  pub arm : (j : ℕ) (r : Record) (b : Bool) (o : Option Stack) {a : List ℕ} {m x : Mark} → letters_of m ≡ a → m ≡ x → record_of (letters_of x) s ≡ having j s r → (4 * j ≤ length s → given b o ≡ checked n k r)
      → whole (4 * j) s b o ≡ passes n k (record_of a s)
  arm j r b o d x e f = behind j r b o f ∙ marked d x e

  -- LD, with c bytes of data
  pub arm_data : (c : ℕ) (l : List ℕ) (b : Bool) (o : Option Stack) {a : List ℕ} {m x : Mark} → letters_of m ≡ a → m ≡ x → record_of (letters_of x) s ≡ data_at 2 l s → c ≡ field_in 2 s
      → ((d : List ℕ) → length d ≡ c → 12 ≤ length s → given (b && ltb 0 c) o ≡ checked n k (laden l (nths_from 0 2 s) d)) → whole (12 + c) s (b && ltb 0 c) o ≡ passes n k (record_of a s)
  unfolding whole data_at
  arm_data c l b o y x e d f = go (leb (12 + nth 2 s) (length s)) refl ∙ marked y x e
    where
      less : length s < 12 + nth 2 s → length s < 12 + c
      less h = by (leb 12 (length s)) refl
        where
          by : (p : Bool) → leb 12 (length s) ≡ p → length s < 12 + c
          by true i = let w : 12 ≤ length s = leb-true 12 (length s) i in let v : c ≡ nth 2 s = d ∙ field_nth 2 s (omega arith) in omega arith
          by false i = let w : length s < 12 = leb-false 12 (length s) i in omega arith

      go : (p : Bool) → leb (12 + nth 2 s) (length s) ≡ p
          → ◌≡◌ {A = Option Pass} (if leb (12 + c) (length s) then (sized (12 + c + 2) (given (b && ltb 0 c) o)) else none)
          (passes n k (if p then (some (record { what = laden l (nths_from 0 2 s) (take (nth 2 s) (drop 12 s)); size = 2 + (12 + nth 2 s) })) else none))
      go true i =
          let w : 12 + nth 2 s ≤ length s = leb-true (12 + nth 2 s) (length s) i in
          let v : c ≡ nth 2 s = d ∙ field_nth 2 s (omega arith) in
          let z : 12 + c + 2 ≡ 2 + (12 + nth 2 s) = omega arith in
          let y : length (take (nth 2 s) (drop 12 s)) ≡ c = length-take-le (nth 2 s) (drop 12 s) (omega (arith, length-drop 12 s)) ∙ sym v in
          rw (le-leb (12 + c) (length s) (omega arith), z, f (take (nth 2 s) (drop 12 s)) y (omega arith))
      go false i = rw (lt-leb (12 + c) (length s) (less (leb-false (12 + nth 2 s) (length s) i)))

-- fields that need no test
pub given_true : (o : Option Stack) → given true o ≡ o
unfolding given
given_true o = refl

-- no record has these letters
pub no_record : (m s : List ℕ) → form_of m ≡ none → record_of m s ≡ none
unfolding record_of
no_record m s e = rw e
