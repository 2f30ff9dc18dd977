-- Runs of a class and the numbers that digits write, step by step as the loops go.
use Rattle.std.specs.Prelude.{if◌then◌else◌}
use Prim.Native.Nat.{ℕ, zero, suc, ◌+◌, ◌*◌, ◌-◌, ◌/◌, ◌%◌, ◌≤◌, ◌<◌}
use mathlib.Core.Path.{◌≡◌, refl, sym, ◌∙◌}
use mathlib.Core.List.{List, [], ◌∷◌}
use mathlib.Core.Bool.{Bool, true, false, not, ◌&&◌, ◌||◌, and-false}
use mathlib.Core.Logic.{◌⊎◌, inl, inr, ⊎_elim}
use native.Mathlib.Nat.{add-zero, add-suc, suc-add, le_refl, le_trans, le-mul_of_pos_right}
use native.Mathlib.Numerals.{add-one, lt_of_le_of_ne}
use native.Mathlib.Omega.{arith}
use lib.Dec.{eqb, leb}
use lib.ListN.{length, get_or, take, drop, drop_of_length-le}
use lib.Seq.{drop-cons}
use borrow.Author.Tests.{eqb-true, eqb-false, le-leb, lt-leb, leb-true, lt-ltb, le-ltb}
use Rattle.lexer.specs.Text.{within, is_digit, is_hex_digit, run, all, digit, value_from, open_text}
use Rattle.lexer.specs.Tokens.{largest}
use Rattle.lexer.specs.Runs.{radix, valued_from}
use Rattle.lexer.specs.declared.characters.Base.{Base}
use Rattle.lexer.specs.declared.characters.Base.TheVariants as base
use Rattle.std.specs.Prelude.{None, Some}

pub both : (a b : Bool) → (a && b) ≡ true → (a ≡ true) × (b ≡ true)
both true b h = (refl, h)
both false b h = let z : ◌≡◌ {A = ℕ} 0 1 = cc in absurd (omega arith)

pub one_of : (a b : Bool) → (a || b) ≡ true → (a ≡ true) ⊎ (b ≡ true)
one_of true b h = inl refl
one_of false b h = inr h

module _ (p : ℕ → Bool) (s : List ℕ) (i : ℕ) where
  -- the byte at i belongs to the run
  pub run_more : i < length s → p (get_or s i 0) ≡ true → i + run p (drop i s) ≡ (i + 1) + run p (drop (i + 1) s)
  unfolding run
  run_more h e = rw (drop-cons s i 0 h, e, add-one) (add-suc i (run p (drop (suc i) s)) ∙ sym (suc-add i (run p (drop (suc i) s))))

  -- the byte at i ends the run
  pub run_stop : i < length s → p (get_or s i 0) ≡ false → i + run p (drop i s) ≡ i
  unfolding run
  run_stop h e = rw (drop-cons s i 0 h, e) (add-zero i)

  -- so does the end of the source
  pub run_none : length s ≤ i → i + run p (drop i s) ≡ i
  unfolding run
  run_none h = rw (drop_of_length-le s h) (add-zero i)

-- a run is no longer than what it is taken from
pub run_le : (p : ℕ → Bool) (s : List ℕ) → run p s ≤ length s
unfolding run
run_le p [] = omega arith
run_le p (c ∷ cs) = step (p c) (run_le p cs)
  where
    step : (t : Bool) → run p cs ≤ length cs → (if t then suc (run p cs) else 0) ≤ suc (length cs)
    step true h = omega arith
    step false h = omega arith

-- what holds of each byte of a class holds all along its run
pub run_all : (p q : ℕ → Bool) → ((c : ℕ) → p c ≡ true → q c ≡ true) → (m : ℕ) (s : List ℕ) → m ≤ run p s → all q (take m s) ≡ true
unfolding run all
run_all p q h zero s l = refl
run_all p q h (suc m) [] l = refl
run_all p q h (suc m) (c ∷ cs) l = step (p c) refl (run_all p q h m cs) l
  where
    step : (t : Bool) → p c ≡ t → (m ≤ run p cs → all q (take m cs) ≡ true) → suc m ≤ (if t then suc (run p cs) else 0) → (q c && all q (take m cs)) ≡ true
    step true e r l = rw (h c e) (r (omega arith))
    step false e r l = absurd (omega arith)

-- and the byte behind the run is not of the class
pub run_ends : (p : ℕ → Bool) (m : ℕ) (s : List ℕ) → run p s < m → m ≤ length s → all p (take m s) ≡ false
unfolding run all
run_ends p zero s l k = absurd (omega arith)
run_ends p (suc m) [] l k = absurd (omega arith)
run_ends p (suc m) (c ∷ cs) l k = step (p c) refl (λ l. run_ends p m cs l (omega arith)) l
  where
    step : (t : Bool) → p c ≡ t → (run p cs < m → all p (take m cs) ≡ false) → (if t then suc (run p cs) else 0) < suc m → (p c && all p (take m cs)) ≡ false
    step true e r l = rw e (r (omega arith))
    step false e r l = rw e

module _ (s : List ℕ) (i to : ℕ) where
  -- one more digit
  pub digits_more : i < to → to ≤ length s → take (to - i) (drop i s) ≡ get_or s i 0 ∷ take (to - (i + 1)) (drop (i + 1) s)
  digits_more h l =
      let inside : i < length s = omega arith in
      let count : to - i ≡ suc (to - (i + 1)) = omega arith in
      rw (drop-cons s i 0 inside, count, add-one)

  -- none left
  pub digits_none : to ≤ i → take (to - i) (drop i s) ≡ []
  digits_none h =
      let none : to - i ≡ 0 = omega arith in
      rw none

-- more digits make a number no smaller
value_ge : (v base : ℕ) (ds : List ℕ) → 1 ≤ base → v ≤ value_from v base ds
unfolding value_from
value_ge v base [] h = le_refl v
value_ge v base (d ∷ ds) h =
    let grown : v ≤ v * base = le-mul_of_pos_right v (omega arith) in
    let step : v ≤ v * base + digit d = omega arith in
    le_trans step (value_ge (v * base + digit d) base ds h)

pub radix_within : (b : Base) → (1 ≤ radix b) × (radix b ≤ 16)
radix_within base.Binary = (omega arith, omega arith)
radix_within base.Octal = (omega arith, omega arith)
radix_within base.Decimal = (omega arith, omega arith)
radix_within base.Hexadecimal = (omega arith, omega arith)

module _ (v base : ℕ) where
  pub valued_more : (c : ℕ) (cs : List ℕ) → digit c < base → valued_from v base (c ∷ cs) ≡ valued_from (v * base + digit c) base cs
  unfolding valued_from value_from all
  valued_more c cs h = rw (lt-ltb (digit c) base h)

  pub valued_stop : (c : ℕ) (cs : List ℕ) → base ≤ digit c → None ≡ valued_from v base (c ∷ cs)
  unfolding valued_from value_from all
  valued_stop c cs h = rw (le-ltb (digit c) base h)

  pub valued_large : (cs : List ℕ) → 1 ≤ base → 2147483647 < v → None ≡ valued_from v base cs
  unfolding valued_from largest
  valued_large cs h l =
      let above : 2147483647 < value_from v base cs = omega (arith, value_ge v base cs h) in
      rw (lt-leb (value_from v base cs) 2147483647 above, and-false)

  pub valued_end : v ≤ 2147483647 → Some v ≡ valued_from v base []
  unfolding valued_from value_from all largest
  valued_end h = rw (le-leb v 2147483647 h)

-- A test tried on all numbers below n: on all bytes, where n is 256.
unfoldable pub below : (ℕ → Bool) → ℕ → Bool
below f zero = true
below f (suc n) = f n && below f n

pub below_all : (f : ℕ → Bool) (n : ℕ) → below f n ≡ true → (c : ℕ) → c < n → f c ≡ true
unfolding below
below_all f zero e c h = absurd (omega arith)
below_all f (suc n) e c h = go (eqb c n) refl (below_all f n)
  where
    w : (f n ≡ true) × (below f n ≡ true)
    w = both (f n) (below f n) e

    go : (t : Bool) → eqb c n ≡ t → (below f n ≡ true → (c : ℕ) → c < n → f c ≡ true) → f c ≡ true
    go true q r = rw (eqb-true c n q) w.0
    go false q r = r w.1 c (lt_of_le_of_ne (omega arith) (eqb-false c n q))

-- The digits of each base are hexadecimal ones, and below the base.
numeric : (z c : ℕ) → z ≤ 57 → (leb 48 c && leb c z) ≡ true → (is_hex_digit c ≡ true) × (digit c < z - 47)
unfolding open_text
numeric z c l h =
    let w = both (leb 48 c) (leb c z) h in
    let low : 48 ≤ c = leb-true 48 c w.0 in
    let high : c ≤ z = leb-true c z w.1 in
    (simp (w.0, le-leb c 57 (omega arith)), simp (w.0, le-leb c 57 (omega arith)) (omega arith))

pub binary_digit : (c : ℕ) → within "0" "1" c ≡ true → (is_hex_digit c ≡ true) × (digit c < 2)
unfolding within
binary_digit c h = numeric 49 c (omega arith) h

pub octal_digit : (c : ℕ) → within "0" "7" c ≡ true → (is_hex_digit c ≡ true) × (digit c < 8)
unfolding within
octal_digit c h = numeric 55 c (omega arith) h

pub decimal_digit : (c : ℕ) → is_digit c ≡ true → (is_hex_digit c ≡ true) × (digit c < 10)
unfolding is_digit within
decimal_digit c h = numeric 57 c (omega arith) h

small : (c : ℕ) → within "a" "f" c ≡ true → digit c < 16
unfolding open_text
small c h =
    let w = both (leb 97 c) (leb c 102) h in
    let low : 97 ≤ c = leb-true 97 c w.0 in
    let high : c ≤ 102 = leb-true c 102 w.1 in
    simp (le-leb 48 c (omega arith), lt-leb c 57 (omega arith), le-leb 65 c (omega arith), lt-leb c 90 (omega arith)) (omega arith)

capital : (c : ℕ) → within "A" "F" c ≡ true → digit c < 16
unfolding open_text
capital c h =
    let w = both (leb 65 c) (leb c 70) h in
    let low : 65 ≤ c = leb-true 65 c w.0 in
    let high : c ≤ 70 = leb-true c 70 w.1 in
    simp (le-leb 48 c (omega arith), lt-leb c 57 (omega arith), w.0, le-leb c 90 (omega arith)) (omega arith)

-- which says of base 16 what is said of the others
pub hexadecimal_digit : (c : ℕ) → is_hex_digit c ≡ true → (is_hex_digit c ≡ true) × (digit c < 16)
unfolding is_hex_digit
hexadecimal_digit c h = (
  h,
  ⊎_elim
      (λ w. ⊎_elim (λ d. let l = (decimal_digit c d).1 in omega arith) (small c) (one_of (is_digit c) (within "a" "f" c) w))
      (capital c)
      (one_of (is_digit c || within "a" "f" c) (within "A" "F" c) h),
)

-- The sum that the code makes of a digit's character is the digit's worth.
sums : ℕ → Bool
sums c = not (is_hex_digit c) || eqb (c % 16 + 9 * (c / 64)) (digit c)

pub worth_by_sum : (c : ℕ) → c < 256 → is_hex_digit c ≡ true → c % 16 + 9 * (c / 64) ≡ digit c
unfolding below sums open_text
worth_by_sum c l h =
    let t : (not (is_hex_digit c) || eqb (c % 16 + 9 * (c / 64)) (digit c)) ≡ true = below_all sums 256 refl c l in
    eqb-true _ _ (rw h at t)
