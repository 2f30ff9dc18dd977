-- The digits of a number.
use Rattle.std.specs.Prelude.{if◌then◌else◌}
use Prim.Native.Nat.{ℕ, zero, suc, ◌+◌, ◌-◌, ◌*◌, ◌/◌, ◌%◌, ◌^◌, ◌≤◌, ◌<◌}
use mathlib.Core.Path.{◌≡◌, ap}
use mathlib.Core.List.{List, [], ◌∷◌, ◌++◌}
use native.Mathlib.Omega.{arith}
use native.Mathlib.Nat.{one-le-pow}
use lib.Dec.{ltb}
use borrow.Author.Tests.{lt-ltb, le-ltb}
use Rattle.io.specs.Digits.{last_digits, IsDigitCount}
use Rattle.text.specs.Text.{decimal_in, decimal}
use Rattle.text.specs.Claims.{DigitsSuffice}

few : (f k n : ℕ) → n < 10 ^ suc f → IsDigitCount 10 1 n (suc k) → last_digits 10 (suc k) n ≡ decimal_in (suc f) n
unfolding decimal_in
few f zero n h w =
    let s : n < 10 = w.1 in
    let e : n % 10 ≡ n = omega arith in
    rw (lt-ltb n 10 s, e, lt-ltb n 10 s)
few zero (suc k) n h w =
    let d : suc (suc k) - 1 ≡ suc k = omega arith in
    let p : 10 ^ suc k ≡ 10 * 10 ^ k = omega arith in
    let b : 10 ^ suc k ≤ n = rw d at (w.2 (omega arith)) in
    let o : 1 ≤ 10 ^ k = one-le-pow k 10 (omega arith) in
    absurd (omega arith)
few (suc f) (suc k) n h w =
    let p : 10 ^ suc k ≡ 10 * 10 ^ k = omega arith in
    let q : 10 ^ suc (suc k) ≡ 10 * 10 ^ suc k = omega arith in
    let r : 10 ^ suc (suc f) ≡ 10 * 10 ^ suc f = omega arith in
    let d : suc (suc k) - 1 ≡ suc k = omega arith in
    let d' : suc k - 1 ≡ k = omega arith in
    let a : n < 10 ^ suc (suc k) = w.1 in
    let b : 10 ^ suc k ≤ n = rw d at (w.2 (omega arith)) in
    let o : 1 ≤ 10 ^ k = one-le-pow k 10 (omega arith) in
    let t : 10 ≤ n = omega arith in
    let m : n % 10 < 10 = omega arith in
    let again : last_digits 10 (suc k) (n / 10) ≡ decimal_in (suc f) (n / 10) = few f k (n / 10) (omega arith) (omega arith, omega arith, λ _. rw d' (omega arith)) in
    rw (le-ltb n 10 t, lt-ltb (n % 10) 10 m, again)

-- at most 20 digits, and the fewest, are those of the definition
pub fewest : (k n : ℕ) → n < 10 ^ 20 → IsDigitCount 10 1 n k → last_digits 10 k n ≡ decimal n
unfolding decimal
fewest zero n h w = absurd (omega arith)
fewest (suc k) n h w = few 19 k n h w

-- a number that has at most j + 1 digits has the same with any larger count
more_digits : (j m n : ℕ) → j ≤ m → n < 10 ^ suc j → decimal_in (suc m) n ≡ decimal_in (suc j) n
unfolding decimal_in
more_digits zero m n l h = let s : n < 10 = omega arith in rw (lt-ltb n 10 s)
more_digits (suc j) zero n l h = absurd (omega arith)
more_digits (suc j) (suc m) n l h =
    let q : 10 ^ suc (suc j) ≡ 10 * 10 ^ suc j = omega arith in
    ap (λ (r : List ℕ). if ltb n 10 then ((48 + n) ∷ []) else (r ++ (48 + n % 10) ∷ [])) (more_digits j m (n / 10) (omega arith) (omega arith))

pub digits_suffice : DigitsSuffice
unfolding decimal
digits_suffice = record { enough = λ k n l h. go k n l h }
  where
    go : (k n : ℕ) → 20 ≤ k → n < 18446744073709551616 → decimal_in k n ≡ decimal_in 20 n
    go zero n l h = absurd (omega arith)
    go (suc m) n l h = more_digits 19 m n (omega arith) (omega arith)
