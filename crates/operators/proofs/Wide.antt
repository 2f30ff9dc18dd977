-- Sums, differences, products and quotients of numbers of 32 bits fit 64, so they would be exact there, and two tests of the range decide 50.
-- Assumes nothing.
use Prim.Native.Nat.{ℕ, zero, suc, ◌+◌, ◌*◌, ◌/◌, ◌≤◌, ◌<◌}
use mathlib.Core.Path.{◌≡◌, refl, sym, ap, subst, ◌∙◌}
use mathlib.Core.Bool.{Bool, true, false}
use native.Mathlib.Omega.{arith}
use native.Mathlib.Nat.{mul-le-mul, div-le_self}
use borrow.Author.Tests.{ltb-true, ltb-false, lt-ltb, le-ltb, ne_eqb}
use lib.Dec.{eqb, ltb}
use lib.IntN.{ℤ, pos, negsuc, neg_ℤ, nat_abs, sub_ℕ, ◌+ℤ◌, ◌-ℤ◌, ◌*ℤ◌}
use lib.Signed.{mag, lt_z, quot_z}
use mir.Syntax.{w32, w64}
use mir.Val.{SFits, to_z, of_z}
use mir.Facts.{to_z-of_z, sfits_widen}
use Rattle.rules.specs.Reader.{nowhere}
use Rattle.rules.specs.Calls.{gives, refuses}
use Rattle.rules.specs.Evaluate.{signed32}

-- how large a result is
mag_neg : (z : ℤ) → mag (neg_ℤ z) ≤ suc (mag z)
mag_neg (pos zero) = omega arith
mag_neg (pos (suc n)) = omega arith
mag_neg (negsuc n) = omega arith

mag_sub : (a b : ℕ) → mag (sub_ℕ a b) ≤ a + b
mag_sub a b = go (ltb a b) refl
  where
    go : (t : Bool) → ltb a b ≡ t → mag (sub_ℕ a b) ≤ a + b
    go true e = rw e (omega arith)
    go false e = rw e (omega arith)

mag_add : (a b : ℤ) → mag (a +ℤ b) ≤ suc (mag a + mag b)
mag_add (pos a) (pos b) = omega arith
mag_add (pos a) (negsuc b) = omega (arith, mag_sub a (suc b))
mag_add (negsuc a) (pos b) = omega (arith, mag_sub b (suc a))
mag_add (negsuc a) (negsuc b) = omega arith

mag_minus : (n : ℕ) → mag (neg_ℤ (pos n)) ≤ n
mag_minus zero = omega arith
mag_minus (suc n) = omega arith

mag_mul : (a b : ℤ) → mag (a *ℤ b) ≤ suc (mag a) * suc (mag b)
mag_mul (pos a) (pos b) = mul-le-mul (omega arith) (omega arith)
mag_mul (pos a) (negsuc b) = let h : a * suc b ≤ suc a * suc b = mul-le-mul (omega arith) (omega arith) in omega (arith, mag_minus (a * suc b))
mag_mul (negsuc a) (pos b) = let h : suc a * b ≤ suc a * suc b = mul-le-mul (omega arith) (omega arith) in omega (arith, mag_minus (suc a * b))
mag_mul (negsuc a) (negsuc b) = omega arith

mag_quot : (a b : ℤ) → mag (quot_z a b) ≤ suc (mag a)
mag_quot (pos a) (pos b) = omega (arith, div-le_self a b)
mag_quot (pos a) (negsuc b) = omega (arith, mag_minus (a / suc b), div-le_self a (suc b))
mag_quot (negsuc a) (pos b) = omega (arith, mag_minus (suc a / b), div-le_self (suc a) b)
mag_quot (negsuc a) (negsuc b) = omega (arith, div-le_self (suc a) (suc b))

module _ (a b : ℤ) (f : SFits w32 a) (g : SFits w32 b) where
  pub sum_fits : SFits w64 (a +ℤ b)
  sum_fits = record { sfits = omega (arith, mag_add a b, f.sfits, g.sfits) }

  pub difference_fits : SFits w64 (a -ℤ b)
  difference_fits = record { sfits = omega (arith, mag_add a (neg_ℤ b), mag_neg b, f.sfits, g.sfits) }

  pub product_fits : SFits w64 (a *ℤ b)
  product_fits =
      let m : suc (mag a) ≤ 2147483648 = f.sfits in
      let n : suc (mag b) ≤ 2147483648 = g.sfits in
      let h : suc (mag a) * suc (mag b) ≤ 2147483648 * 2147483648 = mul-le-mul m n in
      record { sfits = omega (arith, mag_mul a b) }

  pub quotient_fits : SFits w64 (quot_z a b)
  quotient_fits = record { sfits = omega (arith, mag_quot a b, f.sfits) }

-- a number of 32 bits as the machine holds it in 64
abbrev wide : ℤ → ℤ
wide z = to_z w64 (of_z w64 (to_z w32 (of_z w32 z)))

module _ {z : ℤ} (f : SFits w32 z) where
  pub widens : SFits w64 (to_z w32 (of_z w32 z))
  widens = subst (SFits w64) (sym (to_z-of_z f)) (sfits_widen tt f)

  wide_is : wide z ≡ z
  wide_is = to_z-of_z widens ∙ to_z-of_z f

  bits_are : of_z w64 (to_z w32 (of_z w32 z)) ≡ of_z w64 z
  bits_are = ap (of_z w64) (to_z-of_z f)

-- an operation on such numbers, whose results fit
module _ (op : ℤ → ℤ → ℤ) (fits : (a b : ℤ) → SFits w32 a → SFits w32 b → SFits w64 (op a b)) {a b : ℤ} (f : SFits w32 a) (g : SFits w32 b) where
  pub op_fits : SFits w64 (op (wide a) (wide b))
  op_fits = subst (λ (x : ℤ). SFits w64 (op x (wide b))) (sym (wide_is f)) (subst (λ (y : ℤ). SFits w64 (op a y)) (sym (wide_is g)) (fits a b f g))

  pub op_is : to_z w64 (of_z w64 (op (wide a) (wide b))) ≡ op a b
  op_is = to_z-of_z op_fits ∙ ap (λ (x : ℤ). op x (wide b)) (wide_is f) ∙ ap (op a) (wide_is g)

-- a divisor
zero_bits : (z : ℤ) → SFits w32 z → of_z w64 z ≡ 0 → nat_abs z ≡ 0
zero_bits (pos n) f e = e
zero_bits (negsuc n) f e = absurd (omega (arith, f.sfits))

bits_zero : (z : ℤ) → nat_abs z ≡ 0 → of_z w64 z ≡ 0
bits_zero (pos n) e = e
bits_zero (negsuc n) e = absurd (omega arith)

module _ {z : ℤ} (f : SFits w32 z) where
  pub divisor_zero : of_z w64 (to_z w32 (of_z w32 z)) ≡ 0 → eqb (nat_abs z) 0 ≡ true
  divisor_zero e = rw (zero_bits z f (sym (bits_are f) ∙ e))

  module _ (e : of_z w64 (to_z w32 (of_z w32 z)) ≡ 0 → ⊥) where
    pub divisor_other : eqb (nat_abs z) 0 ≡ false
    divisor_other = ne_eqb (nat_abs z) 0 (λ d. e (bits_are f ∙ bits_zero z d))

    pub divisor_positive : 0 < of_z w64 (to_z w32 (of_z w32 z))
    divisor_positive = go (of_z w64 (to_z w32 (of_z w32 z))) e
      where
        go : (n : ℕ) → (n ≡ 0 → ⊥) → 0 < n
        go zero h = absurd (h refl)
        go (suc n) h = omega arith

-- the range
pub low : (z : ℤ) → lt_z z (negsuc 2147483647) ≡ true → signed32 z ≡ refuses (nowhere 50)
unfolding signed32
low (pos n) e = cc
low (negsuc n) e = let h : 2147483647 < n = ltb-true _ _ e in rw (le-ltb n 2147483648 h)

pub high : (z : ℤ) → lt_z (pos 2147483647) z ≡ true → signed32 z ≡ refuses (nowhere 50)
unfolding signed32
high (pos n) e = let h : 2147483647 < n = ltb-true _ _ e in rw (le-ltb n 2147483648 h)
high (negsuc n) e = cc

between : (z : ℤ) → lt_z z (negsuc 2147483647) ≡ false → lt_z (pos 2147483647) z ≡ false → mag z < 2147483648
between (pos n) e f = let h : n ≤ 2147483647 = ltb-false _ _ f in omega arith
between (negsuc n) e f = let h : n ≤ 2147483647 = ltb-false _ _ e in omega arith

module _ {z : ℤ} (e : lt_z z (negsuc 2147483647) ≡ false) (f : lt_z (pos 2147483647) z ≡ false) where
  pub fits_32 : SFits w32 z
  fits_32 = record { sfits = between z e f }

  pub within : signed32 z ≡ gives z
  unfolding signed32
  within = rw (lt-ltb (mag z) 2147483648 (between z e f))
