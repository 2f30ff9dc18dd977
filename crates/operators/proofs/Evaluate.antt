-- A checked result is the exact one where it fits 32 signed bits, which decides 50.
use Prim.Native.Nat.{◌≤◌}
use mathlib.Core.Path.{◌≡◌, refl, ap}
use mathlib.Core.Bool.{Bool, true, false}
use native.Mathlib.Omega.{arith}
use borrow.Author.Tests.{ltb-true, lt-ltb, ne_eqb}
use lib.Dec.{eqb, ltb}
use lib.IntN.{ℤ, pos, negsuc, nat_abs}
use lib.Signed.{mag, quot_z}
use mir.Syntax.{w32}
use mir.Val.{SFits, to_z, of_z}
use mir.Facts.{to_z-of_z}
use Rattle.std.specs.Prelude.{if◌then◌else◌, Option, None, Some, ok_or, SomeIff, int_div}
use Rattle.std.specs.Int.{CanDivide}
use Rattle.rules.specs.Reader.{nowhere}
use Rattle.rules.specs.Calls.{gives, refuses, unless}
use Rattle.rules.specs.Evaluate.{signed32}
use Rattle.operators.specs.declared.EvaluateError.TheVariants.{Beyond32Bits}
use Rattle.operators.specs.declared.Operator.TheVariants.{Add, Subtract, Multiply, Divide}
use Rattle.operators.specs.declared.Operator.{Operator}
use Rattle.operators.specs.Operators.{operator_number, OperatorsFour, result_of}

-- no operator has another number than 0 to 3
operator_low : (op : Operator) → operator_number op ≤ 3
operator_low Add = omega arith
operator_low Subtract = omega arith
operator_low Multiply = omega arith
operator_low Divide = omega arith

pub operators_four : OperatorsFour
operators_four = record { below = operator_low }

pub checked : (z : ℤ) (o : Option ℤ) → SomeIff o (SFits w32 z) z → result_of (ok_or o Beyond32Bits) ≡ signed32 z
unfolding signed32
checked z None n = by (ltb (mag z) 2147483648) refl
  where
    by : (b : Bool) → ltb (mag z) 2147483648 ≡ b → refuses (nowhere 50) ≡ (if b then (gives z) else (refuses (nowhere 50)))
    by true e = absurd (n (record { sfits = ltb-true (mag z) 2147483648 e }))
    by false e = refl
checked z (Some x) p = rw (lt-ltb (mag z) 2147483648 p.0.sfits) (ap gives p.1)

-- a number as the machine holds it
abbrev held : ℤ → ℤ
held z = to_z w32 (of_z w32 z)

-- the same of an operation on numbers as the machine holds them
module _ (op : ℤ → ℤ → ℤ) {a b : ℤ} (f : SFits w32 a) (g : SFits w32 b) where
  pub exact : (o : Option ℤ) → SomeIff o (SFits w32 (op (held a) (held b))) (op (held a) (held b)) → result_of (ok_or o Beyond32Bits) ≡ signed32 (op a b)
  exact o h = checked (op a b) o (rw (to_z-of_z f, to_z-of_z g) at h)

-- a divisor
zero_abs : (z : ℤ) → SFits w32 z → of_z w32 z ≡ 0 → nat_abs z ≡ 0
zero_abs (pos n) f e = e
zero_abs (negsuc n) f e = absurd (omega (arith, f.sfits))

abs_zero : (z : ℤ) → nat_abs z ≡ 0 → of_z w32 z ≡ 0
abs_zero (pos n) e = e
abs_zero (negsuc n) e = absurd (omega arith)

-- a quotient by one that is not 0
quotient : (a b : ℤ) → (of_z w32 b ≡ 0 → ⊥) → (o : Option ℤ) → SomeIff o (CanDivide w32 a b) (int_div a b) → SomeIff o (SFits w32 (quot_z a b)) (quot_z a b)
quotient a b n None h = λ s. h (omega arith, s)
quotient a b n (Some x) h = (h.0.1, h.1)

module _ {a b : ℤ} (f : SFits w32 a) (g : SFits w32 b) where
  pub undivided : of_z w32 b ≡ 0 → refuses (nowhere 51) ≡ unless (eqb (nat_abs b) 0) (nowhere 51) (signed32 (quot_z a b))
  unfolding unless
  undivided e = rw (zero_abs b g e) refl

  pub divided : (of_z w32 b ≡ 0 → ⊥) → (o : Option ℤ) → SomeIff o (CanDivide w32 (held a) (held b)) (int_div (held a) (held b))
      → result_of (ok_or o Beyond32Bits) ≡ unless (eqb (nat_abs b) 0) (nowhere 51) (signed32 (quot_z a b))
  unfolding unless
  divided n o h = rw (ne_eqb (nat_abs b) 0 (λ e. n (abs_zero b e))) (checked (quot_z a b) o (quotient a b n o (rw (to_z-of_z f, to_z-of_z g) at h)))
