-- An operator's number and what it gives.
use Prim.Native.Nat.{ℕ, ◌<◌}
use mathlib.Core.Path.{◌≡◌, refl, sym}
use native.Mathlib.Omega.{arith}
use borrow.Author.Tests.{ne_eqb}
use lib.IntN.{ℤ, pos}
use Rattle.operators.specs.declared.Operator.{Operator}
use Rattle.operators.specs.declared.Operator.TheVariants.{Add, Subtract, Multiply, Divide}
use Rattle.operators.specs.Operators.{operator_number}
use Rattle.rules.specs.Evaluate.{evaluate}
use Rattle.laqhoncu.specs.Readings.{numbered, value, valued, valuation}

gives' : (o : Operator) (a b : ℤ) → valued (evaluate (operator_number o) a b) ≡ valuation (operator_number o) a b
unfolding valuation
gives' Add a b = refl
gives' Subtract a b = refl
gives' Multiply a b = refl
gives' Divide a b = refl

pub by_operator : {n : ℕ} (o : Operator) (a b : ℤ) → operator_number o ≡ n → valued (evaluate (operator_number o) a b) ≡ valuation n a b
by_operator o a b e = rw (sym e) (gives' o a b)

pub no_operator : (n : ℕ) (a b : ℤ) → 3 < n → value (numbered 255) (pos 0) ≡ valuation n a b
unfolding valuation
no_operator n a b h = rw (ne_eqb n 0 (λ e. omega arith), ne_eqb n 1 (λ e. omega arith), ne_eqb n 2 (λ e. omega arith), ne_eqb n 3 (λ e. omega arith))
