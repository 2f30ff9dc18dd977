-- The declared operators and the answers of their functions, in the numbers of RULES 8.3 and 11.1.
use Rattle.std.specs.Prelude.{◌≡◌, ℕ, ◌≤◌, ◌<◌, ℤ, ltb, if◌then◌else◌, Option, None, Some, Result as Answer, Ok, Err}
use Rattle.rules.specs.Reader.{nowhere}
use Rattle.rules.specs.Calls.{Result, gives, refuses}
use Rattle.rules.specs.Expressions.{prefix_level}
use Rattle.operators.specs.declared.Operator.{Operator}
use Rattle.operators.specs.declared.Operator.TheVariants.{Add, Subtract, Multiply, Divide}
use Rattle.operators.specs.declared.UnknownOperator.{UnknownOperator}
use Rattle.operators.specs.declared.EvaluateError.{EvaluateError}
use Rattle.operators.specs.declared.EvaluateError.TheVariants.{Beyond32Bits, ZeroDivisor}

abbrev pub operator_number : Operator → ℕ
operator_number Add = 0
operator_number Subtract = 1
operator_number Multiply = 2
operator_number Divide = 3

-- No operator has another number, so `evaluate` is asked for 0 to 3 alone.
pub record OperatorsFour : Type 0 where
  pub below : (op : Operator) → operator_number op ≤ 3

-- The operator that has a number, or none has it.
abbrev pub Numbers : ℕ → Answer Operator UnknownOperator → Type 0
Numbers n (Ok op) = operator_number op ≡ n
Numbers n (Err e) = 3 < n

-- Only `+` and `-` stand before an operand.
abbrev pub prefix_level_of : Operator → Option ℕ
prefix_level_of op = if ltb (operator_number op) 2 then (Some prefix_level) else None

-- 50: beyond 32 signed bits; 51: zero divisor.
abbrev pub error_number : EvaluateError → ℕ
error_number Beyond32Bits = 50
error_number ZeroDivisor = 51

abbrev pub result_of : Answer ℤ EvaluateError → Result ℤ
result_of (Ok z) = gives z
result_of (Err e) = refuses (nowhere (error_number e))
