-- A checked result is the exact one where it fits, operator by operator.
use mathlib.Core.Path.{◌≡◌, sym, ap, ◌∙◌}
use lib.IntN.{ℤ, ◌+ℤ◌, ◌*ℤ◌, ◌-ℤ◌}
use Rattle.std.specs.Prelude.{Option, ok_or}
use Rattle.rules.specs.Evaluate.{evaluate}
use Rattle.operators.specs.declared.Operator.{Operator}
use Rattle.operators.specs.declared.EvaluateError.TheVariants.{Beyond32Bits}
use Rattle.operators.specs.Operators.{operator_number, result_of}
use Rattle.operators.proofs.Evaluate.{exact, divided, undivided}
use Rattle.operators.proofs.Operator.evaluate.Goals as goal
use Rattle.operators.proofs.Operator.evaluate.Goals.{in-Add, in-Subtract, in-Multiply, in-Divide-2}

by-operator : {o o' : Operator} (a b : ℤ) → o ≡ o' → evaluate (operator_number o') a b ≡ evaluate (operator_number o) a b
by-operator a b e = ap (λ (p : Operator). evaluate (operator_number p) a b) (sym e)

by-value : {o o' : Option ℤ} → o ≡ o' → result_of (ok_or o Beyond32Bits) ≡ result_of (ok_or o' Beyond32Bits)
by-value e = ap (λ (p : Option ℤ). result_of (ok_or p Beyond32Bits)) e

pub returns-in-Divide : goal.returns-in-Divide
unfolding evaluate
returns-in-Divide c = undivided c.ranges.left c.ranges.right c.if-right-eq0.true ∙ by-operator c.args.left c.args.right c.in-Divide.is

pub returns : goal.returns
unfolding evaluate
returns c =
    let a = c.args.left in
    let b = c.args.right in
    let f = c.ranges.left in
    let g = c.ranges.right in
    ap result_of c.ok_or.ensures.value
    ∙ elim c.match-self.branch [
      | in-Add w ↦ by-value w.value-is ∙ exact ◌+ℤ◌ f g _ w.checked_add-value.ensures ∙ by-operator a b w.in-Add.is
      | in-Subtract w ↦ by-value w.value-is ∙ exact ◌-ℤ◌ f g _ w.checked_sub-value.ensures ∙ by-operator a b w.in-Subtract.is
      | in-Multiply w ↦ by-value w.value-is ∙ exact ◌*ℤ◌ f g _ w.checked_mul-value.ensures ∙ by-operator a b w.in-Multiply.is
      | in-Divide-2 w ↦ by-value w.value-is ∙ divided f g w.if-right-eq0.false _ w.checked_div-value.ensures ∙ by-operator a b w.in-Divide-2.is
    ]
