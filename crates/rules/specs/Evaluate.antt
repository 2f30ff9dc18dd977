-- `evaluate`: the exact sum, difference or product, or the quotient truncated toward zero. RULES 5.5.
use Rattle.std.specs.Prelude.{ℕ, eqb, ltb, ℤ, nat_abs, ◌+ℤ◌, ◌-ℤ◌, ◌*ℤ◌, if◌then◌else◌}
use Rattle.std.specs.Int.Signed.{mag, quot_z}
use Rattle.rules.specs.Reader.{nowhere}
use Rattle.rules.specs.Calls.{Result, gives, refuses, unless}

-- 50: beyond 32 signed bits. `mag` is n for n and for -(n + 1).
unfoldable pub signed32 : ℤ → Result ℤ
signed32 z = if ltb (mag z) 2147483648 then (gives z) else (refuses (nowhere 50))

-- An operator, by its number, on two numbers; 51: zero divisor. The number is 0 to 3: an Operator has no other (`parser`: OperatorsFour), and
-- the exported call answers any other with 255 before this is asked (`laqhoncu`: valuation).
unfoldable pub evaluate : ℕ → ℤ → ℤ → Result ℤ
evaluate op a b =
    if eqb op 0 then (signed32 (a +ℤ b))
    else if eqb op 1 then (signed32 (a -ℤ b))
    else if eqb op 2 then (signed32 (a *ℤ b))
    else unless (eqb (nat_abs b) 0) (nowhere 51) (signed32 (quot_z a b))

unfoldable pub open_evaluate : Unit {0}
unfolding unless signed32 evaluate
open_evaluate = tt
