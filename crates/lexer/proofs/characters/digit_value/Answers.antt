-- The sum is each hexadecimal digit's worth: tried on all bytes.
use mathlib.Core.Path.{◌∙◌}
use native.Mathlib.Omega.{arith}
use Rattle.lexer.proofs.Runs.{worth_by_sum}
use Rattle.lexer.proofs.characters.digit_value.Goals as goal

pub returns : goal.returns
returns c = λ h. c.from.ensures ∙ worth_by_sum _ (omega (arith, c.ranges.c)) h
