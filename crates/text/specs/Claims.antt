-- What is claimed of the text. The laws are proved in proofs/: Digits, Signed.
use Rattle.std.specs.Prelude.{◌≡◌, List, ◌++◌, ℕ, suc, ◌≤◌, ◌<◌, ltb, ℤ, pos, negsuc, ◌-ℤ◌, if◌then◌else◌}
use Rattle.lexer.specs.Text.{bytes}
use Rattle.text.specs.Text.{decimal_in, decimal, signed}

-- The 20 digits of `decimal` never run out: a number of 64 bits has the same text with any larger count.
pub record DigitsSuffice : Type 0 where
  pub enough : (k n : ℕ) → 20 ≤ k → n < 18446744073709551616 → decimal_in k n ≡ decimal n

-- The number that 32 bits stand for, of which the highest is the sign's: 2³² less where that is set.
unfoldable pub signed_of : ℕ → ℤ
signed_of v = if ltb v 2147483648 then (pos v) else (pos v -ℤ pos 4294967296)

-- The decimal text of a number, with its sign.
unfoldable pub decimal_of : ℤ → List ℕ
decimal_of (pos n) = decimal n
decimal_of (negsuc n) = bytes "-" ++ decimal (suc n)

-- What is printed of VC's value is the signed number of its 32 bits.
pub record PrintsSigned : Type 0 where
  pub value : (v : ℕ) → v < 4294967296 → signed v ≡ decimal_of (signed_of v)
