-- What the code asks of a row of bytes: which class a byte belongs to, and the number that digits write.
use Rattle.std.specs.Prelude.{Bool, ◌&&◌, List, ℕ, Option, None, Some, ◌-◌, leb, ltb, take, drop, if◌then◌else◌}
use Prim.Native.Char.{code}
use Rattle.lexer.specs.Text.{is_hex_digit, all, digit, value_from}
use Rattle.lexer.specs.Tokens.{largest}
use Rattle.lexer.specs.declared.characters.Base.{Base}
use Rattle.lexer.specs.declared.characters.Base.TheVariants as base

abbrev pub up_to_one : ℕ → Bool
up_to_one c = leb c (code "1")

-- the bytes from a place to before another are hexadecimal digits
abbrev pub are_hex_digits : List ℕ → ℕ → ℕ → Bool
are_hex_digits s from to = all is_hex_digit (take (to - from) (drop from s))

-- the number of a base
abbrev pub radix : Base → ℕ
radix base.Binary = 2
radix base.Octal = 8
radix base.Decimal = 10
radix base.Hexadecimal = 16

-- the number that digits write in a base behind those that gave v, if they fit the base and it is not above the largest
unfoldable pub valued_from : ℕ → ℕ → List ℕ → Option ℕ
valued_from v base ds =
    let w : ℕ = value_from v base ds in
    if all (λ d. ltb (digit d) base) ds && leb w largest then Some w else None
