-- Samples of RULES 2.8, computed: numbers and names, where a row that does not hold is named, and all the
-- digits.
use Rattle.std.specs.Prelude.{◌≡◌, refl, List, [], ◌∷◌, ℕ, zero, suc, if◌then◌else◌}
use Prim.Native.Char.{Char, code}
use Prim.Native.String.{String}
use Rattle.lexer.specs.Text.{bytes, is_hex_digit, digit, open_text}
use Rattle.lexer.specs.Tokens.{numeral, stray, mark, token_at, open_tokens}
use Rattle.lexer.specs.Dots.{plain_token, open_dots}
use Rattle.lexer.specs.Letters.{last_first_token, open_letters}
use Rattle.lexer.specs.declared.PunctuationKind.TheVariants.{Dot}
use Rattle.lexer.specs.declared.Token.TheVariants.{Identifier}
use Rattle.lexer.specs.declared.Fault.TheVariants.{LargerDigit, TooLarge}
use Rattle.lexer.specs.declared.TokenRead.{TokenRead}
use Rattle.lexer.specs.declared.TokenRead.TheVariants.{Read, Refused}

pub record Sample : Type 0 where
  pub source : String
  pub token : TokenRead

infix 80 ◌begins◌
abbrev pub ◌begins◌ : String → TokenRead → Sample
s begins t = record { source = s; token = t }

-- A source, and its first token.
unfoldable pub samples : List Sample
samples =
    -- o, O, h or H directly behind the run is the suffix, and the run stays whole
    "17o" begins numeral 3 15
    ∷ "0FFh" begins numeral 4 255
    ∷ "10bh" begins numeral 4 267
    ∷ "0abh" begins numeral 4 171
    ∷ "0adH" begins numeral 4 173
    ∷ "1bo" begins stray 49
    ∷ "9O" begins stray 57
    -- else b, B, d or D as its last character
    ∷ "10b h" begins numeral 3 2
    ∷ "12b" begins Refused 3 LargerDigit
    ∷ "29D" begins numeral 3 29
    ∷ "12a" begins stray 49
    -- a prefix with at least one digit of its base takes all such digits; with none, the token is the single `0`
    ∷ "0b102" begins numeral 4 2
    ∷ "0bh" begins numeral 1 0
    ∷ "0x1bh" begins numeral 4 27
    ∷ "0x7fffffff" begins numeral 10 2147483647
    ∷ "0x80000000" begins Refused 10 TooLarge
    ∷ "2147483648" begins stray 50
    ∷ []

unfoldable pub Agree : List Sample → Type 0
Agree [] = Unit {0}
Agree (k ∷ ks) = (token_at (bytes k.source) ≡ k.token) × Agree ks

pub known : Agree samples
unfolding open_tokens samples Agree
known = (refl, (refl, (refl, (refl, (refl, (refl, (refl, (refl, (refl, (refl, (refl, (refl, (refl, (refl, (refl, (refl, (refl, tt)))))))))))))))))

-- A name takes the dots behind its first character, as many as stand there; a dot that starts a token is punctuation. RULES 2.3.
unfoldable pub dots : List Sample
dots =
    "w12.a equ 5" begins Read (Identifier 5)
    ∷ "a..b.:" begins Read (Identifier 5)
    ∷ "_.5h" begins Read (Identifier 4)
    ∷ ".a" begins mark Dot
    ∷ "1.a" begins numeral 1 1
    ∷ "0b.1" begins numeral 1 0
    ∷ []

pub dots_known : Agree dots
unfolding open_tokens dots Agree
dots_known = (refl, (refl, (refl, (refl, (refl, (refl, tt))))))

-- By the base rules' names (RULES 14.1) a name ends before its first dot.
pub plain_known : (plain_token (bytes "w12.a equ 5") ≡ Read (Identifier 3)) × (plain_token (bytes "_a1 .b") ≡ Read (Identifier 3))
    × (plain_token (bytes ".a") ≡ mark Dot)
unfolding open_tokens open_dots
plain_known = (refl, refl, refl)

-- By the base rules' order (RULES 14.2) the run's last character is looked at before the letter behind it: 2, 30, Invalid, 1, 29; else the token is the
-- same. One that is too large in both bases is Invalid by both.
pub last_first_known : (last_first_token (bytes "10bh") ≡ numeral 3 2) × (last_first_token (bytes "0abh") ≡ Refused 3 LargerDigit)
    × (last_first_token (bytes "0adH") ≡ stray 48) × (last_first_token (bytes "1bo") ≡ numeral 2 1) × (last_first_token (bytes "29Dh") ≡ numeral 3 29)
    × (last_first_token (bytes "17o") ≡ numeral 3 15) × (last_first_token (bytes "0bh") ≡ numeral 1 0)
    × (last_first_token (bytes "12b") ≡ Refused 3 LargerDigit)
    × (last_first_token (bytes "99999999999dh") ≡ stray 57) × (token_at (bytes "99999999999dh") ≡ stray 57)
unfolding open_tokens open_letters
last_first_known = (refl, refl, refl, refl, refl, refl, refl, refl, refl, refl)

-- A digit's character, as a byte, and what the digit is worth.
pub record Worth : Type 0 where
  pub byte : ℕ
  pub worth : ℕ

infix 80 ◌counts◌
abbrev pub ◌counts◌ : Char → ℕ → Worth
c counts w = record { byte = code c; worth = w }

-- The 22 digit characters.
unfoldable pub worths : List Worth
worths =
    "0" counts 0 ∷ "1" counts 1 ∷ "2" counts 2 ∷ "3" counts 3 ∷ "4" counts 4
    ∷ "5" counts 5 ∷ "6" counts 6 ∷ "7" counts 7 ∷ "8" counts 8 ∷ "9" counts 9
    ∷ "A" counts 10 ∷ "B" counts 11 ∷ "C" counts 12 ∷ "D" counts 13 ∷ "E" counts 14 ∷ "F" counts 15
    ∷ "a" counts 10 ∷ "b" counts 11 ∷ "c" counts 12 ∷ "d" counts 13 ∷ "e" counts 14 ∷ "f" counts 15
    ∷ []

-- the hexadecimal digits among the bytes below n, each with its worth, before ws
unfoldable pub digits_below : ℕ → List Worth → List Worth
digits_below zero ws = ws
digits_below (suc n) ws = digits_below n (if is_hex_digit n then record { byte = n; worth = digit n } ∷ ws else ws)

-- Among all bytes the hexadecimal digits are these 22, and each is worth what stands beside it.
pub worths_known : digits_below 256 [] ≡ worths
unfolding open_text worths digits_below
worths_known = refl
