-- The token at the head of a source's rest. RULES 2.
use Rattle.std.specs.Prelude.{Bool, true, false, not, ◌&&◌, ◌||◌, List, [], ◌∷◌, ℕ, suc, pred, ◌+◌, eqb, leb, ltb, pos, take, get_or, if◌then◌else◌}
use Prim.Native.Char.{code}
use Rattle.lexer.specs.Text.{is, within, any_of, is_blank, is_digit, is_hex_digit, is_letter, is_word_part, run, all, last, digit, value_from, open_text}
use Rattle.lexer.specs.declared.LiteralKind.TheVariants.{Number, Text}
use Rattle.lexer.specs.declared.PunctuationKind.{PunctuationKind}
use Rattle.lexer.specs.declared.PunctuationKind.TheVariants.{CloseBracket, CloseParenthesis, Colon, Comma, Dollar, Dot, ForwardSlash, Minus, OpenBracket, OpenParenthesis, Plus, Star}
use Rattle.lexer.specs.declared.Token.{Token}
use Rattle.lexer.specs.declared.Token.TheVariants.{Whitespace, Identifier, Literal, Punctuation, Comment, NewLine, EndOfFile, Invalid}
use Rattle.lexer.specs.declared.Fault.{Fault}
use Rattle.lexer.specs.declared.Fault.TheVariants.{LargerDigit, TooLarge}
use Rattle.lexer.specs.declared.TokenRead.{TokenRead}
use Rattle.lexer.specs.declared.TokenRead.TheVariants.{Read, Refused}

unfoldable pub largest : ℕ
largest = 2147483647

-- a literal of n bytes that is the number v
unfoldable pub numeral : ℕ → ℕ → TokenRead
numeral n v = Read (Literal n (Number (pos v)))

-- A byte that no rule takes is a token of its own.
unfoldable pub stray : ℕ → TokenRead
stray c = Read (Invalid 1 c)

-- A prefix takes all digits of its base that stand behind it; where there is none, the token is the zero alone.
-- s is what stands behind the prefix. 31 where the number is above the largest.
unfoldable pub prefixed : ℕ → (ℕ → Bool) → List ℕ → TokenRead
prefixed base is_digit_of s =
    let n : ℕ = run is_digit_of s in
    let v : ℕ = value_from 0 base (take n s) in
    if eqb n 0 then numeral 1 0
    else if leb v largest then numeral (2 + n) v else Refused (2 + n) TooLarge

-- Digits ds in a base, as a literal of n bytes. Where one is none of the base, or the number is above the largest, c alone is Invalid.
unfoldable pub digits : ℕ → ℕ → List ℕ → ℕ → TokenRead
digits c base ds n =
    let v : ℕ = value_from 0 base ds in
    if all (λ d. ltb (digit d) base) ds && leb v largest then numeral n v else stray c

-- A run ds of n hexadecimal digits that begins with c; `cut` is the run without its last character, `after` the character behind it.
-- An o, O, h or H directly behind the run is the suffix, and the run stays whole.
unfoldable pub suffix_behind : ℕ → ℕ → List ℕ → ℕ → TokenRead → TokenRead
suffix_behind c n ds after otherwise =
    if any_of "oO" after then digits c 8 ds (suc n)
    else if any_of "hH" after then digits c 16 ds (suc n)
    else otherwise

-- A last b, B, d or D is the suffix and leaves the run. Binary with a character above `1` is 30.
unfoldable pub suffix_last : ℕ → ℕ → List ℕ → List ℕ → TokenRead → TokenRead
suffix_last c n ds cut otherwise =
    if any_of "bB" (last ds) then (if all (λ d. leb d (code "1")) cut then digits c 2 cut n else Refused n LargerDigit)
    else if any_of "dD" (last ds) then digits c 10 cut n
    else otherwise

-- The letter behind the run is looked at first (RULES 2.5), then its last character; with no suffix the base is 10.
unfoldable pub in_base : ℕ → ℕ → List ℕ → List ℕ → ℕ → TokenRead
in_base c n ds cut after = suffix_behind c n ds after (suffix_last c n ds cut (digits c 10 ds n))

unfoldable pub suffixed : ℕ → List ℕ → TokenRead
suffixed c cs =
    let n : ℕ = run is_hex_digit (c ∷ cs) in
    in_base c n (take n (c ∷ cs)) (take (pred n) (c ∷ cs)) (get_or (c ∷ cs) n 0)

-- The number whose first digit is c, which cs follow; `unprefixed` reads one without a prefix.
unfoldable pub number_with : (ℕ → List ℕ → TokenRead) → ℕ → List ℕ → TokenRead
number_with unprefixed c [] = unprefixed c []
number_with unprefixed c (d ∷ ds) =
    if not (is "0" c) then unprefixed c (d ∷ ds)
    else if is "b" d then prefixed 2 (within "0" "1") ds
    else if is "o" d then prefixed 8 (within "0" "7") ds
    else if is "d" d then prefixed 10 is_digit ds
    else if is "x" d then prefixed 16 is_hex_digit ds
    else unprefixed c (d ∷ ds)

abbrev pub number_at : ℕ → List ℕ → TokenRead
number_at c cs = number_with suffixed c cs

-- A string whose first quote is passed: closed by the next one, or cut off where the line or the source ends.
unfoldable pub in_quotes : ℕ → Bool
in_quotes c = not (is "'" c || is "\n" c)

unfoldable pub string_after : List ℕ → TokenRead
string_after cs =
    let n : ℕ = run in_quotes cs in
    if is "'" (get_or cs n 0) then Read (Literal (n + 2) (Text true)) else Read (Literal (n + 1) (Text false))

-- A comment runs from `;` to before the line feed.
unfoldable pub in_comment : ℕ → Bool
in_comment c = not (is "\n" c)

unfoldable pub mark : PunctuationKind → TokenRead
mark k = Read (Punctuation 1 k)

-- a token of one byte that is no other kind's
unfoldable pub mark_at : ℕ → TokenRead
mark_at c =
    if is ":" c then mark Colon
    else if is "," c then mark Comma
    else if is "$" c then mark Dollar
    else if is "." c then mark Dot
    else if is "[" c then mark OpenBracket
    else if is "]" c then mark CloseBracket
    else if is "(" c then mark OpenParenthesis
    else if is ")" c then mark CloseParenthesis
    else if is "+" c then mark Plus
    else if is "-" c then mark Minus
    else if is "*" c then mark Star
    else if is "/" c then mark ForwardSlash
    else stray c

-- A token, told what a name goes on with and how a number without a prefix is read; these two are others by the base rules (RULES 14; Dots, Letters).
unfoldable pub token_with : (ℕ → Bool) → (ℕ → List ℕ → TokenRead) → List ℕ → TokenRead
token_with part unprefixed [] = Read (EndOfFile 0)
token_with part unprefixed (c ∷ cs) =
    if is ";" c then Read (Comment (suc (run in_comment cs)))
    else if is_blank c then Read (Whitespace (suc (run is_blank cs)))
    else if is_digit c then number_with unprefixed c cs
    else if is_letter c then Read (Identifier (suc (run part cs)))
    else if is "'" c then string_after cs
    else if is "\n" c then Read (NewLine 1)
    else mark_at c

unfoldable pub token_at : List ℕ → TokenRead
token_at s = token_with is_word_part suffixed s

-- A token's length, and that of what is refused.
abbrev pub length_of : Token → ℕ
length_of (Whitespace n) = n
length_of (Identifier n) = n
length_of (Literal n k) = n
length_of (Punctuation n k) = n
length_of (Comment n) = n
length_of (NewLine n) = n
length_of (EndOfFile n) = n
length_of (Invalid n c) = n

abbrev pub size_of : TokenRead → ℕ
size_of (Read t) = length_of t
size_of (Refused n f) = n

-- the numbers of the refusals
abbrev pub fault_number : Fault → ℕ
fault_number LargerDigit = 30
fault_number TooLarge = 31

unfoldable pub open_numbers : Unit {0}
unfolding open_text largest numeral stray prefixed digits suffix_behind suffix_last in_base suffixed number_with
open_numbers = tt

unfoldable pub open_tokens : Unit {0}
unfolding open_numbers in_quotes string_after in_comment mark mark_at token_with token_at
open_tokens = tt
