-- A token by its kind, which `scan` gives, and the cursor's answer, which has the token itself.
use Rattle.std.specs.Prelude.{true, false, ℕ, ◌+◌, ◌%◌, pos, nat_abs, Option, None, Some, Result, Ok, Err, if◌then◌else◌}
use Prim.Native.Char.{code}
use Rattle.lexer.specs.Text.{is}
use Rattle.lexer.specs.Tokens.{length_of, size_of, fault_number}
use Rattle.lexer.specs.declared.LiteralKind.TheVariants.{Number, Text}
use Rattle.lexer.specs.declared.PunctuationKind.{PunctuationKind}
use Rattle.lexer.specs.declared.PunctuationKind.TheVariants.{CloseBracket, CloseParenthesis, Colon, Comma, Dollar, Dot, ForwardSlash, Minus, OpenBracket, OpenParenthesis, Plus, Star}
use Rattle.lexer.specs.declared.Token.{Token}
use Rattle.lexer.specs.declared.Token.TheVariants.{Whitespace, Identifier, Literal, Punctuation, Comment, NewLine, EndOfFile, Invalid}
use Rattle.lexer.specs.declared.TokenRead.{TokenRead}
use Rattle.lexer.specs.declared.TokenRead.TheVariants.{Read, Refused}
use Rattle.lexer.specs.declared.Fault.{Fault}
use Rattle.lexer.specs.declared.Fault.TheVariants.{LargerDigit, TooLarge}
use Rattle.lexer.specs.declared.Kind.{Kind}
use Rattle.lexer.specs.declared.Kind.TheVariants as kind
use Rattle.lexer.specs.declared.Scanned.{Scanned}
use Rattle.lexer.specs.declared.Cursor.{Cursor}
use Rattle.lexer.specs.declared.BadNumber.{BadNumber}

-- The number of a kind: that of a punctuation is its character, that of a refused number the refusal's number.
abbrev pub number_of : Kind → ℕ
number_of kind.EndOfFile = 0
number_of kind.NewLine = code "\n"
number_of kind.LargerDigit = fault_number LargerDigit
number_of kind.TooLarge = fault_number TooLarge
number_of kind.Whitespace = code " "
number_of kind.Invalid = code "!"
number_of kind.UnclosedString = code "\""
number_of kind.Dollar = code "$"
number_of kind.ClosedString = code "'"
number_of kind.OpenParenthesis = code "("
number_of kind.CloseParenthesis = code ")"
number_of kind.Star = code "*"
number_of kind.Plus = code "+"
number_of kind.Comma = code ","
number_of kind.Minus = code "-"
number_of kind.Dot = code "."
number_of kind.ForwardSlash = code "/"
number_of kind.Number = code "0"
number_of kind.Colon = code ":"
number_of kind.Comment = code ";"
number_of kind.OpenBracket = code "["
number_of kind.CloseBracket = code "]"
number_of kind.Identifier = code "a"

abbrev pub kind_of_mark : PunctuationKind → Kind
kind_of_mark CloseBracket = kind.CloseBracket
kind_of_mark CloseParenthesis = kind.CloseParenthesis
kind_of_mark Colon = kind.Colon
kind_of_mark Comma = kind.Comma
kind_of_mark Dollar = kind.Dollar
kind_of_mark Dot = kind.Dot
kind_of_mark ForwardSlash = kind.ForwardSlash
kind_of_mark Minus = kind.Minus
kind_of_mark OpenBracket = kind.OpenBracket
kind_of_mark OpenParenthesis = kind.OpenParenthesis
kind_of_mark Plus = kind.Plus
kind_of_mark Star = kind.Star

abbrev pub kind_of_fault : Fault → Kind
kind_of_fault LargerDigit = kind.LargerDigit
kind_of_fault TooLarge = kind.TooLarge

abbrev pub kind_of : TokenRead → Kind
kind_of (Read (Whitespace n)) = kind.Whitespace
kind_of (Read (Identifier n)) = kind.Identifier
kind_of (Read (Literal n (Number v))) = kind.Number
kind_of (Read (Literal n (Text true))) = kind.ClosedString
kind_of (Read (Literal n (Text false))) = kind.UnclosedString
kind_of (Read (Punctuation n k)) = kind_of_mark k
kind_of (Read (Comment n)) = kind.Comment
kind_of (Read (NewLine n)) = kind.NewLine
kind_of (Read (EndOfFile n)) = kind.EndOfFile
kind_of (Read (Invalid n c)) = kind.Invalid
kind_of (Refused n f) = kind_of_fault f

-- A number's value, the byte of an invalid token, and else 0.
abbrev pub value_of : TokenRead → ℕ
value_of (Read (Whitespace n)) = 0
value_of (Read (Identifier n)) = 0
value_of (Read (Literal n (Number v))) = nat_abs v
value_of (Read (Literal n (Text t))) = 0
value_of (Read (Punctuation n k)) = 0
value_of (Read (Comment n)) = 0
value_of (Read (NewLine n)) = 0
value_of (Read (EndOfFile n)) = 0
value_of (Read (Invalid n c)) = c
value_of (Refused n f) = 0

-- what is read at a place, by its kind, and the place behind it
abbrev pub scanned_of : ℕ → TokenRead → Scanned
scanned_of at t = record { kind = kind_of t; value = value_of t; end = at + size_of t }

-- a token of a kind that has no value
abbrev pub plain : Kind → ℕ → Scanned
plain k e = record { kind = k; value = 0; end = e }

-- what the cursor at a place answers: the token and the cursor behind it, or the refusal and its span
abbrev pub next_of : ℕ → TokenRead → Result (Token × Cursor) BadNumber
next_of at (Read t) = Ok (t, record { pos = at + length_of t })
next_of at (Refused n f) = Err (record { fault = f; from = at; to = at + n })

-- the kind of a token that is the byte alone: a line feed or a punctuation
unfoldable pub single : ℕ → Option Kind
single c =
    if is "\n" c then Some kind.NewLine
    else if is ":" c then Some kind.Colon
    else if is "," c then Some kind.Comma
    else if is "$" c then Some kind.Dollar
    else if is "." c then Some kind.Dot
    else if is "[" c then Some kind.OpenBracket
    else if is "]" c then Some kind.CloseBracket
    else if is "(" c then Some kind.OpenParenthesis
    else if is ")" c then Some kind.CloseParenthesis
    else if is "+" c then Some kind.Plus
    else if is "-" c then Some kind.Minus
    else if is "*" c then Some kind.Star
    else if is "/" c then Some kind.ForwardSlash
    else None

-- the token of n bytes that a kind and a value stand for, or why it is refused
unfoldable pub token_of : Kind → ℕ → ℕ → Result Token Fault
token_of kind.EndOfFile value n = Ok (EndOfFile n)
token_of kind.NewLine value n = Ok (NewLine n)
token_of kind.LargerDigit value n = Err LargerDigit
token_of kind.TooLarge value n = Err TooLarge
token_of kind.Whitespace value n = Ok (Whitespace n)
token_of kind.Invalid value n = Ok (Invalid n (value % 256))
token_of kind.UnclosedString value n = Ok (Literal n (Text false))
token_of kind.Dollar value n = Ok (Punctuation n Dollar)
token_of kind.ClosedString value n = Ok (Literal n (Text true))
token_of kind.OpenParenthesis value n = Ok (Punctuation n OpenParenthesis)
token_of kind.CloseParenthesis value n = Ok (Punctuation n CloseParenthesis)
token_of kind.Star value n = Ok (Punctuation n Star)
token_of kind.Plus value n = Ok (Punctuation n Plus)
token_of kind.Comma value n = Ok (Punctuation n Comma)
token_of kind.Minus value n = Ok (Punctuation n Minus)
token_of kind.Dot value n = Ok (Punctuation n Dot)
token_of kind.ForwardSlash value n = Ok (Punctuation n ForwardSlash)
token_of kind.Number value n = Ok (Literal n (Number (pos (value % 2147483648))))
token_of kind.Colon value n = Ok (Punctuation n Colon)
token_of kind.Comment value n = Ok (Comment n)
token_of kind.OpenBracket value n = Ok (Punctuation n OpenBracket)
token_of kind.CloseBracket value n = Ok (Punctuation n CloseBracket)
token_of kind.Identifier value n = Ok (Identifier n)
