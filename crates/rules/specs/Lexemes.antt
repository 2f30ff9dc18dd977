-- The tokens of a source that the reader looks at, each in its place and with its text. RULES 2.1, 4.1.
use Rattle.std.specs.Prelude.{Bool, true, false, List, [], ◌∷◌, ℕ, zero, suc, pred, ◌+◌, ◌-◌, ℤ, pos, negsuc, take, drop, if◌then◌else◌}
use Rattle.std.proofs.Math.Option.{Option, none, some}
use Prim.Native.Char.{code}
use Prim.Native.String.{String}
use Rattle.lexer.specs.Text.{maybe, open_text}
use Rattle.lexer.specs.Tokens.{token_at, size_of, open_tokens}
use Rattle.lexer.specs.declared.LiteralKind.{LiteralKind}
use Rattle.lexer.specs.declared.LiteralKind.TheVariants.{Number, Text}
use Rattle.lexer.specs.declared.PunctuationKind.{PunctuationKind}
use Rattle.lexer.specs.declared.PunctuationKind.TheVariants.{CloseBracket, CloseParenthesis, Colon, Comma, Dollar, Dot, ForwardSlash, Minus, OpenBracket, OpenParenthesis, Plus, Star}
use Rattle.lexer.specs.declared.Token.{Token}
use Rattle.lexer.specs.declared.Token.TheVariants.{Whitespace, Identifier, Literal, Punctuation, Comment, NewLine, EndOfFile, Invalid}
use Rattle.lexer.specs.declared.Fault.{Fault}
use Rattle.lexer.specs.declared.Fault.TheVariants.{LargerDigit, TooLarge}
use Rattle.lexer.specs.declared.TokenRead.{TokenRead}
use Rattle.lexer.specs.declared.TokenRead.TheVariants.{Read, Refused}
use Rattle.names.specs.Names.{named, operation_named, registers, segments, sizes, directives, place_from, spelling, operation_from}

-- What the rules ask of a token.
pub data Kind : Type 0 where
  word : List ℕ → Kind  -- its text
  number : ℕ → Kind
  quoted : Bool → List ℕ → Kind  -- is it closed, and the text between the quotes
  mark : ℕ → Kind  -- a punctuation, by its character
  newline blank comment invalid end : Kind
  bad : Bool → Kind  -- a number that is refused: is it too large (31), or has a binary one a larger digit (30)

abbrev pub character_of : PunctuationKind → ℕ
character_of CloseBracket = code "]"
character_of CloseParenthesis = code ")"
character_of Colon = code ":"
character_of Comma = code ","
character_of Dollar = code "$"
character_of Dot = code "."
character_of ForwardSlash = code "/"
character_of Minus = code "-"
character_of OpenBracket = code "["
character_of OpenParenthesis = code "("
character_of Plus = code "+"
character_of Star = code "*"

-- A literal's number; none is negative.
abbrev pub number_of : ℤ → ℕ
number_of (pos n) = n
number_of (negsuc n) = 0

-- The kind of a literal of n bytes, before which nothing of s stands.
abbrev pub literal_kind : ℕ → LiteralKind → List ℕ → Kind
literal_kind n (Number v) s = number (number_of v)
literal_kind n (Text true) s = quoted true (take (n - 2) (drop 1 s))
literal_kind n (Text false) s = quoted false (take (n - 1) (drop 1 s))

abbrev pub fault_kind : Fault → Kind
fault_kind LargerDigit = bad false
fault_kind TooLarge = bad true

abbrev pub kind_of_token : Token → List ℕ → Kind
kind_of_token (Whitespace n) s = blank
kind_of_token (Identifier n) s = word (take n s)
kind_of_token (Literal n k) s = literal_kind n k s
kind_of_token (Punctuation n k) s = mark (character_of k)
kind_of_token (Comment n) s = comment
kind_of_token (NewLine n) s = newline
kind_of_token (EndOfFile n) s = end
kind_of_token (Invalid n c) s = invalid

-- The kind of the token that stands at the head of s.
abbrev pub kind_of : TokenRead → List ℕ → Kind
kind_of (Read t) s = kind_of_token t s
kind_of (Refused n f) s = fault_kind f

-- A token in its place: its span and its kind.
pub record Lexeme : Type 0 where
  pub from : ℕ
  pub to : ℕ
  pub kind : Kind

-- Whitespace and comments are passed over.
unfoldable pub is_gap : Kind → Bool
is_gap blank = true
is_gap comment = true
is_gap (word w) = false
is_gap (number v) = false
is_gap (quoted b w) = false
is_gap (mark c) = false
is_gap newline = false
is_gap invalid = false
is_gap end = false
is_gap (bad n) = false

-- The token t at the head of s, which stands at place p; and what it adds to the tokens behind it.
unfoldable pub lexeme : ℕ → TokenRead → List ℕ → Lexeme
lexeme p t s = record { from = p; to = p + size_of t; kind = kind_of t s }

unfoldable pub put : ℕ → TokenRead → List ℕ → List Lexeme → List Lexeme
put p t s rest = if is_gap (kind_of t s) then rest else (lexeme p t s ∷ rest)

-- The tokens of the bytes from place p on, by the rule that gives the one at the head of bytes. The first k bytes belong to a token that is
-- already read. The source's end stands among them as a line end of no bytes.
unfoldable pub tokens_by : (List ℕ → TokenRead) → ℕ → ℕ → List ℕ → List Lexeme
tokens_by rule p k [] = record { from = p; to = p; kind = newline } ∷ []
tokens_by rule p (suc k) (c ∷ cs) = tokens_by rule (suc p) k cs
tokens_by rule p zero (c ∷ cs) = let t : TokenRead = rule (c ∷ cs) in put p t (c ∷ cs) (tokens_by rule (suc p) (pred (size_of t)) cs)

abbrev pub tokens_from : ℕ → ℕ → List ℕ → List Lexeme
tokens_from p k s = tokens_by token_at p k s

unfoldable pub tokens : List ℕ → List Lexeme
tokens source = tokens_from 0 0 source

-- The text of a name.
unfoldable pub text_of : Kind → Option (List ℕ)
text_of (word w) = some w
text_of (number v) = none
text_of (quoted b w) = none
text_of (mark c) = none
text_of newline = none
text_of blank = none
text_of comment = none
text_of invalid = none
text_of end = none
text_of (bad n) = none

-- The number of a name among given ones; the operation that it names by a table.
unfoldable pub name_in : List String → Kind → Option ℕ
name_in names k = maybe (text_of k) none (named names)

unfoldable pub operation_in : List ℕ → Kind → Option ℕ
operation_in table k = maybe (text_of k) none (operation_named table)

unfoldable pub open_lexemes : Unit {0}
unfolding open_text open_tokens is_gap lexeme put tokens_by tokens text_of name_in operation_in named operation_named registers segments sizes directives
    place_from spelling operation_from
open_lexemes = tt
