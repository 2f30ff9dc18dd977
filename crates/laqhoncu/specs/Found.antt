-- Tokens and names as the numbers that Rust and C take.
use Rattle.std.specs.Prelude.{ℕ, ◌+◌, true, false, ℤ, pos, Option, Some, None, Result, Ok, Err, unwrap_or}
use Rattle.lexer.specs.Scanned.{number_of, kind_of_mark, kind_of_fault}
use Rattle.lexer.specs.declared.Kind.{Kind}
use Rattle.lexer.specs.declared.Kind.TheVariants as kind
use Rattle.lexer.specs.declared.LiteralKind.{LiteralKind}
use Rattle.lexer.specs.declared.LiteralKind.TheVariants.{Number, Text}
use Rattle.lexer.specs.declared.Token.{Token}
use Rattle.lexer.specs.declared.Token.TheVariants.{Whitespace, Identifier, Literal, Punctuation, Comment, NewLine, EndOfFile, Invalid}
use Rattle.lexer.specs.declared.Cursor.{Cursor}
use Rattle.lexer.specs.declared.BadNumber.{BadNumber}
use Rattle.names.specs.declared.Name.{Name}
use Rattle.names.specs.declared.Name.TheVariants.{Register, Segment, Size}
use Rattle.names.specs.declared.Directive.{Directive}
use Rattle.names.specs.declared.Directive.TheVariants.{Equ, Db, Dw, Times}
use Rattle.laqhoncu.specs.declared.TokenFound.{TokenFound}

abbrev pub found : Kind → ℤ → ℕ → TokenFound
found k value end = record { kind = number_of k; value = value; end = end }

-- a token of a kind that needs no value
abbrev pub plain : Kind → ℕ → TokenFound
plain k end = found k (pos 0) end

abbrev pub literal_found : LiteralKind → ℕ → TokenFound
literal_found (Number v) end = found kind.Number v end
literal_found (Text true) end = plain kind.ClosedString end
literal_found (Text false) end = plain kind.UnclosedString end

-- A token that ends at a place: its kind byte, a punctuation's being its character; a number's value, an invalid token's byte, and else 0.
abbrev pub token_found : Token → ℕ → TokenFound
token_found (Whitespace n) end = plain kind.Whitespace end
token_found (Identifier n) end = plain kind.Identifier end
token_found (Literal n k) end = literal_found k end
token_found (Punctuation n k) end = plain (kind_of_mark k) end
token_found (Comment n) end = plain kind.Comment end
token_found (NewLine n) end = plain kind.NewLine end
token_found (EndOfFile n) end = plain kind.EndOfFile end
token_found (Invalid n c) end = found kind.Invalid (pos c) end

-- What the cursor answers. A refused number's kind is the refusal's number, 30 or 31.
abbrev pub next_found : Result (Token × Cursor) BadNumber → TokenFound
next_found (Ok (t, c)) = token_found t c.pos
next_found (Err bad) = plain (kind_of_fault bad.fault) bad.to

-- The operation that a word names, or 255.
abbrev pub operation_byte : Option ℕ → ℕ
operation_byte n = unwrap_or n 255

-- registers from 0 on, segments from 256 on, sizes from 512 on, and 65535 where it names none of these
abbrev pub name_number : Option Name → ℕ
name_number (Some (Register n)) = n
name_number (Some (Segment n)) = 256 + n
name_number (Some (Size n)) = 512 + n
name_number None = 65535

-- the directive that a word names, or 255
abbrev pub directive_byte : Option Directive → ℕ
directive_byte (Some Equ) = 0
directive_byte (Some Db) = 1
directive_byte (Some Dw) = 2
directive_byte (Some Times) = 3
directive_byte None = 255
