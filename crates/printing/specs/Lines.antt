-- The printed listing, RULES 12: each record's line has its mark, its fields in decimal and then its data; a last line counts the records. Of a
-- refusal there is one line, with its five values.
use Rattle.std.specs.Prelude.{◌≡◌, refl, List, [], ◌∷◌, ◌++◌, ℕ, zero, suc, pred, length, take, drop}
use Prim.Native.String.{String}
use Rattle.lexer.specs.Text.{maybe, bytes}
use Rattle.names.specs.Table.{operations, spellings, row, rows_of}
use Rattle.rules.specs.Statements.{present}
use Rattle.rules.specs.Records.{Record, plain, laden, VC, LD, Cell, a_place, a_number, a_signed, cells_of}
use Rattle.rules.specs.Calls.{Result, gives, refuses, full_read, open_calls}
use Rattle.rules.specs.Decode.{record_of}
use Rattle.refusals.specs.Refusals.{Numbers}
use Rattle.rules.specs.Reader.{numbers_of}
use Rattle.text.specs.Text.{decimal, signed, numbers, open_text}

unfoldable pub line : String → List ℕ → List ℕ
line m ns = bytes m ++ numbers ns ++ bytes "\n"

-- A field's text, and that of a record's fields: a value is signed.
abbrev pub field_text : Cell → ℕ → List ℕ
field_text a_place n = decimal n
field_text a_number n = decimal n
field_text a_signed n = signed n

unfoldable pub fields_text : List Cell → List ℕ → List ℕ
fields_text [] ns = numbers ns
fields_text (c ∷ cs) [] = []
fields_text (c ∷ cs) (n ∷ ns) = bytes " " ++ field_text c n ++ fields_text cs ns

unfoldable pub line_of : Record → List ℕ
unfolding cells_of fields_text
line_of (plain m ns) = m ++ fields_text (cells_of m) ns ++ bytes "\n"
line_of (laden m ns d) = m ++ fields_text (cells_of m) ns ++ numbers (length d ∷ d) ++ bytes "\n"

unfoldable pub lines_of : List Record → List ℕ
lines_of [] = []
lines_of (r ∷ rs) = line_of r ++ lines_of rs

unfoldable pub text_of : List Record → List ℕ
text_of rs = lines_of rs ++ line "END" (length rs ∷ [])

unfoldable pub refusal_text : Numbers → List ℕ
refusal_text r = line "REF" (r.number ∷ r.from ∷ r.to ∷ r.first ∷ r.second ∷ [])

-- What is printed of a full read.
unfoldable pub answer_text : Result (List Record) → List ℕ
answer_text (gives rs) = text_of rs
answer_text (refuses c) = refusal_text (numbers_of c)

-- With as many bytes lent for the listing as the buffer l has.
abbrev pub answered : List ℕ → List ℕ → List ℕ
answered s l = answer_text (full_read present s (length l))

-- `listing` lends 65,536 bytes for the listing.
abbrev pub printed : List ℕ → List ℕ
printed input = answer_text (full_read present input 65536)

-- The records that bytes begin with, of which the first k belong to one that is already read. A listing has nothing else.
unfoldable pub records_in : ℕ → List ℕ → List Record
records_in zero [] = []
records_in (suc k) [] = []
records_in (suc k) (c ∷ cs) = records_in k cs
records_in zero (c ∷ cs) = maybe (record_of (take 2 (c ∷ cs)) (drop 2 (c ∷ cs))) [] λ r. r.what ∷ records_in (pred r.size) cs

unfoldable pub open_lines : Unit {0}
unfolding open_text line line_of lines_of text_of refusal_text answer_text
open_lines = tt

-- The rules' sample, from its source to what is printed; then LD's bytes and a negative value.
sample : printed (bytes "k equ 2\n") ≡ bytes "ST 0\nLL 0 1\nST 2\nVC 6 7 2\nLC 2 7\nEND 5\n"
unfolding open_lines open_calls spellings row rows_of operations
sample = refl

more : line_of (LD 0 8 (112 ∷ 17 ∷ [])) ++ line_of (VC 70 1000 4294967295) ≡ bytes "LD 0 8 2 112 17\nVC 70 1000 -1\n"
unfolding open_lines
more = refl
