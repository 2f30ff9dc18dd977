-- The records of a listing, and their bytes. RULES 8.1, 8.2; children precede parents, and `f t` is the span.
use Rattle.std.specs.Prelude.{Bool, true, false, List, [], ◌∷◌, ◌++◌, ℕ, ◌/◌, ◌%◌, length, if◌then◌else◌}
use Rattle.std.proofs.Math.Option.{Option, none, some}
use Prim.Native.String.{String}
use Rattle.lexer.specs.Text.{maybe, bytes, same, open_text}

-- What a record holds: the place of a statement's first token, a span, a number below a bound, or a number whose 32 bits are read as signed
-- (Claims: ValuesFit; `printing`: `signed`).
pub data Field : Type 0 where
  start span value : Field
  below : (bound : ℕ) → Field

-- A number that is fixed, or that a field tells.
pub data Count : Type 0 where
  fixed told : ℕ → Count

-- What a record makes of those before it: it begins a statement; so many expressions become one, or an operand; it ends a line of so many
-- expressions and operands; or it is `times`, whose count is one expression.
pub data Role : Type 0 where
  a_statement a_times : Role
  an_expression : (expressions : ℕ) → Role
  an_operand : (expressions : Count) → Role
  a_line : (expressions : ℕ) (operands : Count) → Role

-- The description of a record: its mark, what it holds, whether a count of 1 or more and as many bytes follow, and its role.
pub record Form : Type 0 where
  pub mark : String
  pub holds : List Field
  pub laden : Bool
  pub role : Role

unfoldable pub form : String → List Field → Role → Form
form m hs r = record { mark = m; holds = hs; laden = false; role = r }

unfoldable pub form_with_data : String → List Field → Role → Form
form_with_data m hs r = record { mark = m; holds = hs; laden = true; role = r }

-- THE RECORDS, each described once: decoding, moving, the check (41) and the printing follow from it.
unfoldable pub forms : List Form
forms =
    form "ST" (start ∷ []) a_statement  -- a statement
    ∷ form "VC" (span ∷ value ∷ []) (an_expression 0)  -- a number
    ∷ form "VL" (span ∷ []) (an_expression 0)  -- a name
    ∷ form "VI" (span ∷ []) (an_expression 0)  -- `$`
    ∷ form "VS" (span ∷ []) (an_expression 0)  -- `$$`
    ∷ form "PF" (span ∷ below 2 ∷ []) (an_expression 1)  -- prefix: 0 +, 1 -
    ∷ form "IN" (span ∷ below 4 ∷ []) (an_expression 2)  -- infix: 0 +, 1 -, 2 *, 3 /
    ∷ form "OR" (span ∷ below 16 ∷ []) (an_operand (fixed 0))  -- byte registers 0 to 7, word registers 8 to 15
    ∷ form "OS" (span ∷ below 4 ∷ []) (an_operand (fixed 0))  -- es, cs, ss, ds: 0 to 3
    ∷ form "OI" (span ∷ []) (an_operand (fixed 1))  -- immediate
    ∷ form "OF" (span ∷ []) (an_operand (fixed 2))  -- far
    -- direct; size 0 none, 1 byte, 2 word; segment 0 none, else 1 more than its number
    ∷ form "OD" (span ∷ below 3 ∷ below 5 ∷ []) (an_operand (fixed 1))
    -- indirect: encoding, has-displacement, size, segment
    ∷ form "OX" (span ∷ below 8 ∷ below 2 ∷ below 3 ∷ below 5 ∷ []) (an_operand (told 3))
    ∷ form "LL" (span ∷ []) (a_line 0 (fixed 0))  -- label
    -- instruction: operation, the operands' count and span
    ∷ form "LI" (span ∷ below 99 ∷ below 3 ∷ span ∷ []) (a_line 0 (told 3))
    ∷ form_with_data "LD" (span ∷ []) (a_line 0 (fixed 0))  -- data
    ∷ form "LC" (span ∷ []) (a_line 1 (fixed 0))  -- constant
    ∷ form "LT" (below 1 ∷ below 1 ∷ []) a_times  -- `times`: 0 0
    ∷ []

unfoldable pub form_in : List Form → List ℕ → Option Form
form_in [] m = none
form_in (w ∷ ws) m = let r : Option Form = form_in ws m in if same m (bytes w.mark) then (some w) else r

-- The description of the record with the mark m.
unfoldable pub form_of : List ℕ → Option Form
unfolding form form_with_data forms form_in same bytes
form_of m = form_in forms m

-- A record is its mark, its fields, and the data of one that has any.
pub data Record : Type 0 where
  plain : (mark numbers : List ℕ) → Record
  laden : (mark numbers data' : List ℕ) → Record

abbrev pub mark_of : Record → List ℕ
mark_of (plain m ns) = m
mark_of (laden m ns d) = m

abbrev pub fields_of : Record → List ℕ
fields_of (plain m ns) = ns
fields_of (laden m ns d) = ns

-- Their names, with their fields in the order of the description.
abbrev pub ST : (place : ℕ) → Record
ST p = plain (bytes "ST") (p ∷ [])

abbrev pub VC : (f t value : ℕ) → Record
VC f t v = plain (bytes "VC") (f ∷ t ∷ v ∷ [])

abbrev pub VL : (f t : ℕ) → Record
VL f t = plain (bytes "VL") (f ∷ t ∷ [])

abbrev pub VI : (f t : ℕ) → Record
VI f t = plain (bytes "VI") (f ∷ t ∷ [])

abbrev pub VS : (f t : ℕ) → Record
VS f t = plain (bytes "VS") (f ∷ t ∷ [])

abbrev pub PF : (f t op : ℕ) → Record
PF f t o = plain (bytes "PF") (f ∷ t ∷ o ∷ [])

abbrev pub IN : (f t op : ℕ) → Record
IN f t o = plain (bytes "IN") (f ∷ t ∷ o ∷ [])

abbrev pub OR : (f t register : ℕ) → Record
OR f t r = plain (bytes "OR") (f ∷ t ∷ r ∷ [])

abbrev pub OS : (f t segment : ℕ) → Record
OS f t s = plain (bytes "OS") (f ∷ t ∷ s ∷ [])

abbrev pub OI : (f t : ℕ) → Record
OI f t = plain (bytes "OI") (f ∷ t ∷ [])

abbrev pub OF : (f t : ℕ) → Record
OF f t = plain (bytes "OF") (f ∷ t ∷ [])

abbrev pub OD : (f t size segment : ℕ) → Record
OD f t z s = plain (bytes "OD") (f ∷ t ∷ z ∷ s ∷ [])

abbrev pub OX : (f t encoding displacement size segment : ℕ) → Record
OX f t e d z s = plain (bytes "OX") (f ∷ t ∷ e ∷ d ∷ z ∷ s ∷ [])

abbrev pub LL : (f t : ℕ) → Record
LL f t = plain (bytes "LL") (f ∷ t ∷ [])

abbrev pub LI : (f t operation count f' t' : ℕ) → Record
LI f t o n f' t' = plain (bytes "LI") (f ∷ t ∷ o ∷ n ∷ f' ∷ t' ∷ [])

abbrev pub LD : (f t : ℕ) (data' : List ℕ) → Record
LD f t d = laden (bytes "LD") (f ∷ t ∷ []) d

abbrev pub LC : (f t : ℕ) → Record
LC f t = plain (bytes "LC") (f ∷ t ∷ [])

abbrev pub LT : Record
LT = plain (bytes "LT") (0 ∷ 0 ∷ [])

-- Fields are 4 bytes, low first.
unfoldable pub field : ℕ → List ℕ
field n = n % 256 ∷ n / 256 % 256 ∷ n / 65536 % 256 ∷ n / 16777216 % 256 ∷ []

unfoldable pub fields : List ℕ → List ℕ
fields [] = []
fields (n ∷ ns) = field n ++ fields ns

-- Each record opens with a two-letter mark; the count of its data is its last field.
unfoldable pub encode : Record → List ℕ
encode (plain m ns) = m ++ fields ns
encode (laden m ns d) = m ++ fields (ns ++ (length d ∷ [])) ++ d

-- The bytes of records, one behind the other.
unfoldable pub listing : List Record → List ℕ
listing [] = []
listing (r ∷ rs) = encode r ++ listing rs

-- What each field of 4 bytes is: a span is two.
pub data Cell : Type 0 where
  a_place a_number a_signed : Cell

unfoldable pub cells : List Field → List Cell
cells [] = []
cells (start ∷ hs) = a_place ∷ cells hs
cells (span ∷ hs) = a_place ∷ a_place ∷ cells hs
cells (value ∷ hs) = a_signed ∷ cells hs
cells (below b ∷ hs) = a_number ∷ cells hs

unfoldable pub cells_of : List ℕ → List Cell
unfolding form_of cells
cells_of m = maybe (form_of m) [] (λ w. cells w.holds)

-- Places moved by a map of them.
abbrev pub move_cell : (ℕ → ℕ) → Cell → ℕ → ℕ
move_cell f a_place n = f n
move_cell f a_number n = n
move_cell f a_signed n = n

unfoldable pub move_cells : (ℕ → ℕ) → List Cell → List ℕ → List ℕ
move_cells f [] ns = ns
move_cells f (c ∷ cs) [] = []
move_cells f (c ∷ cs) (n ∷ ns) = move_cell f c n ∷ move_cells f cs ns

unfoldable pub move_record : (ℕ → ℕ) → Record → Record
unfolding cells_of move_cells
move_record f (plain m ns) = plain m (move_cells f (cells_of m) ns)
move_record f (laden m ns d) = laden m (move_cells f (cells_of m) ns) d

-- The places of a record, which are what is moved.
abbrev pub place_in : Cell → ℕ → List ℕ
place_in a_place n = n ∷ []
place_in a_number n = []
place_in a_signed n = []

unfoldable pub places_in : List Cell → List ℕ → List ℕ
places_in [] ns = []
places_in (c ∷ cs) [] = []
places_in (c ∷ cs) (n ∷ ns) = place_in c n ++ places_in cs ns

unfoldable pub places : Record → List ℕ
unfolding cells_of places_in
places r = places_in (cells_of (mark_of r)) (fields_of r)

unfoldable pub open_records : Unit {0}
unfolding open_text field fields encode listing move_record places
open_records = tt
