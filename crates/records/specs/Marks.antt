-- A record's mark, how many fields it has, and a field at a place of bytes.
use Rattle.std.specs.Prelude.{Bool, true, false, List, ℕ, ◌+◌, ◌≡◌, length, take, drop, if◌then◌else◌, Option, Some, None}
use Rattle.lexer.specs.Text.{maybe, bytes}
use Rattle.rules.specs.Records.{form_of, cells}
use Rattle.rules.specs.Decode.{value}
use Rattle.records.specs.declared.marks.Mark.{Mark}
use Rattle.records.specs.declared.marks.Mark.TheVariants as mark

-- The two letters of a mark.
abbrev pub letters_of : Mark → List ℕ
letters_of mark.ST = bytes "ST"
letters_of mark.VC = bytes "VC"
letters_of mark.VL = bytes "VL"
letters_of mark.VI = bytes "VI"
letters_of mark.VS = bytes "VS"
letters_of mark.PF = bytes "PF"
letters_of mark.IN = bytes "IN"
letters_of mark.OR = bytes "OR"
letters_of mark.OS = bytes "OS"
letters_of mark.OI = bytes "OI"
letters_of mark.OF = bytes "OF"
letters_of mark.OD = bytes "OD"
letters_of mark.OX = bytes "OX"
letters_of mark.LL = bytes "LL"
letters_of mark.LI = bytes "LI"
letters_of mark.LD = bytes "LD"
letters_of mark.LC = bytes "LC"
letters_of mark.LT = bytes "LT"

-- Whether a record has the mark m.
unfoldable pub is_known : List ℕ → Bool
unfolding form_of
is_known m = maybe (form_of m) false (λ w. true)

-- What letters are: those of a mark, which a record has; or no record has them.
abbrev pub Marked : List ℕ → Option Mark → Type 0
Marked s None = is_known s ≡ false
Marked s (Some m) = (letters_of m ≡ s) × (is_known s ≡ true)

-- How many fields a record with the mark m has, the count of its data among them; 2 is said of a mark that no record has.
unfoldable pub count_of : List ℕ → ℕ
unfolding form_of cells
count_of m = maybe (form_of m) 2 λ w. length (cells w.holds) + (if w.laden then 1 else 0)

-- The field at a place.
unfoldable pub field_at : List ℕ → ℕ → ℕ
field_at l at = value (take 4 (drop at l))
