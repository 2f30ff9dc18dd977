-- The bytes of a field, and the mark of two letters.
-- Assumes nothing.
use Rattle.std.specs.Prelude.{if◌then◌else◌}
use mathlib.Core.Path.{◌≡◌, refl, sym, ap, ◌∙◌}
use mathlib.Core.List.{List, [], ◌∷◌}
use Prim.Native.Nat.{ℕ, ◌+◌, ◌*◌, ◌≤◌}
use native.Mathlib.Omega.{arith}
use native.Mathlib.Nat.{add-zero}
use lib.ListN.{length, take, drop, get_or, length-drop}
use lib.Seq.{get_or-drop}
use Rattle.rules.specs.Decode.{value, nth}
use Rattle.lexer.specs.Text.{bytes, same}
use Rattle.records.specs.declared.marks.Mark.{Mark}
use Rattle.records.specs.declared.marks.Mark.TheVariants as mark
use Rattle.records.specs.Marks.{letters_of, field_at}

four : (u : List ℕ) → 4 ≤ length u → value (take 4 u) ≡ get_or u 0 0 + 256 * (get_or u 1 0 + 256 * (get_or u 2 0 + 256 * get_or u 3 0))
unfolding value
four [] h = absurd (omega arith)
four (a ∷ []) h = absurd (omega arith)
four (a ∷ b ∷ []) h = absurd (omega arith)
four (a ∷ b ∷ c ∷ []) h = absurd (omega arith)
four (a ∷ b ∷ c ∷ d ∷ r) h = omega arith

-- a field's four bytes joined
pub field_joined : (l : List ℕ) (at : ℕ) → at + 4 ≤ length l → field_at l at ≡ get_or l at 0 + 256 * (get_or l (at + 1) 0 + 256 * (get_or l (at + 2) 0 + 256 * get_or l (at + 3) 0))
unfolding field_at
field_joined l at h = four (drop at l) (omega (arith, length-drop at l)) ∙ rw (get_or-drop at l 0 0, get_or-drop at l 1 0, get_or-drop at l 2 0, get_or-drop at l 3 0, add-zero at)

-- the i-th field of bytes is the one at that place
pub field_nth : (i : ℕ) (s : List ℕ) → field_at s (4 * i) ≡ nth i s
unfolding field_at nth
field_nth i s = refl

-- The mark of some letters, if it is among these.
abbrev read : List Mark → List ℕ → Mark
read [] s = mark.LT
read (m ∷ ms) s = if same (letters_of m) s then m else (read ms s)

abbrev marks : List Mark
marks =
    mark.ST ∷ mark.VC ∷ mark.VL ∷ mark.VI ∷ mark.VS ∷ mark.PF ∷ mark.IN ∷ mark.OR ∷ mark.OS ∷ mark.OI ∷ mark.OF ∷ mark.OD ∷ mark.OX ∷ mark.LL ∷ mark.LI ∷ mark.LD ∷ mark.LC ∷ mark.LT ∷ []

read_back : (m : Mark) → read marks (letters_of m) ≡ m
unfolding bytes same
read_back mark.ST = refl
read_back mark.VC = refl
read_back mark.VL = refl
read_back mark.VI = refl
read_back mark.VS = refl
read_back mark.PF = refl
read_back mark.IN = refl
read_back mark.OR = refl
read_back mark.OS = refl
read_back mark.OI = refl
read_back mark.OF = refl
read_back mark.OD = refl
read_back mark.OX = refl
read_back mark.LL = refl
read_back mark.LI = refl
read_back mark.LD = refl
read_back mark.LC = refl
read_back mark.LT = refl

-- a mark is its letters
pub letters_of_lem : (m x : Mark) → letters_of m ≡ letters_of x → m ≡ x
letters_of_lem m x e = sym (read_back m) ∙ ap (read marks) e ∙ read_back x
