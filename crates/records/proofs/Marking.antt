-- What a mark says of its record: how many fields it has, whether it has data or begins a statement, and which fields are places.
-- Assumes nothing.
use Rattle.std.specs.Prelude.{if◌then◌else◌}
use mathlib.Core.Path.{◌≡◌, refl, sym, ap, ◌∙◌}
use mathlib.Core.Bool.{Bool, true, false, ◌||◌, true≢false, false≢true}
use mathlib.Core.List.{List, [], ◌∷◌, map}
use mathlib.Core.Option.{Option, none, some}
use Prim.Native.Nat.{ℕ, ◌+◌, ◌≤◌}
use native.Mathlib.Omega.{arith}
use borrow.Author.Tests.{eqb-true}
use lib.Dec.{eqb}
use lib.ListN.{length, get_or}
use Rattle.lexer.specs.Text.{maybe, bytes, same}
use Rattle.rules.specs.Records.{Role, a_statement, a_times, an_expression, an_operand, a_line, Form, form_of, Cell, a_place, a_number, a_signed, cells, cells_of}
use Rattle.rules.specs.Patch.{begins_from}
use Rattle.rules.proofs.Forms.{same_true, found}
use Rattle.records.specs.declared.marks.Mark.{Mark}
use Rattle.records.specs.declared.marks.Mark.TheVariants as mark
use Rattle.records.specs.Marks.{letters_of, is_known, count_of}

pub or_other : (b c : Bool) → b || c ≡ true → (b ≡ true → ⊥) → c ≡ true
or_other true c h n = absurd (n refl)
or_other false c h n = h

-- its fields and their count, of a record that has a description
pub cells_are : (m : List ℕ) (w : Form) → form_of m ≡ some w → cells_of m ≡ cells w.holds
unfolding cells_of
cells_are m w e = rw e

pub count_of_lem : (m : List ℕ) (w : Form) → form_of m ≡ some w → count_of m ≡ length (cells w.holds) + (if w.laden then 1 else 0)
unfolding count_of
count_of_lem m w e = rw e

-- a mark that is known has a description, and one that is not has none
pub known_none : (m : List ℕ) → is_known m ≡ false → form_of m ≡ none
unfolding is_known
known_none m h = go (form_of m) h
  where
    go : (o : Option Form) → maybe o false (λ w. true) ≡ false → o ≡ none
    go none e = refl
    go (some w) e = absurd (true≢false e)

pub known_some : (m : List ℕ) → form_of m ≡ none → is_known m ≡ true → ⊥
unfolding is_known
known_some m e h = false≢true (sym (ap (λ (o : Option Form). maybe o false (λ w. true)) e) ∙ h)

-- a record whose letters are none of these has two fields; so has, by definition, one that is not there
abbrev others : List (List ℕ)
others = map bytes ("ST" ∷ "VC" ∷ "PF" ∷ "IN" ∷ "OR" ∷ "OS" ∷ "OD" ∷ "OX" ∷ "LI" ∷ "LD" ∷ [])

unfoldable pub one_of_these : List ℕ → List (List ℕ) → Bool
one_of_these m [] = false
one_of_these m (x ∷ xs) = same m x || one_of_these m xs

pub two_others : (m : List ℕ) → one_of_these m others ≡ false → 2 ≡ count_of m
unfolding count_of form_of cells one_of_these
two_others m n = go (form_of m) refl
  where
    go : (o : Option Form) → form_of m ≡ o → 2 ≡ count_of m
    go none e = rw e
    go (some w) e =
        let (t, j) = found (λ v. one_of_these (bytes v.mark) others || eqb (length (cells v.holds) + (if v.laden then 1 else 0)) 2) m w refl e in
        sym (count_of_lem m w e ∙ eqb-true _ 2 (or_other (one_of_these (bytes w.mark) others) _ t (λ i. true≢false (sym i ∙ ap (λ (k : List ℕ). one_of_these k others) (sym j) ∙ n))))

-- only ST has fewer than two
unfoldable two_cells : List Cell → Bool
two_cells [] = false
two_cells (c ∷ []) = false
two_cells (c ∷ d ∷ cs) = true

pub two_fields : (m : List ℕ) (w : Form) → form_of m ≡ some w → (m ≡ bytes "ST" → ⊥) → 2 ≤ length (cells w.holds)
unfolding form_of cells two_cells
two_fields m w e n =
    let (h, j) = found (λ v. same (bytes v.mark) (bytes "ST") || two_cells (cells v.holds)) m w refl e in
    by (cells w.holds) (or_other (same (bytes w.mark) (bytes "ST")) _ h (λ i. n (j ∙ same_true (bytes w.mark) (bytes "ST") i)))
  where
    by : (cs : List Cell) → two_cells cs ≡ true → 2 ≤ length cs
    by [] h = absurd (false≢true h)
    by (c ∷ []) h = absurd (false≢true h)
    by (c ∷ d ∷ cs) h = omega arith

-- only LD has data, and only ST begins a statement
pub data_mark : (m : List ℕ) (w : Form) → form_of m ≡ some w → w.laden ≡ true → m ≡ bytes "LD"
unfolding form_of
data_mark m w e i =
    let (h, j) = found (λ v. if v.laden then (same (bytes v.mark) (bytes "LD")) else true) m w refl e in
    j ∙ same_true (bytes w.mark) (bytes "LD") (rw i at h)

unfoldable only_st : Role → List ℕ → Bool
only_st a_statement m = same m (bytes "ST")
only_st a_times m = true
only_st (an_expression n) m = true
only_st (an_operand n) m = true
only_st (a_line n o) m = true

pub start_mark : (a : ℕ) (m : List ℕ) (w : Form) (vs : List ℕ) → form_of m ≡ some w → (m ≡ bytes "ST" → ⊥) → begins_from a w.role vs ≡ false
unfolding form_of only_st
start_mark a m w vs e n = let (h, j) = found (λ v. only_st v.role (bytes v.mark)) m w refl e in by w.role h (λ i. n (j ∙ same_true (bytes w.mark) (bytes "ST") i))
  where
    by : (r : Role) → only_st r (bytes w.mark) ≡ true → (same (bytes w.mark) (bytes "ST") ≡ true → ⊥) → begins_from a r vs ≡ false
    by a_statement h f = absurd (f h)
    by a_times h f = refl
    by (an_expression k) h f = refl
    by (an_operand k) h f = refl
    by (a_line k o) h f = refl

-- The fields of the others that are places are the first two.
unfoldable pub no_place : List Cell → Bool
no_place [] = true
no_place (a_place ∷ cs) = false
no_place (a_number ∷ cs) = no_place cs
no_place (a_signed ∷ cs) = no_place cs

unfoldable span_first : List Cell → Bool
span_first [] = false
span_first (a_place ∷ []) = false
span_first (a_place ∷ a_place ∷ cs) = no_place cs
span_first (a_place ∷ a_number ∷ cs) = false
span_first (a_place ∷ a_signed ∷ cs) = false
span_first (a_number ∷ cs) = false
span_first (a_signed ∷ cs) = false

pub record Spanned (cs : List Cell) : Type 0 where
  pub rest : List Cell
  pub so : cs ≡ a_place ∷ a_place ∷ rest
  pub none' : no_place rest ≡ true

spanned : (cs : List Cell) → span_first cs ≡ true → Spanned cs
unfolding span_first
spanned [] h = absurd (false≢true h)
spanned (a_place ∷ []) h = absurd (false≢true h)
spanned (a_place ∷ a_place ∷ cs) h = record { rest = cs; so = refl; none' = h }
spanned (a_place ∷ a_number ∷ cs) h = absurd (false≢true h)
spanned (a_place ∷ a_signed ∷ cs) h = absurd (false≢true h)
spanned (a_number ∷ cs) h = absurd (false≢true h)
spanned (a_signed ∷ cs) h = absurd (false≢true h)

pub other_marks : (m : List ℕ) (w : Form) → form_of m ≡ some w → (m ≡ bytes "LT" → ⊥) → (m ≡ bytes "ST" → ⊥) → (m ≡ bytes "LI" → ⊥) → Spanned (cells w.holds)
unfolding form_of cells span_first no_place
other_marks m w e lt st li =
    let (h, j) = found (λ v. same (bytes v.mark) (bytes "LT") || (same (bytes v.mark) (bytes "ST") || (same (bytes v.mark) (bytes "LI") || span_first (cells v.holds)))) m w refl e in
    let a : List ℕ = bytes w.mark in
    spanned (cells w.holds) (or_other (same a (bytes "LI")) _
    (or_other (same a (bytes "ST")) _
    (or_other (same a (bytes "LT")) _ h (λ i. lt (j ∙ same_true a (bytes "LT") i))) (λ i. st (j ∙ same_true a (bytes "ST") i))) (λ i. li (j ∙ same_true a (bytes "LI") i)))

-- a mark's letters, one by one
pub two_letters : (m : Mark) → get_or (letters_of m) 0 0 ∷ get_or (letters_of m) 1 0 ∷ [] ≡ letters_of m
unfolding bytes
two_letters mark.ST = refl
two_letters mark.VC = refl
two_letters mark.VL = refl
two_letters mark.VI = refl
two_letters mark.VS = refl
two_letters mark.PF = refl
two_letters mark.IN = refl
two_letters mark.OR = refl
two_letters mark.OS = refl
two_letters mark.OI = refl
two_letters mark.OF = refl
two_letters mark.OD = refl
two_letters mark.OX = refl
two_letters mark.LL = refl
two_letters mark.LI = refl
two_letters mark.LD = refl
two_letters mark.LC = refl
two_letters mark.LT = refl
