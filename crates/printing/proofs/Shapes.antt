-- Which record stands behind a mark, and its line.
use Rattle.std.specs.Prelude.{if◌then◌else◌}
use Prim.Native.Nat.{ℕ, ◌+◌, ◌-◌, ◌*◌, ◌≤◌, ◌<◌}
use mathlib.Core.Path.{◌≡◌, refl, sym, ap, ◌∙◌}
use mathlib.Core.Bool.{Bool, true, false, ◌||◌, false≢true}
use mathlib.Core.List.{List, [], ◌∷◌, ◌++◌, append_assoc, append-nil}
use mathlib.Core.Option.{Option, none, some}
use native.Mathlib.Omega.{arith}
use lib.ListN.{length, take, drop, get_or, length-drop, length-take, length-append}
use lib.Seq.{length-take-le, take_all}
use borrow.Author.Tests.{lt-leb, le-leb}
use Rattle.lexer.specs.Text.{bytes, same}
use Rattle.rules.specs.Records.{Form, form_of, plain, VC, LD, Cell, a_place, a_number, a_signed, cells, cells_of}
use Rattle.rules.specs.Decode.{nth, nths_from, having, data_at, formed, record_of}
use Rattle.rules.proofs.Forms.{same_true, found, two_letters as letters_two}
use Rattle.records.specs.declared.marks.Mark.{Mark}
use Rattle.records.specs.declared.marks.Mark.TheVariants as mark
use Rattle.records.specs.Marks.{letters_of, is_known, count_of}
use Rattle.records.proofs.Fields.{letters_of_lem}
use Rattle.records.proofs.Marking.{cells_are, count_of_lem, known_none, known_some, or_other, data_mark}
use Rattle.text.specs.declared.Text.{Text}
use Rattle.text.specs.Text.{decimal, signed, numbers, Put}
use Rattle.printing.specs.Lines.{fields_text, line_of}
use Rattle.printing.specs.Shapes.{nths, Lined, Printed}
use Rattle.text.proofs.Puts.{numbers_append}

-- A RECORD THAT IS NOT THERE: it has no description, or its bytes end too soon.
pub no_record : (m s : List ℕ) → form_of m ≡ none → record_of m s ≡ none
unfolding record_of
no_record m s e = rw e

pub not_known : (m s : List ℕ) → is_known m ≡ false → record_of m s ≡ none
not_known m s e = no_record m s (known_none m e)

of_form : (m s : List ℕ) (w : Form) → form_of m ≡ some w → record_of m s ≡ formed m s w
unfolding record_of
of_form m s w e = rw e

pub too_short : (m s : List ℕ) → length s < 4 * count_of m → record_of m s ≡ none
unfolding formed having data_at
too_short m s h = go (form_of m) refl
  where
    by : (w : Form) (b : Bool) → w.laden ≡ b → let n : ℕ = length (cells w.holds) in length s < 4 * (n + (if b then 1 else 0))
        → (if b then (data_at n m s) else (having n s (plain m (nths_from 0 n s)))) ≡ none
    by w true e i = let n : ℕ = length (cells w.holds) in rw (lt-leb (4 * n + 4 + nth n s) (length s) (omega arith))
    by w false e i = let n : ℕ = length (cells w.holds) in rw (lt-leb (4 * n) (length s) (omega arith))

    go : (o : Option Form) → form_of m ≡ o → record_of m s ≡ none
    go none e = no_record m s e
    go (some w) e = of_form m s w e ∙ by w w.laden refl (rw (count_of_lem m w e) at h)

-- one letter alone, or none
pub no_mark : (s : List ℕ) → length s < 2 → record_of (take 2 s) (drop 2 s) ≡ none
no_mark s h = go (form_of (take 2 s)) refl
  where
    go : (o : Option Form) → form_of (take 2 s) ≡ o → record_of (take 2 s) (drop 2 s) ≡ none
    go none e = no_record (take 2 s) (drop 2 s) e
    go (some w) e = let (c, d, i) = letters_two (take 2 s) w e in absurd (omega (arith, ap length i, length-take 2 s))

-- THE TEXT OF THE FIELDS: numbers, where none is signed.
unfoldable no_signed : List Cell → Bool
no_signed [] = true
no_signed (a_place ∷ cs) = no_signed cs
no_signed (a_number ∷ cs) = no_signed cs
no_signed (a_signed ∷ cs) = false

plain_text : (cs : List Cell) (ns : List ℕ) → no_signed cs ≡ true → fields_text cs ns ≡ numbers ns
unfolding fields_text numbers no_signed
plain_text [] ns h = refl
plain_text (c ∷ cs) [] h = refl
plain_text (a_place ∷ cs) (n ∷ ns) h = ap (λ (t : List ℕ). bytes " " ++ decimal n ++ t) (plain_text cs ns h)
plain_text (a_number ∷ cs) (n ∷ ns) h = ap (λ (t : List ℕ). bytes " " ++ decimal n ++ t) (plain_text cs ns h)
plain_text (a_signed ∷ cs) (n ∷ ns) h = absurd (false≢true h)

-- only VC has a value
only_value : (m : List ℕ) (w : Form) → form_of m ≡ some w → (m ≡ bytes "VC" → ⊥) → no_signed (cells w.holds) ≡ true
unfolding form_of cells no_signed
only_value m w e n =
    let (h, j) = found (λ v. same (bytes v.mark) (bytes "VC") || no_signed (cells v.holds)) m w refl e in
    or_other (same (bytes w.mark) (bytes "VC")) _ h (λ i. n (j ∙ same_true (bytes w.mark) (bytes "VC") i))

unlike : {x k : Mark} {m : List ℕ} → letters_of k ≡ m → (x ≡ k → ⊥) → letters_of x ≡ m → ⊥
unlike {x} {k} h n e = n (letters_of_lem x k (e ∙ sym h))

-- VC
value_text : (f t v : ℕ) → fields_text (a_place ∷ a_place ∷ a_signed ∷ []) (f ∷ t ∷ v ∷ []) ≡ numbers (f ∷ t ∷ []) ++ bytes " " ++ signed v
unfolding fields_text numbers bytes
value_text f t v =
    let x : List ℕ = 32 ∷ signed v in
    let e : numbers (f ∷ t ∷ []) ++ x ≡ 32 ∷ (decimal f ++ (32 ∷ (decimal t ++ x))) =
    ap (λ (y : List ℕ). 32 ∷ y) (append_assoc (decimal f) (32 ∷ (decimal t ++ [])) x ∙ ap (λ (y : List ℕ). decimal f ++ (32 ∷ y)) (append_assoc (decimal t) [] x)) in
    ap (λ (y : List ℕ). 32 ∷ (decimal f ++ (32 ∷ (decimal t ++ (32 ∷ y))))) (append-nil (signed v)) ∙ sym e ∙ sym (append_assoc (numbers (f ∷ t ∷ [])) (32 ∷ []) (signed v))

pub value_there : (s : List ℕ) → 12 ≤ length s → Lined (letters_of mark.VC) s 12 (numbers (nths 2 s) ++ bytes " " ++ signed (nth 2 s))
unfolding record_of formed having line_of nths_from bytes
value_there s h = record {
  what = VC (nth 0 s) (nth 1 s) (nth 2 s);
  there = rw (le-leb 12 (length s) h);
  fits = h;
  said = ap (λ (t : List ℕ). 86 ∷ 67 ∷ (t ++ bytes "\n")) (value_text (nth 0 s) (nth 1 s) (nth 2 s));
}

-- VC and LD have three fields
pub value_fields : {m : Mark} {n l : ℕ} → m ≡ mark.VC → n ≡ count_of (letters_of m) → 4 * n ≤ l → 12 ≤ l
unfolding count_of
value_fields e f h = let n = f ∙ ap (λ (x : Mark). count_of (letters_of x)) e in omega arith

pub data_fields : {m : Mark} {n l : ℕ} → m ≡ mark.LD → n ≡ count_of (letters_of m) → 4 * n ≤ l → 12 ≤ l
unfolding count_of
data_fields e f h = let n = f ∙ ap (λ (x : Mark). count_of (letters_of x)) e in omega arith

-- LD, whose bytes are as many as it says
pub data_there : (s : List ℕ) (n : ℕ) → n ≡ nth 2 s → 12 + n ≤ length s → Lined (letters_of mark.LD) s (12 + n) (numbers (nths 3 s) ++ numbers (take n (drop 12 s)))
unfolding record_of formed data_at line_of nths_from no_signed bytes
data_there s n e h =
    let d : List ℕ = take n (drop 12 s) in
    let k : length d ≡ n = length-take-le n (drop 12 s) (omega (arith, length-drop 12 s)) in
    record {
      what = LD (nth 0 s) (nth 1 s) d;
      there = rw (← e, le-leb (12 + n) (length s) h);
      fits = h;
      said = rw (k, ← e) (said (nth 0 s) (nth 1 s) n d);
    }
  where
    said : (f t n : ℕ) (d : List ℕ) → (76 ∷ 68 ∷ []) ++ fields_text (a_place ∷ a_place ∷ []) (f ∷ t ∷ []) ++ numbers (n ∷ d) ++ bytes "\n" ≡ (76 ∷ 68 ∷ []) ++ (numbers (f ∷ t ∷ n ∷ []) ++ numbers d) ++ bytes "\n"
    said f t n d =
        let a : fields_text (a_place ∷ a_place ∷ []) (f ∷ t ∷ []) ++ numbers (n ∷ d) ≡ numbers (f ∷ t ∷ n ∷ []) ++ numbers d =
        ap (λ (x : List ℕ). x ++ numbers (n ∷ d)) (plain_text (a_place ∷ a_place ∷ []) (f ∷ t ∷ []) refl) ∙ sym (numbers_append (f ∷ t ∷ []) (n ∷ d)) ∙ numbers_append (f ∷ t ∷ n ∷ []) d in
        ap (λ (x : List ℕ). 76 ∷ 68 ∷ (x ++ bytes "\n")) a

pub no_data : (s : List ℕ) → length s < 12 + nth 2 s → record_of (letters_of mark.LD) s ≡ none
unfolding record_of formed data_at
no_data s h = rw (lt-leb (12 + nth 2 s) (length s) h)

-- the others
plainly : (m s : List ℕ) (w : Form) (n : ℕ) → w.laden ≡ false → length (cells w.holds) ≡ n → 4 * n ≤ length s → formed m s w ≡ some (record { what = plain m (nths n s); size = 2 + 4 * n })
unfolding formed having
plainly m s w n i k h = rw (i, k, le-leb (4 * n) (length s) h)

line_is : (m ns : List ℕ) → no_signed (cells_of m) ≡ true → line_of (plain m ns) ≡ m ++ numbers ns ++ bytes "\n"
unfolding line_of
line_is m ns h = ap (λ (t : List ℕ). m ++ t ++ bytes "\n") (plain_text (cells_of m) ns h)

pub fields_there : (x : Mark) (n : ℕ) (s : List ℕ) → n ≡ count_of (letters_of x) → is_known (letters_of x) ≡ true → 4 * n ≤ length s → (x ≡ mark.VC → ⊥) → (x ≡ mark.LD → ⊥) → Lined (letters_of x) s (4 * n) (numbers (nths n s))
unfolding bytes
fields_there x n s e z h vc ld = go (form_of (letters_of x)) refl
  where
    go : (o : Option Form) → form_of (letters_of x) ≡ o → Lined (letters_of x) s (4 * n) (numbers (nths n s))
    go none f = absurd (known_some (letters_of x) f z)
    go (some w) f = by w.laden refl
      where
        by : (b : Bool) → w.laden ≡ b → Lined (letters_of x) s (4 * n) (numbers (nths n s))
        by true i = absurd (unlike refl ld (data_mark (letters_of x) w f i))
        by false i =
            let k : n ≡ length (cells w.holds) = e ∙ count_of_lem (letters_of x) w f ∙ rw i (omega arith) in
            record {
              what = plain (letters_of x) (nths n s);
              there = of_form (letters_of x) s w f ∙ plainly (letters_of x) s w n i (sym k) h;
              fits = h;
              said = line_is (letters_of x) (nths n s) (rw (cells_are (letters_of x) w f) (only_value (letters_of x) w f (unlike refl vc)));
            }

-- the record at the head of s, with its mark
pub printed : (s : List ℕ) (size : ℕ) (text : List ℕ) {t t' : Text} → 2 ≤ length s → length text ≤ 6 * size + 9 → Lined (take 2 s) (drop 2 s) size text
    → Put (take 2 s ++ text ++ bytes "\n") t t' → Printed s (2 + size) t t'
unfolding bytes
printed s size text h k d x =
    record {
      what = d.what;
      there = d.there;
      long = omega arith;
      fits = omega (arith, d.fits, length-drop 2 s);
      short = rw d.said (omega (arith, length-append (take 2 s ++ text) (bytes "\n"), length-append (take 2 s) text, length-take 2 s));
      wrote = rw d.said x;
    }

pub two_letters : (s : List ℕ) → 2 ≤ length s → take 2 s ≡ get_or s 0 0 ∷ get_or s 1 0 ∷ []
two_letters [] h = absurd (omega arith)
two_letters (a ∷ []) h = absurd (omega arith)
two_letters (a ∷ b ∷ s) h = refl

-- a slice from a place on is the rest
pub tail : (k : ℕ) (s : List ℕ) → take (length s - k) (drop k s) ≡ drop k s
tail k s = take_all (length s - k) (drop k s) (omega (arith, length-drop k s))

pub whole_line : (s : List ℕ) (f : List ℕ → List ℕ) → 2 ≤ length s → (get_or s 0 0 ∷ get_or s 1 0 ∷ f (take (length s - 2) (drop 2 s))) ++ bytes "\n" ≡ take 2 s ++ f (drop 2 s) ++ bytes "\n"
whole_line s f h = rw (tail 2 s, two_letters s h)
