-- What holds of every description of a record, and so of the one that a mark has; and the fields that the check lets pass.
use Rattle.std.specs.Prelude.{if◌then◌else◌}
use mathlib.Core.Path.{◌≡◌, refl, ap, ap₂, ◌∙◌, subst}
use mathlib.Core.Bool.{Bool, true, false, not, ◌&&◌, true≢false, false≢true}
use mathlib.Core.List.{List, [], ◌∷◌}
use mathlib.Core.Option.{Option, none, some}
use Prim.Native.Nat.{ℕ, ◌≤◌, ◌<◌}
use native.Mathlib.Omega.{arith}
use lib.Dec.{eqb, leb, ltb}
use lib.ListN.{length}
use borrow.Author.Tests.{eqb-true, leb-true, ltb-true}
use Rattle.lexer.specs.Text.{maybe, bytes, same}
use Rattle.lexer.proofs.Branches.{and_split}
use Rattle.rules.specs.Records.{Field, start, span, value, below, Role, a_statement, a_times, an_expression, an_operand, a_line, Form, forms, form_in, form_of, Record, plain, laden, mark_of, fields_of, Cell, cells}
use Rattle.rules.specs.WellFormed.{Stack, spans, given, ranges, in_range, makes, checked}

pub same_true : (a b : List ℕ) → same a b ≡ true → a ≡ b
unfolding same
same_true [] [] h = refl
same_true [] (c ∷ t) h = absurd (false≢true h)
same_true (c ∷ s) [] h = absurd (false≢true h)
same_true (c ∷ s) (d ∷ t) h = go (eqb c d) refl h (λ e. same_true s t e)
  where
    go : (b : Bool) → eqb c d ≡ b → (if b then (same s t) else false) ≡ true → (same s t ≡ true → s ≡ t) → c ∷ s ≡ d ∷ t
    go true e i again = ap₂ ◌∷◌ (eqb-true c d e) (again i)
    go false e i again = absurd (false≢true i)

abbrev pub is_laden : Record → Bool
is_laden (plain m ns) = false
is_laden (laden m ns d) = true

abbrev pub data_of : Record → List ℕ
data_of (plain m ns) = []
data_of (laden m ns d) = d

-- A test that every description passes.
abbrev pub every : (Form → Bool) → List Form → Bool
every p [] = true
every p (w ∷ ws) = p w && every p ws

abbrev Found : (Form → Bool) → List ℕ → Option Form → Type 0
Found p m none = Unit {0}
Found p m (some w) = (p w ≡ true) × (m ≡ bytes w.mark)

found_in : (p : Form → Bool) (ws : List Form) (m : List ℕ) → every p ws ≡ true → Found p m (form_in ws m)
unfolding form_in
found_in p [] m h = tt
found_in p (w ∷ ws) m h = go (same m (bytes w.mark)) refl (found_in p ws m (and_split (p w) (every p ws) h).1)
  where
    go : (b : Bool) → same m (bytes w.mark) ≡ b → Found p m (form_in ws m) → Found p m (if b then (some w) else (form_in ws m))
    go true e i = ((and_split (p w) (every p ws) h).0, same_true m (bytes w.mark) e)
    go false e i = i

in_forms : (m : List ℕ) → form_in forms m ≡ form_of m
unfolding form_of
in_forms m = refl

pub found : (p : Form → Bool) (m : List ℕ) (w : Form) → every p forms ≡ true → form_of m ≡ some w → (p w ≡ true) × (m ≡ bytes w.mark)
found p m w h e = subst (Found p m) (in_forms m ∙ e) (found_in p forms m h)

-- A mark is two letters.
lettered : Form → Bool
unfolding bytes
lettered w = eqb (length (bytes w.mark)) 2

-- A bound fits four bytes.
unfoldable pub bounded : List Field → Bool
bounded [] = true
bounded (start ∷ hs) = bounded hs
bounded (span ∷ hs) = bounded hs
bounded (value ∷ hs) = bounded hs
bounded (below b ∷ hs) = leb b 4294967296 && bounded hs

-- One that has data holds a span besides; one that begins a statement holds its place.
only_span : List Field → Bool
only_span [] = false
only_span (span ∷ []) = true
only_span (span ∷ h ∷ hs) = false
only_span (start ∷ hs) = false
only_span (value ∷ hs) = false
only_span (below b ∷ hs) = false

only_start : List Field → Bool
only_start [] = false
only_start (start ∷ []) = true
only_start (start ∷ h ∷ hs) = false
only_start (span ∷ hs) = false
only_start (value ∷ hs) = false
only_start (below b ∷ hs) = false

starting : Role → List Field → Bool
starting a_statement hs = only_start hs
starting a_times hs = true
starting (an_expression m) hs = true
starting (an_operand m) hs = true
starting (a_line m o) hs = true

-- THE DESCRIPTION OF A MARK.
pub two_letters : (m : List ℕ) (w : Form) → form_of m ≡ some w → (c : ℕ) × (d : ℕ) × (m ≡ c ∷ d ∷ [])
unfolding form_of lettered
two_letters m w e = let (h, i) = found lettered m w refl e in by m (ap length i ∙ eqb-true (length (bytes w.mark)) 2 h)
  where
    by : (m : List ℕ) → length m ≡ 2 → (c : ℕ) × (d : ℕ) × (m ≡ c ∷ d ∷ [])
    by [] h = absurd (omega arith)
    by (c ∷ []) h = absurd (omega arith)
    by (c ∷ d ∷ []) h = (c, d, refl)
    by (c ∷ d ∷ x ∷ m) h = absurd (omega arith)

has_cell : List Cell → Bool
has_cell [] = false
has_cell (c ∷ cs) = true

pub some_field : (m : List ℕ) (w : Form) → form_of m ≡ some w → 1 ≤ length (cells w.holds)
unfolding form_of cells has_cell
some_field m w e = by (cells w.holds) (found (λ v. has_cell (cells v.holds)) m w refl e).0
  where
    by : (cs : List Cell) → has_cell cs ≡ true → 1 ≤ length cs
    by [] h = absurd (false≢true h)
    by (c ∷ cs) h = omega arith

pub bounds : (m : List ℕ) (w : Form) → form_of m ≡ some w → bounded w.holds ≡ true
unfolding form_of bounded
bounds m w e = (found (λ v. bounded v.holds) m w refl e).0

pub loads : (m : List ℕ) (w : Form) → form_of m ≡ some w → w.laden ≡ true → w.holds ≡ span ∷ []
unfolding form_of only_span
loads m w e i = by w.laden w.holds (found (λ v. if v.laden then (only_span v.holds) else true) m w refl e).0 i
  where
    by : (b : Bool) (hs : List Field) → (if b then (only_span hs) else true) ≡ true → b ≡ true → hs ≡ span ∷ []
    by false hs h i = absurd (false≢true i)
    by true [] h i = absurd (false≢true h)
    by true (span ∷ []) h i = refl
    by true (span ∷ x ∷ hs) h i = absurd (false≢true h)
    by true (start ∷ hs) h i = absurd (false≢true h)
    by true (value ∷ hs) h i = absurd (false≢true h)
    by true (below b ∷ hs) h i = absurd (false≢true h)

pub starts : (m : List ℕ) (w : Form) → form_of m ≡ some w → w.role ≡ a_statement → w.holds ≡ start ∷ []
unfolding form_of starting only_start
starts m w e i = by w.role w.holds (found (λ v. starting v.role v.holds) m w refl e).0 i
  where
    alone : (hs : List Field) → only_start hs ≡ true → hs ≡ start ∷ []
    alone [] h = absurd (false≢true h)
    alone (start ∷ []) h = refl
    alone (start ∷ x ∷ hs) h = absurd (false≢true h)
    alone (span ∷ hs) h = absurd (false≢true h)
    alone (value ∷ hs) h = absurd (false≢true h)
    alone (below b ∷ hs) h = absurd (false≢true h)

    by : (r : Role) (hs : List Field) → starting r hs ≡ true → r ≡ a_statement → hs ≡ start ∷ []
    by r hs h i = alone hs (rw i at h)

-- THE FIELDS, where they are in range.
module _ (n : ℕ) (k : Stack) where
  abbrev pub Within : List Field → List ℕ → Type 0
  Within [] [] = Unit {0}
  Within [] (v ∷ vs) = ⊥
  Within (start ∷ hs) [] = ⊥
  Within (start ∷ hs) (p ∷ vs) = (k.floor ≤ p) × (p ≤ n) × Within hs vs
  Within (span ∷ hs) [] = ⊥
  Within (span ∷ hs) (f ∷ []) = ⊥
  Within (span ∷ hs) (f ∷ t ∷ vs) = (k.place ≤ f) × (f ≤ t) × (t ≤ n) × Within hs vs
  Within (value ∷ hs) [] = ⊥
  Within (value ∷ hs) (v ∷ vs) = Within hs vs
  Within (below m ∷ hs) [] = ⊥
  Within (below m ∷ hs) (v ∷ vs) = (v < m) × Within hs vs

  pub within : (b : Bool) (hs : List Field) (vs : List ℕ) → ranges n k b hs vs ≡ true → (b ≡ true) × Within hs vs
  unfolding ranges spans
  within b [] [] h = (h, tt)
  within b [] (v ∷ vs) h = absurd (false≢true h)
  within b (start ∷ hs) [] h = absurd (false≢true h)
  within b (start ∷ hs) (p ∷ vs) h =
      let (c, i) = within (b && (leb k.floor p && leb p n)) hs vs h in
      let (d, e) = and_split b (leb k.floor p && leb p n) c in
      let (x, y) = and_split (leb k.floor p) (leb p n) e in
      (d, (leb-true k.floor p x, leb-true p n y, i))
  within b (span ∷ hs) [] h = absurd (false≢true h)
  within b (span ∷ hs) (f ∷ []) h = absurd (false≢true h)
  within b (span ∷ hs) (f ∷ t ∷ vs) h =
      let (c, i) = within (b && spans n k f t) hs vs h in
      let (d, e) = and_split b (spans n k f t) c in
      let (x, y) = and_split (leb k.place f && leb f t) (leb t n) e in
      let (u, v) = and_split (leb k.place f) (leb f t) x in
      (d, (leb-true k.place f u, leb-true f t v, leb-true t n y, i))
  within b (value ∷ hs) [] h = absurd (false≢true h)
  within b (value ∷ hs) (v ∷ vs) h = within b hs vs h
  within b (below m ∷ hs) [] h = absurd (false≢true h)
  within b (below m ∷ hs) (v ∷ vs) h =
      let (c, i) = within (b && ltb v m) hs vs h in
      let (d, e) = and_split b (ltb v m) c in
      (d, (ltb-true v m e, i))

  -- as many as are described
  pub within_count : (hs : List Field) (vs : List ℕ) → Within hs vs → length vs ≡ length (cells hs)
  unfolding cells
  within_count [] [] h = refl
  within_count [] (v ∷ vs) h = absurd h
  within_count (start ∷ hs) [] h = absurd h
  within_count (start ∷ hs) (p ∷ vs) h = omega (arith, within_count hs vs h.2)
  within_count (span ∷ hs) [] h = absurd h
  within_count (span ∷ hs) (f ∷ []) h = absurd h
  within_count (span ∷ hs) (f ∷ t ∷ vs) h = omega (arith, within_count hs vs h.3)
  within_count (value ∷ hs) [] h = absurd h
  within_count (value ∷ hs) (v ∷ vs) h = omega (arith, within_count hs vs h)
  within_count (below m ∷ hs) [] h = absurd h
  within_count (below m ∷ hs) (v ∷ vs) h = omega (arith, within_count hs vs h.1)

-- WHAT THE CHECK LETS PASS: the record has a description, its fields are in range, and the stack behind it is what its role makes.
pub record Taken (n : ℕ) (k : Stack) (r : Record) (k' : Stack) : Type 0 where
  pub described : Form
  pub so : form_of (mark_of r) ≡ some described
  pub fits : in_range n k described r ≡ true
  pub made : makes k described.role (fields_of r) ≡ some k'

pub taken : (n : ℕ) (k : Stack) (r : Record) {k' : Stack} → checked n k r ≡ some k' → Taken n k r k'
unfolding checked given
taken n k r {k'} e = go (form_of (mark_of r)) refl e
  where
    test : (w : Form) (b : Bool) → form_of (mark_of r) ≡ some w → in_range n k w r ≡ b → given b (makes k w.role (fields_of r)) ≡ some k' → Taken n k r k'
    test w true f i j = record { described = w; so = f; fits = i; made = j }
    test w false f i j = absurd (true≢false cc)

    go : (o : Option Form) → form_of (mark_of r) ≡ o → maybe o none (λ w. given (in_range n k w r) (makes k w.role (fields_of r))) ≡ some k' → Taken n k r k'
    go none f i = absurd (true≢false cc)
    go (some w) f i = test w (in_range n k w r) f refl i

pub fields_within : {n : ℕ} {k k' : Stack} (r : Record) (q : Taken n k r k') → Within n k q.described.holds (fields_of r)
unfolding in_range
fields_within {n} {k} (plain m vs) q = (within n k (not q.described.laden) q.described.holds vs q.fits).1
fields_within {n} {k} (laden m vs d) q =
    let w : Form = q.described in
    (within n k w.laden w.holds vs (and_split (ranges n k w.laden w.holds vs) (ltb 0 (length d)) q.fits).0).1
