-- The walks over the records of a listing: to the first statement from a place on, and moving each where it stands.
-- Assumes nothing.
use mathlib.Core.Path.{◌≡◌, refl, sym, ap, ap₂, ◌∙◌}
use mathlib.Core.Bool.{true, false, false≢true}
use mathlib.Core.List.{List, [], ◌∷◌, ◌++◌, append_assoc, append-nil}
use mathlib.Core.Option.{some}
use Prim.Native.Nat.{ℕ, ◌+◌, ◌-◌, ◌≤◌, zero-le}
use native.Mathlib.Omega.{arith}
use lib.ListN.{length, take, drop, take-append-drop, length-append, drop_of_length-le}
use lib.Seq.{take_at, drop_at, drop-drop, take_all, length-take-le}
use Rattle.lexer.specs.Text.{bytes}
use Rattle.rules.specs.Records.{Record, plain, laden, mark_of, fields_of, Cell, a_place, a_number, a_signed, cells, cells_of, field, fields, encode, listing, move_cells, move_record}
use Rattle.rules.specs.Decode.{value, records_from, decode}
use Rattle.rules.specs.Patch.{statement_from, records_below, records_on}
use Rattle.rules.proofs.Decoded.{AllLow, Ranged, value_field, tail_of, parts}
use Rattle.rules.proofs.PatchBytes.{length_moved}
use Rattle.records.specs.Writes.{stores}
use Rattle.records.specs.declared.marks.Mark.{Mark}
use Rattle.records.specs.declared.marks.Mark.TheVariants as M
use Rattle.records.specs.Marks.{letters_of, field_at}
use Rattle.records.specs.Moves.{records_at, Decodes, First, record_at, Opens, move_field, moved_bytes}
use Rattle.records.proofs.Writes.{stores_room, stores_length}
use Rattle.records.proofs.Marking.{cells_are, no_place, Spanned, other_marks}
use Rattle.records.proofs.Listed.{records_are, decodes}
use Rattle.records.proofs.OneRecord.{Stands, stands, marked, letter_not}

-- ONE RECORD MOVED IN ITS PLACE.
module _ (q p : ℕ) where
  -- a field behind what stands before the record and what stands before it in the record
  at_field : (X P B C : List ℕ) (n : ℕ) → length X + length P ≡ n → length B ≡ 4 → move_field q p (X ++ (P ++ (B ++ C))) n ≡ X ++ (P ++ (field (value B + q - p) ++ C))
  unfolding move_field field_at field
  at_field X P B C n e k =
      let Y : List ℕ = X ++ P in
      let l : List ℕ = Y ++ (B ++ C) in
      let F : List ℕ = field (value B + q - p) in
      let y : length Y ≡ n = length-append X P ∙ e in
      let d : drop n l ≡ B ++ C = drop_at Y (B ++ C) n y in
      let v : value (take 4 (drop n l)) ≡ value B = ap value (ap (take 4) d ∙ take_at B C 4 k) in
      let u : drop (n + 4) l ≡ C = sym (drop-drop 4 n l) ∙ ap (drop 4) d ∙ drop_at B C 4 k in
      let t : take n l ≡ Y = take_at Y (B ++ C) n y in
      ap (λ (s : List ℕ). move_field q p s n) (sym (append_assoc X P (B ++ C)))
      ∙ stores_room l n (field (value (take 4 (drop n l)) + q - p)) (omega (arith, length-append Y (B ++ C), length-append B C))
      ∙ (λ i. t i ++ field (v i + q - p) ++ u i)
      ∙ append_assoc Y F C ∙ append_assoc X P (F ++ C)

  one_field : (X P C : List ℕ) (k n : ℕ) → value (field k) ≡ k → length X + length P ≡ n → move_field q p (X ++ (P ++ (field k ++ C))) n ≡ X ++ (P ++ (field (k + q - p) ++ C))
  unfolding field
  one_field X P C k n h e = at_field X P (field k) C n e refl ∙ ap (λ (j : ℕ). X ++ (P ++ (field (j + q - p) ++ C))) h

  -- fields moved one after the other, the first k behind the place
  unfoldable moved_at : List Cell → List ℕ → ℕ → ℕ → List ℕ
  moved_at [] l at k = l
  moved_at (a_place ∷ cs) l at k = moved_at cs (move_field q p l (at + k)) at (k + 4)
  moved_at (a_number ∷ cs) l at k = moved_at cs l at (k + 4)
  moved_at (a_signed ∷ cs) l at k = moved_at cs l at (k + 4)

  passed_by : (cs : List Cell) (l : List ℕ) (at k : ℕ) → no_place cs ≡ true → moved_at cs l at k ≡ l
  unfolding moved_at no_place
  passed_by [] l at k h = refl
  passed_by (a_place ∷ cs) l at k h = absurd (false≢true h)
  passed_by (a_number ∷ cs) l at k h = passed_by cs l at (k + 4) h
  passed_by (a_signed ∷ cs) l at k h = passed_by cs l at (k + 4) h

  abbrev shift : ℕ → ℕ
  shift k = k + q - p

  -- behind a field that is passed
  later : (cs : List Cell) (vs X Y : List ℕ) (u at k : ℕ) → moved_at cs ((X ++ field u) ++ (fields vs ++ Y)) at (k + 4) ≡ (X ++ field u) ++ (fields (move_cells shift cs vs) ++ Y)
      → moved_at cs (X ++ (field u ++ (fields vs ++ Y))) at (k + 4) ≡ X ++ ((field u ++ fields (move_cells shift cs vs)) ++ Y)
  later cs vs X Y u at k h =
      let m : List ℕ = fields (move_cells shift cs vs) in
      ap (λ (l : List ℕ). moved_at cs l at (k + 4)) (sym (append_assoc X (field u) (fields vs ++ Y))) ∙ h ∙ append_assoc X (field u) (m ++ Y) ∙ ap (λ (s : List ℕ). X ++ s) (sym (append_assoc (field u) m Y))

  moved_there : (cs : List Cell) (vs X Y : List ℕ) (at k : ℕ) → length X ≡ at + k → AllLow vs → length vs ≡ length cs
      → moved_at cs (X ++ (fields vs ++ Y)) at k ≡ X ++ (fields (move_cells shift cs vs) ++ Y)
  unfolding moved_at move_cells fields field
  moved_there [] [] X Y at k e h n = refl
  moved_there [] (v ∷ vs) X Y at k e h n = absurd (omega arith)
  moved_there (c ∷ cs) [] X Y at k e h n = absurd (omega arith)
  moved_there (a_place ∷ cs) (v ∷ vs) X Y at k e h n =
      ap (λ (l : List ℕ). moved_at cs l at (k + 4)) (ap (λ (s : List ℕ). move_field q p (X ++ s) (at + k)) (append_assoc (field v) (fields vs) Y) ∙ one_field X [] (fields vs ++ Y) v (at + k) (value_field v h.0) (omega arith))
      ∙ later cs vs X Y (shift v) at k (moved_there cs vs (X ++ field (shift v)) Y at (k + 4) (omega (arith, length-append X (field (shift v)))) h.1 (omega arith))
  moved_there (a_number ∷ cs) (v ∷ vs) X Y at k e h n =
      ap (λ (s : List ℕ). moved_at cs (X ++ s) at (k + 4)) (append_assoc (field v) (fields vs) Y) ∙ later cs vs X Y v at k (moved_there cs vs (X ++ field v) Y at (k + 4) (omega (arith, length-append X (field v))) h.1 (omega arith))
  moved_there (a_signed ∷ cs) (v ∷ vs) X Y at k e h n =
      ap (λ (s : List ℕ). moved_at cs (X ++ s) at (k + 4)) (append_assoc (field v) (fields vs) Y) ∙ later cs vs X Y v at k (moved_there cs vs (X ++ field v) Y at (k + 4) (omega (arith, length-append X (field v))) h.1 (omega arith))

  -- the record's bytes, and those of the moved one
  moved_parts : (f : ℕ → ℕ) (r : Record) → encode (move_record f r) ≡ mark_of r ++ (fields (move_cells f (cells_of (mark_of r)) (fields_of r)) ++ tail_of r)
  unfolding move_record
  moved_parts f (plain m vs) = parts (plain m (move_cells f (cells_of m) vs))
  moved_parts f (laden m vs d) = parts (laden m (move_cells f (cells_of m) vs) d)

  moved_bytes_lem : (r : Record) → Ranged r → (X Y : List ℕ) (at : ℕ) → length X ≡ at → length (mark_of r) ≡ 2
      → moved_at (cells_of (mark_of r)) (X ++ (encode r ++ Y)) at 2 ≡ X ++ (encode (move_record shift r) ++ Y)
  moved_bytes_lem r g X Y at e n =
      let m : List ℕ = mark_of r in
      let vs : List ℕ = fields_of r in
      let cs : List Cell = cells_of m in
      let c : cs ≡ cells g.described.holds = cells_are m g.described g.so in
      ap (λ (l : List ℕ). moved_at cs l at 2) (among X Y m (fields vs) (tail_of r) (parts r))
      ∙ moved_there cs vs (X ++ m) (tail_of r ++ Y) at 2 (omega (arith, length-append X m)) g.low (g.many ∙ sym (ap length c))
      ∙ sym (among X Y m (fields (move_cells shift cs vs)) (tail_of r) (moved_parts shift r))
    where
      among : (X Y m b t : List ℕ) {e : List ℕ} → e ≡ m ++ (b ++ t) → X ++ (e ++ Y) ≡ (X ++ m) ++ (b ++ (t ++ Y))
      among X Y m b t h =
          ap (λ (s : List ℕ). X ++ (s ++ Y)) h ∙ ap (λ (s : List ℕ). X ++ s) (append_assoc m (b ++ t) Y ∙ ap (λ (s : List ℕ). m ++ s) (append_assoc b t Y)) ∙ sym (append_assoc X m (b ++ (t ++ Y)))

  module _ {l : List ℕ} {at : ℕ} {mark : Mark} (o : Opens l at mark) where
    -- the moved record among the other bytes
    stored : stores l at (encode (move_record shift (record_at l at))) ≡ take at l ++ (encode (move_record shift (record_at l at)) ++ listing (stands o).rest)
    stored =
        let w : Stands l at = stands o in
        let r : Record = record_at l at in
        let E : List ℕ = encode (move_record shift r) in
        let n : length E ≡ length (encode r) = length_moved shift r in
        let d : drop (at + length E) l ≡ listing w.rest = sym (drop-drop (length E) at l) ∙ ap (drop (length E)) w.bytes' ∙ drop_at (encode r) (listing w.rest) (length E) (sym n) in
        stores_room l at E (omega (arith, w.fits)) ∙ ap (λ (s : List ℕ). take at l ++ E ++ s) d ∙ append_assoc (take at l) E (listing w.rest)

    record_moved : (cs : List Cell) → cells_of (letters_of mark) ≡ cs → moved_at cs l at 2 ≡ stores l at (encode (move_record shift (record_at l at)))
    record_moved cs c =
        let w : Stands l at = stands o in
        let r : Record = record_at l at in
        let s : l ≡ take at l ++ (encode r ++ listing w.rest) = sym (take-append-drop at l) ∙ ap (λ (x : List ℕ). take at l ++ x) w.bytes' in
        ap₂ (λ (d : List Cell) (x : List ℕ). moved_at d x at 2) (sym (ap cells_of (marked o) ∙ c)) s
        ∙ moved_bytes_lem r w.ranged (take at l) (listing w.rest) at (length-take-le at l (omega (arith, o.there))) (ap length w.letters) ∙ sym stored

    pub moved_times : mark ≡ M.LT → l ≡ stores l at (encode (move_record shift (record_at l at)))
    unfolding moved_at cells_of
    moved_times e = record_moved (a_number ∷ a_number ∷ []) (ap (λ (m : Mark). cells_of (letters_of m)) e)

    pub moved_statement : mark ≡ M.ST → move_field q p l (at + 2) ≡ stores l at (encode (move_record shift (record_at l at)))
    unfolding moved_at cells_of
    moved_statement e = record_moved (a_place ∷ []) (ap (λ (m : Mark). cells_of (letters_of m)) e)

    pub moved_line : mark ≡ M.LI → move_field q p (move_field q p (move_field q p (move_field q p l (at + 2)) (at + 6)) (at + 18)) (at + 22) ≡ stores l at (encode (move_record shift (record_at l at)))
    unfolding moved_at cells_of
    moved_line e = record_moved (a_place ∷ a_place ∷ a_number ∷ a_number ∷ a_place ∷ a_place ∷ []) (ap (λ (m : Mark). cells_of (letters_of m)) e)

    pub others_span : (mark ≡ M.LT → ⊥) → (mark ≡ M.ST → ⊥) → (mark ≡ M.LI → ⊥) → Spanned (cells_of (letters_of mark))
    unfolding bytes
    others_span lt st li =
        let w : Stands l at = stands o in
        let m : List ℕ = mark_of (record_at l at) in
        rw (← (marked o), cells_are m w.ranged.described w.ranged.so) (other_marks m w.ranged.described w.ranged.so (letter_not o lt) (letter_not o st) (letter_not o li))

    pub moved_spans : (mark ≡ M.LT → ⊥) → (mark ≡ M.ST → ⊥) → (mark ≡ M.LI → ⊥) → move_field q p (move_field q p l (at + 2)) (at + 6) ≡ stores l at (encode (move_record shift (record_at l at)))
    unfolding moved_at
    moved_spans lt st li =
        let s : Spanned (cells_of (letters_of mark)) = others_span lt st li in
        sym (passed_by s.rest (move_field q p (move_field q p l (at + 2)) (at + 6)) at 10 s.none') ∙ record_moved (a_place ∷ a_place ∷ s.rest) s.so

-- TO THE FIRST STATEMENT: at i, what is below and from there on is settled by the records from i on.
pub record Passes (l : List ℕ) (from a i : ℕ) : Type 0 where
  pub decodes' : Decodes l i
  pub below : from + length (listing (records_below a (records_at l from))) ≡ i + length (listing (records_below a (records_at l i)))
  pub on : records_on a (records_at l from) ≡ records_on a (records_at l i)

pub passes_first : {l : List ℕ} {from : ℕ} (a : ℕ) → Decodes l from → Passes l from a from
passes_first a d = record { decodes' = d; below = refl; on = refl }

module _ {l : List ℕ} {from a i : ℕ} (c : Passes l from a i) where
  -- no record is left
  pub passes_end : length l ≤ i → First l from a i
  unfolding decode records_from records_below records_on listing
  passes_end h =
      let n : drop i l ≡ [] = drop_of_length-le l h in
      let e : records_at l i ≡ [] = records_are l i (ap decode n) in
      record {
        below = sym (c.below ∙ ap (λ (rs : List Record). i + length (listing (records_below a rs))) e ∙ omega arith);
        on = ap decode n ∙ ap some (sym (c.on ∙ ap (records_on a) e));
      }

  module _ {mark : Mark} (o : Opens l i mark) where
    -- the record is the statement
    pub passes_found : true ≡ statement_from a (record_at l i) → First l from a i
    unfolding records_below records_on listing
    passes_found s =
        let w : Stands l i = stands o in
        let b : records_below a (records_at l i) ≡ [] = ap (records_below a) w.all ∙ rw (sym s) in
        let f : records_on a (records_at l i) ≡ records_at l i = ap (records_on a) w.all ∙ rw (sym s) (sym w.all) in
        record {
          below = sym (c.below ∙ ap (λ (rs : List Record). i + length (listing rs)) b ∙ omega arith);
          on = c.decodes'.so ∙ ap some (sym (c.on ∙ f));
        }

    -- it is not
    pub passes_again : false ≡ statement_from a (record_at l i) → Passes l from a (i + length (encode (record_at l i)))
    unfolding records_below records_on listing
    passes_again s =
        let w : Stands l i = stands o in
        let r : Record = record_at l i in
        let n : ℕ = length (encode r) in
        let e : records_at l (i + n) ≡ w.rest = records_are l (i + n) w.behind in
        let b : records_below a (records_at l i) ≡ r ∷ records_below a w.rest = ap (records_below a) w.all ∙ rw (sym s) in
        let f : records_on a (records_at l i) ≡ records_on a w.rest = ap (records_on a) w.all ∙ rw (sym s) in
        record {
          decodes' = decodes l (i + n) w.behind;
          below = c.below ∙ ap (λ (rs : List Record). i + length (listing rs)) b ∙ omega (arith, length-append (encode r) (listing (records_below a w.rest))) ∙ ap (λ (rs : List Record). i + n + length (listing (records_below a rs))) (sym e);
          on = c.on ∙ f ∙ ap (records_on a) (sym e);
        }

-- MOVING EACH RECORD: at i, the bytes before it are moved, and those from it on are still the old ones.
pub record Moved (q p : ℕ) (l₀ l : List ℕ) (i : ℕ) : Type 0 where
  pub old : Decodes l₀ i
  pub within : i ≤ length l₀
  pub long : length l ≡ length l₀
  pub tail : drop i l ≡ drop i l₀
  pub moved : take i l ++ moved_bytes q p (records_at l₀ i) ≡ moved_bytes q p (records_at l₀ 0)

pub moved_first : (q p : ℕ) {l : List ℕ} → Decodes l 0 → Moved q p l l 0
moved_first q p d = record { old = d; within = zero-le; long = refl; tail = refl; moved = refl }

module _ {q p : ℕ} {l₀ l : List ℕ} {i : ℕ} (c : Moved q p l₀ l i) where
  pub moved_decodes : Decodes l i
  moved_decodes = decodes l i (ap decode c.tail ∙ c.old.so)

  same_records : records_at l i ≡ records_at l₀ i
  same_records = records_are l i (ap decode c.tail ∙ c.old.so)

  pub moved_end : length l ≤ i → l ≡ moved_bytes q p (records_at l₀ 0)
  unfolding decode records_from moved_bytes listing
  moved_end h =
      let e : records_at l₀ i ≡ [] = records_are l₀ i (ap decode (drop_of_length-le l₀ {i = i} (omega (arith, c.long)))) in
      sym (take_all i l h) ∙ sym (append-nil (take i l)) ∙ ap (λ (rs : List Record). take i l ++ moved_bytes q p rs) (sym e) ∙ c.moved

  pub moved_again : {mark : Mark} (o : Opens l i mark) {l' : List ℕ} → l' ≡ stores l i (encode (move_record (λ k. k + q - p) (record_at l i))) → Moved q p l₀ l' (i + length (encode (record_at l i)))
  unfolding moved_bytes listing
  moved_again {mark} o {l'} f =
      let w : Stands l i = stands o in
      let r : Record = record_at l i in
      let n : ℕ = length (encode r) in
      let E : List ℕ = encode (move_record (λ k. k + q - p) r) in
      let k : length E ≡ n = length_moved (λ k. k + q - p) r in
      let X : List ℕ = take i l ++ E in
      let x : length X ≡ i + n = length-append (take i l) E ∙ ap₂ ◌+◌ (length-take-le i l (omega (arith, o.there))) k in
      let s : l' ≡ X ++ drop (i + n) l = f ∙ stores_room l i E (omega (arith, w.fits)) ∙ ap (λ (j : ℕ). X ++ drop (i + j) l) k in
      let t : drop (i + n) l ≡ drop (i + n) l₀ = sym (drop-drop n i l) ∙ ap (drop n) c.tail ∙ drop-drop n i l₀ in
      let b : decode (drop (i + n) l₀) ≡ some w.rest = ap decode (sym t) ∙ w.behind in
      let e : records_at l₀ (i + n) ≡ w.rest = records_are l₀ (i + n) b in
      record {
        old = decodes l₀ (i + n) b;
        within = omega (arith, w.fits, c.long);
        long = ap length f ∙ stores_length l i E ∙ c.long;
        tail = ap (drop (i + n)) s ∙ drop_at X (drop (i + n) l) (i + n) x ∙ t;
        moved = ap₂ ◌++◌ (ap (take (i + n)) s ∙ take_at X (drop (i + n) l) (i + n) x) (ap (moved_bytes q p) e) ∙ append_assoc (take i l) E (moved_bytes q p w.rest)
            ∙ ap (λ (rs : List Record). take i l ++ moved_bytes q p rs) (sym (sym same_records ∙ w.all)) ∙ c.moved;
      }
