-- The new line read in its place: what stands of the edited source is cut off behind its line feed.
-- Assumes nothing.
use Rattle.std.specs.Prelude.{if◌then◌else◌, Result as Answer, Ok, Err}
use Rattle.std.proofs.lemmas.List.{take_min}
use Prim.Native.Nat.{ℕ, zero, suc, ◌+◌, ◌-◌, ◌≤◌, min}
use mathlib.Core.Path.{◌≡◌, refl, sym, ap, subst, ◌∙◌}
use mathlib.Core.Bool.{Bool, true, false}
use mathlib.Core.List.{List, [], ◌∷◌, ◌++◌}
use mathlib.Core.Option.{Option, none, some}
use native.Mathlib.Omega.{arith}
use native.Mathlib.Nat.{zero-add}
use lib.Dec.{ltb}
use lib.ListN.{length, take, drop, length-append, length-take, length-drop}
use lib.Seq.{drop_at, take-append-add, length-take-le, drop-drop}
use Rattle.lexer.specs.Text.{run}
use Rattle.lexer.specs.Tokens.{in_comment}
use Rattle.lexer.proofs.Runs.{run_le}
use Rattle.names.specs.Table.{operations}
use Rattle.rules.specs.Records.{Record, listing}
use Rattle.rules.specs.Reader.{Cause, numbers_of}
use Rattle.rules.specs.Statements.{present, Outcome, accepted, refusal, read_from}
use Rattle.rules.specs.Calls.{foreign, Result}
use Rattle.rules.specs.Patch.{Edit, above, line_at, behind, edited, exchanged, placed_in, reread}
use Rattle.rules.proofs.Shape.{small_parts}
use Rattle.rules.proofs.Table.{proper}
use Rattle.rules.proofs.Bound.{bounded_from}
use Rattle.records.specs.Writes.{stores, limit}
use Rattle.reader.specs.Lent.{foreign_place}
use Rattle.reader.specs.declared.ascii.Ascii.{Ascii}
use Rattle.reader.proofs.Lending.{never_foreign}
use Rattle.reader.proofs.FullReads.{small, never_both}
use Rattle.state.specs.declared.Parser.{Parser}
use Rattle.records.specs.declared.Writer.{Writer}
use Rattle.refusals.specs.declared.Refusal.{Refusal}
use Rattle.refusals.specs.Refusals.{numbers}
use Rattle.statements.specs.Statements.{Started, NotStarted, ReadsStatements}
use Rattle.statements.proofs.Calls.{all_read, all_refused, all_not_started}
use Rattle.patch.specs.declared.Rooms.{Rooms}
use Rattle.records.specs.Moves.{First}
use Rattle.patch.specs.Patched.{accepted_of, Measured}
use Rattle.patch.specs.Plans.{Plans}
use Rattle.lines.proofs.Laws.{line_length}

-- A line by its places.
module _ (old : List ℕ) (a : ℕ) where
  -- it ends within
  pub end_within : a ≤ length old → a + length (line_at old a) ≤ length old
  end_within h = omega (arith, line_length old a h, run_le in_comment (drop a old), length-drop a old)

  module _ (h : a ≤ length old) {end : ℕ} (e : end ≡ a + length (line_at old a)) where
    end_is : end - a ≡ run in_comment (drop a old)
    end_is = omega (arith, line_length old a h)

    pub line_slice : take (end - a) (drop a old) ≡ line_at old a
    unfolding line_at
    line_slice = ap (λ (n : ℕ). take n (drop a old)) end_is

    behind_is : drop end old ≡ behind old a
    unfolding behind
    behind_is = ap (λ (n : ℕ). drop n old) (e ∙ ap (λ (n : ℕ). a + n) (line_length old a h)) ∙ sym (drop-drop (run in_comment (drop a old)) a old)

    pub edited_is : (new : List ℕ) → take a old ++ (new ++ drop end old) ≡ edited old a new
    unfolding edited above
    edited_is new = ap (λ (l : List ℕ). take a old ++ (new ++ l)) behind_is

    pub edited_length : (new : List ℕ) → length old - (end - a) + length new ≡ length (edited old a new)
    edited_length new =
        let z = ap length (sym (edited_is new)) ∙ length-append (take a old) (new ++ drop end old) in
        omega (arith, z, length-append new (drop end old), length-drop end old, length-take-le a old h, end_within h)

-- What is read of an edited source: up to the line feed behind the new line, if there is one.
module _ (old : List ℕ) (a : ℕ) (new : List ℕ) (h : a ≤ length old) where
  above_length : length (above old a) ≡ a
  unfolding above
  above_length = length-take-le a old h

  cut_at : (k : ℕ) → take (a + (length new + k)) (edited old a new) ≡ above old a ++ (new ++ take k (behind old a))
  unfolding edited
  cut_at k =
      ap (λ (n : ℕ). take (n + (length new + k)) (above old a ++ (new ++ behind old a))) (sym above_length)
      ∙ take-append-add (above old a) (new ++ behind old a) (length new + k)
      ∙ ap (λ (l : List ℕ). above old a ++ l) (take-append-add new (behind old a) k)

  edited_size : length (edited old a new) ≡ a + (length new + length (behind old a))
  unfolding edited
  edited_size = length-append (above old a) (new ++ behind old a) ∙ omega (arith, above_length, length-append new (behind old a))

  -- of the edited source, as the code has it
  module _ {ed : List ℕ} (e : ed ≡ edited old a new) where
    pub new_within : a + length new ≤ length ed
    new_within = omega (arith, ap length e, edited_size)

    pub record Cut (cut : ℕ) : Type 0 where
      pub within : cut ≤ length ed
      pub place : a ≤ length (take cut ed)
      pub line : drop a (take cut ed) ≡ new ++ take 1 (behind old a)

    -- it ends behind a line feed, or at the end of the source
    pub cut_is : {cut : ℕ} → cut ≡ min (a + length new + 1) (length ed) → Cut cut
    cut_is {cut} k =
        let n : a + length new + 1 ≡ a + (length new + 1) = omega arith in
        let t : take cut ed ≡ above old a ++ (new ++ take 1 (behind old a)) =
        ap (λ (m : ℕ). take m ed) k ∙ take_min (a + length new + 1) ed ∙ (λ i. take (n i) (e i)) ∙ cut_at 1 in
        record {
          within = omega (arith, k);
          place = omega (arith, ap length t, length-append (above old a) (new ++ take 1 (behind old a)), above_length);
          line = ap (drop a) t ∙ drop_at (above old a) (new ++ take 1 (behind old a)) a above_length;
        }

pub first_as : {l : List ℕ} {from a b r : ℕ} → a ≡ b → First l from a r → First l from b r
first_as {l} {from} {r = r} e f = subst (λ (k : ℕ). First l from k r) e f

pub short_take : (n : ℕ) (s : List ℕ) → length s ≤ 65536 → length (take n s) ≤ 65536
short_take n s h = omega (arith, length-take n s)

-- small bytes stay so
foreign_take : (p n : ℕ) (s : List ℕ) → foreign p s ≡ none → foreign p (take n s) ≡ none
unfolding foreign
foreign_take p zero s e = refl
foreign_take p (suc n) [] e = refl
foreign_take p (suc n) (c ∷ cs) e = go (ltb 127 c) e (foreign_take (suc p) n cs)
  where
    go : (b : Bool) → ◌≡◌ {A = Option ℕ} (if b then (some p) else (foreign (suc p) cs)) none → (foreign (suc p) cs ≡ none → foreign (suc p) (take n cs) ≡ none) → ◌≡◌ {A = Option ℕ} (if b then (some p) else (foreign (suc p) (take n cs))) none
    go true e k = e
    go false e k = k e

pub plain_take : (n : ℕ) (s : List ℕ) → foreign_place s ≡ length s → foreign_place (take n s) ≡ length (take n s)
unfolding foreign_place
plain_take n s e = rw (foreign_take 0 n s (never_foreign s (sym e)))

-- The reading of the bytes from a place on.
module _ (s : List ℕ) (place : ℕ) where
  abbrev reading : Outcome
  reading = read_from present place (drop place s)

  -- it is refused
  abbrev pub Refuses : Refusal → Type 0
  Refuses r = (c : Cause) × (reading ≡ refusal c) × (numbers r ≡ numbers_of c)

  pub not_begun : {r : Refusal} → NotStarted s place r → Refuses r
  not_begun b = let f = all_not_started operations s place b in (f.cause, f.reads, f.by_numbers)

  module _ {p : Parser} {o w : Writer} where
    pub denied : {r : Refusal} → Started s place p → ReadsStatements operations s p o w (Err r) → Refuses r
    denied b h = let f = all_refused operations s place b h in (f.cause, f.reads, f.by_numbers)

    never_denied : {n : ℕ} {r : Refusal} → Measured s place p n → ReadsStatements operations s p o w (Err r) → ⊥
    never_denied m h = let (c, e, _) = denied m.started h in never_both (sym m.reads ∙ e)

  module _ (short : length s ≤ 65536) (plain : foreign_place s ≡ length s) (within : place ≤ length s) where
    little : (v : List Record) → reading ≡ accepted v → length (listing v) ≤ limit
    little v e = omega (arith, bounded_from present proper place (drop place s) (small_parts place s (small s plain)).1 v e, length-drop place s)

    -- of few bytes
    pub measure_small : {p : Parser} {m : ℕ} → Measured s place p m → m ≤ limit
    measure_small b = omega (arith, b.size, little (accepted_of reading) b.reads)

    -- by a writer that begins at 0
    module _ {p : Parser} {o w : Writer} (begins : o.at ≡ 0) where
      pub measured : {q : Parser} → Started s place p → ReadsStatements operations s p o w (Ok q) → Measured s place p w.at
      measured b h =
          let f = all_read operations s place b h in
          let k : accepted_of reading ≡ f.v = ap accepted_of f.reads in
          record {
            started = b;
            reads = f.reads ∙ ap accepted (sym k);
            size =
                f.puts.wrote.place (omega (arith, begins, little f.v f.reads)) ∙ ap (λ (i : ℕ). i + length (listing f.v)) begins ∙ zero-add (length (listing f.v))
                ∙ ap (λ (v : List Record). length (listing v)) (sym k);
          }

-- What was measured, read again by a writer that begins at 0, is written to its buffer, so to what its owner lent it.
pub read_again : (line : Ascii) {place : ℕ} → place ≤ length line.source.text.now → {p : Parser} {o w : Writer} → o.at ≡ 0 → {room : List ℕ} → o.out.now ≡ room
    → {m : ℕ} → Measured line.source.text.now place p m → m ≤ length room
    → (r : Answer Parser Refusal) → ReadsStatements operations line.source.text.now p o w r → {l : List ℕ} → (o.out.ghost_name ≡ w.out.ghost_name → l ≡ w.out.now)
    → l ≡ stores room 0 (listing (accepted_of (read_from present place (drop place line.source.text.now))))
read_again line within begins e b i (Err r) h j = absurd (never_denied _ _ b h)
read_again line {place} within {o = o} begins e b i (Ok q) h j =
    let s : List ℕ = line.source.text.now in
    let f = all_read operations s place b.started h in
    let k : accepted_of (reading s place) ≡ f.v = ap accepted_of f.reads in
    let c : length (listing (accepted_of (reading s place))) ≡ length (listing f.v) = ap (λ (v : List Record). length (listing v)) k in
    j (sym f.puts.buffer) ∙ f.puts.wrote.wrote (omega (arith, begins, little s place line.source.short line.ascii within f.v f.reads)) (omega (arith, begins, b.size, ap length e))
    ∙ (λ n. stores (e n) (begins n) (listing (sym k n)))

-- What the reading makes of the patch.
module _ (old : List ℕ) (rs : List Record) (a : ℕ) (new : List ℕ) (rooms : Rooms) where
  abbrev new_line : List ℕ
  new_line = new ++ take 1 (behind old a)

  abbrev read : Result Edit
  read = reread old rs a new rooms.source rooms.listing (read_from present a new_line)

  module _ (line : List ℕ) (e : drop a line ≡ new_line) where
    pub line_denied : {ed bytes : List ℕ} {r : Refusal} → Refuses line a r → Plans read ed bytes rooms (Err r)
    unfolding reread
    line_denied (c, f, k) = record { so = (c, rw (ap (read_from present a) (sym e) ∙ f), k) }

    pub line_accepted : {p : Parser} {n end : ℕ} {ed : List ℕ} → Measured line a p n → end ≡ a + length (line_at old a) → ed ≡ edited old a new
        → read ≡ placed_in rooms.source rooms.listing ed (exchanged a (end - a) (length new) rs (accepted_of (read_from present a (drop a line))))
    unfolding reread
    line_accepted {end = end} {ed = ed} m k h =
        let w : List Record = accepted_of (read_from present a (drop a line)) in
        let f : read_from present a new_line ≡ accepted w = ap (read_from present a) (sym e) ∙ m.reads in
        let d : end - a ≡ length (line_at old a) = omega arith in
        rw f (rw (← d, ← h))
