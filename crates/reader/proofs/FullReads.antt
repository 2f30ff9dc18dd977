-- The full read by its steps: what reading all statements makes of the whole, and the copy of what was kept.
-- Assumes nothing.
use Prim.Native.Nat.{◌-◌, ℕ, ◌+◌, ◌≤◌, ◌<◌}
use mathlib.Core.Path.{◌≡◌, refl, sym, ap, subst, ◌∙◌}
use mathlib.Core.List.{List, []}
use mathlib.Core.Bool.{Bool, true, false}
use native.Mathlib.Omega.{arith}
use native.Mathlib.Nat.{zero-add, sub-zero}
use borrow.Author.Tests.{lt-ltb, le-ltb}
use lib.Dec.{ltb}
use lib.ListN.{length, take, drop, length-append}
use lib.Seq.{take-append_seam}
use Rattle.names.specs.Table.{operations}
use Rattle.rules.specs.Records.{Record, listing}
use Rattle.rules.specs.Reader.{Cause, nowhere, numbers_of}
use Rattle.rules.specs.Statements.{fitting, present, Outcome, accepted, refusal, reading}
use Rattle.rules.specs.Calls.{Result, gives, unless, in_room, overwrite, leaves, listed, full_read, full_buffer}
use Rattle.rules.proofs.Calls.{none_foreign, ascii_small}
use Rattle.rules.proofs.Shape.{Small}
use Rattle.rules.proofs.Table.{proper}
use Rattle.rules.proofs.Bound.{bounded}
use Rattle.rules.proofs.Listing.{listing_formed, listing_decodes}
use Rattle.std.specs.Prelude.{Result as Answer, Ok, Err}
use Rattle.records.specs.declared.Writer.{Writer}
use Rattle.records.specs.Writers.{Puts}
use Rattle.records.specs.Writes.{stores, limit}
use Rattle.records.proofs.Writes.{stored_over, taken_over}
use Rattle.state.specs.declared.Parser.{Parser}
use Rattle.refusals.specs.declared.Refusal.{Refusal}
use Rattle.refusals.specs.Refusals.{numbers, by_numbers, spanned}
use Rattle.reader.specs.declared.ascii.Ascii.{Ascii}
use Rattle.reader.specs.Lent.{foreign_place}
use Rattle.statements.specs.Statements.{Started, NotStarted, ReadsStatements}
use Rattle.reader.specs.Calls.{Lends, full_answer, ReadsAll, WritesAs, Writes, FullReads}
use Rattle.statements.proofs.Calls.{all_read, all_refused, all_not_started}
use Rattle.reader.proofs.Lending.{never_foreign, lent_refused, lent_accepted}

-- a refusal of the reading
abbrev Refuses : List ℕ → List ℕ → Refusal → Type 0
Refuses table s r = (c : Cause) × (reading (fitting table) s ≡ refusal c) × (numbers r ≡ numbers_of c)

-- The reading of a source is that of the bytes from place 0 on.
module _ (table s : List ℕ) (p : Parser) (b : Started s 0 p) where
  pub record Accepts (o n : Writer) : Type 0 where
    pub v : List Record
    pub reads : reading (fitting table) s ≡ accepted v
    pub puts : Puts (listing v) o n

  module _ {o n : Writer} where
    pub accepts : {q : Parser} → ReadsStatements table s p o n (Ok q) → Accepts o n
    unfolding reading
    accepts h = let f = all_read table s 0 b h in record { v = f.v; reads = f.reads; puts = f.puts }

    pub denies : {r : Refusal} → ReadsStatements table s p o n (Err r) → Refuses table s r
    unfolding reading
    denies h = let f = all_refused table s 0 b h in (f.cause, f.reads, f.by_numbers)

-- the first token is refused already
pub not_begun : (table s : List ℕ) {r : Refusal} → NotStarted s 0 r → Refuses table s r
unfolding reading
not_begun table s b = let f = all_not_started table s 0 b in (f.cause, f.reads, f.by_numbers)

-- What it makes of the answer and of the buffer.
module _ (s l : List ℕ) where
  pub is_denied : {r : Refusal} → Refuses operations s r → ReadsAll s l l (Err r)
  unfolding listed leaves
  is_denied (c, e, k) = record { answer = rw e (ap Err k); buffer = rw e }

  module _ (m : Small s) (short : length s ≤ 65536) {v : List Record} (e : reading present s ≡ accepted v) where
    -- within the limit
    pub little : length (listing v) ≤ limit
    little = omega (arith, bounded present proper s v m e)

    pub no_room_for : {r : Refusal} → numbers r ≡ spanned 4 0 0 → length l < length (listing v) → ReadsAll s l l (Err r)
    unfolding listed leaves in_room unless
    no_room_for k h = record { answer = rw (e, lt-ltb (length l) (length (listing v)) h) (ap Err k); buffer = rw (e, lt-ltb (length l) (length (listing v)) h) }

    pub is_written : {l' : List ℕ} → length (listing v) ≤ length l → l' ≡ overwrite (listing v) l → ReadsAll s l l' (Ok (length (listing v)))
    unfolding listed leaves in_room unless
    is_written h k = record { answer = rw (e, le-ltb (length l) (length (listing v)) h); buffer = rw (e, le-ltb (length l) (length (listing v)) h) k }

-- a source whose first byte above 127 is behind its end has small bytes
pub small : (s : List ℕ) → foreign_place s ≡ length s → Small s
small s e = ascii_small s (none_foreign 0 s (never_foreign s (sym e)))

written_as : {s l l' : List ℕ} {n m : ℕ} → n ≡ m → ReadsAll s l l' (Ok m) → ReadsAll s l l' (Ok n)
written_as e f = rw e f

taken : {n : ℕ} (l b : List ℕ) {l' : List ℕ} → n ≡ length b → l' ≡ stores l 0 b → length b ≤ length l → take n l' ≡ b
taken l b e k h = rw (e, k) (taken_over l b h)

accepted_same : {v w : List Record} → accepted v ≡ accepted w → v ≡ w
accepted_same e = cc

pub never_both : {v : List Record} {c : Cause} → accepted v ≡ refusal c → ⊥
never_both e = let z : ◌≡◌ {A = ℕ} 0 1 = cc in omega arith

-- The two readings of `kept_in`, each by a writer that begins at 0.
module _ (a : Ascii) {p : Parser} (b : Started a.source.text.now 0 p) where
  abbrev s : List ℕ
  s = a.source.text.now

  module _ {o w : Writer} (begins : o.at ≡ 0) {q : Parser} (h : ReadsStatements operations s p o w (Ok q)) where
    abbrev first : Accepts operations s p b o w
    first = accepts operations s p b h

    reads_little : length (listing first.v) ≤ limit
    reads_little = little s [] (small s a.ascii) a.source.short first.reads

    size_is : w.at ≡ length (listing first.v)
    size_is = first.puts.wrote.place (omega (arith, begins, reads_little)) ∙ ap (λ (i : ℕ). i + length (listing first.v)) begins ∙ zero-add (length (listing first.v))

    holds : length (listing first.v) ≤ length o.out.now → w.out.now ≡ stores o.out.now 0 (listing first.v)
    holds f = first.puts.wrote.wrote (omega (arith, begins, reads_little)) (omega (arith, begins)) ∙ ap (λ (i : ℕ). stores o.out.now i (listing first.v)) begins

    pub no_room : {l : List ℕ} {r : Refusal} → numbers r ≡ spanned 4 0 0 → length l < w.at → ReadsAll s l l (Err r)
    no_room {l} e k = no_room_for s l (small s a.ascii) a.source.short first.reads e (rw size_is at k)

    -- the copy of what the buffer holds then
    pub kept_copied : {kept : List ℕ} → (o.out.ghost_name ≡ w.out.ghost_name → kept ≡ w.out.now) → {l l' : List ℕ} → w.at ≤ length l → w.at ≤ length o.out.now
        → l' ≡ stores l 0 (take (w.at - 0) kept) → ReadsAll s l l' (Ok w.at)
    unfolding overwrite
    kept_copied {kept} j {l} {l'} i f e =
        let g : length (listing first.v) ≤ length o.out.now = omega (arith, size_is) in
        let t : take (w.at - 0) kept ≡ listing first.v = ap (λ (n : ℕ). take n kept) (sub-zero w.at) ∙ ap (λ (k : List ℕ). take w.at k) (j (sym first.puts.buffer)) ∙ taken o.out.now (listing first.v) size_is (holds g) g in
        let u : length (listing first.v) ≤ length l = omega (arith, size_is) in
        written_as size_is (is_written s l (small s a.ascii) a.source.short first.reads u (e ∙ ap (λ (x : List ℕ). stores l 0 x) t ∙ stored_over l (listing first.v) u))

    pub never_denied : {o₂ w₂ : Writer} {r : Refusal} → ReadsStatements operations s p o₂ w₂ (Err r) → ⊥
    never_denied k = let (c, e, _) = denies operations s p b k in never_both (sym first.reads ∙ e)

  again : {o w : Writer} (begins : o.at ≡ 0) {q : Parser} → ReadsStatements operations s p o w (Ok q)
      → {o₂ w₂ : Writer} → o₂.at ≡ 0 → {q₂ : Parser} → ReadsStatements operations s p o₂ w₂ (Ok q₂) → w.at ≤ length o₂.out.now
      → {l' : List ℕ} → (o₂.out.ghost_name ≡ w₂.out.ghost_name → l' ≡ w₂.out.now) → ReadsAll s o₂.out.now l' (Ok w.at)
  again i h {o₂} i₂ k f j =
      let one = first i h in
      let two = first i₂ k in
      let same : one.v ≡ two.v = accepted_same (sym one.reads ∙ two.reads) in
      let c : length (listing one.v) ≡ length (listing two.v) = ap (λ (v : List Record). length (listing v)) same in
      let g : length (listing two.v) ≤ length o₂.out.now = omega (arith, size_is i h) in
      written_as (size_is i h ∙ c) (is_written s o₂.out.now (small s a.ascii) a.source.short two.reads g (j (sym two.puts.buffer) ∙ holds i₂ k g ∙ stored_over o₂.out.now (listing two.v) g))

  pub read_again : {l : List ℕ} {o w : Writer} (begins : o.at ≡ 0) {q : Parser} → ReadsStatements operations s p o w (Ok q)
      → {o₂ w₂ : Writer} → o₂.at ≡ 0 → o₂.out.now ≡ l → {q₂ : Parser} → ReadsStatements operations s p o₂ w₂ (Ok q₂) → w.at ≤ length l
      → {l' : List ℕ} → (o₂.out.ghost_name ≡ w₂.out.ghost_name → l' ≡ w₂.out.now) → ReadsAll s l l' (Ok w.at)
  read_again {w = w} i h i₂ e k f {l'} j = subst (λ (m : List ℕ). ReadsAll s m l' (Ok w.at)) e (again i h i₂ k (rw e f) j)

-- What an accepted call has written.
module _ (s l l' : List ℕ) (m : Small s) (short : length s ≤ 65536) where
  written_so : (o : Outcome) → reading present s ≡ o → (r : Answer ℕ Refusal) → by_numbers r ≡ full_answer (listed (length l) o) → l' ≡ leaves listing (listed (length l) o) l → WritesAs s l' r
  unfolding listed in_room unless leaves overwrite
  written_so o e (Err r) k h = tt
  written_so (refusal c) e (Ok n) k h = cc
  written_so (accepted v) e (Ok n) k h = go (ltb (length l) (length (listing v))) refl k h
    where
      go : (b : Bool) → ltb (length l) (length (listing v)) ≡ b → by_numbers (Ok n) ≡ full_answer (unless b (nowhere 4) (gives v)) → l' ≡ leaves listing (unless b (nowhere 4) (gives v)) l → WritesAs s l' (Ok n)
      go true i k h = cc
      go false i k h =
          let z : n ≡ length (listing v) = cc in
          let f : take (length (listing v)) l' ≡ listing v = rw h (take-append_seam (listing v) (drop (length (listing v)) l)) in
          let j : length l' ≡ length (listing v) + length (drop (length (listing v)) l) = ap length h ∙ length-append (listing v) (drop (length (listing v)) l) in
          rw z (omega arith, bounded present proper s v m e, rw (f, listing_decodes present proper s v m short e) (listing_formed present proper s v m e))

  pub is_well_written : {r : Answer ℕ Refusal} → ReadsAll s l l' r → Writes s l' r
  is_well_written {r} f = record { so = written_so (reading present s) refl r f.answer f.buffer }

-- THE WHOLE CALL, from the test of the source and the reading of one that may be read.
module _ (s l : List ℕ) where
  abbrev read : Result (List Record)
  read = listed (length l) (reading present s)

  pub call_read : {v : Ascii} {l' : List ℕ} {r : Answer ℕ Refusal} → Lends s (Ok v) → ReadsAll v.source.text.now l l' r → FullReads s l l' r
  unfolding full_read full_buffer
  call_read {l' = l'} {r = r} e g =
      let f : ReadsAll s l l' r = subst (λ (x : List ℕ). ReadsAll x l l' r) e.so.1 g in
      let (k, short, plain) = lent_accepted s read e in
      record {
        answer = f.answer ∙ ap full_answer (sym k);
        buffer = f.buffer ∙ ap (λ (x : Result (List Record)). leaves listing x l) (sym k);
        written = is_well_written s l l' (small s plain) short f;
      }

  pub call_refused : {r : Refusal} → Lends s (Err r) → FullReads s l l (Err r)
  unfolding full_read full_buffer leaves
  call_refused e = let (c, k, h) = lent_refused s read e in record { answer = rw k (ap Err h); buffer = rw k; written = record { so = tt } }
