-- The records of a listing and their bytes: from a place on, below a place, and moved.
-- Assumes nothing.
use Rattle.std.specs.Prelude.{if◌then◌else◌}
use mathlib.Core.Path.{◌≡◌, refl, sym, ap, ◌∙◌}
use mathlib.Core.Bool.{Bool, true, false}
use mathlib.Core.List.{List, [], ◌∷◌}
use mathlib.Core.Option.{Option, none, some}
use Prim.Native.Nat.{ℕ, suc, ◌+◌, ◌-◌, ◌≤◌, ◌<◌}
use native.Mathlib.Omega.{arith}
use lib.ListN.{length, take, drop, get_or, length-append, length-drop}
use lib.Seq.{take_at}
use borrow.Author.Tests.{leb-false, lt-leb}
use Rattle.lexer.specs.Text.{maybe}
use Rattle.rules.specs.Records.{Role, a_statement, a_times, an_expression, an_operand, a_line, Form, form_of, Record, mark_of, fields_of, listing}
use Rattle.rules.specs.Decode.{decode}
use Rattle.rules.specs.Patch.{begins_from, statement_from, records_below, records_on}
use Rattle.rules.proofs.Reencode.{Octets, octets_drop, reencoded}
use Rattle.rules.proofs.PatchBytes.{kept_bytes, listing_moved}
use Rattle.records.specs.Moves.{records_at, Decodes, First, moved_bytes}

-- The elements of a lent slice are bytes.
pub octets : (l : List ℕ) → ((i : ℕ) → get_or l i 0 < 256) → Octets l
octets [] h = tt
octets (c ∷ cs) h = (h 0, octets cs (λ i. h (suc i)))

-- The records from a place on have the bytes from there on.
pub records_are : (l : List ℕ) (at : ℕ) {rs : List Record} → decode (drop at l) ≡ some rs → records_at l at ≡ rs
unfolding records_at
records_are l at e = rw e

pub decodes : (l : List ℕ) (at : ℕ) {rs : List Record} → decode (drop at l) ≡ some rs → Decodes l at
decodes l at e = record { so = e ∙ ap some (sym (records_are l at e)) }

module _ {l : List ℕ} (o : Octets l) where
  pub rest_bytes : {at : ℕ} → Decodes l at → drop at l ≡ listing (records_at l at)
  rest_bytes {at} d = sym (reencoded (drop at l) (records_at l at) (octets_drop at l o) d.so)

  pub rest_length : {at : ℕ} → Decodes l at → length l - at ≡ length (listing (records_at l at))
  rest_length {at} d = sym (length-drop at l) ∙ ap length (rest_bytes d)

-- A moved record is as long.
pub moved_length : (q p : ℕ) (rs : List Record) → length (moved_bytes q p rs) ≡ length (listing rs)
unfolding moved_bytes
moved_length q p rs = listing_moved (λ k. k + q - p) rs

-- The first statement from a place on: the records from there on, and the bytes before.
module _ {l : List ℕ} {from a r : ℕ} (f : First l from a r) where
  pub first_records : records_at l r ≡ records_on a (records_at l from)
  first_records = records_are l r f.on

  pub first_decodes : Decodes l r
  first_decodes = decodes l r f.on

  pub first_within : Octets l → Decodes l from → from ≤ length l → r ≤ length l
  first_within o d h =
      let rs : List Record = records_at l from in
      let e : length (listing rs) ≡ length (listing (records_below a rs)) + length (listing (records_on a rs)) = ap length (kept_bytes a rs) ∙ length-append (listing (records_below a rs)) (listing (records_on a rs)) in
      omega (arith, f.below, rest_length o d)

pub first_kept : {l : List ℕ} {a r : ℕ} → Octets l → Decodes l 0 → First l 0 a r → take r l ≡ listing (records_below a (records_at l 0))
first_kept {l} {a} {r} o d f =
    let rs : List Record = records_at l 0 in
    ap (take r) (rest_bytes o d ∙ kept_bytes a rs) ∙ take_at (listing (records_below a rs)) (listing (records_on a rs)) r (omega (arith, f.below))

-- A statement at b or above is one at a or above.
begins_both : {a b : ℕ} → a ≤ b → (r : Role) (vs : List ℕ) → begins_from a r vs ≡ false → begins_from b r vs ≡ false
begins_both {a} {b} h a_statement vs e = lt-leb b (get_or vs 0 0) (omega (arith, leb-false a (get_or vs 0 0) e))
begins_both h a_times vs e = refl
begins_both h (an_expression m) vs e = refl
begins_both h (an_operand m) vs e = refl
begins_both h (a_line m o) vs e = refl

below_both : {a b : ℕ} → a ≤ b → (r : Record) → statement_from a r ≡ false → statement_from b r ≡ false
unfolding statement_from
below_both {a} {b} h r e = go (form_of (mark_of r)) e
  where
    go : (o : Option Form) → maybe o false (λ w. begins_from a w.role (fields_of r)) ≡ false → maybe o false (λ w. begins_from b w.role (fields_of r)) ≡ false
    go none e = refl
    go (some w) e = begins_both h w.role (fields_of r) e

on_on : {a b : ℕ} → a ≤ b → (rs : List Record) → records_on b (records_on a rs) ≡ records_on b rs
unfolding records_on
on_on h [] = refl
on_on {a} {b} h (r ∷ rs) = go (statement_from a r) refl (on_on h rs)
  where
    go : (x : Bool) → statement_from a r ≡ x → records_on b (records_on a rs) ≡ records_on b rs
        → records_on b (if x then (r ∷ rs) else (records_on a rs)) ≡ (if statement_from b r then (r ∷ rs) else (records_on b rs))
    go true e i = refl
    go false e i = rw (below_both h r e) i

pub first_twice : {l : List ℕ} {a b i j : ℕ} → a ≤ b → First l 0 a i → First l i b j → records_at l j ≡ records_on b (records_at l 0)
first_twice {l} {a} {b} h f g = first_records g ∙ ap (records_on b) (first_records f) ∙ on_on h (records_at l 0)
