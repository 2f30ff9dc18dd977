-- 6 and 4, and the bytes that the two buffers hold afterwards: those kept of the old listing, the new line's, and those moved.
-- Assumes nothing.
use Prim.Native.Nat.{ℕ, ◌+◌, ◌-◌, ◌≤◌, ◌<◌}
use mathlib.Core.Path.{◌≡◌, sym, ap, ◌∙◌}
use mathlib.Core.List.{List, [], ◌++◌, append_assoc, append-nil}
use native.Mathlib.Omega.{arith}
use native.Mathlib.Nat.{zero-add}
use borrow.Author.Tests.{lt-ltb, le-ltb}
use lib.ListN.{length, take, drop, length-append, length-drop, drop_of_length-le}
use lib.Seq.{take_at, drop_at, take_all, drop-drop, drop-append-add, length-take-le}
use Rattle.rules.specs.Records.{Record, listing}
use Rattle.rules.specs.Reader.{Cause, nowhere, numbers_of}
use Rattle.rules.specs.Calls.{Result, gives, refuses, unless, in_room, overwrite, leaves}
use Rattle.rules.specs.Patch.{records_below, records_on, Edit, exchanged, placed_in, patch_source, patch_listing}
use Rattle.rules.proofs.Records.{listing_append}
use Rattle.rules.proofs.Reencode.{Octets}
use Rattle.records.specs.Writes.{stores}
use Rattle.records.proofs.Writes.{stores_room, stored_over}
use Rattle.std.specs.Prelude.{Result as Answer, Err}
use Rattle.refusals.specs.declared.Refusal.{Refusal}
use Rattle.refusals.specs.Refusals.{numbers}
use Rattle.patch.specs.declared.Patched.{Patched}
use Rattle.records.specs.Moves.{records_at, Decodes, First, moved_bytes}
use Rattle.patch.specs.Plans.{Applied}
use Rattle.patch.specs.Patched.{Patches}
use Rattle.records.proofs.Listed.{moved_length, rest_length, first_decodes, first_within, first_kept, first_twice}

-- A refusal leaves both buffers.
pub refused : {e : Result Edit} {s l : List ℕ} {r : Refusal} (c : Cause) → e ≡ refuses c → numbers r ≡ numbers_of c → Patches e s s l l (Err r)
unfolding patch_source patch_listing leaves
refused c h k = record { answer = rw h (ap Err k); source = rw h; listing = rw h }

pub same_edit : {e e' : Result Edit} {s s' l l' : List ℕ} {r : Answer Patched Refusal} → e ≡ e' → Patches e' s s' l l' r → Patches e s s' l l' r
same_edit h p = rw h p

-- 6 and 4, and neither.
module _ (room_s room_l : ℕ) (ed : List ℕ) (w : List Record) where
  pub no_source : room_s < length ed → placed_in room_s room_l ed w ≡ refuses (nowhere 6)
  unfolding placed_in unless
  no_source h = rw (lt-ltb room_s (length ed) h)

  module _ (h : length ed ≤ room_s) where
    pub no_listing : room_l < length (listing w) → placed_in room_s room_l ed w ≡ refuses (nowhere 4)
    unfolding placed_in unless in_room
    no_listing i = rw (le-ltb room_s (length ed) h, lt-ltb room_l (length (listing w)) i)

    pub placed : length (listing w) ≤ room_l → placed_in room_s room_l ed w ≡ gives (record { source = ed; records = w })
    unfolding placed_in unless in_room
    placed i = rw (le-ltb room_s (length ed) h, le-ltb room_l (length (listing w)) i)

-- The parts of an old listing: the bytes up to `below` are kept, those from `on` on moved.
pub record Parts (l : List ℕ) (a p below on : ℕ) : Type 0 where
  pub kept : take below l ≡ listing (records_below a (records_at l 0))
  pub first : below ≡ length (listing (records_below a (records_at l 0)))
  pub rest : records_at l on ≡ records_on (a + p) (records_at l 0)
  pub decodes : Decodes l on
  pub order : below ≤ on
  pub all : on + length (listing (records_on (a + p) (records_at l 0))) ≡ length l

pub parts : {l : List ℕ} {a p below on : ℕ} → Octets l → Decodes l 0 → First l 0 a below → First l below (a + p) on → Parts l a p below on
parts {l} {a} {p} {below} {on} o d f g =
    let e : records_at l on ≡ records_on (a + p) (records_at l 0) = first_twice (omega arith) f g in
    let i : below ≤ length l = first_within f o d (omega arith) in
    record {
      kept = first_kept o d f;
      first = f.below ∙ zero-add _;
      rest = e;
      decodes = first_decodes g;
      order = omega (arith, g.below);
      all = omega (arith, first_within g o (first_decodes f) i, rest_length o (first_decodes g), ap (λ (q : List Record). length (listing q)) e);
    }

-- The bytes of a part, then those before it, then those behind.
pub assembled : (l k w m : List ℕ) {b e : ℕ} {part l₂ l₃ : List ℕ} → b ≡ length k → e ≡ b + length w → e + length m ≤ length l
    → part ≡ stores (take (length l - b) (drop b l)) 0 w → l₂ ≡ stores (take b l ++ (part ++ drop (length l - b) (drop b l))) 0 k → l₃ ≡ stores l₂ e m → l₃ ≡ overwrite (k ++ (w ++ m)) l
unfolding overwrite
assembled l k w m {b} {e} {part} {l₂} {l₃} i j h f g q =
    let R : List ℕ = drop e l in
    let d : length (drop b l) ≡ length l - b = length-drop b l in
    let t : take (length l - b) (drop b l) ≡ drop b l = take_all (length l - b) (drop b l) (omega arith) in
    let z : drop (length l - b) (drop b l) ≡ [] = drop_of_length-le (drop b l) {i = length l - b} (omega arith) in
    let x : part ≡ w ++ R = f ∙ ap (λ (y : List ℕ). stores y 0 w) t ∙ stored_over (drop b l) w (omega arith) ∙ ap (λ (y : List ℕ). w ++ y) (drop-drop (length w) b l ∙ ap (λ (n : ℕ). drop n l) (sym j)) in
    let y : take b l ++ (part ++ drop (length l - b) (drop b l)) ≡ take b l ++ (w ++ R) = ap (λ (c : List ℕ). take b l ++ c) (rw (z, x) (append-nil (w ++ R))) in
    let n : length (take b l) ≡ length k = length-take-le b l (omega arith) ∙ i in
    let o : length (take b l ++ (w ++ R)) ≡ length k + (length w + length R) = length-append (take b l) (w ++ R) ∙ omega (arith, n, length-append w R) in
    let u : l₂ ≡ k ++ (w ++ R) = g ∙ ap (λ (c : List ℕ). stores c 0 k) y ∙ stored_over (take b l ++ (w ++ R)) k (omega arith) ∙ ap (λ (c : List ℕ). k ++ c) (drop_at (take b l) (w ++ R) (length k) n) in
    let v : l₂ ≡ (k ++ w) ++ R = u ∙ sym (append_assoc k w R) in
    let a : length (k ++ w) ≡ e = length-append k w ∙ omega arith in
    let c : length ((k ++ w) ++ R) ≡ length l = length-append (k ++ w) R ∙ omega (arith, length-drop e l) in
    let s : stores ((k ++ w) ++ R) e m ≡ take e ((k ++ w) ++ R) ++ m ++ drop (e + length m) ((k ++ w) ++ R) = stores_room ((k ++ w) ++ R) e m (omega arith) in
    let p : drop (e + length m) ((k ++ w) ++ R) ≡ drop (e + length m) l = ap (λ (n : ℕ). drop (n + length m) ((k ++ w) ++ R)) (sym a) ∙ drop-append-add (k ++ w) R (length m) ∙ drop-drop (length m) e l in
    let r : length (k ++ (w ++ m)) ≡ e + length m = length-append k (w ++ m) ∙ omega (arith, length-append w m) in
    q ∙ ap (λ (y : List ℕ). stores y e m) v ∙ s ∙ rw (take_at (k ++ w) R e a, p, r) (ap (λ (y : List ℕ). y ++ drop (e + length m) l) (append_assoc k w m))

-- the bytes of the edited source's listing
exchanged_bytes : (a p q : ℕ) (rs w : List Record) → listing (exchanged a p q rs w) ≡ listing (records_below a rs) ++ (listing w ++ moved_bytes q p (records_on (a + p) rs))
unfolding exchanged moved_bytes
exchanged_bytes a p q rs w = listing_append (records_below a rs) _ ∙ ap (λ (l : List ℕ). listing (records_below a rs) ++ l) (listing_append w _)

module _ {old : List ℕ} {a p below on : ℕ} (P : Parts old a p below on) (q : ℕ) (w : List Record) where
  abbrev rs : List Record
  rs = records_at old 0

  pub size_is : {n : ℕ} → n ≡ length (listing w) → below + n + (length old - on) ≡ length (listing (exchanged a p q rs w))
  size_is k =
      let e = ap length (exchanged_bytes a p q rs w) ∙ length-append (listing (records_below a rs)) (listing w ++ moved_bytes q p (records_on (a + p) rs)) in
      omega (arith, e, length-append (listing w) (moved_bytes q p (records_on (a + p) rs)), moved_length q p (records_on (a + p) rs), P.first, P.all)

  pub written : (s l ed : List ℕ) {s' l' l₂ part : List ℕ} {n : ℕ} → n ≡ length (listing w) → length ed ≤ length s → below + n + (length old - on) ≤ length l → s' ≡ stores s 0 ed
      → part ≡ stores (take (length l - below) (drop below l)) 0 (listing w) → l₂ ≡ stores (take below l ++ (part ++ drop (length l - below) (drop below l))) 0 (take below old)
      → l' ≡ stores l₂ (below + n) (moved_bytes q p (records_at old on))
      → Applied ed (exchanged a p q rs w) s s' l l' (below + n + (length old - on))
  written s l ed {l₂ = l₂} {part = part} {n = n} k h i e f g j =
      let m : List ℕ = moved_bytes q p (records_on (a + p) rs) in
      let z = moved_length q p (records_on (a + p) rs) in
      let o = assembled l (listing (records_below a rs)) (listing w) m P.first (ap (λ (x : ℕ). below + x) k) (omega (arith, P.all)) f
      (g ∙ ap (stores (take below l ++ (part ++ drop (length l - below) (drop below l))) 0) P.kept) (j ∙ ap (λ (r : List Record). stores l₂ (below + n) (moved_bytes q p r)) P.rest) in
      record { source = e ∙ stored_over s ed h; listed = o ∙ ap (λ (b : List ℕ). overwrite b l) (sym (exchanged_bytes a p q rs w)); size = size_is k }
