-- Bytes written one run behind the other.
-- Assumes nothing.
use Prim.Native.Nat.{ℕ, zero, suc, ◌+◌, ◌-◌, ◌≤◌, ◌<◌}
use mathlib.Core.Path.{◌≡◌, refl, sym, ap, subst, ◌∙◌}
use mathlib.Core.List.{List, [], ◌∷◌, ◌++◌, append_assoc, append-nil}
use native.Mathlib.Omega.{arith}
use native.Mathlib.Nat.{add-zero, add-suc, suc-add, le_refl, le_trans, zero-add}
use native.Mathlib.Numerals.{add-one}
use lib.ListN.{length, length-append, set, take, drop, get_or, length-drop}
use lib.Seq.{length-take-le, take-suc, sets, sets-eq, length-sets, set_comm, take-set-le, take-take, take_all, take-append_seam}
use Rattle.rules.specs.Calls.{overwrite}
use Rattle.rules.specs.Records.{field, fields, plain, encode}
use Rattle.records.specs.Writes.{stores, limit, Wrote}

sets_append : (l : List ℕ) (i : ℕ) (a b : List ℕ) → sets l i (a ++ b) ≡ sets (sets l i a) (i + length a) b
sets_append l i [] b = rw (add-zero i)
sets_append l i (x ∷ a) b = sets_append (set l i x) (suc i) a b ∙ ap (λ (k : ℕ). sets (sets (set l i x) (suc i) a) k b) (suc-add i (length a) ∙ sym (add-suc i (length a)))

-- one run behind the other
pub stores_append : (l : List ℕ) (at : ℕ) (a b : List ℕ) → stores l at (a ++ b) ≡ stores (stores l at a) (at + length a) b
unfolding stores
stores_append l at a b = sets_append l at a b

pub stores_length : (l : List ℕ) (at : ℕ) (bs : List ℕ) → length (stores l at bs) ≡ length l
unfolding stores
stores_length l at bs = length-sets l at bs

-- what stands below is left as it was
pub stores_below : (l : List ℕ) (at : ℕ) (bs : List ℕ) → take at (stores l at bs) ≡ take at l
unfolding stores
stores_below l at bs = go l at bs (le_refl at)
  where
    go : (l : List ℕ) (i : ℕ) (bs : List ℕ) → at ≤ i → take at (sets l i bs) ≡ take at l
    go l i [] h = refl
    go l i (b ∷ bs) h = go (set l i b) (suc i) bs (omega arith) ∙ take-set-le at l i b h

take_less : (n m : ℕ) (a b : List ℕ) → n ≤ m → take m a ≡ take m b → take n a ≡ take n b
take_less n m a b h e = sym (take-take n m a h) ∙ ap (take n) e ∙ take-take n m b h

-- where there is room, the bytes, and what stood before and behind
pub stores_room : (l : List ℕ) (at : ℕ) (bs : List ℕ) → at + length bs ≤ length l → stores l at bs ≡ take at l ++ bs ++ drop (at + length bs) l
unfolding stores
stores_room l at bs h = sets-eq bs l at h

-- a run that has room; one that has none; one that would pass the limit
pub has_room : {at r : ℕ} {bs l l' : List ℕ} → at ≤ r → (at + length bs ≤ limit → r ≡ at + length bs) → l' ≡ stores l at bs → Wrote at bs l l' r
has_room {at} {bs = bs} {l} g k e = record { long = ap length e ∙ stores_length l at bs; below = ap (take at) e ∙ stores_below l at bs; grows = g; place = k; wrote = λ _ _. e }

pub no_room : {at r : ℕ} {bs l : List ℕ} → at ≤ r → (at + length bs ≤ limit → r ≡ at + length bs) → length l < at + length bs → Wrote at bs l l r
no_room g k h = record { long = refl; below = refl; grows = g; place = k; wrote = λ _ f. absurd (omega arith) }

-- nothing written
pub nothing : (at : ℕ) (l : List ℕ) → Wrote at [] l l at
unfolding stores
nothing at l = record { long = refl; below = refl; grows = le_refl at; place = λ _. sym (add-zero at); wrote = λ _ _. refl }

-- a run that would pass the limit, and one that begins at it or behind it
pub beyond : {at : ℕ} {bs l : List ℕ} → limit < at + length bs → Wrote at bs l l at
beyond {at} h = record { long = refl; below = refl; grows = le_refl at; place = λ f. absurd (omega arith); wrote = λ f _. absurd (omega arith) }

pub at_limit : {at : ℕ} (bs : List ℕ) {l : List ℕ} → limit ≤ at → Wrote at bs l l at
at_limit {at} [] {l} h = nothing at l
at_limit {at} (b ∷ bs) h = beyond {bs = b ∷ bs} (omega arith)

-- a run written behind another
pub follows : {at w r : ℕ} (a b : List ℕ) {l l₁ l₂ : List ℕ} → Wrote at a l l₁ w → Wrote w b l₁ l₂ r → Wrote at (a ++ b) l l₂ r
unfolding stores
follows {at} {w} {r} a b {l} {l₁} {l₂} x y = record {
  long = y.long ∙ x.long;
  below = take_less at w l₂ l₁ x.grows y.below ∙ x.below;
  grows = le_trans x.grows y.grows;
  place = λ h.
      let k : length (a ++ b) ≡ length a + length b = length-append a b in
      let e : w ≡ at + length a = x.place (omega arith) in
      y.place (omega arith) ∙ omega arith;
  wrote = λ h f.
      let k : length (a ++ b) ≡ length a + length b = length-append a b in
      let e : w ≡ at + length a = x.place (omega arith) in
      let e₁ : l₁ ≡ sets l at a = x.wrote (omega arith) (omega arith) in
      let e₂ : l₂ ≡ sets l₁ w b = y.wrote (omega arith) (omega (arith, x.long)) in
      e₂ ∙ rw (e₁, e) (sym (sets_append l at a b));
}

-- bytes stored before others that were stored first
set_before : (l : List ℕ) (i j x : ℕ) (b : List ℕ) → i < j → set (sets l j b) i x ≡ sets (set l i x) j b
set_before l i j x [] h = refl
set_before l i j x (y ∷ b) h = set_before (set l j y) i (suc j) x b (omega arith) ∙ ap (λ (k : List ℕ). sets k (suc j) b) (set_comm l j i y x (λ e. omega arith))

sets_before : (l : List ℕ) (i j : ℕ) (a b : List ℕ) → i + length a ≤ j → sets (sets l j b) i a ≡ sets (sets l i a) j b
sets_before l i j [] b h = refl
sets_before l i j (x ∷ a) b h = ap (λ (k : List ℕ). sets k (suc i) a) (set_before l i j x b (omega arith)) ∙ sets_before (set l i x) (suc i) j a b (omega arith)

pub stored_before : (l : List ℕ) (i : ℕ) (a b : List ℕ) → stores (stores l (i + length a) b) i a ≡ stores l i (a ++ b)
unfolding stores
stored_before l i a b = sets_before l i (i + length a) a b (le_refl (i + length a)) ∙ sym (sets_append l i a b)

-- A head of k bytes that holds the count of the bytes behind it, written when they are: exact within the limit, as each of the two is.
pub headed : {at first w r k : ℕ} (head : ℕ → List ℕ) (b : List ℕ) {l l₁ l₂ : List ℕ} → ((n : ℕ) → length (head n) ≡ k) → at ≤ first → (at + k ≤ limit → first ≡ at + k)
    → Wrote first b l l₁ w → Wrote at (head (w - first)) l₁ l₂ r → Wrote at (head (length b) ++ b) l l₂ w
headed {at} {first} {w} {r} {k} head b {l} {l₁} {l₂} long h f x y = record {
  long = y.long ∙ x.long;
  below = y.below ∙ take_less at first l₁ l h x.below;
  grows = le_trans h x.grows;
  place = λ i.
      let n : length (head (length b) ++ b) ≡ length (head (length b)) + length b = length-append (head (length b)) b in
      let m : length (head (length b)) ≡ k = long (length b) in
      let e : first ≡ at + k = f (omega arith) in
      x.place (omega arith) ∙ omega arith;
  wrote = λ i j.
      let n : length (head (length b) ++ b) ≡ length (head (length b)) + length b = length-append (head (length b)) b in
      let m : length (head (length b)) ≡ k = long (length b) in
      let e : first ≡ at + length (head (length b)) = f (omega arith) ∙ omega arith in
      let c : w - first ≡ length b = omega (arith, x.place (omega arith)) in
      let e₁ : l₁ ≡ stores l (at + length (head (length b))) b = x.wrote (omega arith) (omega arith) ∙ rw e in
      let e₂ : l₂ ≡ stores l₁ at (head (length b)) = rw c at (y.wrote (omega (arith, long (w - first))) (omega (arith, long (w - first), x.long))) in
      e₂ ∙ rw e₁ (stored_before l at (head (length b)) b);
}

-- bytes stored one after the other by straight-line code
pub two : (l : List ℕ) (i a b : ℕ) → set (set l i a) (i + 1) b ≡ stores l i (a ∷ b ∷ [])
unfolding stores
two l i a b = rw add-one

pub four : (l : List ℕ) (i a b c d : ℕ) → set (set (set (set l i a) (i + 1) b) (i + 2) c) (i + 3) d ≡ stores l i (a ∷ b ∷ c ∷ d ∷ [])
unfolding stores
four l i a b c d =
    let e : i + 1 ≡ suc i = omega arith in
    let f : i + 2 ≡ suc (suc i) = omega arith in
    let g : i + 3 ≡ suc (suc (suc i)) = omega arith in
    rw (e, f, g)

-- No byte of a run.
pub stored_none : (l : List ℕ) (at : ℕ) (run : List ℕ) → l ≡ stores l at (take 0 run)
unfolding stores
stored_none l at run = refl

-- One byte more of a run.
pub stored_more : (l run : List ℕ) (at i : ℕ) → i < length run → set (stores l at (take i run)) (at + i) (get_or run i 0) ≡ stores l at (take (i + 1) run)
unfolding stores
stored_more l run at i h =
    let n : length (take i run) ≡ i = length-take-le i run (omega arith) in
    sym (rw (add-one i, take-suc run i 0 h, stores_append l at (take i run) (get_or run i 0 ∷ []), n))

-- a field's bytes, of a number that has more
pub four_of : (v : ℕ) (r : List ℕ) {b : List ℕ} → b ≡ field v ++ r → get_or b 0 0 ∷ get_or b 1 0 ∷ get_or b 2 0 ∷ get_or b 3 0 ∷ [] ≡ field v
unfolding field
four_of v r e = rw e

-- bytes stored from the first on
pub stored_over : (l b : List ℕ) → length b ≤ length l → stores l 0 b ≡ overwrite b l
unfolding overwrite
stored_over l b h = stores_room l 0 b (omega arith) ∙ rw (zero-add (length b))

pub taken_over : (l b : List ℕ) → length b ≤ length l → take (length b) (stores l 0 b) ≡ b
unfolding overwrite
taken_over l b h = rw (stored_over l b h) (take-append_seam b (drop (length b) l))

-- the part of a slice from a place to its end
pub rest_of : (l : List ℕ) (a : ℕ) → take (length l - a) (drop a l) ≡ drop a l
rest_of l a = take_all (length l - a) (drop a l) (omega (arith, length-drop a l))

-- a record's fields, one behind the other
fields_next : (ns : List ℕ) (i : ℕ) → i < length ns → fields (take (suc i) ns) ≡ fields (take i ns) ++ field (get_or ns i 0)
unfolding fields
fields_next [] i h = absurd (omega arith)
fields_next (n ∷ ns) zero h = append-nil (field n)
fields_next (n ∷ ns) (suc i) h = ap (λ (b : List ℕ). field n ++ b) (fields_next ns i (omega arith)) ∙ sym (append_assoc (field n) (fields (take i ns)) (field (get_or ns i 0)))

pub fields_start : {at r : ℕ} {m s l l' : List ℕ} (ns : List ℕ) → s ≡ m → Wrote at s l l' r → Wrote at (m ++ fields (take 0 ns)) l l' r
unfolding fields
fields_start {at} {r} {m} {l = l} {l'} ns e x = rw (append-nil m, sym e) x

pub fields_turn : {at w r i : ℕ} (m ns : List ℕ) {l l₁ l₂ : List ℕ} → i < length ns → Wrote at (m ++ fields (take i ns)) l l₁ w → Wrote w (field (get_or ns i 0)) l₁ l₂ r
    → Wrote at (m ++ fields (take (i + 1) ns)) l l₂ r
fields_turn {at} {w} {r} {i} m ns {l} {l₁} {l₂} h x y =
    subst (λ (b : List ℕ). Wrote at b l l₂ r)
    (append_assoc m (fields (take i ns)) (field (get_or ns i 0)) ∙ ap (λ (b : List ℕ). m ++ b) (sym (fields_next ns i h)) ∙ ap (λ (k : ℕ). m ++ fields (take k ns)) (sym (add-one i)))
    (follows (m ++ fields (take i ns)) (field (get_or ns i 0)) x y)

pub fields_end : {at w i : ℕ} (m ns : List ℕ) {l l₁ : List ℕ} → length ns ≤ i → Wrote at (m ++ fields (take i ns)) l l₁ w → Wrote at (encode (plain m ns)) l l₁ w
unfolding encode
fields_end {i = i} m ns h x = rw (take_all i ns h) at x
