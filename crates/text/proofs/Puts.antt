-- Text written one run behind the other, in a buffer that may end before it does.
use Prim.Native.Nat.{ℕ, suc, ◌+◌, ◌≤◌, ◌<◌}
use mathlib.Core.Path.{◌≡◌, refl, sym, ap, ◌∙◌}
use mathlib.Core.List.{List, [], ◌∷◌, ◌++◌, append_assoc, append-nil}
use native.Mathlib.Omega.{arith, min_cases}
use native.Mathlib.Numerals.{add-one}
use native.Mathlib.Nat.{add-zero, add-suc, suc-add}
use lib.ListN.{length, length-append, set, take, get_or}
use lib.Seq.{sets, length-sets, set_out, take-suc}
use Rattle.lexer.specs.Text.{bytes}
use Rattle.text.specs.declared.Text.{Text}
use Rattle.text.specs.Text.{decimal, numbers, stores, Put}

pub sets_append : (l : List ℕ) (i : ℕ) (a b : List ℕ) → sets l i (a ++ b) ≡ sets (sets l i a) (i + length a) b
sets_append l i [] b = rw (add-zero i)
sets_append l i (x ∷ a) b = sets_append (set l i x) (suc i) a b ∙ ap (λ (k : ℕ). sets (sets (set l i x) (suc i) a) k b) (suc-add i (length a) ∙ sym (add-suc i (length a)))

-- beyond the end nothing is written
pub sets_out : (l : List ℕ) (i : ℕ) (bs : List ℕ) → length l ≤ i → sets l i bs ≡ l
sets_out l i [] h = refl
sets_out l i (b ∷ bs) h = ap (λ (k : List ℕ). sets k (suc i) bs) (set_out l i b h) ∙ sets_out l (suc i) bs (omega arith)

pub wrote_length : {bs : List ℕ} {t t' : Text} → Put bs t t' → length t'.out.now ≡ length t.out.now
unfolding stores
wrote_length {bs} {t} x = ap length x.text ∙ length-sets t.out.now t.at bs

pub nothing : (t : Text) → Put [] t t
unfolding stores
nothing t = record { text = refl; place = omega arith; buffer = refl }

-- a byte that has room, and one that has none
pub one : {b : ℕ} {t t' : Text} → t.at < length t.out.now → t'.out.now ≡ set t.out.now t.at b → t'.at ≡ t.at + 1 → t'.out.ghost_name ≡ t.out.ghost_name → Put (b ∷ []) t t'
unfolding stores
one h e p n = record { text = e; place = omega arith; buffer = n }

pub none : {b : ℕ} {t : Text} → length t.out.now ≤ t.at → Put (b ∷ []) t t
unfolding stores
none {b} {t} h = record { text = sym (sets_out t.out.now t.at (b ∷ []) h); place = omega arith; buffer = refl }

pub follows : (a b : List ℕ) {t t₁ t₂ : Text} → Put a t t₁ → Put b t₁ t₂ → Put (a ++ b) t t₂
unfolding stores
follows a b {t} {t₁} {t₂} x y =
    let l : List ℕ = t.out.now in
    let at : ℕ = t.at in
    let w : ℕ = t₁.at in
    let n : length t₁.out.now ≡ length l = wrote_length x in
    let e : t₂.out.now ≡ sets (sets l at a) w b = y.text ∙ ap (λ (k : List ℕ). sets k w b) x.text in
    let k : length (a ++ b) ≡ length a + length b = length-append a b in
    let m : length (sets l at a) ≡ length l = length-sets l at a in
    let p = x.place in
    let q = y.place in
    record {
      text = e ∙ min_cases (at + length a) (length l) _
          (λ h _. ap (λ (i : ℕ). sets (sets l at a) i b) (omega arith))
          (λ h _. sets_out (sets l at a) w b (omega arith) ∙ sym (sets_out (sets l at a) (at + length a) b (omega arith)))
          ∙ sym (sets_append l at a b);
      place = omega arith;
      buffer = y.buffer ∙ x.buffer;
    }

-- the text of a slice, byte by byte
pub one_more : {i : ℕ} (s : List ℕ) {t t₁ t₂ : Text} → i < length s → Put (take i s) t t₁ → Put (get_or s i 0 ∷ []) t₁ t₂ → Put (take (i + 1) s) t t₂
one_more {i} s h x y = rw (add-one, take-suc s i 0) (follows (take i s) (get_or s i 0 ∷ []) x y)

pub numbers_append : (a b : List ℕ) → numbers (a ++ b) ≡ numbers a ++ numbers b
unfolding numbers
numbers_append [] b = refl
numbers_append (n ∷ a) b = rw (numbers_append a b) (sym (append_assoc (bytes " " ++ decimal n) (numbers a) (numbers b)))

pub number : (n : ℕ) {t t' : Text} → Put (bytes " " ++ decimal n) t t' → Put (numbers (n ∷ [])) t t'
unfolding numbers
number n x = rw (append-nil (bytes " " ++ decimal n)) x

-- one number more, behind a mark or what else stands before
pub behind : (m ns : List ℕ) (n : ℕ) {t t₁ t₂ : Text} → Put (m ++ numbers ns) t t₁ → Put (numbers (n ∷ [])) t₁ t₂ → Put (m ++ numbers (ns ++ (n ∷ []))) t t₂
behind m ns n x y = rw (numbers_append ns (n ∷ []), ← append_assoc m (numbers ns) (numbers (n ∷ []))) (follows (m ++ numbers ns) (numbers (n ∷ [])) x y)

-- each element of a list as a number
pub number_behind : (m s : List ℕ) {i : ℕ} {t t₁ t₂ : Text} → i < length s → Put (m ++ numbers (take i s)) t t₁ → Put (numbers (get_or s i 0 ∷ [])) t₁ t₂ → Put (m ++ numbers (take (i + 1) s)) t t₂
number_behind m s {i} h x y = rw (add-one, take-suc s i 0) (behind m (take i s) (get_or s i 0) x y)

pub reads_as : {a b : List ℕ} {t t' : Text} → a ≡ b → Put a t t' → Put b t t'
reads_as e x = rw e at x
