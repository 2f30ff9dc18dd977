-- A word is a name exactly where their keys agree. A name has no zero among its letters, and a word that has a key ends in none,
-- so the zeros that fill a key up are told from letters.
use Rattle.std.specs.Prelude.{if◌then◌else◌}
use Rattle.std.specs.Char.{to_ascii_lowercase}
use Rattle.std.specs.Int.{from_be_bytes, w64}
use Rattle.std.specs.Simd.{first_chunks}
use Rattle.std.proofs.lemmas.List.{get_or-take}
use Rattle.std.proofs.lemmas.Str.Ascii.{lowercase_is}
use mathlib.Core.Path.{◌≡◌, refl, sym, ap, subst, ◌∙◌}
use mathlib.Core.Bool.{Bool, true, false, not, ◌&&◌}
use mathlib.Core.List.{List, [], ◌∷◌, map}
use mathlib.Core.Logic.{◌⊎◌, inl, inr, ⊎_elim}
use Prim.Native.Nat.{ℕ, zero, suc, ◌+◌, ◌*◌, ◌-◌, ◌≤◌, ◌<◌}
use native.Mathlib.Nat.{le_of_suc-le-suc, not-suc-le-zero, suc_inj, add-zero}
use native.Mathlib.Omega.{arith}
use mir.Syntax.{w8}
use mir.Val.{Fits}
use lib.Dec.{T, eqb, leb, ltb, eqb→eq, leb→le, ltb→lt}
use lib.ListN.{length, get_or, take, drop, get_or-map}
use lib.Seq.{get_or-drop, drop-drop}
use borrow.Author.Tests.{eq-eqb, ne_eqb, eqb-false, le-leb, lt-leb, leb-true, leb-false}
use Rattle.lexer.specs.Text.{all, same, lower, within}
use Rattle.names.specs.Names.{rows_in}
use Rattle.names.specs.Keys.{joined, seven, eight, key, key_of, spelled}

pub both : (b c : Bool) → T (b && c) → T b × T c
both true c t = (tt, t)
both false c t = absurd t

iff : (b c : Bool) → (T b → T c) → (T c → T b) → b ≡ c
iff true true f g = refl
iff true false f g = absurd (f tt)
iff false true f g = absurd (g tt)
iff false false f g = refl

pub lowercase : (c : ℕ) → to_ascii_lowercase c ≡ lower c
unfolding lower within
lowercase c = by (leb 65 c) (leb c 90) refl refl
  where
    by : (p q : Bool) → leb 65 c ≡ p → leb c 90 ≡ q → to_ascii_lowercase c ≡ (if p && q then c + 32 else c)
    by true true e f = let l = leb-true 65 c e in let m = leb-true c 90 f in (lowercase_is c).0 (omega arith, omega arith)
    by true false e f = let m = leb-false c 90 f in (lowercase_is c).2 (omega arith)
    by false q e f = let m = leb-false 65 c e in (lowercase_is c).1 (omega arith)

pub lower_null : (c : ℕ) → lower c ≡ 0 → c ≡ 0
unfolding lower within
lower_null c = by (leb 65 c && leb c 90)
  where
    by : (b : Bool) → (if b then c + 32 else c) ≡ 0 → c ≡ 0
    by true e = absurd (omega arith)
    by false e = e

pub null_lower : {c : ℕ} → c ≡ 0 → lower c ≡ 0
unfolding lower within
null_lower e = rw e refl

-- the letters of a word in lower case
pub lower_at : (w : List ℕ) (i : ℕ) → get_or (map lower w) i 0 ≡ lower (get_or w i 0)
unfolding lower within
lower_at w i = get_or-map lower w i 0

-- the elements of a slice of bytes
abbrev pub Bytes : List ℕ → Type 0
Bytes w = (i : ℕ) → Fits w8 (get_or w i 0)

pub lower_small : (w : List ℕ) → Bytes w → (i : ℕ) → get_or (map lower w) i 0 < 256
unfolding lower within
lower_small w small i = rw (lower_at w i) (by (leb 65 (get_or w i 0)) (leb (get_or w i 0) 90) (leb-true (get_or w i 0) 90))
  where
    by : (p q : Bool) → (q ≡ true → get_or w i 0 ≤ 90) → (if p && q then get_or w i 0 + 32 else get_or w i 0) < 256
    by true true f = let l : get_or w i 0 ≤ 90 = f refl in omega arith
    by true false f = omega (arith, small i)
    by false q f = omega (arith, small i)

same_refl : (s : List ℕ) → T (same s s)
unfolding same
same_refl [] = tt
same_refl (c ∷ s) = rw (eq-eqb c c refl) (same_refl s)

pub same_eq : (s t : List ℕ) → T (same s t) → s ≡ t
unfolding same
same_eq [] [] e = refl
same_eq [] (d ∷ t) e = absurd e
same_eq (c ∷ s) [] e = absurd e
same_eq (c ∷ s) (d ∷ t) e = by (eqb c d) (eqb→eq c d) (same_eq s t) e
  where
    by : (b : Bool) → (T b → c ≡ d) → (T (same s t) → s ≡ t) → T (if b then same s t else false) → c ∷ s ≡ d ∷ t
    by true f g h = let p : c ≡ d = f tt in let q : s ≡ t = g h in cc
    by false f g h = absurd h

-- what the code reads one by one
pub seven_key : (s : List ℕ) → seven s ≡ key s
unfolding key
seven_key s = simp get_or-drop

pub eight_key : (s : List ℕ) (i : ℕ) → eight s i ≡ key (drop i s) * 256 + get_or s (i + 7) 0
unfolding key
eight_key s i = simp (get_or-drop, add-zero)

-- a row is one of the chunks of eight bytes
chunk : (n i : ℕ) (t : List ℕ) → i < n → get_or (first_chunks 8 n t) i [] ≡ take 8 (drop (8 * i) t)
chunk zero i t h = absurd (omega arith)
chunk (suc n) zero t h = refl
chunk (suc n) (suc i) t h =
    let e : 8 + 8 * i ≡ 8 * suc i = omega arith in
    chunk n i (drop 8 t) (omega arith) ∙ ap (take 8) (drop-drop (8 * i) 8 t ∙ ap (λ (j : ℕ). drop j t) e)

be_eight : (s : List ℕ) → from_be_bytes w64 (take 8 s) ≡ eight s 0
be_eight s =
    let at : (i : ℕ) → i < 8 → get_or (take 8 s) i 0 ≡ get_or s i 0 = λ i h. get_or-take 8 s i 0 h in
    omega (arith, at 0 (omega arith), at 1 (omega arith), at 2 (omega arith), at 3 (omega arith), at 4 (omega arith), at 5 (omega arith), at 6 (omega arith), at 7 (omega arith))

pub be_row : (t : List ℕ) (i : ℕ) → i < rows_in t → from_be_bytes w64 (get_or (first_chunks 8 (rows_in t) t) i []) ≡ eight t (8 * i)
be_row t i h = ap (from_be_bytes w64) (chunk (rows_in t) i t h) ∙ be_eight (drop (8 * i) t) ∙ simp (get_or-drop, add-zero)

pub key_low : (t : List ℕ) → ((i : ℕ) → get_or t i 0 < 256) → (i : ℕ) → key (drop i t) < 72057594037927936
key_low t small i = omega (arith, eight_key t i, small i, small (i + 1), small (i + 2), small (i + 3), small (i + 4), small (i + 5), small (i + 6), small (i + 7))

-- a number behind its first n bytes, and the next
pub joined_last : (n a : ℕ) (s : List ℕ) → joined a (suc n) s ≡ joined a n s * 256 + get_or s n 0
joined_last zero a s = refl
joined_last (suc n) a s = joined_last n (a * 256 + get_or s 0 0) (drop 1 s) ∙ ap (λ (c : ℕ). joined a (suc n) s * 256 + c) (get_or-drop 1 s n 0 ∙ ap (λ (i : ℕ). get_or s i 0) (omega arith))

-- up to n bytes, of which the last is not zero
record Word (n : ℕ) (s : List ℕ) : Type 0 where
  pub short : length s ≤ n
  pub small : (i : ℕ) → get_or s i 0 < 256
  pub ends : (i : ℕ) → length s ≡ suc i → get_or s i 0 ≡ 0 → ⊥

none : (n : ℕ) → Word n []
none n = record { short = omega arith; small = λ i. omega arith; ends = λ i e z. absurd (omega arith) }

rest : {n c : ℕ} {s : List ℕ} → Word (suc n) (c ∷ s) → Word n s
rest w = record { short = le_of_suc-le-suc w.short; small = λ i. w.small (suc i); ends = λ i e. w.ends (suc i) (ap suc e) }

-- The number of a word's bytes gives them back, one after the other.
parts : (n a b : ℕ) (s t : List ℕ) → Word n s → Word n t → joined a n s ≡ joined b n t → (a ≡ b) × (s ≡ t)
parts zero a b [] [] p q e = (e, refl)
parts zero a b [] (d ∷ t) p q e = absurd (not-suc-le-zero q.short)
parts zero a b (c ∷ s) t p q e = absurd (not-suc-le-zero p.short)
parts (suc n) a b [] [] p q e =
    let r = parts n (a * 256 + 0) (b * 256 + 0) [] [] (none n) (none n) e in
    let h : a * 256 + 0 ≡ b * 256 + 0 = r.0 in
    (omega arith, refl)
parts (suc n) a b [] (d ∷ t) p q e =
    let r = parts n (a * 256 + 0) (b * 256 + d) [] t (none n) (rest q) e in
    let h : a * 256 + 0 ≡ b * 256 + d = r.0 in
    let l : d < 256 = q.small 0 in
    absurd (q.ends 0 (ap (λ (x : List ℕ). suc (length x)) (sym r.1)) (omega arith))
parts (suc n) a b (c ∷ s) [] p q e =
    let r = parts n (a * 256 + c) (b * 256 + 0) s [] (rest p) (none n) e in
    let h : a * 256 + c ≡ b * 256 + 0 = r.0 in
    let l : c < 256 = p.small 0 in
    absurd (p.ends 0 (ap (λ (x : List ℕ). suc (length x)) r.1) (omega arith))
parts (suc n) a b (c ∷ s) (d ∷ t) p q e =
    let r = parts n (a * 256 + c) (b * 256 + d) s t (rest p) (rest q) e in
    let h : a * 256 + c ≡ b * 256 + d = r.0 in
    let l : c < 256 = p.small 0 in
    let m : d < 256 = q.small 0 in
    let x : c ≡ d = omega arith in
    let y : s ≡ t = r.1 in
    (omega arith, cc)

-- how a word's key is found
pub long : (v : List ℕ) → 7 < length v → 0 ≡ key_of v
unfolding key_of
long v h = simp (lt-leb (length v) 7 h)

pub null : (v : List ℕ) → get_or v (length v - 1) 0 ≡ 0 → 0 ≡ key_of v
unfolding key_of
null v e = by (leb (length v) 7)
  where
    by : (b : Bool) → 0 ≡ (if b && not (eqb (get_or v (length v - 1) 0) 0) then key v else 0)
    by true = simp (eq-eqb (get_or v (length v - 1) 0) 0 e)
    by false = refl

pub whole : (v : List ℕ) → length v ≤ 7 → (get_or v (length v - 1) 0 ≡ 0 → ⊥) → key v ≡ key_of v
unfolding key_of
whole v h d = simp (le-leb (length v) 7 h, ne_eqb (get_or v (length v - 1) 0) 0 d)

-- What is spelled is a word, and has letters.
abbrev letter : ℕ → Bool
letter c = ltb 0 c && ltb c 256

small_letters : (s : List ℕ) → T (all letter s) → (i : ℕ) → get_or s i 0 < 256
unfolding all
small_letters [] t i = omega arith
small_letters (c ∷ s) t zero = ltb→lt c 256 (both (ltb 0 c) (ltb c 256) (both (letter c) (all letter s) t).0).1
small_letters (c ∷ s) t (suc i) = small_letters s (both (letter c) (all letter s) t).1 i

no_zero : (s : List ℕ) → T (all letter s) → (i : ℕ) → length s ≡ suc i → get_or s i 0 ≡ 0 → ⊥
unfolding all
no_zero [] t i e z = absurd (omega arith)
no_zero (c ∷ s) t zero e z =
    let l : 0 < c = ltb→lt 0 c (both (ltb 0 c) (ltb c 256) (both (letter c) (all letter s) t).0).0 in
    omega arith
no_zero (c ∷ s) t (suc i) e z = no_zero s (both (letter c) (all letter s) t).1 i (suc_inj e) z

module _ (s : List ℕ) (t : T (spelled s)) where
  sizes : T (ltb 0 (length s) && leb (length s) 7)
  unfolding spelled
  sizes = (both (ltb 0 (length s) && leb (length s) 7) (all letter s) t).0

  letters : T (all letter s)
  unfolding spelled
  letters = (both (ltb 0 (length s) && leb (length s) 7) (all letter s) t).1

  positive : 0 < length s
  positive = ltb→lt 0 (length s) (both (ltb 0 (length s)) (leb (length s) 7) sizes).0

  word : Word 7 s
  word =
      record {
        short = leb→le (length s) 7 (both (ltb 0 (length s)) (leb (length s) 7) sizes).1;
        small = small_letters s letters;
        ends = no_zero s letters;
      }

  -- 0 is no name's key
  no_null : 0 ≡ key s → ⊥
  unfolding key
  no_null e = let q : [] ≡ s = (parts 7 0 0 [] s (none 7) word e).1 in let h : 0 ≡ length s = ap length q in omega (arith, positive)

  key_spelled : key_of s ≡ key s
  key_spelled =
      let l : length s ≡ suc (length s - 1) = omega (arith, positive) in
      sym (whole s word.short (word.ends (length s - 1) l))

-- A word has no key, or its key is that of its letters.
module _ (v : List ℕ) (small : (i : ℕ) → get_or v i 0 < 256) where
  keyed : (key_of v ≡ 0) ⊎ (Word 7 v × (key_of v ≡ key v))
  unfolding key_of
  keyed = by (leb (length v) 7) (eqb (get_or v (length v - 1) 0) 0) (leb-true (length v) 7) (eqb-false (get_or v (length v - 1) 0) 0)
    where
      by :
          (b z : Bool) → (b ≡ true → length v ≤ 7) → (z ≡ false → get_or v (length v - 1) 0 ≡ 0 → ⊥)
          → ((if b && not z then key v else 0) ≡ 0) ⊎ (Word 7 v × ((if b && not z then key v else 0) ≡ key v))
      by false z f g = inl refl
      by true true f g = inl refl
      by true false f g =
          inr (record { short = f refl; small = small; ends = λ i e z. let h : length v - 1 ≡ i = omega arith in g refl (ap (λ (n : ℕ). get_or v n 0) h ∙ z) }, refl)

  pub by_key : (u : List ℕ) → T (spelled u) → same v u ≡ eqb (key_of v) (key u)
  unfolding key
  by_key u t = iff (same v u) (eqb (key_of v) (key u)) there back
    where
      there : T (same v u) → T (eqb (key_of v) (key u))
      there h = subst T (sym (eq-eqb (key_of v) (key u) (ap key_of (same_eq v u h) ∙ key_spelled u t))) tt

      back : T (eqb (key_of v) (key u)) → T (same v u)
      back h =
          let e : key_of v ≡ key u = eqb→eq (key_of v) (key u) h in
          ⊎_elim
          (λ z. absurd (no_null u t (sym z ∙ e)))
          (λ w. subst (λ (x : List ℕ). T (same v x)) (parts 7 0 0 v u w.0 (word u t) (sym w.1 ∙ e)).1 (same_refl v))
          keyed

  pub bounded : key_of v < 72057594037927936
  bounded =
      ⊎_elim
      (λ z. omega arith)
      (λ w. omega (arith, w.1, seven_key v, small 0, small 1, small 2, small 3, small 4, small 5, small 6))
      keyed
