-- In a good table the keys rise, so at most one row has a word's key, and the word names the operation of that row.
use mathlib.Core.Path.{◌≡◌, refl, sym, ap, subst, ◌∙◌}
use mathlib.Core.Bool.{true, false, ◌&&◌}
use mathlib.Core.List.{List, map}
use mathlib.Core.Option.{Option, none, some}
use Rattle.std.specs.Prelude.{Option as Maybe, None, Some}
use Prim.Native.Nat.{ℕ, zero, suc, ◌+◌, ◌*◌, ◌≤◌, ◌<◌, suc-le-suc}
use native.Mathlib.Nat.{le_of_suc-le-suc, not-suc-le-zero, lt_trans}
use native.Mathlib.Omega.{arith}
use lib.Dec.{T, eqb, leb, ltb, eqb→eq, leb→le, ltb→lt}
use lib.ListN.{get_or, drop}
use lib.Seq.{get_or-drop, drop-drop}
use borrow.Author.Tests.{eq-eqb, ne_eqb}
use Rattle.lexer.specs.Text.{maybe, lower}
use Rattle.names.specs.declared.Directive.{Directive}
use Rattle.names.specs.Names.{directives, directive_from, spelling, rows_in, operation_from, operation_named}
use Rattle.names.specs.Keys.{key, key_at, key_of, spelled, keys_of, place_of, directive_by, operation_from_key, operation_by, good_from, apart_from, good_table}
use Rattle.names.proofs.Keys.{Bytes, both, by_key, lower_small}

-- the first of n + 1 good rows
record Good (n k : ℕ) (t : List ℕ) : Type 0 where
  pub above : k < key t
  pub letters : T (spelled (spelling t))
  pub filled : key t ≡ key (spelling t)
  pub more : T (good_from n (key t) (drop 8 t))

good : (n k : ℕ) (t : List ℕ) → T (good_from (suc n) k t) → Good n k t
unfolding good_from
good n k t g =
    let m = both (ltb k (key t) && spelled (spelling t) && eqb (key t) (key (spelling t))) (good_from n (key t) (drop 8 t)) g in
    let f = both (ltb k (key t) && spelled (spelling t)) (eqb (key t) (key (spelling t))) m.0 in
    let a = both (ltb k (key t)) (spelled (spelling t)) f.0 in
    record { above = ltb→lt k (key t) a.0; letters = a.1; filled = eqb→eq (key t) (key (spelling t)) f.1; more = m.1 }

next : (t : List ℕ) (k : ℕ) → key_at t (suc k) ≡ key_at (drop 8 t) k
next t k = let e : 8 * suc k ≡ 8 + 8 * k = omega arith in ap (λ (n : ℕ). key (drop n t)) e ∙ ap key (sym (drop-drop (8 * k) 8 t))

above : (n p : ℕ) (t : List ℕ) → T (good_from n p t) → (k : ℕ) → k < n → p < key_at t k
above zero p t g k h = absurd (not-suc-le-zero h)
above (suc n) p t g zero h = (good n p t g).above
above (suc n) p t g (suc k) h =
    let r = good n p t g in
    rw (next t k) (lt_trans r.above (above n (key t) (drop 8 t) r.more k (le_of_suc-le-suc h)))

rise : (n p : ℕ) (t : List ℕ) → T (good_from n p t) → (i j : ℕ) → i < j → j < n → key_at t i < key_at t j
rise zero p t g i j l h = absurd (not-suc-le-zero h)
rise (suc n) p t g i zero l h = absurd (not-suc-le-zero l)
rise (suc n) p t g zero (suc j) l h = rw (next t j) (above n (key t) (drop 8 t) (good n p t g).more j (le_of_suc-le-suc h))
rise (suc n) p t g (suc i) (suc j) l h =
    rw (next t i, next t j) (rise n (key t) (drop 8 t) (good n p t g).more i j (le_of_suc-le-suc l) (le_of_suc-le-suc h))

-- the two tests of a good table
module _ (t : List ℕ) (g : good_table t ≡ true) where
  tests : T (ltb 0 (rows_in t) && leb (rows_in t) 128 && good_from (rows_in t) 0 t) × T (apart_from (rows_in t) t)
  unfolding good_table
  tests = both (ltb 0 (rows_in t) && leb (rows_in t) 128 && good_from (rows_in t) 0 t) (apart_from (rows_in t) t) (subst T (sym g) tt)

  sizes : T (ltb 0 (rows_in t) && leb (rows_in t) 128) × T (good_from (rows_in t) 0 t)
  sizes = both (ltb 0 (rows_in t) && leb (rows_in t) 128) (good_from (rows_in t) 0 t) tests.0

  rows_good : T (good_from (rows_in t) 0 t)
  rows_good = sizes.1

  -- it has a row, and few
  pub a_row : 0 < rows_in t
  a_row = ltb→lt 0 (rows_in t) (both (ltb 0 (rows_in t)) (leb (rows_in t) 128) sizes.0).0

  pub few_rows : rows_in t ≤ 128
  few_rows = leb→le (rows_in t) 128 (both (ltb 0 (rows_in t)) (leb (rows_in t) 128) sizes.0).1

  pub rising : (i j : ℕ) → i < j → j < rows_in t → key_at t i < key_at t j
  rising = rise (rows_in t) 0 t rows_good

  -- no row has the key 0
  pub positive : (k : ℕ) → k < rows_in t → 0 < key_at t k
  positive = above (rows_in t) 0 t rows_good

-- What is found by a key.
module _ (x : ℕ) where
  absent : (n : ℕ) (t : List ℕ) → ((k : ℕ) → k < n → key_at t k ≡ x → ⊥) → operation_from_key n x t ≡ none
  unfolding operation_from_key
  absent zero t none_has = refl
  absent (suc n) t none_has =
      rw (ne_eqb x (key t) (λ e. none_has 0 (omega arith) (sym e)), absent n (drop 8 t) (λ k h e. none_has (suc k) (suc-le-suc h) (next t k ∙ e)))

  present : (n p : ℕ) (t : List ℕ) → T (good_from n p t) → (k : ℕ) → k < n → key_at t k ≡ x → operation_from_key n x t ≡ some (get_or t (8 * k + 7) 0)
  unfolding operation_from_key
  present zero p t g k h e = absurd (not-suc-le-zero h)
  present (suc n) p t g zero h e = rw (eq-eqb x (key t) (sym e))
  present (suc n) p t g (suc k) h e =
      let l : key_at t 0 < key_at t (suc k) = rise (suc n) p t g 0 (suc k) (omega arith) h in
      let m : 8 + (8 * k + 7) ≡ 8 * suc k + 7 = omega arith in
      rw (ne_eqb x (key t) (λ q. omega arith))
      (present n (key t) (drop 8 t) (good n p t g).more k (le_of_suc-le-suc h) (sym (next t k) ∙ e)
      ∙ ap some (get_or-drop 8 t (8 * k + 7) 0 ∙ ap (λ (i : ℕ). get_or t i 0) m))

-- A key that is looked up in a good table.
module _ (t : List ℕ) (g : good_table t ≡ true) (x : ℕ) where
  -- k is the one row that may have it
  module _ (k : ℕ) (h : k < rows_in t) where
    pub there : key_at t k ≡ x → some (get_or t (8 * k + 7) 0) ≡ operation_by t x
    unfolding operation_by
    there e = sym (present x (rows_in t) 0 t (rows_good t g) k h e)

    pub nowhere : ((i : ℕ) → i < rows_in t → key_at t i ≡ x → i ≡ k) → (key_at t k ≡ x → ⊥) → none ≡ operation_by t x
    unfolding operation_by
    nowhere only differs = sym (absent x (rows_in t) t (λ i l e. differs (ap (key_at t) (sym (only i l e)) ∙ e)))

  pub null_key : x ≡ 0 → none ≡ operation_by t x
  unfolding operation_by
  null_key z = sym (absent x (rows_in t) t (λ k h e. let l : 0 < key_at t k = positive t g k h in omega arith))

-- A word names the operation of its key.
module _ (v : List ℕ) (small : (i : ℕ) → get_or v i 0 < 256) where
  same_rows : (n p : ℕ) (t : List ℕ) → T (good_from n p t) → operation_from_key n (key_of v) t ≡ operation_from n v t
  unfolding operation_from operation_from_key
  same_rows zero p t g = refl
  same_rows (suc n) p t g =
      let r = good n p t g in
      rw (by_key v small (spelling t) r.letters ∙ ap (eqb (key_of v)) (sym r.filled), same_rows n (key t) (drop 8 t) r.more)

pub operates_by : (t : List ℕ) → good_table t ≡ true → (w : List ℕ) → Bytes w → {x : ℕ} → x ≡ key_of (map lower w) → operation_by t x ≡ operation_named t w
unfolding operation_by operation_named
operates_by t g w small e = ap (operation_by t) e ∙ same_rows (map lower w) (lower_small w small) (rows_in t) 0 t (rows_good t g)

-- No directive is an operation.
free : (n : ℕ) (t : List ℕ) → T (apart_from n t) → (k : ℕ) → k < n → T (maybe (place_of 0 (key_at t k) (keys_of directives)) true (λ d. false))
unfolding apart_from
free zero t a k h = absurd (not-suc-le-zero h)
free (suc n) t a zero h = (both (maybe (place_of 0 (key t) (keys_of directives)) true (λ d. false)) (apart_from n (drop 8 t)) a).0
free (suc n) t a (suc k) h =
    rw (next t k)
    (free n (drop 8 t) (both (maybe (place_of 0 (key t) (keys_of directives)) true (λ d. false)) (apart_from n (drop 8 t)) a).1 k (le_of_suc-le-suc h))

-- what is a directive
abbrev pub Directs : Maybe Directive → Type 0
Directs None = ⊥
Directs (Some d) = Unit {0}

pub directive_apart : (t : List ℕ) → good_table t ≡ true → (x : ℕ) → Directs (directive_by x) → none ≡ operation_by t x
unfolding operation_by
directive_apart t g x d =
    sym (absent x (rows_in t) t (λ k h q. by (place_of 0 x (keys_of directives)) d (subst (λ (i : ℕ). T (maybe (place_of 0 i (keys_of directives)) true (λ (n : ℕ). false))) q (free (rows_in t) t (tests t g).1 k h))))
  where
    by : (o : Option ℕ) → Directs (directive_from o) → T (maybe o true (λ (n : ℕ). false)) → ⊥
    by none p q = p
    by (some n) p q = q
