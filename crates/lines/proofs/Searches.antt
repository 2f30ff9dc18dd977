-- Where a search for a line feed stops, from a place on and back from one.
-- Assumes nothing.
use Rattle.std.proofs.Common.{Option, None, Some, Bor, Iter, reverse}
use Rattle.std.specs.Option.{MatchOption, IsSomeAnd, unwrap_or, option_eq}
use Rattle.std.specs.Iterator.{FindsPosition, FindsPositionBack}
use Rattle.std.specs.Slice.Iter.{iter_rest, iter_steps_back}
use denote.Param.Members.{Mut}
use Rattle.std.specs.List.{AllWithin, HoldsAt}
use Rattle.std.proofs.lemmas.Iterator.{YieldsList, index_from_first}
use Rattle.std.proofs.lemmas.Iterator.Consumers.{YieldsList-from_shown}
use Rattle.std.proofs.lemmas.List.{get_or-reverse, get_or-take, length-reverse}
use Prim.Native.Nat.{ℕ, zero, suc, ◌+◌, ◌-◌, ◌≤◌, ◌<◌}
use mathlib.Core.Path.{◌≡◌, refl, sym, ap, subst, ◌∙◌}
use mathlib.Core.Bool.{Bool, true, false, true≢false}
use mathlib.Core.List.{List, [], ◌∷◌, reverse-append}
use native.Mathlib.Omega.{arith}
use native.Mathlib.Nat.{sub-zero}
use lib.Dec.{eqb}
use lib.ListN.{length, take, get_or}
use lib.Seq.{length-take-le}
use Rattle.lexer.specs.Text.{among, run}
use Rattle.lexer.specs.Tokens.{in_comment}
use Rattle.rules.specs.Patch.{begins_line}
use Rattle.lines.proofs.Laws.{feed_stops, other_goes, part, begins_first, begins_beyond, begins_behind, begins_fed, none_among, none_before}

abbrev pub Feed : ℕ → Type 0
Feed c = c ≡ 10

abbrev pub Other : ℕ → Type 0
Other c = c ≡ 10 → ⊥

-- The first line feed of r, or none, is the one that stands first.
abbrev pub Found : List ℕ → Option ℕ → Type 0
Found t r = MatchOption r (AllWithin Other t 0 (length t)) (λ i. (i < length t) × HoldsAt Feed t i × AllWithin Other t 0 i)

-- a line goes on up to its first line feed
pub run_found : (t : List ℕ) (r : Option ℕ) → Found t r → run in_comment t ≡ unwrap_or r (length t)
unfolding run
run_found t r f = index_from_first (run in_comment) Feed Other refl (λ c cs e. rw (feed_stops c e)) (λ c cs n. rw (other_goes c n) (omega arith)) t r f

-- a line begins where a line feed stands before
pub begins_got : (s : List ℕ) (a : ℕ) (o : Option (Bor ℕ)) (q : Bor ℕ) → (a ≡ 0 → ⊥) → q.now ≡ 10
    → MatchOption o (length s ≤ a - 1) (λ x. (a - 1 < length s) × HoldsAt (λ y. x.now ≡ y) s (a - 1)) → option_eq (λ x y. eqb x.now y.now) o (Some q) ≡ begins_line s a
begins_got s a None q n e f = begins_beyond s a n (omega arith)
begins_got s a (Some x) q n e f = rw (f.1 0, e) (begins_behind s a n (omega arith))

module _ (s : List ℕ) (e : ℕ) (h : e ≤ length s) where
  -- the bytes before e, the last first
  abbrev pub back : List ℕ
  back = reverse (take e s)

  long : length back ≡ e
  long = length-reverse (take e s) ∙ length-take-le e s h

  back_at : (k : ℕ) → k < e → get_or back k 0 ≡ get_or s (e - k - 1) 0
  back_at k l =
      let n : length (take e s) ≡ e = length-take-le e s h in
      let m : length (take e s) - 1 - k ≡ e - k - 1 = omega arith in
      get_or-reverse (take e s) k 0 (omega arith) ∙ ap (λ (i : ℕ). get_or (take e s) i 0) m ∙ get_or-take e s (e - k - 1) 0 (omega arith)

  none_back : (n : ℕ) → n ≤ e → ((k : ℕ) → k < n → get_or back k 0 ≡ 10 → ⊥) → among 10 (part s (e - n) e) ≡ false
  none_back zero l f = rw (sub-zero e) (none_among s e)
  none_back (suc n) l f =
      let m : e - n - 1 ≡ e - suc n = omega arith in
      ap (λ (i : ℕ). among 10 (part s i e)) (sym m)
      ∙ none_before s (e - n) e (omega arith) (omega arith) h (λ z. f n (omega arith) (back_at n l ∙ z)) (none_back n (omega arith) (λ k i. f k (omega arith)))

  -- a line begins behind the first line feed that stands before e, or at 0
  pub start_found : (r : Option ℕ) → Found back r → let n : ℕ = unwrap_or r e in (e - n ≤ e) × (begins_line s (e - n) ≡ true) × (among 10 (part s (e - n) e) ≡ false)
  start_found None f = (omega arith, begins_first s (e - e) (omega arith), none_back e (omega arith) (λ k l. f k 0 (omega arith) (omega (arith, long))))
  start_found (Some n) f =
      let l : n < e = omega (arith, f.0, long) in
      (omega arith, begins_fed s (e - n) (omega arith) (omega arith) (sym (back_at n l) ∙ f.1 0), none_back n (omega arith) (λ k i. f.2 k 0 (omega arith) i))

  -- the same by the place of that line feed, before which q others were passed
  pub start_behind : (r q : Option ℕ) {l : List ℕ} {x : ℕ} {P : ℕ → Type 0} → l ≡ take e s → Found back q → MatchOption r (q ≡ None) (λ i. IsSomeAnd q (λ k. i + 1 + k ≡ length l)) → MatchOption r (x ≡ 0) P → ((i : ℕ) → P i → x ≡ i + 1)
      → (x ≤ e) × (begins_line s x ≡ true) × (among 10 (part s x e) ≡ false)
  start_behind r q {l} {x} {P} w f m p k = subst (λ (i : ℕ). (i ≤ e) × (begins_line s i ≡ true) × (among 10 (part s i e) ≡ false)) (place r q m p) (start_found q f)
    where
      place : (r q : Option ℕ) → MatchOption r (q ≡ None) (λ i. IsSomeAnd q (λ k. i + 1 + k ≡ length l)) → MatchOption r (x ≡ 0) P → e - unwrap_or q e ≡ x
      place None None m p = omega arith
      place None (Some j) m p = absurd (true≢false cc)
      place (Some i) None m p = absurd m
      place (Some i) (Some j) m p = omega (arith, k i p, ap length w, length-take-le e s h)

-- The items of a slice from the back.
pub slice_back : {s : Iter ℕ} (xs : List ℕ) → iter_rest s ≡ xs → YieldsList iter_steps_back (λ y. y.now) s (reverse xs)
slice_back {s} xs e = subst (λ (k : List ℕ). YieldsList iter_steps_back (λ y. y.now) s (reverse k)) e
    (YieldsList-from_shown iter_steps_back (λ y. y.now) (λ u. reverse (iter_rest u)) (λ u t p. length-reverse _ ∙ p.0) (λ u x t p. ap reverse p ∙ reverse-append (iter_rest t) (x.now ∷ [])) s)

-- A search from the back is one of the items in that order, and gives the place that is as far from the end.
module _ {S A F : Type 0} (steps : S → Option A → S → Type 0) (g : Mut F (A × Unit {0}) Bool) (s u : S) (f : F) (n : ℕ) where
  pub passed_back : (r : Option ℕ) → FindsPositionBack steps g s f n r u → (q : Option ℕ) × FindsPosition steps g s f q u × MatchOption r (q ≡ None) (λ i. IsSomeAnd q (λ k. i + 1 + k ≡ n))
  passed_back None (xs, None, j, y, c, e) = (None, (xs, None, j, y, c, refl), refl)
  passed_back (Some i) (xs, None, j, y, c, e) = absurd (true≢false cc)
  passed_back None (xs, Some x, j, y, c, e) = absurd e.0
  passed_back (Some i) (xs, Some x, j, y, c, e) = (Some (length xs), (xs, Some x, j, y, c, (refl, e.1)), e.0)
