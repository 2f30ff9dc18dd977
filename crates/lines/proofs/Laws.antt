-- Lines of a source, and what a line says read alone.
-- Assumes nothing.
use Rattle.std.specs.Prelude.{if◌then◌else◌}
use Prim.Native.Nat.{ℕ, zero, suc, pred, ◌+◌, ◌-◌, ◌≤◌, ◌<◌}
use mathlib.Core.Path.{◌≡◌, refl, sym, ap, ap₂, ◌∙◌}
use mathlib.Core.Bool.{Bool, true, false, not, ◌||◌, true≢false}
use mathlib.Core.List.{List, [], ◌∷◌, ◌++◌, append-nil, append_assoc}
use mathlib.Core.Option.{Option, none, some}
use native.Mathlib.Omega.{arith}
use borrow.Author.Tests.{eqb-true, eqb-false, eq-eqb, ne_eqb, lt-ltb, le-leb, lt-leb, leb-true}
use lib.Dec.{eqb, leb, ltb, leb-suc-suc}
use lib.ListN.{length, take, drop, get_or, length-take, length-drop}
use lib.Seq.{take-suc, take-add}
use Rattle.lexer.specs.Text.{maybe, is, among, run}
use Rattle.lexer.specs.Tokens.{in_comment}
use Rattle.lexer.proofs.Runs.{run_le, digits_more, digits_none}
use Rattle.lexer.proofs.Branches.{and_split}
use Rattle.rules.specs.Patch.{begins_line, line_at, lines_from, bare_line, nearest}

-- A line's length.
pub line_length : (s : List ℕ) (a : ℕ) → a ≤ length s → length (line_at s a) ≡ run in_comment (drop a s)
unfolding line_at
line_length s a h = length-take (run in_comment (drop a s)) (drop a s) ∙ omega (arith, run_le in_comment (drop a s))

-- A line feed stands in a text where the run up to it is shorter.
pub feed_among : (t : List ℕ) → among 10 t ≡ ltb (run in_comment t) (length t)
unfolding among run in_comment is
feed_among [] = refl
feed_among (c ∷ t) = go (eqb c 10) refl (feed_among t)
  where
    go : (b : Bool) → eqb c 10 ≡ b → among 10 t ≡ ltb (run in_comment t) (length t) → (eqb 10 c || among 10 t) ≡ ltb (if not b then suc (run in_comment t) else 0) (suc (length t))
    go true e h = rw (eqb-true c 10 e) (sym (lt-ltb 0 (suc (length t)) (omega arith)))
    go false e h = rw (ne_eqb 10 c (λ k. eqb-false c 10 e (sym k))) (h ∙ sym (leb-suc-suc (suc (run in_comment t)) (length t)))

-- A line goes on to its line feed.
pub feed_stops : (c : ℕ) → c ≡ 10 → in_comment c ≡ false
unfolding in_comment is
feed_stops c e = rw e

pub other_goes : (c : ℕ) → (c ≡ 10 → ⊥) → in_comment c ≡ true
unfolding in_comment is
other_goes c n = rw (ne_eqb c 10 n)

-- Where a line begins.
module _ (s : List ℕ) where
  pub begins_first : (a : ℕ) → a ≤ 0 → begins_line s a ≡ true
  unfolding begins_line
  begins_first a h = rw (eq-eqb a 0 (omega arith))

  pub begins_beyond : (a : ℕ) → (a ≡ 0 → ⊥) → length s < a → false ≡ begins_line s a
  unfolding begins_line
  begins_beyond a n h = rw (ne_eqb a 0 n, lt-leb a (length s) h)

  pub begins_behind : (a : ℕ) → (a ≡ 0 → ⊥) → a ≤ length s → eqb (get_or s (a - 1) 0) 10 ≡ begins_line s a
  unfolding begins_line is
  begins_behind a n h =
      let e : a - 1 ≡ pred a = omega arith in
      rw (ne_eqb a 0 n, le-leb a (length s) h, e)

  pub begins_fed : (a : ℕ) → 0 < a → a ≤ length s → get_or s (a - 1) 0 ≡ 10 → begins_line s a ≡ true
  begins_fed a n h e = sym (begins_behind a (λ z. omega arith) h) ∙ eq-eqb (get_or s (a - 1) 0) 10 e

  -- what stands before the line that begins at a place
  pub begins_within : (a : ℕ) → begins_line s a ≡ true → a ≤ length s
  unfolding begins_line
  begins_within zero h = omega arith
  begins_within (suc n) h = leb-true (suc n) (length s) (and_split (leb (suc n) (length s)) (is "\n" (get_or s n 0)) (rw (ne_eqb (suc n) 0 (λ z. omega arith)) at h)).0

  pub begins_feed : (n : ℕ) → begins_line s (suc n) ≡ true → get_or s n 0 ≡ 10
  unfolding begins_line is
  begins_feed n h = eqb-true (get_or s n 0) 10 (and_split (leb (suc n) (length s)) (eqb (get_or s n 0) 10) (rw (ne_eqb (suc n) 0 (λ z. omega arith)) at h)).1

  -- the bytes from one place to before another; no line feed is among them
  abbrev pub part : ℕ → ℕ → List ℕ
  part b e = take (e - b) (drop b s)

  pub none_among : (e : ℕ) → among 10 (part e e) ≡ false
  unfolding among
  none_among e = rw (digits_none s e e (omega arith))

  pub none_before : (i e : ℕ) → 0 < i → i ≤ e → e ≤ length s → (get_or s (i - 1) 0 ≡ 10 → ⊥) → among 10 (part i e) ≡ false → among 10 (part (i - 1) e) ≡ false
  unfolding among
  none_before i e h k l n f =
      let j : i - 1 + 1 ≡ i = omega arith in
      let rest : among 10 (part (i - 1 + 1) e) ≡ false = ap (λ (m : ℕ). among 10 (part m e)) j ∙ f in
      rw (digits_more s (i - 1) e (omega arith) l, ne_eqb 10 (get_or s (i - 1) 0) (λ z. n (sym z))) rest

-- The lines of whole lines and what follows.
feed_is : is "\n" 10 ≡ true
unfolding is
feed_is = refl

lines_append : (k : List ℕ) (n : ℕ) (s B : List ℕ) → get_or s n 0 ≡ 10 → lines_from k (take (suc n) s ++ B) ≡ lines_from k (take (suc n) s) ++ lines_from [] B
unfolding lines_from
lines_append k n [] B h = let z : ◌≡◌ {A = ℕ} 0 10 = h in absurd (omega arith)
lines_append k zero (c ∷ cs) B h = rw (h, feed_is)
lines_append k (suc n) (c ∷ cs) B h = go (is "\n" c) (lines_append [] n cs B h) (lines_append (k ++ (c ∷ [])) n cs B h)
  where
    go : (b : Bool) → lines_from [] (take (suc n) cs ++ B) ≡ lines_from [] (take (suc n) cs) ++ lines_from [] B
        → lines_from (k ++ (c ∷ [])) (take (suc n) cs ++ B) ≡ lines_from (k ++ (c ∷ [])) (take (suc n) cs) ++ lines_from [] B
        → ◌≡◌ {A = List (List ℕ)} (if b then (k ∷ lines_from [] (take (suc n) cs ++ B)) else (lines_from (k ++ (c ∷ [])) (take (suc n) cs ++ B)))
        ((if b then (k ∷ lines_from [] (take (suc n) cs)) else (lines_from (k ++ (c ∷ [])) (take (suc n) cs))) ++ lines_from [] B)
    go true i j = ap (λ (l : List (List ℕ)). k ∷ l) i
    go false i j = j

-- a line alone
line_alone : (k l : List ℕ) → among 10 l ≡ false → lines_from k (l ++ (10 ∷ [])) ≡ (k ++ l) ∷ []
unfolding lines_from among is
line_alone k [] h = ap (λ (l : List ℕ). l ∷ []) (sym (append-nil k))
line_alone k (c ∷ cs) h = go (eqb 10 c) refl h (λ i. line_alone (k ++ (c ∷ [])) cs i)
  where
    go : (b : Bool) → eqb 10 c ≡ b → b || among 10 cs ≡ false → (among 10 cs ≡ false → lines_from (k ++ (c ∷ [])) (cs ++ (10 ∷ [])) ≡ ((k ++ (c ∷ [])) ++ cs) ∷ []) → lines_from k ((c ∷ cs) ++ (10 ∷ [])) ≡ (k ++ (c ∷ cs)) ∷ []
    go true e h again = absurd (true≢false h)
    go false e h again = rw (ne_eqb c 10 (λ z. eqb-false 10 c e (sym z))) (again h ∙ ap (λ (l : List ℕ). l ∷ []) (append_assoc k (c ∷ []) cs))

module _ (s : List ℕ) where
  -- a line feed at e, and a line from b to before it
  line_parts : (b e : ℕ) → b ≤ e → e < length s → get_or s e 0 ≡ 10 → take (suc e) s ≡ take b s ++ (part s b e ++ (10 ∷ []))
  line_parts b e h l f =
      let n : b + (e - b) ≡ e = omega arith in
      let i : take e s ≡ take b s ++ part s b e = ap (λ (m : ℕ). take m s) (sym n) ∙ take-add b (e - b) s in
      take-suc s e 0 l ∙ ap₂ (λ (k : List ℕ) (c : ℕ). k ++ (c ∷ [])) i f ∙ append_assoc (take b s) (part s b e) (10 ∷ [])

  lines_last : (b e : ℕ) → begins_line s b ≡ true → b ≤ e → e < length s → get_or s e 0 ≡ 10 → among 10 (part s b e) ≡ false
      → lines_from [] (take (suc e) s) ≡ lines_from [] (take b s) ++ (part s b e ∷ [])
  unfolding lines_from
  lines_last zero e g h l f n = ap (lines_from []) (line_parts zero e h l f) ∙ line_alone [] (part s zero e) n
  lines_last (suc m) e g h l f n = ap (lines_from []) (line_parts (suc m) e h l f) ∙ lines_append [] m s (part s (suc m) e ++ (10 ∷ [])) (begins_feed s m g)
      ∙ ap (λ (r : List (List ℕ)). lines_from [] (take (suc m) s) ++ r) (line_alone [] (part s (suc m) e) n)

-- The nearest of lines of which the last is l.
nearest_last : (ls : List (List ℕ)) (l : List ℕ) → nearest (ls ++ (l ∷ [])) ≡ (if bare_line l then (nearest ls) else (some l))
unfolding nearest
nearest_last [] l = refl
nearest_last (k ∷ ls) l = rw (nearest_last ls l) (go (bare_line l))
  where
    go : (b : Bool) → ◌≡◌ {A = Option (List ℕ)} (maybe (if b then (nearest ls) else (some l)) (if bare_line k then none else (some k)) some)
        (if b then (maybe (nearest ls) (if bare_line k then none else (some k)) some) else (some l))
    go true = refl
    go false = refl

-- The nearest above a place behind the line from b to before e.
module _ (s : List ℕ) (a b e : ℕ) (f : List ℕ → Bool) (behind : begins_line s a ≡ true) (some-line : 0 < a) (end : e ≡ a - 1) (begins : begins_line s b ≡ true) (ordered : b ≤ e)
    (plain : among 10 (part s b e) ≡ false) where
  nearest_is : nearest (lines_from [] (take a s)) ≡ (if bare_line (part s b e) then (nearest (lines_from [] (take b s))) else (some (part s b e)))
  nearest_is =
      let n : suc e ≡ a = omega arith in
      let k : begins_line s (suc e) ≡ true = rw n behind in
      let i : lines_from [] (take a s) ≡ lines_from [] (take b s) ++ (part s b e ∷ []) =
      rw (← n) (lines_last s b e begins ordered (omega (arith, begins_within s (suc e) k)) (begins_feed s e k) plain) in
      ap nearest i ∙ nearest_last (lines_from [] (take b s)) (part s b e)

  pub past_bare : bare_line (part s b e) ≡ true → maybe (nearest (lines_from [] (take b s))) false f ≡ maybe (nearest (lines_from [] (take a s))) false f
  past_bare h =
      let i : nearest (lines_from [] (take a s)) ≡ nearest (lines_from [] (take b s)) = rw h at nearest_is in
      rw i

  pub at_nearest : bare_line (part s b e) ≡ false → f (part s b e) ≡ maybe (nearest (lines_from [] (take a s))) false f
  at_nearest h =
      let i : nearest (lines_from [] (take a s)) ≡ some (part s b e) = rw h at nearest_is in
      rw i

-- nothing above the first line
pub none_above : (s : List ℕ) (a : ℕ) (f : List ℕ → Bool) → a ≤ 0 → false ≡ maybe (nearest (lines_from [] (take a s))) false f
unfolding lines_from nearest
none_above s zero f h = refl
none_above s (suc a) f h = absurd (omega arith)

-- a part is no longer than the whole
pub part_long : (s : List ℕ) (b e n : ℕ) → length s ≤ n → length (part s b e) ≤ n
part_long s b e n h = omega (arith, length-take (e - b) (drop b s), length-drop b s)
