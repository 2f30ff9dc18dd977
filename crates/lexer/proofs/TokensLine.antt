-- A token depends on its own line alone: what stands behind the next line feed, and whether the line ends in one or with the source,
-- does not change it. No run and no suffix takes a line feed, so none can tell one from the end.
use Rattle.std.specs.Prelude.{if◌then◌else◌}
use mathlib.Core.Path.{◌≡◌, refl, sym, ap, ◌∙◌}
use mathlib.Core.Bool.{Bool, true, false, not}
use mathlib.Core.List.{List, [], ◌∷◌, ◌++◌}
use Prim.Native.Nat.{ℕ, zero, suc, pred, ◌≤◌}
use native.Mathlib.Omega.{arith}
use native.Mathlib.Nat.{le_refl}
use lib.ListN.{take, get_or}
use Rattle.lexer.specs.Text.{within, any_of, is, is_blank, is_digit, is_hex_digit, is_word_part, run, open_text}
use Rattle.lexer.specs.declared.TokenRead.{TokenRead}
use Rattle.lexer.specs.Tokens.{prefixed, suffix_behind, in_base, suffixed, number_with, number_at, in_quotes, string_after, in_comment, token_with, token_at}
use Rattle.lexer.proofs.Branches.{branch, either}

-- Two rests of a source that are the same up to where their first line ends.
data Ends : List ℕ → Type 0 where
  nothing : Ends []
  feed : {s : List ℕ} → Ends (10 ∷ s)

data Alike : List ℕ → List ℕ → Type 0 where
  ends : {s t : List ℕ} → Ends s → Ends t → Alike s t
  more : {s t : List ℕ} (c : ℕ) → Alike s t → Alike (c ∷ s) (c ∷ t)

module _ (p : ℕ → Bool) (h : p 10 ≡ false) where
  run_ends : {s : List ℕ} → Ends s → run p s ≡ 0
  unfolding run
  run_ends nothing = refl
  run_ends feed = rw (h, run)

  run_alike : {s t : List ℕ} → Alike s t → run p s ≡ run p t
  unfolding run
  run_alike (ends e f) = run_ends e ∙ sym (run_ends f)
  run_alike (more c a) = branch (p c) _ _ 0 0 (ap suc (run_alike a)) refl

  run_back : (c n : ℕ) (s : List ℕ) → suc n ≤ run p (c ∷ s) → n ≤ run p s
  unfolding run
  run_back c n s = go (p c)
    where
      go : (b : Bool) → suc n ≤ (if b then suc (run p s) else 0) → n ≤ run p s
      go true i = omega arith
      go false i = absurd (omega arith)

  take_alike : {s t : List ℕ} (n : ℕ) → Alike s t → n ≤ run p s → take n s ≡ take n t
  take_alike zero a i = refl
  take_alike (suc n) (ends e f) i = absurd (omega (arith, run_ends e))
  take_alike (suc n) (more {s} c a) i = ap (λ (l : List ℕ). c ∷ l) (take_alike n a (run_back c n s i))

  -- behind the run, to a test that neither a line feed nor nothing passes
  module _ (test : ℕ → Bool) (feedless : test 10 ≡ false) (endless : test 0 ≡ false) where
    test_ends : {s : List ℕ} → Ends s → test (get_or s 0 0) ≡ false
    test_ends nothing = endless
    test_ends feed = feedless

    test_alike : {s t : List ℕ} (n : ℕ) → Alike s t → n ≤ run p s → test (get_or s n 0) ≡ test (get_or t n 0)
    test_alike zero (ends e f) i = test_ends e ∙ sym (test_ends f)
    test_alike zero (more c a) i = refl
    test_alike (suc n) (ends e f) i = absurd (omega (arith, run_ends e))
    test_alike (suc n) (more {s} c a) i = test_alike n a (run_back c n s i)

prefixed_alike : {s t : List ℕ} (base : ℕ) (p : ℕ → Bool) → p 10 ≡ false → Alike s t → prefixed base p s ≡ prefixed base p t
unfolding prefixed
prefixed_alike {s} base p h a = rw (← run_alike p h a, take_alike p h (run p s) a (le_refl (run p s)))

in_base_after : (c n : ℕ) (ds cut : List ℕ) (a b : ℕ) → any_of "oO" a ≡ any_of "oO" b → any_of "hH" a ≡ any_of "hH" b → in_base c n ds cut a ≡ in_base c n ds cut b
unfolding in_base suffix_behind
in_base_after c n ds cut a b h i = rw (h, i)

suffixed_alike : {s t : List ℕ} (c : ℕ) → Alike s t → suffixed c s ≡ suffixed c t
unfolding suffixed open_text
suffixed_alike {s} {t} c a =
    let n : ℕ = run is_hex_digit (c ∷ s) in
    let i : n ≤ run is_hex_digit (c ∷ s) = le_refl n in
    let whole : take n (c ∷ s) ≡ take n (c ∷ t) = take_alike is_hex_digit refl n (more c a) i in
    let cut : take (pred n) (c ∷ s) ≡ take (pred n) (c ∷ t) = take_alike is_hex_digit refl (pred n) (more c a) (omega arith) in
    rw (← run_alike is_hex_digit refl (more c a), whole, cut)
    (in_base_after c n _ _ _ _ (test_alike is_hex_digit refl (any_of "oO") refl refl n (more c a) i) (test_alike is_hex_digit refl (any_of "hH") refl refl n (more c a) i))

-- a first digit at a line's end has no prefix
number_at_ends : {s : List ℕ} (c : ℕ) → Ends s → number_at c s ≡ suffixed c s
unfolding number_with open_text
number_at_ends c nothing = refl
number_at_ends c (feed {s}) = either (λ (t : TokenRead). t ≡ suffixed c (10 ∷ s)) (not (is "0" c)) _ _ refl refl

number_at_alike : {s t : List ℕ} (c : ℕ) → Alike s t → number_at c s ≡ number_at c t
unfolding number_with open_text
number_at_alike c (ends e f) = number_at_ends c e ∙ suffixed_alike c (ends e f) ∙ sym (number_at_ends c f)
number_at_alike c (more d a) = cc (
  prefixed_alike 2 (within "0" "1") refl a,
  prefixed_alike 8 (within "0" "7") refl a,
  prefixed_alike 10 is_digit refl a,
  prefixed_alike 16 is_hex_digit refl a,
  suffixed_alike c (more d a),
)

string_after_alike : {s t : List ℕ} → Alike s t → string_after s ≡ string_after t
unfolding string_after open_text in_quotes
string_after_alike {s} a = rw (← run_alike in_quotes refl a, test_alike in_quotes refl (is "'") refl refl (run in_quotes s) a (le_refl (run in_quotes s)))

token_at_alike : {s t : List ℕ} (c : ℕ) → Alike s t → token_at (c ∷ s) ≡ token_at (c ∷ t)
unfolding open_text token_with token_at in_comment
token_at_alike c a = cc (run_alike in_comment refl a, run_alike is_blank refl a, number_at_alike c a, run_alike is_word_part refl a, string_after_alike a)

-- THE LAW. Behind a token's first byte only the bytes before the next line feed count.
cut : (cs : List ℕ) (B : List ℕ) → Alike (cs ++ (10 ∷ B)) cs
cut [] B = ends feed nothing
cut (c ∷ cs) B = more c (cut cs B)

pub token_at_line : (c : ℕ) (cs B : List ℕ) → token_at (c ∷ (cs ++ (10 ∷ B))) ≡ token_at (c ∷ cs)
token_at_line c cs B = token_at_alike c (cut cs B)

-- one line feed more
pub token_at_end : (c : ℕ) (cs : List ℕ) → token_at (c ∷ (cs ++ (10 ∷ []))) ≡ token_at (c ∷ cs)
token_at_end c cs = token_at_line c cs []

-- Whole lines: nothing, or bytes of which the last is a line feed.
abbrev pub Lines : List ℕ → Type 0
Lines [] = Unit {0}
Lines (c ∷ []) = c ≡ 10
Lines (c ∷ d ∷ cs) = Lines (d ∷ cs)

pub lines_end : (cs : List ℕ) → Lines (cs ++ (10 ∷ []))
lines_end [] = refl
lines_end (c ∷ []) = refl
lines_end (c ∷ d ∷ cs) = lines_end (d ∷ cs)

pub lines_tail : (c : ℕ) (cs : List ℕ) → Lines (c ∷ cs) → Lines cs
lines_tail c [] l = tt
lines_tail c (d ∷ cs) l = l

-- The tokens that begin in whole lines are the same whatever stands behind these lines.
behind : (B : List ℕ) (c : ℕ) (cs : List ℕ) → Lines (c ∷ cs) → Alike (c ∷ (cs ++ B)) (c ∷ cs)
behind B c [] l = rw l (ends feed feed)
behind B c (d ∷ cs) l = more c (behind B d cs l)

pub token_at_local : (B : List ℕ) (c : ℕ) (cs : List ℕ) → Lines (c ∷ cs) → token_at (c ∷ (cs ++ B)) ≡ token_at (c ∷ cs)
unfolding open_text token_with token_at
token_at_local B c [] l = rw l refl
token_at_local B c (d ∷ cs) l = token_at_alike c (behind B d cs l)
