-- Dots in names. The run of a name with dots goes on where the run without them meets one, and else ends with it.
use Rattle.std.specs.Prelude.{if◌then◌else◌}
use mathlib.Core.Path.{◌≡◌, refl, sym, ap, ◌∙◌}
use mathlib.Core.Bool.{Bool, true, false, ◌||◌, or-true, or-false, false≢true}
use mathlib.Core.List.{List, [], ◌∷◌, map}
use mathlib.Core.Logic.{⊎_elim}
use Prim.Native.Nat.{ℕ, suc, ◌<◌}
use Prim.Native.Char.{Char, code}
use native.Mathlib.Omega.{arith}
use lib.Dec.{leb}
use lib.ListN.{get_or}
use borrow.Author.Tests.{eqb-true, leb-true}
use Rattle.lexer.specs.Text.{is, within, is_letter, is_word_part, run}
use Rattle.lexer.specs.Tokens.{mark, suffixed, token_with, token_at, size_of, open_tokens}
use Rattle.lexer.specs.Dots.{is_plain_part, plain_token, dot_follows, underscored, DottedNames}
use Rattle.lexer.specs.declared.PunctuationKind.TheVariants.{Dot}
use Rattle.lexer.specs.declared.Token.TheVariants.{Identifier}
use Rattle.lexer.specs.declared.TokenRead.{TokenRead}
use Rattle.lexer.specs.declared.TokenRead.TheVariants.{Read}
use Rattle.lexer.proofs.Branches.{and_split}
use Rattle.lexer.proofs.Runs.{one_of}
use Rattle.lexer.proofs.Scans.{same_with, word_with}

part_is : (c : ℕ) → is_word_part c ≡ is_plain_part c || is "." c
unfolding is_word_part is_plain_part
part_is c = refl

run_same : (cs : List ℕ) → is "." (get_or cs (run is_plain_part cs) 0) ≡ false → run is_word_part cs ≡ run is_plain_part cs
unfolding run
run_same [] h = refl
run_same (c ∷ cs) h = go (is_plain_part c) refl h (λ i. run_same cs i)
  where
    go : (b : Bool) → is_plain_part c ≡ b → is "." (get_or (c ∷ cs) (if b then (suc (run is_plain_part cs)) else 0) 0) ≡ false
        → (is "." (get_or cs (run is_plain_part cs) 0) ≡ false → run is_word_part cs ≡ run is_plain_part cs)
        → (if is_word_part c then (suc (run is_word_part cs)) else 0) ≡ (if b then (suc (run is_plain_part cs)) else 0)
    go true e h again = rw (part_is c, e, again h)
    go false e h again = rw (part_is c, e, h)

run_longer : (cs : List ℕ) → is "." (get_or cs (run is_plain_part cs) 0) ≡ true → run is_plain_part cs < run is_word_part cs
unfolding run is
run_longer [] h = absurd (false≢true h)
run_longer (c ∷ cs) h = go (is_plain_part c) refl h (λ i. run_longer cs i)
  where
    go : (b : Bool) → is_plain_part c ≡ b → is "." (get_or (c ∷ cs) (if b then (suc (run is_plain_part cs)) else 0) 0) ≡ true
        → (is "." (get_or cs (run is_plain_part cs) 0) ≡ true → run is_plain_part cs < run is_word_part cs)
        → (if b then (suc (run is_plain_part cs)) else 0) < (if is_word_part c then (suc (run is_word_part cs)) else 0)
    go true e h again = rw (part_is c, e) (omega (arith, again h))
    go false e h again = rw (part_is c, e, h) (omega arith)

-- A letter is a byte, and so begins a name.
pub within_byte : (a z : Char) (c : ℕ) → code z < 256 → within a z c ≡ true → c < 256
unfolding within
within_byte a z c i h = omega (arith, leb-true c (code z) (and_split (leb (code a) c) (leb c (code z)) h).1)

letter_byte : (c : ℕ) → is_letter c ≡ true → c < 256
unfolding is_letter is
letter_byte c h = ⊎_elim (λ g. ⊎_elim (within_byte "a" "z" c (omega arith)) (within_byte "A" "Z" c (omega arith)) (one_of (within "a" "z" c) (within "A" "Z" c) g))
    (λ u. omega (arith, eqb-true c (code "_") u)) (one_of (within "a" "z" c || within "A" "Z" c) (is "_" c) h)

pub name_with : (part : ℕ → Bool) (unprefixed : ℕ → List ℕ → TokenRead) (c : ℕ) (cs : List ℕ) → is_letter c ≡ true
    → token_with part unprefixed (c ∷ cs) ≡ Read (Identifier (suc (run part cs)))
name_with part unprefixed c cs e = word_with c cs (letter_byte c e) part unprefixed e

longer : (s : List ℕ) → dot_follows s ≡ true → size_of (plain_token s) < size_of (token_at s)
unfolding dot_follows plain_token token_at
longer [] h = absurd (false≢true h)
longer (c ∷ cs) h =
    let (l, d) = and_split (is_letter c) _ h in
    rw (name_with is_plain_part suffixed c cs l, name_with is_word_part suffixed c cs l) (omega (arith, run_longer cs d))

-- the run of a name that no dot follows
pub name_same : (c : ℕ) (cs : List ℕ) → dot_follows (c ∷ cs) ≡ false → is_letter c ≡ true → run is_word_part cs ≡ run is_plain_part cs
unfolding dot_follows
name_same c cs h e = run_same cs (sym (rw e) ∙ h)

others : (s : List ℕ) → dot_follows s ≡ false → token_at s ≡ plain_token s
unfolding token_at plain_token token_with
others [] h = refl
others (c ∷ cs) h = same_with c cs is_word_part is_plain_part suffixed suffixed (λ _. refl) (name_same c cs h)

-- A name takes a dot as it takes `_`.
part_as : (c : ℕ) → is_plain_part (underscored c) ≡ is_word_part c
unfolding underscored is_plain_part is_letter within is
part_as c = go (is "." c) refl
  where
    go : (b : Bool) → is "." c ≡ b → is_plain_part (if b then (code "_") else c) ≡ is_word_part c
    go true e = sym (part_is c ∙ rw (e, or-true))
    go false e = sym (part_is c ∙ rw (e, or-false))

run_as : (cs : List ℕ) → run is_plain_part (map underscored cs) ≡ run is_word_part cs
unfolding run
run_as [] = refl
run_as (c ∷ cs) = rw (part_as c, run_as cs)

exact : (c : ℕ) (cs : List ℕ) → is_letter c ≡ true → token_at (c ∷ cs) ≡ plain_token (c ∷ map underscored cs)
unfolding token_at plain_token
exact c cs h =
    name_with is_word_part suffixed c cs h ∙ ap (λ (n : ℕ). Read (Identifier (suc n))) (sym (run_as cs)) ∙ sym (name_with is_plain_part suffixed c (map underscored cs) h)

starts : (s : List ℕ) → token_at (code "." ∷ s) ≡ mark Dot
unfolding open_tokens
starts s = refl

-- THE TOKENS THAT CHANGE.
pub dotted_names : DottedNames
dotted_names = record { longer = longer; others = others; exact = exact; starts = starts }
