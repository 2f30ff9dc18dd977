-- The letter behind the digits. The two orders of the suffixes part only where both stand: with none behind the run, and with none at its end, each
-- comes to the same.
use Rattle.std.specs.Prelude.{if◌then◌else◌}
use mathlib.Core.Path.{◌≡◌, refl, sym, ap, ◌∙◌}
use mathlib.Core.Bool.{Bool, true, false, not, ◌&&◌, ◌||◌, true≢false, false≢true}
use mathlib.Core.List.{List, [], ◌∷◌}
use mathlib.Core.Logic.{◌⊎◌, inl, inr, ⊎_elim}
use Prim.Native.Nat.{ℕ, suc, pred}
use Prim.Native.Char.{code}
use native.Mathlib.Omega.{arith}
use lib.Dec.{leb, ltb}
use lib.ListN.{take, get_or}
use borrow.Author.Tests.{eqb-true, eqb-false, not-true}
use Rattle.lexer.specs.Text.{is, any_of, is_digit, is_hex_digit, is_word_part, run, all, last, digit, value_from, open_text}
use Rattle.lexer.specs.Tokens.{largest, numeral, stray, digits, suffix_behind, suffix_last, in_base, suffixed, number_with, number_at, token_with, token_at, size_of}
use Rattle.lexer.specs.Letters.{begins_run, digit_run, behind_run, letter_follows, last_first, last_first_token, LetterFirst}
use Rattle.lexer.specs.declared.Fault.TheVariants.{LargerDigit}
use Rattle.lexer.specs.declared.TokenRead.{TokenRead}
use Rattle.lexer.specs.declared.TokenRead.TheVariants.{Refused}
use Rattle.lexer.proofs.Branches.{either, given, alike, and_split, or_split}
use Rattle.lexer.proofs.Scans.{number_other, zero_plain, same_with, number_with_lem}
use Rattle.lexer.proofs.Dots.{within_byte}

-- A number without a prefix, and one with it, whatever reads the former.
no_prefix : (unprefixed : ℕ → List ℕ → TokenRead) (c : ℕ) (cs : List ℕ) → (is "0" c && any_of "bodx" (get_or cs 0 0)) ≡ false → number_with unprefixed c cs ≡ unprefixed c cs
unfolding open_text
no_prefix unprefixed c cs h = go (is "0" c) refl h
  where
    go : (z : Bool) → is "0" c ≡ z → (z && any_of "bodx" (get_or cs 0 0)) ≡ false → number_with unprefixed c cs ≡ unprefixed c cs
    go false z e = number_other unprefixed c cs z
    go true z e =
        let (b, e₁) = or_split (is "b" (get_or cs 0 0)) _ e in
        let (o, e₂) = or_split (is "o" (get_or cs 0 0)) _ e₁ in
        let (k, e₃) = or_split (is "d" (get_or cs 0 0)) _ e₂ in
        let (x, e₄) = or_split (is "x" (get_or cs 0 0)) _ e₃ in
        zero_plain unprefixed c cs (eqb-true c 48 z) (eqb-false _ 98 b) (eqb-false _ 111 o) (eqb-false _ 100 k) (eqb-false _ 120 x)

prefix : (f g : ℕ → List ℕ → TokenRead) (c : ℕ) (cs : List ℕ) → (is "0" c && any_of "bodx" (get_or cs 0 0)) ≡ true → number_with f c cs ≡ number_with g c cs
unfolding number_with open_text
prefix f g c [] h = absurd (false≢true (and_split (is "0" c) _ h).1)
prefix f g c (d ∷ ds) h =
    let (z, e) = and_split (is "0" c) _ h in
    rw z
    (alike (is "b" d) _ _ _ _ (λ _. refl)
    (λ b. alike (is "o" d) _ _ _ _ (λ _. refl)
    (λ o. alike (is "d" d) _ _ _ _ (λ _. refl)
    (λ k. alike (is "x" d) _ _ _ _ (λ _. refl)
    (λ x. absurd (false≢true (sym (rw (b, o, k, x)) ∙ e)))))))

pub run_with : (part : ℕ → Bool) (unprefixed : ℕ → List ℕ → TokenRead) (c : ℕ) (cs : List ℕ) → begins_run (c ∷ cs) ≡ true → token_with part unprefixed (c ∷ cs) ≡ unprefixed c cs
unfolding begins_run is_digit
run_with part unprefixed c cs h =
    let (d, p) = and_split (is_digit c) _ h in
    number_with_lem c cs (within_byte "0" "9" c (omega arith) d) part unprefixed d ∙ no_prefix unprefixed c cs (not-true _ p)

-- The four letters.
either_of : (a b c d : Bool) → (a || (b || (c || (d || false)))) ≡ ((a || (b || false)) || (c || (d || false)))
either_of true b c d = refl
either_of false true c d = refl
either_of false false c d = refl

last_is : (y : ℕ) → any_of "bBdD" y ≡ (any_of "bB" y || any_of "dD" y)
unfolding open_text
last_is y = either_of (is "b" y) (is "B" y) (is "d" y) (is "D" y)

behind_is : (y : ℕ) → any_of "oOhH" y ≡ (any_of "oO" y || any_of "hH" y)
unfolding open_text
behind_is y = either_of (is "o" y) (is "O" y) (is "h" y) (is "H" y)

-- A choice of one kind before a choice of the other.
swap : (o x b d : Bool) (O X B D z : TokenRead) → ((b || d) && (o || x)) ≡ false
    → (if o then O else if x then X else if b then B else if d then D else z) ≡ (if b then B else if d then D else if o then O else if x then X else z)
swap false false b d O X B D z h = refl
swap true x false false O X B D z h = refl
swap false true false false O X B D z h = refl
swap true x true d O X B D z h = absurd (true≢false h)
swap true x false true O X B D z h = absurd (true≢false h)
swap false true true d O X B D z h = absurd (true≢false h)
swap false true false true O X B D z h = absurd (true≢false h)

-- What a number's digits give is as long as the number, or the stray byte with which it begins.
abbrev Sized : ℕ → ℕ → TokenRead → Type 0
Sized c n t = (size_of t ≡ n) ⊎ (t ≡ stray c)

digits_sized : (c base : ℕ) (ds : List ℕ) (n : ℕ) → Sized c n (digits c base ds n)
unfolding digits numeral
digits_sized c base ds n =
    either (Sized c n) (all (λ d. ltb (digit d) base) ds && leb (value_from 0 base ds) largest) (numeral n (value_from 0 base ds)) (stray c) (inl refl) (inr refl)

-- So is what the base rules' order (RULES 14.2) gives a run whose last character is a suffix.
last_sized : (c n : ℕ) (ds cut : List ℕ) (z : TokenRead) → (any_of "bB" (last ds) || any_of "dD" (last ds)) ≡ true → Sized c n (suffix_last c n ds cut z)
unfolding suffix_last
last_sized c n ds cut z h =
    given (Sized c n) (any_of "bB" (last ds)) _ _ (λ _. either (Sized c n) (all (λ d. leb d (code "1")) cut) _ (Refused n LargerDigit) (digits_sized c 2 cut n) (inl refl))
    (λ b. given (Sized c n) (any_of "dD" (last ds)) _ _ (λ _. digits_sized c 10 cut n)
    (λ d. absurd (false≢true (sym (rw (b, d)) ∙ h))))

-- All digits of a run that fit a base, the last one among them.
all_last : (p : ℕ → Bool) (c : ℕ) (ds : List ℕ) → all p (c ∷ ds) ≡ true → p (last (c ∷ ds)) ≡ true
unfolding all last
all_last p c [] h = (and_split (p c) _ h).0
all_last p c (d ∷ ds) h = all_last p d ds (and_split (p c) _ h).1

-- b and d are no octal digits
no_octal_lem : (y : ℕ) → any_of "bBdD" y ≡ true → ltb (digit y) 8 ≡ false
unfolding open_text
no_octal_lem y h = go (is "b" y) refl (is "B" y) refl (is "d" y) refl (is "D" y) refl h
  where
    go : (b : Bool) → is "b" y ≡ b → (b' : Bool) → is "B" y ≡ b' → (d : Bool) → is "d" y ≡ d → (d' : Bool) → is "D" y ≡ d'
        → (b || (b' || (d || (d' || false)))) ≡ true → ltb (digit y) 8 ≡ false
    go true e b' i d j d' k h = rw (eqb-true y (code "b") e)
    go false e true i d j d' k h = rw (eqb-true y (code "B") i)
    go false e false i true j d' k h = rw (eqb-true y (code "d") j)
    go false e false i false j true k h = rw (eqb-true y (code "D") k)
    go false e false i false j false k h = absurd (false≢true h)

unfit : (c n : ℕ) (ds : List ℕ) → any_of "bBdD" (last ds) ≡ true → digits c 8 ds n ≡ stray c
unfolding open_text digits
unfit c n [] l = absurd (false≢true l)
unfit c n (d ∷ ds) l = go (all (λ e. ltb (digit e) 8) (d ∷ ds)) refl
  where
    go : (b : Bool) → all (λ e. ltb (digit e) 8) (d ∷ ds) ≡ b → digits c 8 (d ∷ ds) n ≡ stray c
    go true e = absurd (true≢false (sym (all_last (λ e. ltb (digit e) 8) d ds e) ∙ no_octal_lem (last (d ∷ ds)) l))
    go false e = rw e

-- The run at the head of bytes.
module _ (c : ℕ) (cs : List ℕ) where
  abbrev s : List ℕ
  s = c ∷ cs

  abbrev n : ℕ
  n = run is_hex_digit s

  abbrev cut : List ℕ
  cut = take (pred n) s

  abbrev bare : TokenRead
  bare = suffix_last c n (digit_run s) cut (digits c 10 (digit_run s) n)

  now_is : begins_run s ≡ true → token_at s ≡ suffix_behind c n (digit_run s) (behind_run s) bare
  unfolding token_at suffixed in_base digit_run behind_run
  now_is h = run_with is_word_part suffixed c cs h

  former_is : begins_run s ≡ true → last_first_token s ≡ suffix_last c n (digit_run s) cut (suffix_behind c n (digit_run s) (behind_run s) (digits c 10 (digit_run s) n))
  unfolding last_first_token last_first
  former_is h = run_with is_word_part last_first c cs h

  octal_run : begins_run s ≡ true → any_of "oO" (behind_run s) ≡ true → token_at s ≡ digits c 8 (digit_run s) (suc n)
  unfolding suffix_behind
  octal_run h o = now_is h ∙ rw o

  hex_no_o : (y : ℕ) → any_of "hH" y ≡ true → any_of "oO" y ≡ false
  unfolding open_text
  hex_no_o y h = go (is "h" y) refl (is "H" y) refl h
    where
      go : (x : Bool) → is "h" y ≡ x → (x' : Bool) → is "H" y ≡ x' → (x || (x' || false)) ≡ true → any_of "oO" y ≡ false
      go true e x' i h = rw (eqb-true y (code "h") e)
      go false e true i h = rw (eqb-true y (code "H") i)
      go false e false i h = absurd (false≢true h)

  hexadecimal_run : begins_run s ≡ true → any_of "hH" (behind_run s) ≡ true → token_at s ≡ digits c 16 (digit_run s) (suc n)
  unfolding suffix_behind
  hexadecimal_run h x = now_is h ∙ rw (hex_no_o (behind_run s) x, x)

  orders : (any_of "bBdD" (last (digit_run s)) && any_of "oOhH" (behind_run s)) ≡ false → suffixed c cs ≡ last_first c cs
  unfolding suffixed in_base last_first suffix_behind suffix_last digit_run behind_run
  orders e =
      let f : ((any_of "bB" (last (digit_run s)) || any_of "dD" (last (digit_run s))) && (any_of "oO" (behind_run s) || any_of "hH" (behind_run s))) ≡ false =
      rw (← last_is (last (digit_run s)), ← behind_is (behind_run s)) e in
      swap (any_of "oO" (behind_run s)) (any_of "hH" (behind_run s)) (any_of "bB" (last (digit_run s))) (any_of "dD" (last (digit_run s))) _ _ _ _ _ f

  behind_sized : (z : TokenRead) → (any_of "oO" (behind_run s) || any_of "hH" (behind_run s)) ≡ true → Sized c (suc n) (suffix_behind c n (digit_run s) (behind_run s) z)
  unfolding suffix_behind
  behind_sized z h =
      given (Sized c (suc n)) (any_of "oO" (behind_run s)) _ _ (λ _. digits_sized c 8 (digit_run s) (suc n))
      (λ o. given (Sized c (suc n)) (any_of "hH" (behind_run s)) _ _ (λ _. digits_sized c 16 (digit_run s) (suc n))
      (λ x. absurd (false≢true (sym (rw (o, x)) ∙ h))))

  changed_run : letter_follows s ≡ true → token_at s ≡ last_first_token s → token_at s ≡ stray c
  unfolding letter_follows
  changed_run h e =
      let (r, f) = and_split (begins_run s) _ h in
      let (l, b) = and_split (any_of "bBdD" (last (digit_run s))) _ f in
      ⊎_elim
      (λ i. ⊎_elim
      (λ j. let k : suc n ≡ n = sym i ∙ ap size_of (sym (now_is r) ∙ e ∙ former_is r) ∙ j in absurd (omega (arith, k)))
      (λ j. e ∙ former_is r ∙ j)
      (last_sized c n (digit_run s) cut _ (sym (last_is (last (digit_run s))) ∙ l)))
      (λ i. now_is r ∙ i)
      (behind_sized bare (sym (behind_is (behind_run s)) ∙ b))

  no_octal_run : letter_follows s ≡ true → any_of "oO" (behind_run s) ≡ true → token_at s ≡ stray c
  unfolding letter_follows digit_run
  no_octal_run h o =
      let (r, f) = and_split (begins_run s) _ h in
      let (l, b) = and_split (any_of "bBdD" (last (digit_run s))) _ f in
      octal_run r o ∙ unfit c (suc n) (digit_run s) l

-- A number that no such letter follows is the same by both orders.
pub number_same : (c : ℕ) (cs : List ℕ) → letter_follows (c ∷ cs) ≡ false → is_digit c ≡ true → number_at c cs ≡ number_with last_first c cs
unfolding letter_follows begins_run
number_same c cs h d = go (is "0" c && any_of "bodx" (get_or cs 0 0)) refl h
  where
    go : (p : Bool) → (is "0" c && any_of "bodx" (get_or cs 0 0)) ≡ p
        → ((is_digit c && not p) && (any_of "bBdD" (last (digit_run (c ∷ cs))) && any_of "oOhH" (behind_run (c ∷ cs)))) ≡ false → number_at c cs ≡ number_with last_first c cs
    go true e f = prefix suffixed last_first c cs e
    go false e f = no_prefix suffixed c cs e ∙ orders c cs (rw d at f) ∙ sym (no_prefix last_first c cs e)

others : (s : List ℕ) → letter_follows s ≡ false → token_at s ≡ last_first_token s
unfolding token_at last_first_token token_with
others [] h = refl
others (c ∷ cs) h = same_with c cs is_word_part is_word_part suffixed last_first (number_same c cs h) (λ _. refl)

-- What holds of the bytes that begin with a run.
begun : (P : List ℕ → Type 0) → ((c : ℕ) (cs : List ℕ) → P (c ∷ cs)) → (s : List ℕ) → begins_run s ≡ true → P s
unfolding begins_run
begun P f [] h = absurd (false≢true h)
begun P f (c ∷ cs) h = f c cs

pub follows_begun : (s : List ℕ) → letter_follows s ≡ true → begins_run s ≡ true
unfolding letter_follows
follows_begun s h = (and_split (begins_run s) _ h).0

-- THE TOKENS THAT CHANGE.
pub letter_first : LetterFirst
letter_first = record {
  others = others;
  changed = λ s h. begun (λ s. letter_follows s ≡ true → token_at s ≡ last_first_token s → token_at s ≡ stray (get_or s 0 0)) changed_run s (follows_begun s h) h;
  no_octal = λ s h. begun (λ s. letter_follows s ≡ true → any_of "oO" (behind_run s) ≡ true → token_at s ≡ stray (get_or s 0 0)) no_octal_run s (follows_begun s h) h;
  octal = λ s h. begun (λ s. begins_run s ≡ true → any_of "oO" (behind_run s) ≡ true → token_at s ≡ digits (get_or s 0 0) 8 (digit_run s) (suc (run is_hex_digit s))) octal_run s h h;
  hexadecimal = λ s h. begun (λ s. begins_run s ≡ true → any_of "hH" (behind_run s) ≡ true → token_at s ≡ digits (get_or s 0 0) 16 (digit_run s) (suc (run is_hex_digit s))) hexadecimal_run s h h;
}
