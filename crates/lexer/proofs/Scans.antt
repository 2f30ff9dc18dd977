-- What is scanned at a place, told from the bytes there: for each way that the code goes, the definition goes the same.
use Rattle.std.specs.Prelude.{if◌then◌else◌}
use Prim.Native.Nat.{ℕ, zero, suc, pred, ◌+◌, ◌-◌, ◌≤◌, ◌<◌}
use mathlib.Core.Path.{◌≡◌, refl, sym, ap, ◌∙◌}
use mathlib.Core.List.{List, [], ◌∷◌}
use mathlib.Core.Bool.{Bool, true, false, not, ◌&&◌, ◌||◌, or-false, beq}
use native.Mathlib.Numerals.{add-one}
use native.Mathlib.Omega.{arith}
use lib.Dec.{eqb, leb, ltb}
use lib.ListN.{length, get_or, take, drop, length-drop, drop_of_length-le}
use lib.Seq.{drop-cons, drop-drop, get_or-drop}
use borrow.Author.Tests.{eq-eqb, ne_eqb, eqb-true, lt-ltb, not-true}
use Rattle.lexer.specs.Text.{is, any_of, is_blank, is_digit, is_hex_digit, is_letter, is_word_part, run, all, last, digit, value_from, open_text}
use Rattle.lexer.specs.Tokens.{largest, numeral, stray, prefixed, digits, suffix_behind, suffix_last, in_base, suffixed, number_with, number_at, in_quotes, string_after, in_comment, mark_at, token_with, token_at, open_tokens}
use Rattle.lexer.specs.Runs.{valued_from, up_to_one, are_hex_digits}
use Rattle.lexer.specs.Scanned.{scanned_of, single}
use Rattle.lexer.specs.declared.Kind.{Kind}
use Rattle.lexer.specs.declared.Kind.TheVariants as kind
use Rattle.lexer.specs.declared.Scanned.{Scanned}
use Rattle.lexer.specs.declared.Fault.TheVariants.{LargerDigit, TooLarge}
use Rattle.lexer.specs.declared.Token.TheVariants.{Whitespace, Identifier, Comment}
use Rattle.lexer.specs.declared.TokenRead.{TokenRead}
use Rattle.lexer.specs.declared.TokenRead.TheVariants.{Read, Refused}
use Rattle.std.specs.Prelude.{Option, None, Some, IfSome}
use Rattle.lexer.proofs.Branches.{branch, alike, or_split}
use Rattle.lexer.proofs.Runs.{below, below_all, run_le, run_all, run_ends}

abbrev pub flat : Kind → ℕ → ℕ → Scanned
flat k v e = record { kind = k; value = v; end = e }

-- a place at which a byte is read that is not 0 lies within
there : (s : List ℕ) (i x : ℕ) → get_or s i 0 ≡ suc x → i < length s
there [] i x q = absurd (omega arith)
there (c ∷ s) zero x q = omega arith
there (c ∷ s) (suc i) x q = omega (arith, there s i x q)

-- A token that goes on with a run.
module _ (p : ℕ → Bool) (s : List ℕ) (at end : ℕ) (e : end ≡ at + 1 + run p (drop (at + 1) s)) where
  behind : end ≡ at + suc (run p (drop (suc at) s))
  behind = e ∙ rw add-one (omega arith)

  pub run_end_is : (k : Kind) → flat k 0 end ≡ flat k 0 (at + suc (run p (drop (suc at) s)))
  run_end_is k = ap (flat k 0) behind

-- A string.
module _ (s : List ℕ) (at end : ℕ) (e : end ≡ at + 1 + run in_quotes (drop (at + 1) s)) where
  quote : get_or (drop (suc at) s) (run in_quotes (drop (suc at) s)) 0 ≡ get_or s end 0
  quote =
      let place : suc at + run in_quotes (drop (suc at) s) ≡ end = omega (arith, behind in_quotes s at end e) in
      get_or-drop (suc at) s (run in_quotes (drop (suc at) s)) 0 ∙ ap (λ k. get_or s k 0) place

  pub string_closed : get_or s end 0 ≡ 39 → flat kind.ClosedString 0 (end + 1) ≡ scanned_of at (string_after (drop (suc at) s))
  unfolding string_after is
  string_closed q = rw (eq-eqb _ 39 (quote ∙ q)) (ap (flat kind.ClosedString 0) (omega (arith, behind in_quotes s at end e)))

  pub string_unclosed : (get_or s end 0 ≡ 39 → ⊥) → flat kind.UnclosedString 0 end ≡ scanned_of at (string_after (drop (suc at) s))
  unfolding string_after is
  string_unclosed q = rw (ne_eqb _ 39 (λ r. q (sym quote ∙ r))) (ap (flat kind.UnclosedString 0) (omega (arith, behind in_quotes s at end e)))

  -- the quote that closes it is there
  pub string_room : get_or s end 0 ≡ 39 → end < length s
  string_room q = there s end 38 q

-- Digits in a base.
module _ (at c base end : ℕ) (ds : List ℕ) where
  abbrev good : Bool
  good = all (λ d. ltb (digit d) base) ds && leb (value_from 0 base ds) largest

  literal : at ≤ end → (t : Bool) (v w : ℕ) → (if t then Some v else None) ≡ Some w → flat kind.Number w end ≡ scanned_of at (if t then numeral (end - at) v else stray c)
  unfolding numeral
  literal h true v w q =
      let place : end ≡ at + (end - at) = omega arith in
      let same : v ≡ w = cc in
      cc
  literal h false v w q = let z : ◌≡◌ {A = ℕ} 0 1 = cc in absurd (omega arith)

  no_literal : (n : ℕ) (t : Bool) (v : ℕ) → (if t then Some v else None) ≡ None → flat kind.Invalid c (at + 1) ≡ scanned_of at (if t then numeral n v else stray c)
  unfolding stray
  no_literal n true v q = let z : ◌≡◌ {A = ℕ} 0 1 = cc in absurd (omega arith)
  no_literal n false v q = refl

  pub literal_fits : at ≤ end → {w : ℕ} → valued_from 0 base ds ≡ Some w → flat kind.Number w end ≡ scanned_of at (digits c base ds (end - at))
  unfolding valued_from digits
  literal_fits h {w} q = literal h good (value_from 0 base ds) w q

  pub literal_beyond : valued_from 0 base ds ≡ None → flat kind.Invalid c (at + 1) ≡ scanned_of at (digits c base ds (end - at))
  unfolding valued_from digits
  literal_beyond q = no_literal (end - at) good (value_from 0 base ds) q

-- A number with a prefix: the digits of its run fit the base.
module _ (p : ℕ → Bool) (base at end : ℕ) (s : List ℕ) (e : end ≡ at + 2 + run p (drop (at + 2) s)) where
  abbrev rest : List ℕ
  rest = drop (at + 2) s

  pub prefix_alone : end ≡ at + 2 → flat kind.Number 0 (at + 1) ≡ scanned_of at (prefixed base p rest)
  unfolding prefixed numeral
  prefix_alone q =
      let empty : run p rest ≡ 0 = omega arith in
      rw (eq-eqb (run p rest) 0 empty)

  pub prefix_within : (end ≡ at + 2 → ⊥) → end ≤ length s
  prefix_within some = within (run p rest) refl
    where
      within : (n : ℕ) → run p rest ≡ n → end ≤ length s
      within zero q = absurd (some (omega arith))
      within (suc n) q = omega (arith, run_le p rest, length-drop (at + 2) s)

  module _ (fit : (c : ℕ) → p c ≡ true → (is_hex_digit c ≡ true) × (digit c < base)) (some : end ≡ at + 2 → ⊥) where
    count : end - (at + 2) ≡ run p rest
    count = omega arith

    -- and are hexadecimal ones
    pub prefix_hex : are_hex_digits s (at + 2) end ≡ true
    prefix_hex = run_all p is_hex_digit (λ c h. (fit c h).0) (end - (at + 2)) rest (omega arith)

    value : ℕ
    value = value_from 0 base (take (run p rest) rest)

    valued : valued_from 0 base (take (end - (at + 2)) rest) ≡ (if leb value largest then Some value else None)
    unfolding valued_from value
    valued = rw (count, run_all p (λ d. ltb (digit d) base) (λ c h. lt-ltb (digit c) base (fit c h).1) (run p rest) rest (omega arith))

    long : (eqb (run p rest) 0) ≡ false
    long = ne_eqb (run p rest) 0 (λ q. some (omega arith))

    fits : (t : Bool) (w : ℕ) → (if t then Some value else None) ≡ Some w → flat kind.Number w end ≡ scanned_of at (if t then numeral (2 + run p rest) value else Refused (2 + run p rest) TooLarge)
    unfolding numeral
    fits true w q =
        let place : end ≡ at + (2 + run p rest) = omega arith in
        let same : value ≡ w = cc in
        cc
    fits false w q = let z : ◌≡◌ {A = ℕ} 0 1 = cc in absurd (omega arith)

    beyond : (t : Bool) → (if t then Some value else None) ≡ None → flat kind.TooLarge 0 end ≡ scanned_of at (if t then numeral (2 + run p rest) value else Refused (2 + run p rest) TooLarge)
    beyond true q = let z : ◌≡◌ {A = ℕ} 0 1 = cc in absurd (omega arith)
    beyond false q =
        let place : end ≡ at + (2 + run p rest) = omega arith in
        cc

    pub prefix_fits : {w : ℕ} → valued_from 0 base (take (end - (at + 2)) rest) ≡ Some w → flat kind.Number w end ≡ scanned_of at (prefixed base p rest)
    unfolding prefixed value
    prefix_fits {w} q = rw long (fits (leb value largest) w (sym valued ∙ q))

    pub prefix_beyond : valued_from 0 base (take (end - (at + 2)) rest) ≡ None → flat kind.TooLarge 0 end ≡ scanned_of at (prefixed base p rest)
    unfolding prefixed value
    prefix_beyond q = rw long (beyond (leb value largest) (sym valued ∙ q))

-- A suffix is one of two letters.
either : (a b x : ℕ) → (eqb x a || (eqb x b || false)) ≡ (eqb x a || eqb x b)
either a b x = rw or-false

is_b_lem : (x : ℕ) → any_of "bB" x ≡ (eqb x 98 || eqb x 66)
unfolding open_text
is_b_lem x = either 98 66 x

is_d_lem : (x : ℕ) → any_of "dD" x ≡ (eqb x 100 || eqb x 68)
unfolding open_text
is_d_lem x = either 100 68 x

is_o_lem : (x : ℕ) → any_of "oO" x ≡ (eqb x 111 || eqb x 79)
unfolding open_text
is_o_lem x = either 111 79 x

is_h_lem : (x : ℕ) → any_of "hH" x ≡ (eqb x 104 || eqb x 72)
unfolding open_text
is_h_lem x = either 104 72 x

last_take : (n : ℕ) (l : List ℕ) → suc n ≤ length l → last (take (suc n) l) ≡ get_or l n 0
unfolding last
last_take n [] h = absurd (omega arith)
last_take zero (c ∷ cs) h = refl
last_take (suc n) (c ∷ []) h = absurd (omega arith)
last_take (suc n) (c ∷ d ∷ ds) h = last_take n (d ∷ ds) (omega arith)

-- A number with a suffix or none: its run ends before `end`.
module _ (s : List ℕ) (at end : ℕ) (h : at < length s) (d : is_digit (get_or s at 0) ≡ true) (e : end ≡ at + run is_hex_digit (drop at s)) where
  abbrev first : ℕ
  first = get_or s at 0

  some : suc (run is_hex_digit (drop (suc at) s)) ≡ run is_hex_digit (drop at s)
  unfolding run is_hex_digit
  some = rw (drop-cons s at 0 h, d)

  pub suffix_inside : at < end
  suffix_inside = omega (arith, some)

  pub suffix_within : end ≤ length s
  suffix_within = omega (arith, run_le is_hex_digit (drop at s), length-drop at s)

  -- what stands before the run's end are hexadecimal digits
  pub suffix_hex : (to : ℕ) → to ≤ end → are_hex_digits s at to ≡ true
  suffix_hex to l = run_all is_hex_digit is_hex_digit (λ c t. t) (to - at) (drop at s) (omega arith)

  abbrev ds : List ℕ
  ds = take (end - at) (drop at s)

  abbrev cut : List ℕ
  cut = take (end - 1 - at) (drop at s)

  whole : suffixed first (drop (suc at) s) ≡ in_base first (end - at) ds cut (get_or s end 0)
  unfolding suffixed
  whole =
      let split : first ∷ drop (suc at) s ≡ drop at s = sym (drop-cons s at 0 h) in
      let count : run is_hex_digit (drop at s) ≡ end - at = omega arith in
      let less : pred (end - at) ≡ end - 1 - at = omega arith in
      let place : at + (end - at) ≡ end = omega (arith, suffix_inside) in
      let after : get_or (drop at s) (end - at) 0 ≡ get_or s end 0 = get_or-drop at s (end - at) 0 ∙ ap (λ k. get_or s k 0) place in
      cc

  suffix_is : last ds ≡ get_or s (end - 1) 0
  suffix_is =
      let count : end - at ≡ suc (end - 1 - at) = omega (arith, suffix_inside) in
      let place : at + (end - 1 - at) ≡ end - 1 = omega (arith, suffix_inside) in
      rw count
      (last_take (end - 1 - at) (drop at s) (omega (arith, suffix_inside, suffix_within, length-drop at s))
      ∙ get_or-drop at s (end - 1 - at) 0 ∙ ap (λ k. get_or s k 0) place)

  longer : suc (end - at) ≡ end + 1 - at
  longer = omega (arith, suffix_inside)

  -- the letter behind the run
  abbrev is_o : Bool
  is_o = eqb (get_or s end 0) 111 || eqb (get_or s end 0) 79

  abbrev is_h : Bool
  is_h = eqb (get_or s end 0) 104 || eqb (get_or s end 0) 72

  -- and its last character
  abbrev is_b : Bool
  is_b = eqb (get_or s (end - 1) 0) 98 || eqb (get_or s (end - 1) 0) 66

  abbrev is_d : Bool
  is_d = eqb (get_or s (end - 1) 0) 100 || eqb (get_or s (end - 1) 0) 68

  pub suffix_octal : is_o ≡ true → suffixed first (drop (suc at) s) ≡ digits first 8 ds (end + 1 - at)
  unfolding in_base suffix_behind
  suffix_octal o = whole ∙ rw (is_o_lem, o, longer)

  module _ (o : is_o ≡ false) where
    pub suffix_hexadecimal : is_h ≡ true → suffixed first (drop (suc at) s) ≡ digits first 16 ds (end + 1 - at)
    unfolding in_base suffix_behind
    suffix_hexadecimal x = whole ∙ rw (is_o_lem, o, is_h_lem, x, longer)

    module _ (x : is_h ≡ false) where
      plain : suffixed first (drop (suc at) s) ≡ suffix_last first (end - at) ds cut (digits first 10 ds (end - at))
      unfolding in_base suffix_behind
      plain = whole ∙ rw (is_o_lem, o, is_h_lem, x)

      module _ (b : is_b ≡ true) where
        pub suffix_larger : (m : ℕ) → m ≡ at + run up_to_one (drop at s) → m < end - 1 → suffixed first (drop (suc at) s) ≡ Refused (end - at) LargerDigit
        unfolding suffix_last
        suffix_larger m q l =
            plain
            ∙ rw (suffix_is, is_b_lem, b, run_ends up_to_one (end - 1 - at) (drop at s) (omega arith) (omega (arith, suffix_within, length-drop at s)))

        pub suffix_binary : (m : ℕ) → m ≡ at + run up_to_one (drop at s) → end - 1 ≤ m → suffixed first (drop (suc at) s) ≡ digits first 2 cut (end - at)
        unfolding suffix_last
        suffix_binary m q l =
            plain ∙ rw (suffix_is, is_b_lem, b, run_all up_to_one up_to_one (λ c t. t) (end - 1 - at) (drop at s) (omega (arith, suffix_inside)))

      module _ (b : is_b ≡ false) where
        pub suffix_decimal : is_d ≡ true → suffixed first (drop (suc at) s) ≡ digits first 10 cut (end - at)
        unfolding suffix_last
        suffix_decimal k = plain ∙ rw (suffix_is, is_b_lem, b, is_d_lem, k)

        pub suffix_none : is_d ≡ false → suffixed first (drop (suc at) s) ≡ digits first 10 ds (end - at)
        unfolding suffix_last
        suffix_none k = plain ∙ rw (suffix_is, is_b_lem, b, is_d_lem, k)

pub larger_scanned : (at end : ℕ) → at < end → flat kind.LargerDigit 0 end ≡ scanned_of at (Refused (end - at) LargerDigit)
larger_scanned at end h = ap (flat kind.LargerDigit 0) (omega arith)

-- The number that begins with c: what stands behind a leading zero.
pub number_other : (unprefixed : ℕ → List ℕ → TokenRead) (c : ℕ) (cs : List ℕ) → eqb c 48 ≡ false → number_with unprefixed c cs ≡ unprefixed c cs
unfolding number_with is
number_other unprefixed c [] h = refl
number_other unprefixed c (d ∷ ds) h = rw h

zero_then : (c : ℕ) (cs : List ℕ) (x : ℕ) → c ≡ 48 → get_or cs 0 0 ≡ suc x → number_at c cs ≡ number_at 48 (suc x ∷ drop 1 cs)
zero_then c [] x z q = absurd (omega arith)
zero_then c (d ∷ ds) x z q = cc

pub zero_plain : (unprefixed : ℕ → List ℕ → TokenRead) (c : ℕ) (cs : List ℕ) → c ≡ 48 → (get_or cs 0 0 ≡ 98 → ⊥) → (get_or cs 0 0 ≡ 111 → ⊥) → (get_or cs 0 0 ≡ 100 → ⊥)
    → (get_or cs 0 0 ≡ 120 → ⊥) → number_with unprefixed c cs ≡ unprefixed c cs
unfolding number_with is
zero_plain unprefixed c [] z b o k x = refl
zero_plain unprefixed c (d ∷ ds) z b o k x = rw (z, ne_eqb d 98 b, ne_eqb d 111 o, ne_eqb d 100 k, ne_eqb d 120 x)

module _ (c : ℕ) (s : List ℕ) (at : ℕ) where
  head_is : get_or (drop (suc at) s) 0 0 ≡ get_or s (at + 1) 0
  head_is =
      let place : suc at + 0 ≡ at + 1 = omega arith in
      get_or-drop (suc at) s 0 0 ∙ ap (λ k. get_or s k 0) place

  rest_is : drop 1 (drop (suc at) s) ≡ drop (at + 2) s
  rest_is =
      let place : suc at + 1 ≡ at + 2 = omega arith in
      drop-drop 1 (suc at) s ∙ ap (λ k. drop k s) place

  -- the letter suc x is that of a prefix, and what stands behind it is read so
  pub number_prefixed : (p : ℕ → Bool) (base x : ℕ) {r : Scanned} → number_at 48 (suc x ∷ drop (at + 2) s) ≡ prefixed base p (drop (at + 2) s)
      → c ≡ 48 → get_or s (at + 1) 0 ≡ suc x → r ≡ scanned_of at (prefixed base p (drop (at + 2) s)) → r ≡ scanned_of at (number_at c (drop (suc at) s))
  number_prefixed p base x e z q h =
      h ∙ ap (scanned_of at) (sym (zero_then c (drop (suc at) s) x z (head_is ∙ q) ∙ ap (λ l. number_at 48 (suc x ∷ l)) rest_is ∙ e))

  pub number_plain : c ≡ 48 → (get_or s (at + 1) 0 ≡ 98 → ⊥) → (get_or s (at + 1) 0 ≡ 111 → ⊥) → (get_or s (at + 1) 0 ≡ 100 → ⊥) → (get_or s (at + 1) 0 ≡ 120 → ⊥)
      → number_at c (drop (suc at) s) ≡ suffixed c (drop (suc at) s)
  number_plain z b o k x =
      let e = sym head_is in
      zero_plain suffixed c (drop (suc at) s) z (λ q. b (e ∙ q)) (λ q. o (e ∙ q)) (λ q. k (e ∙ q)) (λ q. x (e ∙ q))

same : (a b : Bool) → beq a b ≡ true → a ≡ b
same true true e = refl
same true false e = sym e
same false true e = e
same false false e = refl

-- The classes of first bytes lie apart: a holds of no byte of which b does.
pub Apart : (ℕ → Bool) → (ℕ → Bool) → Type 0
Apart a b = (c : ℕ) → c < 256 → a c ≡ true → b c ≡ false

abbrev rules_out : Bool → Bool → Bool
rules_out true b = not b
rules_out false b = true

apart : (a b : ℕ → Bool) → below (λ c. rules_out (a c) (b c)) 256 ≡ true → Apart a b
unfolding Apart
apart a b e c h t = go (a c) (b c) (below_all (λ c. rules_out (a c) (b c)) 256 e c h) t
  where
    go : (x y : Bool) → rules_out x y ≡ true → x ≡ true → y ≡ false
    go true y e t = not-true y e
    go false y e t = let z : ◌≡◌ {A = ℕ} 0 1 = cc in absurd (omega arith)

before_letter : ℕ → Bool
before_letter c = is ";" c || is_blank c || is_digit c

blank_apart : Apart is_blank (is ";")
unfolding below open_text
blank_apart = apart is_blank (is ";") refl

digit_apart : Apart is_digit (λ c. is ";" c || is_blank c)
unfolding below open_text
digit_apart = apart is_digit (λ c. is ";" c || is_blank c) refl

letter_apart : Apart is_letter before_letter
unfolding below open_text before_letter
letter_apart = apart is_letter before_letter refl

-- The token that begins with the byte c.
module _ (c : ℕ) (cs : List ℕ) where
  -- Two rules give the same one where its number is the same by both, or its name.
  pub same_with : (part part' : ℕ → Bool) (unprefixed unprefixed' : ℕ → List ℕ → TokenRead) → (is_digit c ≡ true → number_with unprefixed c cs ≡ number_with unprefixed' c cs)
      → (is_letter c ≡ true → run part cs ≡ run part' cs) → token_with part unprefixed (c ∷ cs) ≡ token_with part' unprefixed' (c ∷ cs)
  unfolding token_with
  same_with part part' unprefixed unprefixed' number name =
      branch (is ";" c) _ _ _ _ refl (branch (is_blank c) _ _ _ _ refl (alike (is_digit c) _ _ _ _ number
      (λ _. alike (is_letter c) _ _ _ _ (λ e. ap (λ (n : ℕ). Read (Identifier (suc n))) (name e)) (λ _. refl))))

  pub token_comment : c ≡ 59 → token_at (c ∷ cs) ≡ Read (Comment (suc (run in_comment cs)))
  unfolding token_with token_at is
  token_comment e = rw e

  pub token_string : c ≡ 39 → token_at (c ∷ cs) ≡ string_after cs
  unfolding token_with token_at open_text
  token_string e = rw e

  pub token_other : is_blank c ≡ false → is_letter c ≡ false → is_digit c ≡ false → (c ≡ 59 → ⊥) → (c ≡ 39 → ⊥) → is "\n" c ≡ false → token_at (c ∷ cs) ≡ mark_at c
  unfolding token_with token_at is
  token_other b l d s q n = rw (ne_eqb c 59 s, b, d, l, ne_eqb c 39 q, n)

  module _ (h : c < 256) where
    pub token_blank : is_blank c ≡ true → token_at (c ∷ cs) ≡ Read (Whitespace (suc (run is_blank cs)))
    unfolding token_with token_at Apart
    token_blank e = rw (blank_apart c h e, e)

    -- whatever a name goes on with, and however a number without a prefix is read
    module _ (part : ℕ → Bool) (unprefixed : ℕ → List ℕ → TokenRead) where
      pub number_with_lem : is_digit c ≡ true → token_with part unprefixed (c ∷ cs) ≡ number_with unprefixed c cs
      unfolding token_with Apart
      number_with_lem e =
          let o = or_split (is ";" c) (is_blank c) (digit_apart c h e) in
          rw (o.0, o.1, e)

      pub word_with : is_letter c ≡ true → token_with part unprefixed (c ∷ cs) ≡ Read (Identifier (suc (run part cs)))
      unfolding token_with Apart before_letter
      word_with e =
          let o = or_split (is ";" c || is_blank c) (is_digit c) (letter_apart c h e) in
          let p = or_split (is ";" c) (is_blank c) o.0 in
          rw (p.0, p.1, o.1, e)

    pub token_number : is_digit c ≡ true → token_at (c ∷ cs) ≡ number_at c cs
    unfolding token_at
    token_number e = number_with_lem is_word_part suffixed e

    pub token_word : is_letter c ≡ true → token_at (c ∷ cs) ≡ Read (Identifier (suc (run is_word_part cs)))
    unfolding token_at
    token_word e = word_with is_word_part suffixed e

-- what is scanned at a place is that of the token whose first byte stands there
pub scanned_at : (s : List ℕ) (at : ℕ) {t : TokenRead} → at < length s → token_at (get_or s at 0 ∷ drop (suc at) s) ≡ t → scanned_of at t ≡ scanned_of at (token_at (drop at s))
scanned_at s at h e = ap (scanned_of at) (sym e ∙ ap token_at (sym (drop-cons s at 0 h)))

pub scanned_end : (s : List ℕ) (at : ℕ) → length s ≤ at → flat kind.EndOfFile 0 at ≡ scanned_of at (token_at (drop at s))
unfolding token_with token_at
scanned_end s at h = rw (drop_of_length-le s h) (ap (flat kind.EndOfFile 0) (omega arith))

-- What a token of one byte is: tried at each byte that is one.
module _ (at : ℕ) (cs : List ℕ) (c : ℕ) where
  abbrev Is : ℕ → Kind → Type 0
  Is b k = flat k 0 (at + 1) ≡ scanned_of at (token_at (b ∷ cs))

  single_or : (a : ℕ) (x : Kind) (u : Option Kind) → Is a x → IfSome u (Is c) → IfSome (if eqb c a then Some x else u) (Is c)
  single_or a x u e r = go (eqb c a) refl
    where
      go : (b : Bool) → eqb c a ≡ b → IfSome (if b then Some x else u) (Is c)
      go true q = rw (eqb-true c a q) e
      go false q = r

  pub single_scanned : IfSome (single c) (Is c)
  unfolding single token_with token_at open_tokens
  single_scanned =
      single_or 10 _ _ refl (single_or 58 _ _ refl (single_or 44 _ _ refl (single_or 36 _ _ refl (single_or 46 _ _ refl (single_or 91 _ _ refl (single_or 93 _ _ refl
      (single_or 40 _ _ refl (single_or 41 _ _ refl (single_or 43 _ _ refl (single_or 45 _ _ refl (single_or 42 _ _ refl (single_or 47 _ _ refl tt))))))))))))

-- A byte that is none, and begins no other token, is a token of its own.
none_else : (b : Bool) (x : Kind) {u : Option Kind} → (if b then Some x else u) ≡ None → (b ≡ false) × (u ≡ None)
none_else true x n = let z : ◌≡◌ {A = ℕ} 0 1 = cc in absurd (omega arith)
none_else false x n = (refl, n)

other_or : (c : ℕ) (b : Bool) (x : Kind) {u : Option Kind} (t : TokenRead) {r : TokenRead} → (u ≡ None → r ≡ stray c) → (if b then Some x else u) ≡ None → (if b then t else r) ≡ stray c
other_or c b x t e n = let (f, o) = none_else b x n in rw f (e o)

module _ (c : ℕ) (h : single c ≡ None) where
  pub not_line : is "\n" c ≡ false
  unfolding single
  not_line = (none_else (is "\n" c) _ h).0

  other_mark : mark_at c ≡ stray c
  unfolding single mark_at
  other_mark =
      other_or c (is ":" c) _ _ (other_or c (is "," c) _ _ (other_or c (is "$" c) _ _ (other_or c (is "." c) _ _ (other_or c (is "[" c) _ _ (other_or c (is "]" c) _ _
      (other_or c (is "(" c) _ _ (other_or c (is ")" c) _ _ (other_or c (is "+" c) _ _ (other_or c (is "-" c) _ _ (other_or c (is "*" c) _ _ (other_or c (is "/" c) _ _
      (λ n. refl)))))))))))) (none_else (is "\n" c) _ h).1

  pub stray_scanned : (at : ℕ) → flat kind.Invalid c (at + 1) ≡ scanned_of at (mark_at c)
  unfolding stray
  stray_scanned at = ap (scanned_of at) (sym other_mark)
