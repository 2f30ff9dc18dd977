-- A token's text: it has at least one byte, its bytes are there, none is a line feed but in the line feed's own token, and so the tokens
-- tile the source. A number begins with a digit and is at most the largest, a name takes all its characters, and a closed string has room for
-- its two quotes.
use mathlib.Core.Path.{◌≡◌, refl, sym, ap, ◌∙◌}
use mathlib.Core.Bool.{Bool, true, false, not, ◌&&◌, true≢false, false≢true}
use mathlib.Core.List.{List, [], ◌∷◌, ◌++◌, flatten}
use mathlib.Core.Logic.{◌⊎◌, inl, inr}
use Prim.Native.Nat.{ℕ, zero, suc, pred, ◌+◌, ◌≤◌, zero-le, suc-le-suc}
use Prim.Native.Char.{Char, code}
use native.Mathlib.Omega.{arith}
use native.Mathlib.Nat.{le_refl}
use borrow.Author.Tests.{leb-true, eqb-true, eqb-false}
use lib.Dec.{eqb, leb, ltb}
use lib.IntN.{pos}
use lib.ListN.{length, take, drop, get_or, take-append-drop}
use Rattle.lexer.specs.Text.{is, within, any_of, is_blank, is_digit, is_hex_digit, is_letter, is_word_part, run, all, last, digit, value_from, open_text}
use Rattle.lexer.specs.declared.LiteralKind.TheVariants.{Number, Text}
use Rattle.lexer.specs.declared.PunctuationKind.{PunctuationKind}
use Rattle.lexer.specs.declared.Token.TheVariants.{Whitespace, Identifier, Literal, Punctuation, Comment, NewLine, EndOfFile, Invalid}
use Rattle.lexer.specs.declared.Fault.{Fault}
use Rattle.lexer.specs.declared.Fault.TheVariants.{LargerDigit, TooLarge}
use Rattle.lexer.specs.declared.TokenRead.{TokenRead}
use Rattle.lexer.specs.declared.TokenRead.TheVariants.{Read, Refused}
use Rattle.lexer.specs.Tokens.{largest, numeral, stray, prefixed, digits, suffix_behind, suffix_last, in_base, suffixed, number_with, number_at, in_quotes, string_after, in_comment, mark, mark_at, token_with, token_at, size_of}
use Rattle.lexer.proofs.Branches.{either, given, and_split}
use Rattle.lexer.proofs.TokensLine.{Lines}

-- the first n bytes of s are there, and none is a line feed
abbrev Clean : ℕ → List ℕ → Type 0
Clean zero s = Unit {0}
Clean (suc n) [] = ⊥
Clean (suc n) (c ∷ s) = (is "\n" c ≡ false) × Clean n s

-- a number is at most the largest, a closed string has its two quotes, and the end of file has no byte
abbrev pub InRange : TokenRead → Type 0
InRange (Read (Literal n (Number z))) = (v : ℕ) × (z ≡ pos v) × (v ≤ 2147483647)
InRange (Read (Literal n (Text true))) = 2 ≤ n
InRange (Read (Literal n (Text false))) = Unit {0}
InRange (Read (Whitespace n)) = Unit {0}
InRange (Read (Identifier n)) = Unit {0}
InRange (Read (Punctuation n k)) = Unit {0}
InRange (Read (Comment n)) = Unit {0}
InRange (Read (NewLine n)) = Unit {0}
InRange (Read (EndOfFile n)) = n ≡ 0
InRange (Read (Invalid n c)) = Unit {0}
InRange (Refused n f) = Unit {0}

-- a number begins with a digit, and a name takes all its characters
abbrev pub Begun : List ℕ → TokenRead → Type 0
Begun s (Read (Literal n (Number z))) = is_digit (get_or s 0 0) ≡ true
Begun s (Read (Literal n (Text b))) = Unit {0}
Begun s (Read (Whitespace n)) = Unit {0}
Begun s (Read (Identifier n)) = n ≡ suc (run is_word_part (drop 1 s))
Begun s (Read (Punctuation n k)) = Unit {0}
Begun s (Read (Comment n)) = Unit {0}
Begun s (Read (NewLine n)) = Unit {0}
Begun s (Read (EndOfFile n)) = Unit {0}
Begun s (Read (Invalid n c)) = Unit {0}
Begun s (Refused n f) = Unit {0}

record Fine (s : List ℕ) (t : TokenRead) : Type 0 where
  some_byte : 1 ≤ size_of t
  clean : Clean (size_of t) s
  in_range : InRange t
  begun : Begun s t

-- a test that no line feed passes
other : (p : ℕ → Bool) → p 10 ≡ false → (c : ℕ) → p c ≡ true → is "\n" c ≡ false
unfolding is
other p h c e = go (is "\n" c) refl
  where
    go : (b : Bool) → is "\n" c ≡ b → is "\n" c ≡ false
    go false i = i
    go true i =
        let z : ◌≡◌ {A = Bool} true false = sym e ∙ ap p (eqb-true c 10 i) ∙ h in
        absurd (true≢false z)

run_clean : (p : ℕ → Bool) → p 10 ≡ false → (s : List ℕ) → Clean (run p s) s
unfolding run
run_clean p h [] = tt
run_clean p h (c ∷ cs) = given (λ (n : ℕ). Clean n (c ∷ cs)) (p c) (suc (run p cs)) 0 (λ e. (other p h c e, run_clean p h cs)) (λ e. tt)

-- one byte more, that passes a test which neither a line feed nor nothing passes
more_clean : (p : ℕ → Bool) → p 10 ≡ false → p 0 ≡ false → (n : ℕ) (s : List ℕ) → Clean n s → p (get_or s n 0) ≡ true → Clean (suc n) s
more_clean p h o zero [] l e = absurd (false≢true (sym o ∙ e))
more_clean p h o zero (c ∷ s) l e = (other p h c e, tt)
more_clean p h o (suc n) [] l e = absurd l
more_clean p h o (suc n) (c ∷ s) l e = (l.0, more_clean p h o n s l.1 e)

one_run : (p : ℕ → Bool) (c : ℕ) (cs : List ℕ) → p c ≡ true → 1 ≤ run p (c ∷ cs)
unfolding run
one_run p c cs e = rw (e, run) (omega arith)

fine : {s : List ℕ} (t : TokenRead) → 1 ≤ size_of t → Clean (size_of t) s → InRange t → Begun s t → Fine s t
fine t i l h b = record { some_byte = i; clean = l; in_range = h; begun = b }

within_largest : (v : ℕ) → leb v largest ≡ true → v ≤ 2147483647
unfolding largest
within_largest v h = leb-true v 2147483647 h

-- a number of n bytes of s
module _ {s : List ℕ} (n : ℕ) (i : 1 ≤ n) (l : Clean n s) where
  numeral_fine : is_digit (get_or s 0 0) ≡ true → (v : ℕ) → leb v largest ≡ true → Fine s (numeral n v)
  unfolding numeral
  numeral_fine h v e = fine (numeral n v) i l (v, refl, within_largest v e) h

  refused_fine : (f : Fault) → Fine s (Refused n f)
  refused_fine f = fine (Refused n f) i l tt tt

module _ (c : ℕ) (cs : List ℕ) (other_byte : is "\n" c ≡ false) where
  stray_fine : (d : ℕ) → Fine (c ∷ cs) (stray d)
  unfolding stray
  stray_fine d = fine (stray d) (le_refl 1) (other_byte, tt) tt tt

module _ (c : ℕ) (cs : List ℕ) (other_byte : is "\n" c ≡ false) (digit-byte : is_digit c ≡ true) where
  digits_fine : (d base : ℕ) (ds : List ℕ) (n : ℕ) → 1 ≤ n → Clean n (c ∷ cs) → Fine (c ∷ cs) (digits d base ds n)
  unfolding digits
  digits_fine d base ds n i l =
      let fits : Bool = all (λ e. ltb (digit e) base) ds in
      let small : Bool = leb (value_from 0 base ds) largest in
      given (Fine (c ∷ cs)) (fits && small) _ _ (λ e. numeral_fine n i l digit-byte (value_from 0 base ds) (and_split fits small e).1) (λ e. stray_fine c cs other_byte d)

  in_base_fine : (d n : ℕ) (ds cut : List ℕ) (after : ℕ) → 1 ≤ n → Clean n (c ∷ cs) → (any_of "oO" after ≡ true → Clean (suc n) (c ∷ cs)) → (any_of "hH" after ≡ true → Clean (suc n) (c ∷ cs))
      → Fine (c ∷ cs) (in_base d n ds cut after)
  unfolding in_base suffix_behind suffix_last
  in_base_fine d n ds cut after i l o x =
      let P : TokenRead → Type 0 = Fine (c ∷ cs) in
      given P (any_of "oO" after) _ _ (λ e. digits_fine d 8 ds (suc n) (omega arith) (o e))
      (λ _. given P (any_of "hH" after) _ _ (λ e. digits_fine d 16 ds (suc n) (omega arith) (x e))
      (λ _. either P (any_of "bB" (last ds)) _ _ (either P (all (λ e. leb e (code "1")) cut) _ _ (digits_fine d 2 cut n i l) (refused_fine n i l LargerDigit))
      (either P (any_of "dD" (last ds)) _ _ (digits_fine d 10 cut n i l) (digits_fine d 10 ds n i l))))

  -- behind a prefix: c is its `0`, d its letter
  prefixed_fine : (base : ℕ) (p : ℕ → Bool) → p 10 ≡ false → (d : ℕ) (ds : List ℕ) → cs ≡ d ∷ ds → is "\n" d ≡ false → Fine (c ∷ cs) (prefixed base p ds)
  unfolding prefixed open_text largest
  prefixed_fine base p h d ds e o =
      let n : ℕ = run p ds in
      let v : ℕ = value_from 0 base (take n ds) in
      let two : 2 + n ≡ suc (suc n) = omega arith in
      let l : Clean (2 + n) (c ∷ cs) = rw (e, two) (other_byte, (o, run_clean p h ds)) in
      either (Fine (c ∷ cs)) (eqb n 0) _ _ (numeral_fine 1 (le_refl 1) (other_byte, tt) digit-byte 0 refl)
      (given (Fine (c ∷ cs)) (leb v largest) _ _ (λ i. numeral_fine (2 + n) (omega arith) l digit-byte v i) (λ _. refused_fine (2 + n) (omega arith) l TooLarge))

  suffixed_fine : is_hex_digit c ≡ true → Fine (c ∷ cs) (suffixed c cs)
  unfolding suffixed open_text
  suffixed_fine h =
      let n : ℕ = run is_hex_digit (c ∷ cs) in
      let l : Clean n (c ∷ cs) = run_clean is_hex_digit refl (c ∷ cs) in
      in_base_fine c n _ _ _ (one_run is_hex_digit c cs h) l (more_clean (any_of "oO") refl refl n (c ∷ cs) l) (more_clean (any_of "hH") refl refl n (c ∷ cs) l)

digit_hex : (c : ℕ) → is_digit c ≡ true → is_hex_digit c ≡ true
unfolding is_hex_digit
digit_hex c h = rw h

number_at_fine : (c : ℕ) (cs : List ℕ) → is_digit c ≡ true → is "\n" c ≡ false → Fine (c ∷ cs) (number_at c cs)
unfolding number_with open_text
number_at_fine c [] h o = suffixed_fine c [] o h (digit_hex c h)
number_at_fine c (d ∷ ds) h o =
    let P : TokenRead → Type 0 = Fine (c ∷ d ∷ ds) in
    let plain : P (suffixed c (d ∷ ds)) = suffixed_fine c (d ∷ ds) o h (digit_hex c h) in
    let letter : (a : Char) → is a 10 ≡ false → is a d ≡ true → is "\n" d ≡ false = λ a i e. other (is a) i d e in
    either P (not (is "0" c)) _ _ plain
    (given P (is "b" d) _ _ (λ e. prefixed_fine c (d ∷ ds) o h 2 (within "0" "1") refl d ds refl (letter "b" refl e))
    (λ _. given P (is "o" d) _ _ (λ e. prefixed_fine c (d ∷ ds) o h 8 (within "0" "7") refl d ds refl (letter "o" refl e))
    (λ _. given P (is "d" d) _ _ (λ e. prefixed_fine c (d ∷ ds) o h 10 is_digit refl d ds refl (letter "d" refl e))
    (λ _. given P (is "x" d) _ _ (λ e. prefixed_fine c (d ∷ ds) o h 16 is_hex_digit refl d ds refl (letter "x" refl e)) (λ _. plain)))))

string_fine : (c : ℕ) (cs : List ℕ) → is "\n" c ≡ false → Fine (c ∷ cs) (string_after cs)
unfolding string_after open_text in_quotes
string_fine c cs o =
    let n : ℕ = run in_quotes cs in
    let l : Clean n cs = run_clean in_quotes refl cs in
    let one : n + 1 ≡ suc n = omega arith in
    let two : n + 2 ≡ suc (suc n) = omega arith in
    given (Fine (c ∷ cs)) (is "'" (get_or cs n 0)) _ _
    (λ e. fine _ (omega arith) (rw two (o, more_clean (is "'") refl refl n cs l e)) (omega arith) tt) (λ _. fine _ (omega arith) (rw one (o, l)) tt tt)

mark_at_fine : (c : ℕ) (cs : List ℕ) → is "\n" c ≡ false → Fine (c ∷ cs) (mark_at c)
unfolding mark_at mark
mark_at_fine c cs o =
    let P : TokenRead → Type 0 = Fine (c ∷ cs) in
    let one : (k : PunctuationKind) → P (mark k) = λ k. fine (mark k) (le_refl 1) (o, tt) tt tt in
    either P (is ":" c) _ _ (one _) (either P (is "," c) _ _ (one _) (either P (is "$" c) _ _ (one _) (either P (is "." c) _ _ (one _)
    (either P (is "[" c) _ _ (one _) (either P (is "]" c) _ _ (one _) (either P (is "(" c) _ _ (one _) (either P (is ")" c) _ _ (one _)
    (either P (is "+" c) _ _ (one _) (either P (is "-" c) _ _ (one _) (either P (is "*" c) _ _ (one _) (either P (is "/" c) _ _ (one _) (stray_fine c cs o c))))))))))))

-- Every token but the line feed's.
token_at_fine : (c : ℕ) (cs : List ℕ) → is "\n" c ≡ false → Fine (c ∷ cs) (token_at (c ∷ cs))
unfolding token_with token_at open_text in_comment
token_at_fine c cs o =
    let P : TokenRead → Type 0 = Fine (c ∷ cs) in
    either P (is ";" c) _ _ (fine _ (omega arith) (o, run_clean in_comment refl cs) tt tt)
    (either P (is_blank c) _ _ (fine _ (omega arith) (o, run_clean is_blank refl cs) tt tt)
    (given P (is_digit c) _ _ (λ e. number_at_fine c cs e o)
    (λ _. either P (is_letter c) _ _ (fine _ (omega arith) (o, run_clean is_word_part refl cs) tt refl)
    (either P (is "'" c) _ _ (string_fine c cs o)
    (given P (is "\n" c) _ _ (λ e. absurd (true≢false (sym e ∙ o))) (λ _. mark_at_fine c cs o))))))

-- THE LAWS.
-- A line feed is a token of its own.
pub token_at_feed : (cs : List ℕ) → token_at (10 ∷ cs) ≡ Read (NewLine 1)
unfolding token_with token_at open_text
token_at_feed cs = refl

-- What holds of the line feed's token and of every other holds of each.
by_first : (P : List ℕ → TokenRead → Type 0) → ((cs : List ℕ) → P (10 ∷ cs) (Read (NewLine 1))) → ((c : ℕ) (cs : List ℕ) → Fine (c ∷ cs) (token_at (c ∷ cs)) → P (c ∷ cs) (token_at (c ∷ cs)))
    → (c : ℕ) (cs : List ℕ) → P (c ∷ cs) (token_at (c ∷ cs))
unfolding is
by_first P feed rest c cs = go (is "\n" c) refl
  where
    go : (b : Bool) → is "\n" c ≡ b → P (c ∷ cs) (token_at (c ∷ cs))
    go true e = rw (eqb-true c 10 e, token_at_feed cs) (feed cs)
    go false e = rest c cs (token_at_fine c cs e)

-- Every token but end of file has at least one byte.
pub token_at_some : (c : ℕ) (cs : List ℕ) → 1 ≤ size_of (token_at (c ∷ cs))
token_at_some = by_first (λ (s : List ℕ) (t : TokenRead). 1 ≤ size_of t) (λ cs. le_refl 1) (λ c cs f. f.some_byte)

-- No token is longer than what is left.
clean_le : (n : ℕ) (s : List ℕ) → Clean n s → n ≤ length s
clean_le zero s l = zero-le
clean_le (suc n) [] l = absurd l
clean_le (suc n) (c ∷ s) l = suc-le-suc (clean_le n s l.1)

pub token_at_le : (s : List ℕ) → size_of (token_at s) ≤ length s
unfolding token_with token_at
token_at_le [] = zero-le
token_at_le (c ∷ cs) = by_first (λ (s : List ℕ) (t : TokenRead). size_of t ≤ length s) (λ cs. omega arith) (λ c cs f. clean_le (size_of (token_at (c ∷ cs))) (c ∷ cs) f.clean) c cs

-- No token but the line feed's holds a line feed.
clean_all : (n : ℕ) (s : List ℕ) → Clean n s → all in_comment (take n s) ≡ true
unfolding all in_comment
clean_all zero s l = refl
clean_all (suc n) [] l = absurd l
clean_all (suc n) (c ∷ s) l = rw (l.0, clean_all n s l.1)

pub token_at_feedless : (s : List ℕ) → (token_at s ≡ Read (NewLine 1)) ⊎ (all in_comment (take (size_of (token_at s)) s) ≡ true)
unfolding token_with token_at all
token_at_feedless [] = inr refl
token_at_feedless (c ∷ cs) =
    by_first (λ (s : List ℕ) (t : TokenRead). (t ≡ Read (NewLine 1)) ⊎ (all in_comment (take (size_of t) s) ≡ true)) (λ cs. inl refl)
    (λ c cs f. inr (clean_all (size_of (token_at (c ∷ cs))) (c ∷ cs) f.clean))
    c
    cs

-- A token that begins before the line feed at the end of whole lines ends before it.
clean_lines : (n c : ℕ) (cs : List ℕ) → Lines (c ∷ cs) → Clean n (c ∷ cs) → n ≤ length cs
unfolding is
clean_lines zero c cs h l = zero-le
clean_lines (suc n) c [] h l = absurd (eqb-false c 10 l.0 h)
clean_lines (suc n) c (d ∷ cs) h l = suc-le-suc (clean_lines n d cs h l.1)

pub token_at_fits : (c d : ℕ) (ds : List ℕ) → Lines (d ∷ ds) → size_of (token_at (c ∷ d ∷ ds)) ≤ length (d ∷ ds)
token_at_fits c d ds h =
    let fits : Lines (c ∷ d ∷ ds) → 2 ≤ length (c ∷ d ∷ ds) → suc (size_of (token_at (c ∷ d ∷ ds))) ≤ length (c ∷ d ∷ ds) =
    by_first (λ (s : List ℕ) (t : TokenRead). Lines s → 2 ≤ length s → suc (size_of t) ≤ length s) (λ cs _ i. omega arith) (λ c cs f k _. suc-le-suc (clean_lines (size_of (token_at (c ∷ cs))) c cs k f.clean)) c (d ∷ ds) in
    omega (arith, fits h (omega arith))

pub token_at_in_range : (s : List ℕ) → InRange (token_at s)
unfolding token_with token_at
token_at_in_range [] = refl
token_at_in_range (c ∷ cs) = by_first (λ (s : List ℕ) (t : TokenRead). InRange t) (λ cs. tt) (λ c cs f. f.in_range) c cs

pub token_at_begun : (c : ℕ) (cs : List ℕ) → Begun (c ∷ cs) (token_at (c ∷ cs))
token_at_begun = by_first (λ (s : List ℕ) (t : TokenRead). Begun s t) (λ cs. tt) (λ c cs f. f.begun)

-- Tokens tile the source. The texts of the tokens of s, of which the first k bytes belong to a token that is already read:
unfoldable pub texts_from : ℕ → List ℕ → List (List ℕ)
texts_from k [] = []
texts_from (suc k) (c ∷ cs) = texts_from k cs
texts_from zero (c ∷ cs) = let n : ℕ = size_of (token_at (c ∷ cs)) in take n (c ∷ cs) ∷ texts_from (pred n) cs

unfoldable pub texts : List ℕ → List (List ℕ)
texts source = texts_from 0 source

texts_drop : (k : ℕ) (s : List ℕ) → flatten (texts_from k s) ≡ drop k s
unfolding texts_from flatten
texts_drop zero [] = refl
texts_drop (suc k) [] = refl
texts_drop (suc k) (c ∷ cs) = texts_drop k cs
texts_drop zero (c ∷ cs) = go (size_of (token_at (c ∷ cs))) (token_at_some c cs) (texts_drop (pred (size_of (token_at (c ∷ cs)))) cs)
  where
    go : (n : ℕ) → 1 ≤ n → flatten (texts_from (pred n) cs) ≡ drop (pred n) cs → take n (c ∷ cs) ++ flatten (texts_from (pred n) cs) ≡ c ∷ cs
    go zero i e = absurd (omega arith)
    go (suc n) i e = rw (e, take-append-drop n cs)

pub texts_tile : (source : List ℕ) → flatten (texts source) ≡ source
unfolding texts
texts_tile source = texts_drop 0 source
