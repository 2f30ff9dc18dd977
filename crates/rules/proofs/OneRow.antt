-- Bytes without a line feed are one row of tokens: the row that the end closes.
use Rattle.std.specs.Prelude.{if◌then◌else◌}
use mathlib.Core.Path.{◌≡◌, refl, sym}
use mathlib.Core.Bool.{Bool, true, false, not, ◌&&◌}
use mathlib.Core.List.{List, [], ◌∷◌, ◌++◌}
use Prim.Native.Nat.{ℕ, zero, suc, pred}
use Prim.Native.Char.{code}
use lib.Dec.{eqb, leb, ltb}
use lib.ListN.{take, drop}
use borrow.Author.Tests.{eqb-true, eqb-false, ne_eqb}
use Rattle.lexer.specs.Text.{among, is, within, any_of, is_blank, is_digit, is_hex_digit, is_letter, run, all, last, digit, value_from}
use Rattle.lexer.specs.Tokens.{largest, numeral, stray, prefixed, digits, suffix_behind, suffix_last, in_base, suffixed, number_with, number_at, string_after, in_comment, mark, mark_at, token_with, token_at, size_of}
use Rattle.lexer.specs.declared.TokenRead.{TokenRead}
use Rattle.lexer.proofs.Branches.{either, given, or_split}
use Rattle.rules.specs.Lexemes.{kind_of, Lexeme, is_gap, lexeme, put, tokens_by, tokens_from}
use Rattle.rules.specs.Reader.{is_line_end}
use Rattle.rules.specs.Statements.{Row, rows, push}
use Rattle.rules.specs.Claims.{Each}
use Rattle.rules.specs.Patch.{line_at, lines_from}

-- No byte is a line feed.
abbrev pub Feedless : List ℕ → Type 0
Feedless s = among 10 s ≡ false

-- One row, and no other.
abbrev pub Single : List Row → Type 0
Single [] = ⊥
Single (r ∷ []) = Unit {0}
Single (r ∷ q ∷ rs) = ⊥

pub single_alone : (r : Row) (rs : List Row) → Single (r ∷ rs) → rs ≡ []
single_alone r [] h = refl
single_alone r (q ∷ rs) h = absurd h

-- A token that ends no line, of bytes s: every one but the line feed's.
module _ (s : List ℕ) where
  abbrev Inside : TokenRead → Type 0
  Inside t = is_line_end (kind_of t s) ≡ false

  prefixed_inside : (base : ℕ) (p : ℕ → Bool) (cs : List ℕ) → Inside (prefixed base p cs)
  unfolding prefixed numeral is_line_end
  prefixed_inside base p cs = either Inside (eqb (run p cs) 0) _ _ refl (either Inside (leb (value_from 0 base (take (run p cs) cs)) largest) _ _ refl refl)

  digits_inside : (c base : ℕ) (ds : List ℕ) (n : ℕ) → Inside (digits c base ds n)
  unfolding digits numeral stray is_line_end
  digits_inside c base ds n = either Inside (all (λ d. ltb (digit d) base) ds && leb (value_from 0 base ds) largest) _ _ refl refl

  in_base_inside : (c n : ℕ) (ds cut : List ℕ) (after : ℕ) → Inside (in_base c n ds cut after)
  unfolding in_base suffix_behind suffix_last is_line_end
  in_base_inside c n ds cut after =
      either Inside (any_of "oO" after) _ _ (digits_inside c 8 ds (suc n))
      (either Inside (any_of "hH" after) _ _ (digits_inside c 16 ds (suc n))
      (either Inside (any_of "bB" (last ds)) _ _ (either Inside (all (λ d. leb d (code "1")) cut) _ _ (digits_inside c 2 cut n) refl)
      (either Inside (any_of "dD" (last ds)) _ _ (digits_inside c 10 cut n) (digits_inside c 10 ds n))))

  suffixed_inside : (c : ℕ) (cs : List ℕ) → Inside (suffixed c cs)
  unfolding suffixed
  suffixed_inside c cs = in_base_inside c _ _ _ _

  number_at_inside : (c : ℕ) (cs : List ℕ) → Inside (number_at c cs)
  unfolding number_with
  number_at_inside c [] = suffixed_inside c []
  number_at_inside c (d ∷ ds) =
      either Inside (not (is "0" c)) _ _ (suffixed_inside c (d ∷ ds))
      (either Inside (is "b" d) _ _ (prefixed_inside 2 (within "0" "1") ds)
      (either Inside (is "o" d) _ _ (prefixed_inside 8 (within "0" "7") ds)
      (either Inside (is "d" d) _ _ (prefixed_inside 10 is_digit ds)
      (either Inside (is "x" d) _ _ (prefixed_inside 16 is_hex_digit ds) (suffixed_inside c (d ∷ ds))))))

  string_after_inside : (cs : List ℕ) → Inside (string_after cs)
  unfolding string_after is_line_end
  string_after_inside cs = either Inside (is "'" _) _ _ refl refl

  mark_at_inside : (c : ℕ) → Inside (mark_at c)
  unfolding mark_at mark stray is_line_end
  mark_at_inside c =
      either Inside (is ":" c) _ _ refl (either Inside (is "," c) _ _ refl (either Inside (is "$" c) _ _ refl
      (either Inside (is "." c) _ _ refl (either Inside (is "[" c) _ _ refl (either Inside (is "]" c) _ _ refl
      (either Inside (is "(" c) _ _ refl (either Inside (is ")" c) _ _ refl (either Inside (is "+" c) _ _ refl
      (either Inside (is "-" c) _ _ refl (either Inside (is "*" c) _ _ refl (either Inside (is "/" c) _ _ refl refl)))))))))))

  token_inside : (c : ℕ) (cs : List ℕ) → ¬ (c ≡ 10) → Inside (token_at (c ∷ cs))
  unfolding token_with token_at is_line_end is
  token_inside c cs h =
      either Inside (is ";" c) _ _ refl (either Inside (is_blank c) _ _ refl (either Inside (is_digit c) _ _ (number_at_inside c cs)
      (either Inside (is_letter c) _ _ refl (either Inside (is "'" c) _ _ (string_after_inside cs)
      (given Inside (is "\n" c) _ _ (λ e. absurd (h (eqb-true c 10 e))) (λ e. mark_at_inside c))))))

push_single : (x : Lexeme) (l : List Row) → Single l → Single (push x l)
unfolding push
push_single x [] h = absurd h
push_single x (r ∷ []) h = tt
push_single x (r ∷ q ∷ rs) h = absurd h

inside_single : (x : Lexeme) (xs : List Lexeme) → is_line_end x.kind ≡ false → Single (rows xs) → Single (rows (x ∷ xs))
unfolding rows
inside_single x xs e h = rw e (push_single x (rows xs) h)

put_single : (p : ℕ) (t : TokenRead) (s : List ℕ) (xs : List Lexeme) → is_line_end (kind_of t s) ≡ false → Single (rows xs) → Single (rows (put p t s xs))
unfolding put lexeme
put_single p t s xs e h = either (λ (l : List Lexeme). Single (rows l)) (is_gap (kind_of t s)) xs _ h (inside_single _ xs e h)

-- THE LAW.
pub one_row : (p k : ℕ) (s : List ℕ) → Feedless s → Single (rows (tokens_from p k s))
unfolding tokens_by rows among is_line_end
one_row p k [] h = tt
one_row p (suc k) (c ∷ cs) h = one_row (suc p) k cs (or_split (eqb 10 c) (among 10 cs) h).1
one_row p zero (c ∷ cs) h =
    let (i, j) = or_split (eqb 10 c) (among 10 cs) h in
    put_single p (token_at (c ∷ cs)) (c ∷ cs) _ (token_inside (c ∷ cs) c cs (λ e. eqb-false 10 c i (sym e)))
    (one_row (suc p) (pred (size_of (token_at (c ∷ cs)))) cs j)

-- The lines of a source have no line feed: the one at a place, and those above.
other_byte : (c : ℕ) → is "\n" c ≡ false → eqb 10 c ≡ false
unfolding is
other_byte c e = ne_eqb 10 c (λ i. eqb-false c 10 e (sym i))

line_feedless : (s : List ℕ) → Feedless (take (run in_comment s) s)
unfolding run among in_comment
line_feedless [] = refl
line_feedless (c ∷ cs) = go (is "\n" c) refl (line_feedless cs)
  where
    go : (b : Bool) → is "\n" c ≡ b → Feedless (take (run in_comment cs) cs) → Feedless (take (if not b then suc (run in_comment cs) else 0) (c ∷ cs))
    go true e h = refl
    go false e h = rw (other_byte c e) h

pub line_at_feedless : (s : List ℕ) (a : ℕ) → Feedless (line_at s a)
unfolding line_at
line_at_feedless s a = line_feedless (drop a s)

append_feedless : (l : List ℕ) (c : ℕ) → Feedless l → is "\n" c ≡ false → Feedless (l ++ (c ∷ []))
unfolding among
append_feedless [] c h e = rw (other_byte c e)
append_feedless (d ∷ ds) c h e =
    let (i, j) = or_split (eqb 10 d) (among 10 ds) h in
    rw i (append_feedless ds c j e)

pub lines_feedless : (l s : List ℕ) → Feedless l → Each Feedless (lines_from l s)
unfolding lines_from among
lines_feedless l [] h = tt
lines_feedless l (c ∷ cs) h = go (is "\n" c) refl (lines_feedless [] cs refl) (λ e. lines_feedless (l ++ (c ∷ [])) cs (append_feedless l c h e))
  where
    go : (b : Bool) → is "\n" c ≡ b → Each Feedless (lines_from [] cs) → (is "\n" c ≡ false → Each Feedless (lines_from (l ++ (c ∷ [])) cs))
        → Each Feedless (if b then (l ∷ lines_from [] cs) else (lines_from (l ++ (c ∷ [])) cs))
    go true e i j = (h, i)
    go false e i j = j e
