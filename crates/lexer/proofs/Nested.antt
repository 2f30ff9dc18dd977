-- From the numbers of a scan back to the token: nothing is lost, since a number is at most the largest and a stray byte is a byte.
use Rattle.std.specs.Prelude.{Result, Ok, Err, if◌then◌else◌}
use Prim.Native.Nat.{ℕ, suc, ◌+◌, ◌-◌, ◌≤◌, ◌<◌}
use mathlib.Core.Path.{◌≡◌, refl, ap, ◌∙◌}
use mathlib.Core.List.{List, [], ◌∷◌}
use mathlib.Core.Bool.{Bool, true, false, not, ◌&&◌}
use native.Mathlib.Nat.{mod-eq_of_lt}
use native.Mathlib.Omega.{arith}
use lib.Dec.{eqb, leb, ltb}
use lib.IntN.{pos}
use lib.ListN.{take, drop, get_or}
use lib.Seq.{get_or-drop}
use borrow.Author.Tests.{leb-true}
use Rattle.lexer.specs.Text.{is, within, any_of, is_blank, is_digit, is_hex_digit, is_letter, run, all, last, digit, value_from}
use Rattle.lexer.specs.Tokens.{largest, numeral, stray, prefixed, digits, suffix_behind, suffix_last, in_base, suffixed, number_with, number_at, in_quotes, string_after, mark, mark_at, token_with, token_at}
use Rattle.lexer.specs.Scanned.{scanned_of, token_of, next_of}
use Rattle.lexer.specs.declared.LiteralKind.TheVariants.{Number, Text}
use Rattle.lexer.specs.declared.PunctuationKind.{PunctuationKind}
use Rattle.lexer.specs.declared.PunctuationKind.TheVariants.{CloseBracket, CloseParenthesis, Colon, Comma, Dollar, Dot, ForwardSlash, Minus, OpenBracket, OpenParenthesis, Plus, Star}
use Rattle.lexer.specs.declared.Token.{Token}
use Rattle.lexer.specs.declared.Token.TheVariants.{Whitespace, Identifier, Literal, Punctuation, Comment, NewLine, EndOfFile, Invalid}
use Rattle.lexer.specs.declared.Fault.{Fault}
use Rattle.lexer.specs.declared.Fault.TheVariants.{LargerDigit, TooLarge}
use Rattle.lexer.specs.declared.TokenRead.{TokenRead}
use Rattle.lexer.specs.declared.TokenRead.TheVariants.{Read, Refused}
use Rattle.lexer.specs.declared.Scanned.{Scanned}
use Rattle.lexer.specs.declared.Cursor.{Cursor}
use Rattle.lexer.specs.declared.BadNumber.{BadNumber}

-- what the numbers of a scan keep
pub data Kept : TokenRead → Type 0 where
  blank : {n : ℕ} → Kept (Read (Whitespace n))
  word : {n : ℕ} → Kept (Read (Identifier n))
  value : {n v : ℕ} → v ≤ 2147483647 → Kept (Read (Literal n (Number (pos v))))
  text : {n : ℕ} {t : Bool} → Kept (Read (Literal n (Text t)))
  punctuation : {n : ℕ} {k : PunctuationKind} → Kept (Read (Punctuation n k))
  remark : {n : ℕ} → Kept (Read (Comment n))
  line : {n : ℕ} → Kept (Read (NewLine n))
  end : {n : ℕ} → Kept (Read (EndOfFile n))
  other : {n c : ℕ} → c < 256 → Kept (Read (Invalid n c))
  fault : {n : ℕ} {f : Fault} → Kept (Refused n f)

choose : (b : Bool) {t u : TokenRead} → Kept t → Kept u → Kept (if b then t else u)
choose true k l = k
choose false k l = l

-- a number is given only where it is not above the largest
bounded : (a : Bool) (n v : ℕ) {u : TokenRead} → Kept u → Kept (if a && leb v largest then numeral n v else u)
unfolding largest numeral
bounded a n v {u} k = go a (leb v 2147483647) refl
  where
    go : (a b : Bool) → leb v 2147483647 ≡ b → Kept (if a && b then Read (Literal n (Number (pos v))) else u)
    go true true e = value (leb-true v 2147483647 e)
    go true false e = k
    go false b e = k

kept_prefixed : (base : ℕ) (p : ℕ → Bool) (s : List ℕ) → Kept (prefixed base p s)
unfolding prefixed numeral
kept_prefixed base p s =
    choose (eqb (run p s) 0) (value {n = 1} {v = 0} (omega arith)) (bounded true (2 + run p s) (value_from 0 base (take (run p s) s)) fault)

module _ (c : ℕ) (h : c < 256) where
  kept_stray : Kept (stray c)
  unfolding stray
  kept_stray = other h

  kept_digits : (base : ℕ) (ds : List ℕ) (n : ℕ) → Kept (digits c base ds n)
  unfolding digits
  kept_digits base ds n = bounded (all (λ d. ltb (digit d) base) ds) n (value_from 0 base ds) kept_stray

  kept_based : (n : ℕ) (ds cut : List ℕ) (after : ℕ) → Kept (in_base c n ds cut after)
  unfolding in_base suffix_behind suffix_last
  kept_based n ds cut after =
      choose (any_of "oO" after) (kept_digits 8 ds (suc n))
      (choose (any_of "hH" after) (kept_digits 16 ds (suc n))
      (choose (any_of "bB" (last ds)) (choose (all (λ d. leb d 49) cut) (kept_digits 2 cut n) fault)
      (choose (any_of "dD" (last ds)) (kept_digits 10 cut n)
      (kept_digits 10 ds n))))

  kept_suffixed : (cs : List ℕ) → Kept (suffixed c cs)
  unfolding suffixed
  kept_suffixed cs = kept_based _ _ _ _

  kept_number : (cs : List ℕ) → Kept (number_at c cs)
  unfolding number_with
  kept_number [] = kept_suffixed []
  kept_number (d ∷ ds) =
      choose (not (is "0" c)) (kept_suffixed (d ∷ ds))
      (choose (is "b" d) (kept_prefixed 2 (within "0" "1") ds)
      (choose (is "o" d) (kept_prefixed 8 (within "0" "7") ds)
      (choose (is "d" d) (kept_prefixed 10 is_digit ds)
      (choose (is "x" d) (kept_prefixed 16 is_hex_digit ds)
      (kept_suffixed (d ∷ ds))))))

  kept_mark : Kept (mark_at c)
  unfolding mark_at mark
  kept_mark =
      (choose (is ":" c) punctuation
      (choose (is "," c) punctuation
      (choose (is "$" c) punctuation
      (choose (is "." c) punctuation
      (choose (is "[" c) punctuation
      (choose (is "]" c) punctuation
      (choose (is "(" c) punctuation
      (choose (is ")" c) punctuation
      (choose (is "+" c) punctuation
      (choose (is "-" c) punctuation
      (choose (is "*" c) punctuation
      (choose (is "/" c) punctuation
      kept_stray))))))))))))

kept_string : (cs : List ℕ) → Kept (string_after cs)
unfolding string_after
kept_string cs = choose (is "'" (get_or cs (run in_quotes cs) 0)) text text

kept : (s : List ℕ) → get_or s 0 0 < 256 → Kept (token_at s)
unfolding token_with token_at
kept [] h = end
kept (c ∷ cs) h =
    choose (is ";" c) remark
    (choose (is_blank c) blank
    (choose (is_digit c) (kept_number c h cs)
    (choose (is_letter c) word
    (choose (is "'" c) (kept_string cs)
    (choose (is "\n" c) line
    (kept_mark c h))))))

pub kept_at : (s : List ℕ) (at : ℕ) → get_or s at 0 < 256 → Kept (token_at (drop at s))
kept_at s at h =
    let first : get_or (drop at s) 0 0 ≡ get_or s at 0 = get_or-drop at s 0 0 ∙ ap (λ k. get_or s k 0) (omega arith) in
    kept (drop at s) (omega arith)

-- what the cursor answers, from the kind
abbrev pub answered : ℕ → ℕ → Result Token Fault → Result (Token × Cursor) BadNumber
answered at to (Ok t) = Ok (t, record { pos = to })
answered at to (Err f) = Err (record { fault = f; from = at; to = to })

abbrev pub next_from : ℕ → Scanned → Result (Token × Cursor) BadNumber
next_from at r = answered at r.end (token_of r.kind r.value (r.end - at))

module _ (at : ℕ) where
  -- a token whose kind computes is itself, but for how its length is reckoned
  same : (f : ℕ → Token) (n : ℕ) → ◌≡◌ {A = Result (Token × Cursor) BadNumber} (Ok (f (at + n - at), record { pos = at + n })) (Ok (f n, record { pos = at + n }))
  same f n =
      let count : at + n - at ≡ n = omega arith in
      rw count

  pub back : {x : TokenRead} → Kept x → next_from at (scanned_of at x) ≡ next_of at x
  unfolding token_of
  back (blank {n}) = same Whitespace n
  back (word {n}) = same Identifier n
  back (value {n} {v} h) = rw (mod-eq_of_lt {n = v} {m = 2147483648} (omega arith)) (same (λ k. Literal k (Number (pos v))) n)
  back (text {n} {t = true}) = same (λ k. Literal k (Text true)) n
  back (text {n} {t = false}) = same (λ k. Literal k (Text false)) n
  back (punctuation {n} {k = CloseBracket}) = same (λ k. Punctuation k CloseBracket) n
  back (punctuation {n} {k = CloseParenthesis}) = same (λ k. Punctuation k CloseParenthesis) n
  back (punctuation {n} {k = Colon}) = same (λ k. Punctuation k Colon) n
  back (punctuation {n} {k = Comma}) = same (λ k. Punctuation k Comma) n
  back (punctuation {n} {k = Dollar}) = same (λ k. Punctuation k Dollar) n
  back (punctuation {n} {k = Dot}) = same (λ k. Punctuation k Dot) n
  back (punctuation {n} {k = ForwardSlash}) = same (λ k. Punctuation k ForwardSlash) n
  back (punctuation {n} {k = Minus}) = same (λ k. Punctuation k Minus) n
  back (punctuation {n} {k = OpenBracket}) = same (λ k. Punctuation k OpenBracket) n
  back (punctuation {n} {k = OpenParenthesis}) = same (λ k. Punctuation k OpenParenthesis) n
  back (punctuation {n} {k = Plus}) = same (λ k. Punctuation k Plus) n
  back (punctuation {n} {k = Star}) = same (λ k. Punctuation k Star) n
  back (remark {n}) = same Comment n
  back (line {n}) = same NewLine n
  back (end {n}) = same EndOfFile n
  back (other {n} {c} h) = rw (mod-eq_of_lt {n = c} {m = 256} h) (same (λ k. Invalid k c) n)
  back (fault {n} {f = LargerDigit}) = refl
  back (fault {n} {f = TooLarge}) = refl
