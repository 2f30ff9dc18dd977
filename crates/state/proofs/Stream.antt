-- The tokens of a source from a place on, one at a time, and the lines that they stand in.
-- Assumes nothing.
use Rattle.std.specs.Prelude.{if◌then◌else◌}
use Prim.Native.Nat.{ℕ, suc, pred, ◌+◌, ◌-◌, ◌≤◌, ◌<◌}
use mathlib.Core.Path.{◌≡◌, refl, ap, ◌∙◌}
use mathlib.Core.List.{List, [], ◌∷◌}
use mathlib.Core.Bool.{Bool, true, false, ◌||◌}
use native.Mathlib.Nat.{add-zero}
use native.Mathlib.Omega.{arith}
use lib.Dec.{eqb, ltb}
use lib.ListN.{length, get_or, drop, take, drop_of_length-le, length-drop}
use lib.Seq.{drop-cons, drop-drop}
use borrow.Author.Tests.{ltb-true, ltb-false, eqb-true, eqb-false}
use Rattle.lexer.specs.Tokens.{token_with, token_at, size_of}
use Rattle.lexer.specs.Scanned.{value_of}
use Rattle.lexer.specs.declared.TokenRead.{TokenRead}
use Rattle.lexer.specs.declared.TokenRead.TheVariants.{Read, Refused}
use Rattle.lexer.specs.declared.Token.TheVariants.{Whitespace, Identifier, Literal, Punctuation, Comment, NewLine, EndOfFile, Invalid}
use Rattle.lexer.specs.declared.LiteralKind.TheVariants.{Number, Text}
use Rattle.lexer.specs.declared.PunctuationKind.TheVariants.{CloseBracket, CloseParenthesis, Colon, Comma, Dollar, Dot, ForwardSlash, Minus, OpenBracket, OpenParenthesis, Plus, Star}
use Rattle.lexer.specs.declared.Fault.TheVariants.{LargerDigit, TooLarge}
use Rattle.lexer.proofs.TokensText.{InRange, token_at_some, token_at_le, token_at_in_range}
use Rattle.rules.specs.Lexemes.{newline, Lexeme, is_gap, kind_of, lexeme, put, tokens_by, tokens_from}
use Rattle.rules.proofs.Lexemes.{tokens_skip}
use Rattle.rules.specs.Reader.{is_line_end}
use Rattle.rules.specs.Statements.{Row, push, rows}
use Rattle.state.specs.Views.{kind_by, text_of, token_of, behind, more_in, below_in, more_of, below_of}
use Rattle.state.proofs.Flat.{byte_of, flat_kind, kind_end}

-- the end of file is empty, so no byte is read as it
never_end : (t : TokenRead) → InRange t → 1 ≤ size_of t → eqb (byte_of t) 0 ≡ false
never_end (Read (Whitespace n)) r h = refl
never_end (Read (Identifier n)) r h = refl
never_end (Read (Literal n (Number v))) r h = refl
never_end (Read (Literal n (Text true))) r h = refl
never_end (Read (Literal n (Text false))) r h = refl
never_end (Read (Punctuation n CloseBracket)) r h = refl
never_end (Read (Punctuation n CloseParenthesis)) r h = refl
never_end (Read (Punctuation n Colon)) r h = refl
never_end (Read (Punctuation n Comma)) r h = refl
never_end (Read (Punctuation n Dollar)) r h = refl
never_end (Read (Punctuation n Dot)) r h = refl
never_end (Read (Punctuation n ForwardSlash)) r h = refl
never_end (Read (Punctuation n Minus)) r h = refl
never_end (Read (Punctuation n OpenBracket)) r h = refl
never_end (Read (Punctuation n OpenParenthesis)) r h = refl
never_end (Read (Punctuation n Plus)) r h = refl
never_end (Read (Punctuation n Star)) r h = refl
never_end (Read (Comment n)) r h = refl
never_end (Read (NewLine n)) r h = refl
never_end (Read (EndOfFile n)) r h = absurd (omega arith)
never_end (Read (Invalid n c)) r h = refl
never_end (Refused n LargerDigit) r h = refl
never_end (Refused n TooLarge) r h = refl

-- a gap by its byte
gap_byte : (t : TokenRead) (u : List ℕ) → is_gap (kind_of t u) ≡ (eqb (byte_of t) 32 || eqb (byte_of t) 59)
unfolding is_gap
gap_byte (Read (Whitespace n)) u = refl
gap_byte (Read (Identifier n)) u = refl
gap_byte (Read (Literal n (Number v))) u = refl
gap_byte (Read (Literal n (Text true))) u = refl
gap_byte (Read (Literal n (Text false))) u = refl
gap_byte (Read (Punctuation n CloseBracket)) u = refl
gap_byte (Read (Punctuation n CloseParenthesis)) u = refl
gap_byte (Read (Punctuation n Colon)) u = refl
gap_byte (Read (Punctuation n Comma)) u = refl
gap_byte (Read (Punctuation n Dollar)) u = refl
gap_byte (Read (Punctuation n Dot)) u = refl
gap_byte (Read (Punctuation n ForwardSlash)) u = refl
gap_byte (Read (Punctuation n Minus)) u = refl
gap_byte (Read (Punctuation n OpenBracket)) u = refl
gap_byte (Read (Punctuation n OpenParenthesis)) u = refl
gap_byte (Read (Punctuation n Plus)) u = refl
gap_byte (Read (Punctuation n Star)) u = refl
gap_byte (Read (Comment n)) u = refl
gap_byte (Read (NewLine n)) u = refl
gap_byte (Read (EndOfFile n)) u = refl
gap_byte (Read (Invalid n c)) u = refl
gap_byte (Refused n LargerDigit) u = refl
gap_byte (Refused n TooLarge) u = refl

-- the tokens from a place on
abbrev pub From : List ℕ → ℕ → List Lexeme
From s at = tokens_from at 0 (drop at s)

module _ (s : List ℕ) (at : ℕ) where
  abbrev here : TokenRead
  here = token_at (drop at s)

  pub bounds : at < length s → (1 ≤ size_of here) × (at + size_of here ≤ length s)
  bounds h =
      let b = token_at_some (get_or s at 0) (drop (suc at) s) in
      let e = drop-cons s at 0 h in
      let m = token_at_le (drop at s) in
      let l = length-drop at s in
      (rw e b, omega arith)

  -- a token ends within the source, or is empty where it ends
  pub size_le : size_of here ≤ length s - at
  size_le = let m = token_at_le (drop at s) in let l = length-drop at s in omega arith

  inside_step : at < length s → From s at ≡ put at here (drop at s) (From s (at + size_of here))
  unfolding tokens_by
  inside_step h =
      let e = drop-cons s at 0 h in
      let l = length-drop (suc at) s in
      let b = bounds h in
      let k : pred (size_of here) ≤ length (drop (suc at) s) = omega arith in
      let n : suc at + pred (size_of here) ≡ at + size_of here = omega arith in
      rw e
      (ap (put at (token_at (get_or s at 0 ∷ drop (suc at) s)) (get_or s at 0 ∷ drop (suc at) s))
      (tokens_skip (suc at) _ (drop (suc at) s) (rw e at k) ∙ rw (drop-drop, rw e at n)))

  at_end : length s ≤ at → here ≡ Read (EndOfFile 0)
  unfolding token_with token_at
  at_end h = rw (drop_of_length-le s h)

  end_step : length s ≤ at → From s at ≡ record { from = at; to = at; kind = newline } ∷ []
  unfolding tokens_by
  end_step h = rw (drop_of_length-le s h)

  module _ {k e : ℕ} (i : k ≡ byte_of here) (j : e ≡ at + size_of here) where
    is_gap_lem : is_gap (kind_of here (drop at s)) ≡ (eqb k 32 || eqb k 59)
    is_gap_lem = rw i (gap_byte here (drop at s))

    -- whitespace and comments are passed over
    pub gap_step : eqb k 0 ≡ false → (eqb k 32 || eqb k 59) ≡ true → (From s at ≡ From s e) × (at < e) × (e ≤ length s)
    unfolding put
    gap_step f g = go (ltb at (length s)) refl
      where
        go : (b : Bool) → ltb at (length s) ≡ b → (From s at ≡ From s e) × (at < e) × (e ≤ length s)
        go true h =
            let b = bounds (ltb-true _ _ h) in
            (inside_step (ltb-true _ _ h) ∙ rw (is_gap_lem ∙ g, j), omega arith, omega arith)
        go false h = absurd (eqb-false k 0 f (i ∙ ap byte_of (at_end (ltb-false _ _ h))))

    -- any other token is the first
    pub token_step : {v : ℕ} → v ≡ value_of here → (eqb k 32 || eqb k 59) ≡ false → From s at ≡ token_of s at e k v ∷ behind s k e
    unfolding put lexeme text_of behind
    token_step {v} l g = go (ltb at (length s)) refl
      where
        go : (b : Bool) → ltb at (length s) ≡ b → From s at ≡ record { from = at; to = e; kind = kind_by k v (take (e - at) (drop at s)) } ∷ (if eqb k 0 then [] else From s e)
        go true h =
            let b = bounds (ltb-true _ _ h) in
            let z : eqb (byte_of here) 0 ≡ false = never_end here (token_at_in_range (drop at s)) b.0 in
            let n : at + size_of here - at ≡ size_of here = omega arith in
            let f : kind_by (byte_of here) (value_of here) (take (size_of here) (drop at s)) ≡ kind_of here (drop at s) =
            flat_kind here (token_at_in_range (drop at s)) (drop at s) (token_at_le (drop at s)) (is_gap_lem ∙ g) (eqb-false _ _ z) in
            inside_step (ltb-true _ _ h) ∙ rw (is_gap_lem ∙ g, i, j, l, z, n, f)
        go false h =
            let z : k ≡ 0 = i ∙ ap byte_of (at_end (ltb-false _ _ h)) in
            let w : e ≡ at = j ∙ ap (λ (t : TokenRead). at + size_of t) (at_end (ltb-false _ _ h)) ∙ add-zero at in
            end_step (ltb-false _ _ h) ∙ rw (z, w, kind_end)

-- Lines.
-- the first token of some begins the first row
pub rows_first : (y : Lexeme) (ys : List Lexeme) → rows (y ∷ ys) ≡ record { first = y; more = more_of y ys } ∷ below_of y ys
unfolding rows push more_of below_of
rows_first y ys = by_end (is_line_end y.kind) (rows ys)
  where
    by_end : (b : Bool) (rs : List Row) → (if b then record { first = y; more = [] } ∷ rs else push y rs) ≡
        record { first = y; more = more_in (if b then record { first = y; more = [] } ∷ rs else push y rs) } ∷ below_in (if b then record { first = y; more = [] } ∷ rs else push y rs)
    by_end true rs = refl
    by_end false [] = refl
    by_end false (r ∷ rs) = refl

module _ (x y : Lexeme) (ys : List Lexeme) where
  -- behind a token within a line
  pub more_within : is_line_end x.kind ≡ false → more_of x (y ∷ ys) ≡ y ∷ more_of y ys
  unfolding more_of rows push
  more_within e = ap (λ (b : Bool). more_in (if b then record { first = x; more = [] } ∷ rows (y ∷ ys) else push x (rows (y ∷ ys)))) e ∙ ap (λ (r : List Row). more_in (push x r)) (rows_first y ys)

  pub below_within : is_line_end x.kind ≡ false → below_of x (y ∷ ys) ≡ below_of y ys
  unfolding below_of rows push
  below_within e = ap (λ (b : Bool). below_in (if b then record { first = x; more = [] } ∷ rows (y ∷ ys) else push x (rows (y ∷ ys)))) e ∙ ap (λ (r : List Row). below_in (push x r)) (rows_first y ys)

  -- behind a line's end
  pub below_end : is_line_end x.kind ≡ true → below_of x (y ∷ ys) ≡ record { first = y; more = more_of y ys } ∷ below_of y ys
  unfolding below_of rows
  below_end e = ap (λ (b : Bool). below_in (if b then record { first = x; more = [] } ∷ rows (y ∷ ys) else push x (rows (y ∷ ys)))) e ∙ rows_first y ys

-- a gap is not the end
pub gap_not_end : (k : ℕ) → (eqb k 32 || eqb k 59) ≡ true → eqb k 0 ≡ false
gap_not_end k h = go (eqb k 0) refl
  where
    go : (b : Bool) → eqb k 0 ≡ b → eqb k 0 ≡ false
    go true e = let z : (eqb 0 32 || eqb 0 59) ≡ true = rw (eqb-true k 0 e) at h in cc
    go false e = e
