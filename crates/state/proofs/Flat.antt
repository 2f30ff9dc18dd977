-- The kind of a token from its flat form: what the code asks of the byte is what the rules ask of the kind.
-- Assumes nothing.
use Rattle.std.specs.Prelude.{if◌then◌else◌}
use Prim.Native.Nat.{ℕ, zero, suc, ◌-◌, ◌≤◌}
use Prim.Native.Char.{Char, code}
use mathlib.Core.Path.{◌≡◌, refl, sym, ap, ◌∙◌}
use mathlib.Core.Bool.{Bool, true, false, ◌||◌}
use mathlib.Core.List.{List, [], ◌∷◌}
use mathlib.Core.Option.{none, some}
use native.Mathlib.Omega.{arith}
use lib.Dec.{eqb}
use lib.ListN.{length, take, drop, length-take}
use lib.Seq.{take-take, take-nil}
use borrow.Author.Tests.{eqb-true, eq-eqb, ne_eqb}
use Rattle.lexer.proofs.Branches.{or_split}
use Rattle.lexer.specs.Text.{is}
use Rattle.lexer.specs.Tokens.{size_of}
use Rattle.lexer.specs.Scanned.{number_of, kind_of as scanned_kind, value_of}
use Rattle.lexer.specs.declared.LiteralKind.TheVariants.{Number, Text}
use Rattle.lexer.specs.declared.PunctuationKind.TheVariants.{CloseBracket, CloseParenthesis, Colon, Comma, Dollar, Dot, ForwardSlash, Minus, OpenBracket, OpenParenthesis, Plus, Star}
use Rattle.lexer.specs.declared.Token.TheVariants.{Whitespace, Identifier, Literal, Punctuation, Comment, NewLine, EndOfFile, Invalid}
use Rattle.lexer.specs.declared.Fault.TheVariants.{LargerDigit, TooLarge}
use Rattle.lexer.specs.declared.TokenRead.{TokenRead}
use Rattle.lexer.specs.declared.TokenRead.TheVariants.{Read, Refused}
use Rattle.lexer.proofs.TokensText.{InRange}
use Rattle.rules.specs.Lexemes.{Kind, word, number, quoted, mark, newline, invalid, bad, is_gap, kind_of}
use Rattle.rules.specs.Reader.{is_mark, is_line_end, refused_as}
use Rattle.state.specs.declared.Parser.{Parser}
use Rattle.state.specs.Views.{kind_by, ends_line, Plain, text_of, here_of}

-- the number of a token's kind
abbrev pub byte_of : TokenRead → ℕ
byte_of t = number_of (scanned_kind t)

-- What holds at each byte that stands for a kind, and at any other byte as a mark, holds of every flat token.
module _ (P : ℕ → Kind → Type 0) (k v : ℕ) (w : List ℕ) where
  if_is : (n : ℕ) (x y : Kind) → P n x → (eqb k n ≡ false → P k y) → P k (if eqb k n then x else y)
  if_is n x y p q = go (eqb k n) refl
    where
      go : (b : Bool) → eqb k n ≡ b → P k (if b then x else y)
      go true e = rw (eqb-true k n e) p
      go false e = q e

  pub by_kind : P 97 (word w) → P 48 (number v) → P 39 (quoted true (take (length w - 2) (drop 1 w))) → P 34 (quoted false (drop 1 w)) → P 10 newline → P 0 newline → P 33 invalid
      → P 30 (bad false) → P 31 (bad true) → (eqb k 30 ≡ false → eqb k 31 ≡ false → eqb k 10 ≡ false → eqb k 0 ≡ false → P k (mark k)) → P k (kind_by k v w)
  unfolding kind_by
  by_kind a b c d e f g h i j =
      if_is 97 _ _ a (λ _. if_is 48 _ _ b (λ _. if_is 39 _ _ c (λ _. if_is 34 _ _ d (λ _. if_is 10 _ _ e (λ n. if_is 0 _ _ f (λ z. if_is 33 _ _ g (λ _. if_is 30 _ _ h (λ x. if_is 31 _ _ i (λ y. j x y n z)))))))))

module _ (k v : ℕ) (w : List ℕ) where
  pub mark_is : (a : Char) → Plain a → is_mark a (kind_by k v w) ≡ eqb k (code a)
  unfolding is_mark is
  mark_is a p = by_kind (λ n x. is_mark a x ≡ eqb n (code a)) k v w (sym p.word') (sym p.number') (sym p.closed') (sym p.open') (sym p.feed') (sym p.end') (sym p.stray') (sym p.digit') (sym p.large') (λ _ _ _ _. refl)

  pub line_end_is : is_line_end (kind_by k v w) ≡ (eqb k 10 || eqb k 0)
  unfolding is_line_end
  line_end_is = by_kind (λ n x. is_line_end x ≡ (eqb n 10 || eqb n 0)) k v w refl refl refl refl refl refl refl refl refl (λ _ _ a b. rw (a, b))

  pub not_refused : eqb k 30 ≡ false → eqb k 31 ≡ false → refused_as (kind_by k v w) ≡ none
  unfolding refused_as
  not_refused a b = by_kind (λ n x. eqb n 30 ≡ false → eqb n 31 ≡ false → refused_as x ≡ none) k v w (λ _ _. refl) (λ _ _. refl) (λ _ _. refl) (λ _ _. refl) (λ _ _. refl) (λ _ _. refl) (λ _ _. refl) (λ e _. cc) (λ _ e. cc) (λ _ _ _ _ _ _. refl) a b

pub kind_end : (v : ℕ) (w : List ℕ) → kind_by 0 v w ≡ newline
unfolding kind_by
kind_end v w = refl

pub refused_30 : (v : ℕ) (w : List ℕ) → refused_as (kind_by 30 v w) ≡ some 30
unfolding kind_by refused_as
refused_30 v w = refl

pub refused_31 : (v : ℕ) (w : List ℕ) → refused_as (kind_by 31 v w) ≡ some 31
unfolding kind_by refused_as
refused_31 v w = refl

-- the bytes of refused numbers
pub is_refused : (k v : ℕ) (w : List ℕ) → (eqb k 30 || eqb k 31) ≡ true → refused_as (kind_by k v w) ≡ some k
is_refused k v w h = go (eqb k 30) refl (eqb k 31) refl
  where
    go : (a : Bool) → eqb k 30 ≡ a → (b : Bool) → eqb k 31 ≡ b → refused_as (kind_by k v w) ≡ some k
    go true e b f = rw (eqb-true k 30 e) (refused_30 v w)
    go false e true f = rw (eqb-true k 31 f) (refused_31 v w)
    go false e false f = let z : ◌≡◌ {A = Bool} false true = rw (e, f) at h in cc

-- The flat form of a token that is no gap, with its text, gives its kind.
take-length : (n : ℕ) (u : List ℕ) → n ≤ length u → length (take n u) ≡ n
take-length n u h = length-take n u ∙ omega arith

drop_taken : (n : ℕ) (u : List ℕ) → drop 1 (take n u) ≡ take (n - 1) (drop 1 u)
drop_taken zero u = refl
drop_taken (suc n) [] = sym (take-nil (suc n - 1))
drop_taken (suc n) (c ∷ cs) = let e : suc n - 1 ≡ n = omega arith in rw e

between_closed : (n : ℕ) (u : List ℕ) → n ≤ length u → 2 ≤ n → take (length (take n u) - 2) (drop 1 (take n u)) ≡ take (n - 2) (drop 1 u)
between_closed n u h k = rw (take-length n u h, drop_taken n u) (take-take (n - 2) (n - 1) (drop 1 u) (omega arith))

pub flat_kind : (t : TokenRead) → InRange t → (u : List ℕ) → size_of t ≤ length u → is_gap (kind_of t u) ≡ false → (byte_of t ≡ 0 → ⊥) → kind_by (byte_of t) (value_of t) (take (size_of t) u) ≡ kind_of t u
unfolding kind_by is_gap
flat_kind (Read (Whitespace n)) r u h g z = cc
flat_kind (Read (Identifier n)) r u h g z = refl
flat_kind (Read (Literal n (Number x))) r u h g z = rw r.1
flat_kind (Read (Literal n (Text true))) r u h g z = ap (quoted true) (between_closed n u h r)
flat_kind (Read (Literal n (Text false))) r u h g z = ap (quoted false) (drop_taken n u)
flat_kind (Read (Punctuation n CloseBracket)) r u h g z = refl
flat_kind (Read (Punctuation n CloseParenthesis)) r u h g z = refl
flat_kind (Read (Punctuation n Colon)) r u h g z = refl
flat_kind (Read (Punctuation n Comma)) r u h g z = refl
flat_kind (Read (Punctuation n Dollar)) r u h g z = refl
flat_kind (Read (Punctuation n Dot)) r u h g z = refl
flat_kind (Read (Punctuation n ForwardSlash)) r u h g z = refl
flat_kind (Read (Punctuation n Minus)) r u h g z = refl
flat_kind (Read (Punctuation n OpenBracket)) r u h g z = refl
flat_kind (Read (Punctuation n OpenParenthesis)) r u h g z = refl
flat_kind (Read (Punctuation n Plus)) r u h g z = refl
flat_kind (Read (Punctuation n Star)) r u h g z = refl
flat_kind (Read (Comment n)) r u h g z = cc
flat_kind (Read (NewLine n)) r u h g z = refl
flat_kind (Read (EndOfFile n)) r u h g z = absurd (z refl)
flat_kind (Read (Invalid n c)) r u h g z = refl
flat_kind (Refused n LargerDigit) r u h g z = refl
flat_kind (Refused n TooLarge) r u h g z = refl

-- a byte that is m is not n
pub other_byte : (k m n : ℕ) → eqb k m ≡ true → eqb m n ≡ false → eqb k n ≡ false
other_byte k m n e f = rw (eqb-true k m e) f

-- A character of no other token, by one test: `plain ")" refl`.
pub plain : (a : Char) → let n = code a in
    (eqb 97 n || (eqb 48 n || (eqb 39 n || (eqb 34 n || (eqb 10 n || (eqb 0 n || (eqb 33 n || (eqb 30 n || eqb 31 n)))))))) ≡ false → Plain a
plain a e =
    let (b, e₁) = or_split _ _ e in
    let (c, e₂) = or_split _ _ e₁ in
    let (d, e₃) = or_split _ _ e₂ in
    let (f, e₄) = or_split _ _ e₃ in
    let (g, e₅) = or_split _ _ e₄ in
    let (h, e₆) = or_split _ _ e₅ in
    let (i, e₇) = or_split _ _ e₆ in
    let (j, k) = or_split _ _ e₇ in
    record { word' = b; number' = c; closed' = d; open' = f; feed' = g; end' = h; stray' = i; digit' = j; large' = k }

-- The token ahead is a mark, or not; it ends the line, or not.
module _ (s : List ℕ) (p : Parser) (a : Char) (h : Plain a) where
  pub mark_ahead : number_of p.kind ≡ code a → is_mark a (here_of s p).kind ≡ true
  mark_ahead e = mark_is (number_of p.kind) p.value (text_of s p.token_start p.pos) a h ∙ eq-eqb _ _ e

  pub other_ahead : (number_of p.kind ≡ code a → ⊥) → is_mark a (here_of s p).kind ≡ false
  other_ahead e = mark_is (number_of p.kind) p.value (text_of s p.token_start p.pos) a h ∙ ne_eqb _ _ e

pub end_ahead : (s : List ℕ) (p : Parser) {a b : Bool} → a ≡ ends_line p.kind → a ≡ b → is_line_end (here_of s p).kind ≡ b
end_ahead s p e f = line_end_is (number_of p.kind) p.value (text_of s p.token_start p.pos) ∙ sym e ∙ f
