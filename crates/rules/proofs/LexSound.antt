-- The tokens of bytes stand in order, each with at least a byte, and hold no more than their bytes: each begins where the one before it, and
-- what is passed over, has ended.
use Rattle.std.specs.Prelude.{if◌then◌else◌}
use mathlib.Core.Path.{◌≡◌, refl, ap, ◌∙◌}
use mathlib.Core.Bool.{Bool, true, false, true≢false}
use mathlib.Core.List.{List, [], ◌∷◌, ◌++◌}
use Prim.Native.Nat.{ℕ, zero, suc, pred, ◌+◌, ◌-◌, ◌≤◌, zero-le}
use native.Mathlib.Omega.{arith}
use native.Mathlib.Nat.{le_refl}
use lib.ListN.{length, take, length-append, length-take}
use Rattle.lexer.specs.Tokens.{token_at, size_of}
use Rattle.lexer.specs.declared.LiteralKind.TheVariants.{Number, Text}
use Rattle.lexer.specs.declared.Token.TheVariants.{Whitespace, Identifier, Literal, Punctuation, Comment, NewLine, EndOfFile, Invalid}
use Rattle.lexer.specs.declared.Fault.TheVariants.{LargerDigit, TooLarge}
use Rattle.lexer.specs.declared.TokenRead.{TokenRead}
use Rattle.lexer.specs.declared.TokenRead.TheVariants.{Read, Refused}
use Rattle.lexer.proofs.TokensText.{InRange, token_at_some, token_at_le, token_at_in_range}
use Rattle.rules.specs.Lexemes.{kind_of, Lexeme, is_gap, lexeme, put, tokens_from}
use Rattle.rules.specs.Reader.{is_line_end}
use Rattle.rules.specs.Statements.{Row, rows, push}
use Rattle.rules.proofs.Lexemes.{tokens_within, stop, tokens_alone, tokens_fed}
use Rattle.rules.proofs.Shape.{Small, Holds, Sound, Chain, chain_low}
use Rattle.rules.proofs.ShapeState.{flat}

pub small_take : (n : ℕ) (s : List ℕ) → Small s → Small (take n s)
small_take zero s h = tt
small_take (suc n) [] h = tt
small_take (suc n) (c ∷ cs) h = (h.0, small_take n cs h.1)

-- what a token holds, by its kind
holds_at : (t : TokenRead) (c : ℕ) (cs : List ℕ) (p : ℕ) → Small cs → 1 ≤ size_of t → InRange t → Holds (kind_of t (c ∷ cs)) p (p + size_of t)
holds_at (Read (Literal n (Number z))) c cs p m i (v, e, h) = rw e h
holds_at (Read (Literal n (Text true))) c cs p m i h = (omega (arith, length-take (n - 2) cs), small_take (n - 2) cs m)
holds_at (Read (Literal n (Text false))) c cs p m i h = (omega (arith, length-take (n - 1) cs), small_take (n - 1) cs m)
holds_at (Read (Identifier n)) c cs p m i h = omega (arith, length-take n (c ∷ cs))
holds_at (Read (Whitespace n)) c cs p m i h = tt
holds_at (Read (Punctuation n k)) c cs p m i h = tt
holds_at (Read (Comment n)) c cs p m i h = tt
holds_at (Read (NewLine n)) c cs p m i h = tt
holds_at (Read (EndOfFile n)) c cs p m i h = tt
holds_at (Read (Invalid n b)) c cs p m i h = tt
holds_at (Refused n LargerDigit) c cs p m i h = tt
holds_at (Refused n TooLarge) c cs p m i h = tt

module _ (N H : ℕ) where
  put_chain : (p : ℕ) (t : TokenRead) (c : ℕ) (cs : List ℕ) (xs ys : List Lexeme) → Small cs → 1 ≤ size_of t → InRange t → p + size_of t ≤ H
      → Chain N H (p + size_of t) (xs ++ ys) → Chain N H p (put p t (c ∷ cs) xs ++ ys)
  unfolding put lexeme
  put_chain p t c cs xs ys m i r h l = go (is_gap (kind_of t (c ∷ cs)))
    where
      go : (b : Bool) → Chain N H p ((if b then xs else (record { from = p; to = p + size_of t; kind = kind_of t (c ∷ cs) } ∷ xs)) ++ ys)
      go true = chain_low N H (p + size_of t) p (xs ++ ys) (omega arith) l
      go false = (le_refl p, record { ordered = omega arith; strict = λ _. (omega arith, h); holds = holds_at t c cs p m i r }, l)

  -- THE LAW: the tokens of s, from place p on, before others that stand in order behind them.
  chain_within : (p k : ℕ) (s : List ℕ) (ys : List Lexeme) → Small s → k ≤ length s → p + length s ≤ H → Chain N H (p + length s) ys → Chain N H (p + k) (tokens_within p k s ++ ys)
  unfolding tokens_within
  chain_within p zero [] ys m h i l = l
  chain_within p (suc k) [] ys m h i l = absurd (omega arith)
  chain_within p (suc k) (c ∷ cs) ys m h i l =
      let f : p + suc (length cs) ≡ suc p + length cs = omega arith in
      let g : p + suc k ≡ suc p + k = omega arith in
      rw g (chain_within (suc p) k cs ys m.1 (omega arith) (omega arith) (rw f at l))
  chain_within p zero (c ∷ cs) ys m h i l =
      let t : TokenRead = token_at (c ∷ cs) in
      let some : 1 ≤ size_of t = token_at_some c cs in
      let fits : size_of t ≤ suc (length cs) = token_at_le (c ∷ cs) in
      let f : p + suc (length cs) ≡ suc p + length cs = omega arith in
      let g : suc p + pred (size_of t) ≡ p + size_of t = omega arith in
      let q : p + 0 ≡ p = omega arith in
      rw q (put_chain p t c cs _ ys m.1 some (token_at_in_range (c ∷ cs)) (omega arith) (rw g at (chain_within (suc p) (pred (size_of t)) cs ys m.1 (omega arith) (omega arith) (rw f at l))))

pub line_end_sound : (H p q : ℕ) → p ≤ q → Sound H (stop p q)
unfolding is_line_end
line_end_sound H p q h = record { ordered = h; strict = λ e. absurd (true≢false e); holds = tt }

-- of a source; with one more line feed
pub chain_skip : (p k : ℕ) (s : List ℕ) → Small s → k ≤ length s → Chain (p + length s) (p + length s) (p + k) (tokens_from p k s)
chain_skip p k s m h =
    let n : ℕ = p + length s in
    rw (tokens_alone p k s h) (chain_within n n p k s (stop n n ∷ []) m h (le_refl n) (le_refl n, line_end_sound n n n (le_refl n), le_refl n))

pub chain_plain : (p : ℕ) (s : List ℕ) → Small s → Chain (p + length s) (p + length s) p (tokens_from p 0 s)
chain_plain p s m =
    let q : p + 0 ≡ p = omega arith in
    rw q at (chain_skip p 0 s m zero-le)

pub chain_feed : (p : ℕ) (s : List ℕ) → Small s → Chain (p + length (s ++ (10 ∷ []))) (p + length s) p (tokens_from p 0 (s ++ (10 ∷ [])))
chain_feed p s m =
    let n : ℕ = p + length s in
    let q : p + 0 ≡ p = omega arith in
    let e : p + length (s ++ (10 ∷ [])) ≡ n + 1 = omega (arith, length-append s (10 ∷ [])) in
    let ends : List Lexeme = stop n (n + 1) ∷ stop (n + 1) (n + 1) ∷ [] in
    let l : Chain (n + 1) n n ends =
    (le_refl n, line_end_sound n n (n + 1) (omega arith), (le_refl (n + 1), line_end_sound n (n + 1) (n + 1) (le_refl (n + 1)), le_refl (n + 1))) in
    rw (e, tokens_fed p 0 s zero-le) (rw q at (chain_within (n + 1) n p 0 s ends m zero-le (le_refl n) l))

-- The rows hold all tokens, in order.
push_flat : (x : Lexeme) (l : List Row) → flat (push x l) ≡ x ∷ flat l
unfolding push
push_flat x [] = refl
push_flat x (r ∷ rs) = refl

pub flat_rows : (xs : List Lexeme) → flat (rows xs) ≡ xs
unfolding rows
flat_rows [] = refl
flat_rows (x ∷ xs) = go (is_line_end x.kind) (flat_rows xs)
  where
    go : (b : Bool) → flat (rows xs) ≡ xs → flat (if b then (record { first = x; more = [] } ∷ rows xs) else push x (rows xs)) ≡ x ∷ xs
    go true e = ap (λ (l : List Lexeme). x ∷ l) e
    go false e = push_flat x (rows xs) ∙ ap (λ (l : List Lexeme). x ∷ l) e
