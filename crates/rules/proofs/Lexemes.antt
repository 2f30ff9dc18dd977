-- The tokens of bytes that stand before others are the tokens of those bytes alone, wherever no token reaches across: before a line feed,
-- before the end, and behind whole lines. Tokens of bytes that stand elsewhere are the same tokens, moved.
use Rattle.std.specs.Prelude.{if◌then◌else◌}
use mathlib.Core.Path.{◌≡◌, refl, sym, ap, ◌∙◌}
use mathlib.Core.Bool.{Bool, true, false}
use mathlib.Core.List.{List, [], ◌∷◌, ◌++◌, map, map-append, append-nil, append_assoc}
use Prim.Native.Nat.{ℕ, zero, suc, pred, ◌+◌, ◌-◌, ◌≤◌}
use native.Mathlib.Omega.{arith}
use lib.ListN.{length, drop}
use lib.Seq.{take-append-le}
use Rattle.lexer.specs.Tokens.{token_at, size_of}
use Rattle.lexer.specs.declared.LiteralKind.TheVariants.{Number, Text}
use Rattle.lexer.specs.declared.Token.TheVariants.{Whitespace, Identifier, Literal, Punctuation, Comment, NewLine, EndOfFile, Invalid}
use Rattle.lexer.specs.declared.TokenRead.{TokenRead}
use Rattle.lexer.specs.declared.TokenRead.TheVariants.{Read, Refused}
use Rattle.lexer.proofs.Branches.{either}
use Rattle.lexer.proofs.TokensLine.{Lines, lines_tail, token_at_line, token_at_local}
use Rattle.lexer.proofs.TokensText.{token_at_le, token_at_fits}
use Rattle.rules.specs.Lexemes.{word, quoted, newline, kind_of, Lexeme, is_gap, lexeme, put, tokens_by, tokens_from, open_lexemes}
use Rattle.rules.specs.Reader.{is_line_end}
use Rattle.rules.proofs.Move.{move_token}

-- The tokens of bytes, without the end.
unfoldable pub tokens_within : ℕ → ℕ → List ℕ → List Lexeme
tokens_within p k [] = []
tokens_within p (suc k) (c ∷ cs) = tokens_within (suc p) k cs
tokens_within p zero (c ∷ cs) = let t : TokenRead = token_at (c ∷ cs) in put p t (c ∷ cs) (tokens_within (suc p) (pred (size_of t)) cs)

-- no token of s depends on z behind it
abbrev pub Apart : List ℕ → List ℕ → Type 0
Apart [] z = Unit {0}
Apart (c ∷ cs) z = (token_at (c ∷ (cs ++ z)) ≡ token_at (c ∷ cs)) × Apart cs z

pub apart_end : (s : List ℕ) → Apart s []
apart_end [] = tt
apart_end (c ∷ cs) = (ap (λ (l : List ℕ). token_at (c ∷ l)) (append-nil cs), apart_end cs)

pub apart_feed : (s B : List ℕ) → Apart s (10 ∷ B)
apart_feed [] B = tt
apart_feed (c ∷ cs) B = (token_at_line c cs B, apart_feed cs B)

pub apart_lines : (A B : List ℕ) → Lines A → Apart A B
apart_lines [] B l = tt
apart_lines (c ∷ cs) B l = (token_at_local B c cs l, apart_lines cs B (lines_tail c cs l))

-- A token's text is in its own bytes.
kind_append : (t : TokenRead) (c : ℕ) (cs z : List ℕ) → size_of t ≤ suc (length cs) → kind_of t (c ∷ (cs ++ z)) ≡ kind_of t (c ∷ cs)
kind_append (Read (Whitespace n)) c cs z h = refl
kind_append (Read (Identifier n)) c cs z h = ap word (take-append-le n (c ∷ cs) z h)
kind_append (Read (Literal n (Number v))) c cs z h = refl
kind_append (Read (Literal n (Text true))) c cs z h = ap (quoted true) (take-append-le (n - 2) cs z (omega arith))
kind_append (Read (Literal n (Text false))) c cs z h = ap (quoted false) (take-append-le (n - 1) cs z (omega arith))
kind_append (Read (Punctuation n k)) c cs z h = refl
kind_append (Read (Comment n)) c cs z h = refl
kind_append (Read (NewLine n)) c cs z h = refl
kind_append (Read (EndOfFile n)) c cs z h = refl
kind_append (Read (Invalid n b)) c cs z h = refl
kind_append (Refused n f) c cs z h = refl

put_append : (p : ℕ) (t : TokenRead) (c : ℕ) (cs z : List ℕ) (xs ys : List Lexeme) → size_of t ≤ suc (length cs) → put p t (c ∷ (cs ++ z)) (xs ++ ys) ≡ put p t (c ∷ cs) xs ++ ys
unfolding put lexeme
put_append p t c cs z xs ys h = rw (kind_append t c cs z h) (go (is_gap (kind_of t (c ∷ cs))))
  where
    go : (b : Bool) → ◌≡◌ {A = List Lexeme} (if b then xs ++ ys else (lexeme p t (c ∷ cs) ∷ (xs ++ ys))) ((if b then xs else (lexeme p t (c ∷ cs) ∷ xs)) ++ ys)
    go true = refl
    go false = refl

-- THE LAW.
pub tokens_split : (p k : ℕ) (s z : List ℕ) → Apart s z → k ≤ length s → tokens_from p k (s ++ z) ≡ tokens_within p k s ++ tokens_from (p + length s) 0 z
unfolding tokens_by tokens_within
tokens_split p zero [] z a h =
    let i : p + 0 ≡ p = omega arith in
    rw i
tokens_split p (suc k) [] z a h = absurd (omega arith)
tokens_split p (suc k) (c ∷ cs) z a h =
    let e : p + suc (length cs) ≡ suc p + length cs = omega arith in
    rw e (tokens_split (suc p) k cs z a.1 (omega arith))
tokens_split p zero (c ∷ cs) z a h =
    let t : TokenRead = token_at (c ∷ cs) in
    let fits : size_of t ≤ suc (length cs) = token_at_le (c ∷ cs) in
    let e : p + suc (length cs) ≡ suc p + length cs = omega arith in
    rw (e, a.0, tokens_split (suc p) (pred (size_of t)) cs z a.1 (omega arith)) (put_append p t c cs z _ _ fits)

-- behind whole lines
pub tokens_append : (p k : ℕ) (A B : List ℕ) → Lines A → k ≤ length A → tokens_from p k (A ++ B) ≡ tokens_within p k A ++ tokens_from (p + length A) 0 B
tokens_append p k A B l h = tokens_split p k A B (apart_lines A B l) h

-- A source's tokens, and those of the source with one more line feed, differ in the line end only.
abbrev pub stop : ℕ → ℕ → Lexeme
stop p q = record { from = p; to = q; kind = newline }

pub tokens_alone : (p k : ℕ) (s : List ℕ) → k ≤ length s → tokens_from p k s ≡ tokens_within p k s ++ (stop (p + length s) (p + length s) ∷ [])
unfolding tokens_by
tokens_alone p k s h = ap (tokens_from p k) (sym (append-nil s)) ∙ tokens_split p k s [] (apart_end s) h

feed_tokens : (p : ℕ) → tokens_from p 0 (10 ∷ []) ≡ stop p (p + 1) ∷ stop (p + 1) (p + 1) ∷ []
unfolding open_lexemes
feed_tokens p =
    let e : suc p ≡ p + 1 = omega arith in
    rw e

pub tokens_fed : (p k : ℕ) (s : List ℕ) → k ≤ length s
    → tokens_from p k (s ++ (10 ∷ [])) ≡ tokens_within p k s ++ (stop (p + length s) (p + length s + 1) ∷ stop (p + length s + 1) (p + length s + 1) ∷ [])
tokens_fed p k s h = tokens_split p k s (10 ∷ []) (apart_feed s []) h ∙ ap (λ (l : List Lexeme). tokens_within p k s ++ l) (feed_tokens (p + length s))

-- places apart
abbrev pub erase : List Lexeme → List Lexeme
erase xs = map (move_token (λ _. 0)) xs

abbrev pub end_token : Lexeme
end_token = stop 0 0

pub tokens_end : (p k : ℕ) (s : List ℕ) → k ≤ length s → erase (tokens_from p k (s ++ (10 ∷ []))) ≡ erase (tokens_from p k s) ++ (end_token ∷ [])
unfolding move_token
tokens_end p k s h = rw (tokens_fed p k s h, tokens_alone p k s h) (simp (map-append, append_assoc))

-- Tokens of bytes that stand q places further on.
put_shift : (q p : ℕ) (t : TokenRead) (s : List ℕ) (xs : List Lexeme) → put (q + p) t s (map (move_token (λ n. q + n)) xs) ≡ map (move_token (λ n. q + n)) (put p t s xs)
unfolding put lexeme move_token
put_shift q p t s xs = go (is_gap (kind_of t s))
  where
    go : (b : Bool) → ◌≡◌ {A = List Lexeme} (if b then map (move_token (λ n. q + n)) xs else (lexeme (q + p) t s ∷ map (move_token (λ n. q + n)) xs)) (map (move_token (λ n. q + n)) (if b then xs else (lexeme p t s ∷ xs)))
    go true = refl
    go false =
        let e : q + p + size_of t ≡ q + (p + size_of t) = omega arith in
        rw e

pub tokens_shift : (q p k : ℕ) (s : List ℕ) → tokens_from (q + p) k s ≡ map (move_token (λ n. q + n)) (tokens_from p k s)
unfolding tokens_by move_token
tokens_shift q p k [] = refl
tokens_shift q p (suc k) (c ∷ cs) =
    let e : suc (q + p) ≡ q + suc p = omega arith in
    rw e (tokens_shift q (suc p) k cs)
tokens_shift q p zero (c ∷ cs) =
    let e : suc (q + p) ≡ q + suc p = omega arith in
    rw (e, tokens_shift q (suc p) (pred (size_of (token_at (c ∷ cs)))) cs) (put_shift q p (token_at (c ∷ cs)) (c ∷ cs) _)

-- The tokens from a place on, k bytes further: what ties the list to a reader's place in the source.
pub tokens_skip : (p k : ℕ) (s : List ℕ) → k ≤ length s → tokens_from p k s ≡ tokens_from (p + k) 0 (drop k s)
unfolding tokens_by
tokens_skip p zero s h =
    let e : p + 0 ≡ p = omega arith in
    rw e
tokens_skip p (suc k) [] h = absurd (omega arith)
tokens_skip p (suc k) (c ∷ cs) h =
    let e : p + suc k ≡ suc p + k = omega arith in
    rw e (tokens_skip (suc p) k cs (omega arith))

-- Whole lines' tokens end in one that ends a line.
abbrev pub Ended : List Lexeme → Type 0
Ended [] = ⊥
Ended (x ∷ []) = is_line_end x.kind ≡ true
Ended (x ∷ y ∷ zs) = Ended (y ∷ zs)

pub ended_cons : (x : Lexeme) (xs : List Lexeme) → Ended xs → Ended (x ∷ xs)
ended_cons x [] h = absurd h
ended_cons x (y ∷ zs) h = h

pub put_ended : (p : ℕ) (t : TokenRead) (s : List ℕ) (xs : List Lexeme) → Ended xs → Ended (put p t s xs)
unfolding put
put_ended p t s xs h = either Ended (is_gap (kind_of t s)) xs (lexeme p t s ∷ xs) h (ended_cons (lexeme p t s) xs h)

feed_ended : (p : ℕ) → Ended (tokens_within p 0 (10 ∷ []))
unfolding open_lexemes is_line_end tokens_within
feed_ended p = refl

pub lines_ended : (p k c : ℕ) (cs : List ℕ) → Lines (c ∷ cs) → k ≤ length cs → Ended (tokens_within p k (c ∷ cs))
unfolding tokens_within
lines_ended p zero c [] l h = rw l (feed_ended p)
lines_ended p (suc k) c [] l h = absurd (omega arith)
lines_ended p zero c (d ∷ ds) l h =
    let t : TokenRead = token_at (c ∷ d ∷ ds) in
    put_ended p t (c ∷ d ∷ ds) _ (lines_ended (suc p) (pred (size_of t)) d ds l (omega (arith, token_at_fits c d ds l)))
lines_ended p (suc k) c (d ∷ ds) l h = lines_ended (suc p) k d ds l (omega arith)
