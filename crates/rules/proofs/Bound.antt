-- A listing is never longer than 18 times its source: the tokens pay for the records statement by statement (Cost), from the first to the
-- last. What Cost asks of the tokens, that a number never stands right behind a word, holds since a word takes all letters and digits.
use Rattle.std.specs.Prelude.{if◌then◌else◌}
use mathlib.Core.Path.{◌≡◌, refl, sym, ap, ◌∙◌}
use mathlib.Core.Bool.{Bool, true, false, ◌||◌, true≢false, false≢true}
use mathlib.Core.List.{List, [], ◌∷◌, ◌++◌}
use Prim.Native.Nat.{ℕ, zero, suc, pred, ◌+◌, ◌*◌, ◌≤◌, ◌<◌, zero-le}
use native.Mathlib.Omega.{arith}
use lib.ListN.{length, length-append}
use mathlib.Core.Option.{Option, none, some}
use Rattle.lexer.specs.Text.{maybe, is, is_digit, is_letter, is_word_part, run}
use Rattle.lexer.specs.Tokens.{token_at, size_of}
use Rattle.lexer.specs.declared.LiteralKind.TheVariants.{Number, Text}
use Rattle.lexer.specs.declared.Token.TheVariants.{Whitespace, Identifier, Literal, Punctuation, Comment, NewLine, EndOfFile, Invalid}
use Rattle.lexer.specs.declared.Fault.TheVariants.{LargerDigit, TooLarge}
use Rattle.lexer.specs.declared.TokenRead.{TokenRead}
use Rattle.lexer.specs.declared.TokenRead.TheVariants.{Read, Refused}
use Rattle.lexer.proofs.TokensText.{Begun, token_at_begun, token_at_some, token_at_le}
use Rattle.rules.specs.Lexemes.{kind_of, Lexeme, is_gap, lexeme, put, tokens_by, tokens_from, text_of}
use Rattle.rules.specs.Records.{Record, listing}
use Rattle.rules.specs.Reader.{Cause, at, Answer, done, refused, after, arrive, refused_as}
use Rattle.rules.specs.Operands.{is_word, is_number}
use Rattle.rules.specs.Statements.{Profile, Row, State, rows, first_of, enter, statement, accepted, read_from, reading}
use Rattle.rules.specs.Calls.{one_read}
use Rattle.rules.proofs.Table.{Proper}
use Rattle.rules.proofs.Append.{Reads, Begins, fine, broken}
use Rattle.rules.proofs.Shape.{Small, Chain, chain_le, chain_low}
use Rattle.rules.proofs.ShapeState.{flat}
use Rattle.rules.proofs.LexSound.{chain_plain, chain_skip, flat_rows}
use Rattle.rules.proofs.Cut.{rows_from, accepts_run}
use Rattle.rules.proofs.Records.{listing_append}
use Rattle.rules.proofs.Hoare.{Post, holds}
use Rattle.rules.proofs.Cost.{weight, Writes, run_weight, Spaced}
use Rattle.rules.proofs.CostState.{OnS, statement_on}

abbrev Bounded : ℕ → ℕ → Answer State (Unit {0}) → Type 0
Bounded n d (done w a s) = d + weight w ≤ 18 * n
Bounded n d (refused r) = Unit {0}

-- No number stands right behind a word.
number_digit : (t : TokenRead) (c : ℕ) (cs : List ℕ) → Begun (c ∷ cs) t → is_number (kind_of t (c ∷ cs)) ≡ true → is_digit c ≡ true
unfolding is_number
number_digit (Read (Literal n (Number z))) c cs b h = b
number_digit (Read (Literal n (Text true))) c cs b h = absurd (false≢true h)
number_digit (Read (Literal n (Text false))) c cs b h = absurd (false≢true h)
number_digit (Read (Whitespace n)) c cs b h = absurd (false≢true h)
number_digit (Read (Identifier n)) c cs b h = absurd (false≢true h)
number_digit (Read (Punctuation n k)) c cs b h = absurd (false≢true h)
number_digit (Read (Comment n)) c cs b h = absurd (false≢true h)
number_digit (Read (NewLine n)) c cs b h = absurd (false≢true h)
number_digit (Read (EndOfFile n)) c cs b h = absurd (false≢true h)
number_digit (Read (Invalid n d)) c cs b h = absurd (false≢true h)
number_digit (Refused n LargerDigit) c cs b h = absurd (false≢true h)
number_digit (Refused n TooLarge) c cs b h = absurd (false≢true h)

word_whole : (t : TokenRead) (c : ℕ) (cs : List ℕ) → Begun (c ∷ cs) t → is_word (kind_of t (c ∷ cs)) ≡ true → size_of t ≡ suc (run is_word_part cs)
unfolding is_word text_of
word_whole (Read (Identifier n)) c cs b h = b
word_whole (Read (Literal n (Number z))) c cs b h = absurd (false≢true h)
word_whole (Read (Literal n (Text true))) c cs b h = absurd (false≢true h)
word_whole (Read (Literal n (Text false))) c cs b h = absurd (false≢true h)
word_whole (Read (Whitespace n)) c cs b h = absurd (false≢true h)
word_whole (Read (Punctuation n k)) c cs b h = absurd (false≢true h)
word_whole (Read (Comment n)) c cs b h = absurd (false≢true h)
word_whole (Read (NewLine n)) c cs b h = absurd (false≢true h)
word_whole (Read (EndOfFile n)) c cs b h = absurd (false≢true h)
word_whole (Read (Invalid n d)) c cs b h = absurd (false≢true h)
word_whole (Refused n LargerDigit) c cs b h = absurd (false≢true h)
word_whole (Refused n TooLarge) c cs b h = absurd (false≢true h)

digit_part : (c : ℕ) → is_digit c ≡ true → is_word_part c ≡ true
unfolding is_word_part
digit_part c h = go (is_letter c)
  where
    go : (b : Bool) → b || is_digit c || is "." c ≡ true
    go true = refl
    go false = rw h

-- the first byte of what follows passes no test
abbrev Stops : (ℕ → Bool) → ℕ → List ℕ → Type 0
Stops q k [] = Unit {0}
Stops q zero (c ∷ cs) = q c ≡ false
Stops q (suc k) (c ∷ cs) = Stops q k cs

-- the first token, if it is a number, is beyond a place
abbrev Beyond : ℕ → List Lexeme → Type 0
Beyond p [] = Unit {0}
Beyond p (y ∷ ys) = is_number y.kind ≡ true → p < y.from

from_chain : (n hi p : ℕ) (xs : List Lexeme) → Chain n hi (suc p) xs → Beyond p xs
from_chain n hi p [] c = tt
from_chain n hi p (x ∷ xs) c = λ _. c.0

stops_run : (q : ℕ → Bool) (s : List ℕ) → Stops q (run q s) s
unfolding run
stops_run q [] = tt
stops_run q (c ∷ cs) = go (q c) refl (stops_run q cs)
  where
    go : (b : Bool) → q c ≡ b → Stops q (run q cs) cs → Stops q (if b then (suc (run q cs)) else 0) (c ∷ cs)
    go true e h = h
    go false e h = e

stops_behind : (c : ℕ) (cs : List ℕ) → is_word (kind_of (token_at (c ∷ cs)) (c ∷ cs)) ≡ true → Stops is_word_part (pred (size_of (token_at (c ∷ cs)))) cs
stops_behind c cs w =
    let e : pred (size_of (token_at (c ∷ cs))) ≡ run is_word_part cs = ap pred (word_whole (token_at (c ∷ cs)) c cs (token_at_begun c cs) w) in
    rw e (stops_run is_word_part cs)

put_beyond : (p : ℕ) (t : TokenRead) (s : List ℕ) (xs : List Lexeme) → (is_number (kind_of t s) ≡ true → ⊥) → Beyond p xs → Beyond p (put p t s xs)
unfolding put lexeme
put_beyond p t s xs n b = go (is_gap (kind_of t s))
  where
    go : (o : Bool) → Beyond p (if o then xs else (record { from = p; to = p + size_of t; kind = kind_of t s } ∷ xs))
    go true = b
    go false = λ e. absurd (n e)

lead : (p k : ℕ) (s : List ℕ) → Small s → k ≤ length s → Stops is_word_part k s → Beyond (p + k) (tokens_from p k s)
unfolding tokens_by is_number
lead p k [] m h o = λ e. absurd (false≢true e)
lead p (suc k) (c ∷ cs) m h o =
    let g : p + suc k ≡ suc p + k = omega arith in
    rw g (lead (suc p) k cs m.1 (omega arith) o)
lead p zero (c ∷ cs) m h o =
    let t : TokenRead = token_at (c ∷ cs) in
    let e : p + 0 ≡ p = omega arith in
    rw e (put_beyond p t (c ∷ cs) (tokens_from (suc p) (pred (size_of t)) cs) (λ i. true≢false (sym (digit_part c (number_digit t c cs (token_at_begun c cs) i)) ∙ o))
    (from_chain (suc p + length cs) (suc p + length cs) p (tokens_from (suc p) (pred (size_of t)) cs) (chain_low (suc p + length cs) (suc p + length cs) (suc p + pred (size_of t)) (suc p) (tokens_from (suc p) (pred (size_of t)) cs) (omega arith) (chain_skip (suc p) (pred (size_of t)) cs m.1 (omega (arith, token_at_le (c ∷ cs)))))))

put_spaced : (p : ℕ) (t : TokenRead) (s : List ℕ) (xs : List Lexeme) → (is_word (kind_of t s) ≡ true → Beyond (p + size_of t) xs) → Spaced xs → Spaced (put p t s xs)
unfolding put lexeme
put_spaced p t s xs b h = go (is_gap (kind_of t s)) xs b h
  where
    go : (o : Bool) (xs : List Lexeme) → (is_word (kind_of t s) ≡ true → Beyond (p + size_of t) xs) → Spaced xs → Spaced (if o then xs else (record { from = p; to = p + size_of t; kind = kind_of t s } ∷ xs))
    go true xs b h = h
    go false [] b h = tt
    go false (y ∷ ys) b h = (λ w v. b w v, h)

spaced : (p k : ℕ) (s : List ℕ) → Small s → k ≤ length s → Spaced (tokens_from p k s)
unfolding tokens_by
spaced p k [] m h = tt
spaced p (suc k) (c ∷ cs) m h = spaced (suc p) k cs m.1 (omega arith)
spaced p zero (c ∷ cs) m h =
    let t : TokenRead = token_at (c ∷ cs) in
    let i : 1 ≤ size_of t = token_at_some c cs in
    let j : size_of t ≤ suc (length cs) = token_at_le (c ∷ cs) in
    let e : p + size_of t ≡ suc p + pred (size_of t) = omega arith in
    put_spaced p t (c ∷ cs) (tokens_from (suc p) (pred (size_of t)) cs)
    (λ w. rw e (lead (suc p) (pred (size_of t)) cs m.1 (omega arith) (stops_behind c cs w))) (spaced (suc p) (pred (size_of t)) cs m.1 (omega arith))

never : {S A : Type 0} {r : Cause} {w : List Record} {a : A} {t : S} → refused r ≡ done w a t → ⊥
never e = true≢false cc

module _ (profile : Profile) (proper : Proper profile.table) where
  module _ (n hi : ℕ) where
    stop_bound : {d : ℕ} {w : List Record} {b : Bool} {t : State} → Post Writes (λ _. OnS n hi 6 6) d (done w b t) → d + weight w ≤ 18 * n
    stop_bound (holds {s = t} r q) =
        let i : t.line.here.to ≤ n = chain_le n hi t.line.here.to (t.line.more ++ flat t.below) q.chain.2 in
        omega (arith, run_weight r, q.paid, q.chain.1.ordered)

    after_bound : (d : ℕ) (w : List Record) (p : Answer State (Unit {0})) → Bounded n (d + weight w) p → Bounded n d (after w p)
    unfolding after
    after_bound d w (done v a s) h = omega (arith, ap length (listing_append w v), length-append (listing w) (listing v))
    after_bound d w (refused r) h = tt

    go_bound : {d : ℕ} {w : List Record} {t : State} (p : Answer State (Unit {0})) → ((d : ℕ) → OnS n hi 6 6 d t → Bounded n d p) → Post Writes (λ _. OnS n hi 6 6) d (done w true t) → Bounded n d (after w p)
    go_bound {d} p again (holds {w = w} r q) = after_bound d w p (rw (run_weight r) at (again _ q))

    reads_bound : {s : State} {p : Answer State (Unit {0})} → Reads profile s p → (d : ℕ) → OnS n hi 6 6 d s → Bounded n d p
    reads_bound (Reads.stop {s} z) d h = stop_bound (rw z at ((statement_on profile proper n hi).law d s h))
    reads_bound (Reads.fail z) d h = tt
    reads_bound (Reads.go {s} {p = p} z r) d h = go_bound p (λ d' h'. reads_bound r d' h') (rw z at ((statement_on profile proper n hi).law d s h))

    enter_on : (r : Row) (rs : List Row) → Chain n hi 0 (flat (r ∷ rs)) → Spaced (flat (r ∷ rs)) → OnS n hi 6 6 0 (enter r rs)
    unfolding enter first_of
    enter_on r rs c p = record { paid = omega arith; chain = c; spaced = p }

    begins_bound : (l : List Row) {p : Answer State (Unit {0})} → Begins profile l p → Chain n hi 0 (flat l) → Spaced (flat l) → Bounded n 0 p
    begins_bound l (fine {r} {rs} f g) c p = reads_bound g 0 (enter_on r rs c p)
    begins_bound l (broken f) c p = tt

    one_bound : (l : List Row) {w : List Record} {b : Bool} {t : State} → one_read profile l ≡ done w b t → Chain n hi 0 (flat l) → Spaced (flat l) → 0 + weight w ≤ 18 * n
    unfolding one_read arrive
    one_bound [] e c p = absurd (never e)
    one_bound (r ∷ rs) {w} {b} {t} e c p = go (refused_as r.first.kind) e
      where
        go : (o : Option ℕ) → maybe o (statement profile (enter r rs)) (λ m. refused (at m r.first.from r.first.to)) ≡ done w b t → 0 + weight w ≤ 18 * n
        go none e = stop_bound (rw e at ((statement_on profile proper n hi).law 0 (enter r rs) (enter_on r rs c p)))
        go (some m) e = absurd (never e)

  -- The reading of bytes that stand from place p on; of one statement there; of a source.
  module _ (p : ℕ) (s : List ℕ) (m : Small s) where
    first_chain : Chain (p + length s) (p + length s) 0 (flat (rows_from p s)) × Spaced (flat (rows_from p s))
    unfolding rows_from
    first_chain =
        let f : flat (rows (tokens_from p 0 s)) ≡ tokens_from p 0 s = flat_rows (tokens_from p 0 s) in
        (rw f (chain_low (p + length s) (p + length s) p 0 (tokens_from p 0 s) zero-le (chain_plain p s m)), rw f (spaced p 0 s m zero-le))

    pub bounded_from : (w : List Record) → read_from profile p s ≡ accepted w → length (listing w) ≤ 18 * (p + length s)
    bounded_from w e =
        let (u, g) = accepts_run profile p s w e in
        let (c, d) = first_chain in
        let b : 0 + weight w ≤ 18 * (p + length s) = begins_bound (p + length s) (p + length s) (rows_from p s) g c d in
        omega arith

    pub bounded_one : {w : List Record} {b : Bool} {t : State} → one_read profile (rows (tokens_from p 0 s)) ≡ done w b t → length (listing w) ≤ 18 * (p + length s)
    unfolding rows_from
    bounded_one {w} e =
        let (c, d) = first_chain in
        let b : 0 + weight w ≤ 18 * (p + length s) = one_bound (p + length s) (p + length s) (rows (tokens_from p 0 s)) e c d in
        omega arith

  pub bounded : (s : List ℕ) (w : List Record) → Small s → reading profile s ≡ accepted w → length (listing w) ≤ 18 * length s
  unfolding reading
  bounded s w m e = omega (arith, bounded_from 0 s m w e)
