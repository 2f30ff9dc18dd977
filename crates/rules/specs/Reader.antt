-- Readers: what reads from a state, writes records and gives a value, or refuses. A line is read token by token, with one token ahead.
-- RULES 4, 11.
use Rattle.std.specs.Prelude.{Bool, true, false, List, [], ◌∷◌, ◌++◌, ℕ, length, if◌then◌else◌}
use Rattle.std.proofs.Math.Option.{Option, none, some}
use Prim.Native.Char.{Char}
use Rattle.lexer.specs.Text.{maybe, is}
use Rattle.rules.specs.Lexemes.{Kind, word, number, quoted, mark, newline, blank, comment, invalid, end, bad, Lexeme, open_lexemes}
use Rattle.rules.specs.Records.{Record}
use Rattle.refusals.specs.Refusals.{Numbers, spanned}

-- Why is refused: a number with the span; with none (0..0); 25, with the span and two registers.
pub data Cause : Type 0 where
  at : (number f t : ℕ) → Cause
  nowhere : (number : ℕ) → Cause
  encoding : (f t first second : ℕ) → Cause

-- Its five values. Only 25 has registers.
abbrev pub numbers_of : Cause → Numbers
numbers_of (at n f t) = spanned n f t
numbers_of (nowhere n) = spanned n 0 0
numbers_of (encoding f t a b) = record { number = 25; from = f; to = t; first = a; second = b }

-- An answer: the records written, the value, the next state; or a refusal.
pub data Answer (S A : Type 0) : Type 0 where
  done : List Record → A → S → Answer S A
  refused : Cause → Answer S A

abbrev pub Reader : Type 0 → Type 0 → Type 0
Reader S A = S → Answer S A

-- An answer behind records that were written before it; one reader after another.
unfoldable pub after : {S A : Type 0} → List Record → Answer S A → Answer S A
after w (done v a s) = done (w ++ v) a s
after w (refused r) = refused r

infixl 20 ◌>>=◌ ◌>>◌
unfoldable pub thence : {S A B : Type 0} → Answer S A → (A → Reader S B) → Answer S B
thence (done w a t) k = after w (k a t)
thence (refused r) k = refused r

unfoldable pub ◌>>=◌ : {S A B : Type 0} → Reader S A → (A → Reader S B) → Reader S B
(m >>= k) s = thence (m s) k

unfoldable pub ◌>>◌ : {S A B : Type 0} → Reader S A → Reader S B → Reader S B
m >> k = m >>= (λ _. k)

-- A value; a record; a refusal.
unfoldable pub return : {S A : Type 0} → A → Reader S A
return a s = done [] a s

unfoldable pub write : {S : Type 0} → Record → Reader S (Unit {0})
write r s = done (r ∷ []) tt s

unfoldable pub refuse : {S A : Type 0} → Cause → Reader S A
refuse r s = refused r

-- A reader that may find nothing: then the old state is taken up again, and a is the answer.
unfoldable pub or_back : {S A : Type 0} → Answer S (Option A) → A → Reader S A
or_back (done w none t) a s = done [] a s
or_back (done w (some b) t) a s = done w b t
or_back (refused r) a s = refused r

unfoldable pub attempt : {S A : Type 0} → Reader S (Option A) → A → Reader S A
attempt m a s = or_back (m s) a s

-- What is left of a line: the end of the last token passed, the token ahead, and those behind it. The last of them ends the line.
pub record Line : Type 0 where
  pub last : ℕ
  pub here : Lexeme
  pub more : List Lexeme

-- 30 and 31 come when the token is read: it becomes the one ahead, unless it is refused.
unfoldable pub refused_as : Kind → Option ℕ
refused_as (bad b) = some (if b then 31 else 30)
refused_as (word w) = none
refused_as (number v) = none
refused_as (quoted b w) = none
refused_as (mark c) = none
refused_as newline = none
refused_as blank = none
refused_as comment = none
refused_as invalid = none
refused_as end = none

unfoldable pub arrive : {S A : Type 0} → Lexeme → Answer S A → Answer S A
arrive x a = maybe (refused_as x.kind) a λ n. refused (at n x.from x.to)

-- To the next token of the line. Behind the token that ends the line, which no reader passes, there is a line end of no bytes.
unfoldable pub step : List Lexeme → Reader Line (Unit {0})
step [] s = done [] tt (record { last = s.here.to; here = record { from = s.here.to; to = s.here.to; kind = newline }; more = [] })
step (x ∷ xs) s = arrive x (done [] tt (record { last = s.here.to; here = x; more = xs }))

unfoldable pub next : Reader Line (Unit {0})
next s = step s.more s

-- The token ahead: the whole, its kind, and the end of the token before it.
unfoldable pub ahead : Reader Line Lexeme
ahead s = done [] s.here s

unfoldable pub kind : Reader Line Kind
kind s = done [] s.here.kind s

unfoldable pub passed : Reader Line ℕ
passed s = done [] s.last s

-- How many tokens stand behind it: no loop within a line goes round more often (Claims: CountersSuffice).
unfoldable pub left : Reader Line ℕ
left s = done [] (length s.more) s

-- Most refusals have the span of the token ahead.
unfoldable pub refuse_here : {A : Type 0} → ℕ → Reader Line A
refuse_here n s = refused (at n s.here.from s.here.to)

-- Questions to a kind.
unfoldable pub is_mark : Char → Kind → Bool
is_mark a (mark c) = is a c
is_mark a (word w) = false
is_mark a (number v) = false
is_mark a (quoted b w) = false
is_mark a newline = false
is_mark a blank = false
is_mark a comment = false
is_mark a invalid = false
is_mark a end = false
is_mark a (bad n) = false

unfoldable pub is_line_end : Kind → Bool
is_line_end newline = true
is_line_end end = true
is_line_end (mark c) = false
is_line_end (word w) = false
is_line_end (number v) = false
is_line_end (quoted b w) = false
is_line_end blank = false
is_line_end comment = false
is_line_end invalid = false
is_line_end (bad n) = false

-- The token ahead has to be a given mark, and is passed.
unfoldable pub expect : Char → ℕ → Reader Line (Unit {0})
expect a n = kind >>= λ k. if is_mark a k then next else refuse_here n

unfoldable pub open_reader : Unit {0}
unfolding open_lexemes after thence ◌>>=◌ ◌>>◌ return write refuse or_back attempt refused_as arrive step next ahead kind passed left refuse_here
    is_mark is_line_end expect
open_reader = tt
