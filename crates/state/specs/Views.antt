-- The code's state and its answers, seen as those of the rules.
use Rattle.std.specs.Prelude.{ℕ, ◌-◌, ◌≡◌, Bool, true, false, ◌||◌, List, [], ◌∷◌, eqb, length, take, drop, if◌then◌else◌, Option, Some, None, Result, Ok, Err}
use Prim.Native.Char.{Char, code}
use Rattle.rules.specs.Lexemes.{Kind, word, number, quoted, mark, newline, invalid, bad, Lexeme, tokens_from}
use Rattle.rules.specs.Records.{Record, listing}
use Rattle.rules.specs.Reader.{Cause, at, numbers_of, done, refused, Reader, Line, next, expect}
use Rattle.rules.specs.Statements.{Row, State, rows}
use Rattle.lexer.specs.declared.Kind.{Kind as TokenKind}
use Rattle.lexer.specs.Scanned.{number_of as kind_number}
use Rattle.records.specs.declared.Writer.{Writer}
use Rattle.records.specs.Writers.{Puts, SameBuffer}
use Rattle.refusals.specs.declared.Reason.{Reason}
use Rattle.refusals.specs.declared.Refusal.{Refusal}
use Rattle.refusals.specs.Refusals.{number_of, numbers, by_numbers}
use Rattle.state.specs.declared.Fetched.{Fetched}
use Rattle.state.specs.declared.Parser.{Parser}

-- A line ends at its line feed or at the end of the source.
abbrev pub ends_line : TokenKind → Bool
ends_line k = eqb (kind_number k) 10 || eqb (kind_number k) 0

-- The token ahead does not end its line.
abbrev pub InLine : Parser → Type 0
InLine p = ends_line p.kind ≡ false

-- a state from its numbers
abbrev pub parser_of : (pos start last : ℕ) → TokenKind → (value : ℕ) → Parser
parser_of e a l k v = record { pos = e; token_start = a; last_token_end = l; kind = k; value = v }

-- The kind of a token from the number of its kind, its value and its text. The end of the source is a line end. By the number and not by a row for
-- each `Kind`: twelve of the 23 are marks, each by its own number.
unfoldable pub kind_by : ℕ → ℕ → List ℕ → Kind
kind_by k v w =
    if eqb k 97 then word w
    else if eqb k 48 then number v
    else if eqb k 39 then quoted true (take (length w - 2) (drop 1 w))
    else if eqb k 34 then quoted false (drop 1 w)
    else if eqb k 10 then newline
    else if eqb k 0 then newline
    else if eqb k 33 then invalid
    else if eqb k 30 then bad false
    else if eqb k 31 then bad true
    else mark k

-- A character that is the kind byte of its own mark, and of no other token.
pub record Plain (a : Char) : Type 0 where
  pub word' : eqb 97 (code a) ≡ false
  pub number' : eqb 48 (code a) ≡ false
  pub closed' : eqb 39 (code a) ≡ false
  pub open' : eqb 34 (code a) ≡ false
  pub feed' : eqb 10 (code a) ≡ false
  pub end' : eqb 0 (code a) ≡ false
  pub stray' : eqb 33 (code a) ≡ false
  pub digit' : eqb 30 (code a) ≡ false
  pub large' : eqb 31 (code a) ≡ false

-- the bytes from a to before e
unfoldable pub text_of : List ℕ → ℕ → ℕ → List ℕ
text_of s a e = take (e - a) (drop a s)

-- the token of a kind from a to before e
abbrev pub token_of : List ℕ → (a e k v : ℕ) → Lexeme
token_of s a e k v = record { from = a; to = e; kind = kind_by k v (text_of s a e) }

abbrev pub here_of : List ℕ → Parser → Lexeme
here_of s p = token_of s p.token_start p.pos (kind_number p.kind) p.value

-- what stands behind a token of kind k that ends at e: nothing behind the end of the source
unfoldable pub behind : List ℕ → ℕ → ℕ → List Lexeme
behind s k e = if eqb k 0 then [] else tokens_from e 0 (drop e s)

abbrev pub more_in : List Row → List Lexeme
more_in [] = []
more_in (r ∷ rs) = r.more

abbrev pub below_in : List Row → List Row
below_in [] = []
below_in (r ∷ rs) = rs

-- the state whose last token ended at l, with x ahead and xs behind it in the source
unfoldable pub more_of : Lexeme → List Lexeme → List Lexeme
more_of x xs = more_in (rows (x ∷ xs))

unfoldable pub below_of : Lexeme → List Lexeme → List Row
below_of x xs = below_in (rows (x ∷ xs))

abbrev pub line_from : ℕ → Lexeme → List Lexeme → Line
line_from l x xs = record { last = l; here = x; more = more_of x xs }

abbrev pub state_from : ℕ → Lexeme → List Lexeme → State
state_from l x xs = record { line = line_from l x xs; below = below_of x xs }

abbrev pub state_of : List ℕ → Parser → State
state_of s p = state_from p.last_token_end (here_of s p) (behind s (kind_number p.kind) p.pos)

abbrev pub line_of : List ℕ → Parser → Line
line_of s p = (state_of s p).line

abbrev pub rows_of : List ℕ → Parser → List Row
rows_of s p = (state_of s p).below

-- A reader reads within a line, and leaves the rows below alone; or it reads in the whole state.
pub data Level : Type 0 where
  line : Level
  whole : Level

abbrev pub On : Level → Type 0
On line = Line
On whole = State

abbrev pub view : (L : Level) → List ℕ → Parser → On L
view line s p = line_of s p
view whole s p = state_of s p

abbrev pub Kept : Level → List ℕ → Parser → Parser → Type 0
Kept line s p q = rows_of s q ≡ rows_of s p
Kept whole s p q = Unit {0}

-- From p the reader m comes to q with the value a; its records are put.
pub record Gives (L : Level) (s : List ℕ) (p : Parser) {A : Type 0} (m : Reader (On L) A) (old new : Writer) (q : Parser) (a : A) : Type 0 where
  pub v : List Record
  pub reads : m (view L s p) ≡ done v a (view L s q)
  pub kept : Kept L s p q
  pub puts : Puts (listing v) old new

-- From p the reader m refuses so.
pub record Denies (L : Level) (s : List ℕ) (p : Parser) {A : Type 0} (m : Reader (On L) A) (r : Refusal) : Type 0 where
  pub cause : Cause
  pub reads : m (view L s p) ≡ refused cause
  pub by_numbers : numbers r ≡ numbers_of cause

-- From p the reader m comes to q with the value a and writes nothing.
pub record Comes (L : Level) (s : List ℕ) (p : Parser) {A : Type 0} (m : Reader (On L) A) (q : Parser) (a : A) : Type 0 where
  pub reads : m (view L s p) ≡ done [] a (view L s q)
  pub kept : Kept L s p q

-- What the code's answers say of the reader that is meant. At a refusal the buffer's bytes and the writer's place are free. So the calls lend
-- a buffer of their own, or read a second time what was not refused.
abbrev pub ReadsAs : (L : Level) → List ℕ → Parser → Reader (On L) (Unit {0}) → Writer → Writer → Result Parser Refusal → Type 0
ReadsAs L s p m old new (Ok q) = Gives L s p m old new q tt
ReadsAs L s p m old new (Err r) = Denies L s p m r

-- And the writer has the same buffer, refused or not.
pub record Reads (L : Level) (s : List ℕ) (p : Parser) (m : Reader (On L) (Unit {0})) (old new : Writer) (r : Result Parser Refusal) : Type 0 where
  pub so : ReadsAs L s p m old new r
  pub lent : SameBuffer old new

-- A reader that gives a value, which the code has as a B; `seen` says which one it is.
abbrev pub ReadsWithAs : (L : Level) → List ℕ → Parser → {A B : Type 0} → (B → A) → Reader (On L) A → Writer → Writer
    → Result (Parser × B) Refusal → Type 0
ReadsWithAs L s p seen m old new (Ok q) = Gives L s p m old new q.0 (seen q.1)
ReadsWithAs L s p seen m old new (Err r) = Denies L s p m r

pub record ReadsWith (L : Level) (s : List ℕ) (p : Parser) {A B : Type 0} (seen : B → A) (m : Reader (On L) A) (old new : Writer)
    (r : Result (Parser × B) Refusal) : Type 0 where
  pub so : ReadsWithAs L s p seen m old new r
  pub lent : SameBuffer old new

abbrev pub PassesAs : (L : Level) → List ℕ → Parser → Reader (On L) (Unit {0}) → Result Parser Refusal → Type 0
PassesAs L s p m (Ok q) = Comes L s p m q tt
PassesAs L s p m (Err r) = Denies L s p m r

pub record Passes (L : Level) (s : List ℕ) (p : Parser) (m : Reader (On L) (Unit {0})) (r : Result Parser Refusal) : Type 0 where
  pub so : PassesAs L s p m r

-- One that writes nothing and gives a value.
abbrev pub LooksAs : (L : Level) → List ℕ → Parser → {A B : Type 0} → (B → A) → Reader (On L) A → Result (Parser × B) Refusal → Type 0
LooksAs L s p seen m (Ok q) = Comes L s p m q.0 (seen q.1)
LooksAs L s p seen m (Err r) = Denies L s p m r

pub record Looks (L : Level) (s : List ℕ) (p : Parser) {A B : Type 0} (seen : B → A) (m : Reader (On L) A) (r : Result (Parser × B) Refusal) : Type 0 where
  pub so : LooksAs L s p seen m r

-- The first token from a place on: from a to before e, of kind k and value v; and what stands behind it.
pub record Fetches (s : List ℕ) (place a e : ℕ) (k : TokenKind) (v : ℕ) : Type 0 where
  pub tokens : tokens_from place 0 (drop place s) ≡ token_of s a e (kind_number k) v ∷ behind s (kind_number k) e

-- A kind that is refused (30, 31), and why.
abbrev pub is_bad : TokenKind → Bool
is_bad k = eqb (kind_number k) 30 || eqb (kind_number k) 31

abbrev pub FaultOf : TokenKind → Option Reason → Type 0
FaultOf k None = is_bad k ≡ false
FaultOf k (Some r) = (number_of r ≡ kind_number k) × (is_bad k ≡ true)

-- The first token from a place on, which is not refused; or the refusal of the one that stands there.
abbrev pub TokenOf : List ℕ → ℕ → Result Fetched Refusal → Type 0
TokenOf s place (Ok t) = Fetches s place t.start t.end t.kind t.value × (is_bad t.kind ≡ false)
TokenOf s place (Err r) =
    (a e : ℕ) × (k : TokenKind) × (v : ℕ) × Fetches s place a e k v × (is_bad k ≡ true) × (numbers r ≡ numbers_of (at (kind_number k) a e))

-- Past the token ahead, which has to be of this kind, and is refused otherwise. Where the kind is a mark's, that is `expect`.
pub record Expects (s : List ℕ) (p : Parser) (kind : TokenKind) (n : Reason) (r : Result Parser Refusal) : Type 0 where
  pub there : p.kind ≡ kind → Passes line s p next r
  pub other : (p.kind ≡ kind → ⊥) → by_numbers r ≡ Err (numbers_of (at (number_of n) p.token_start p.pos))
  pub so : (a : Char) → code a ≡ kind_number kind → Plain a → Passes line s p (expect a (number_of n)) r
