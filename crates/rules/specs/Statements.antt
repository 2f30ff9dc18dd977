-- Statements, and the reading of a source. RULES 7.
use Rattle.std.specs.Prelude.{Bool, true, false, ◌||◌, List, [], ◌∷◌, ◌++◌, ℕ, zero, suc, eqb, leb, ltb, length, take, if◌then◌else◌}
use Rattle.lexer.specs.Text.{maybe, is}
use Rattle.rules.specs.Lexemes.{Kind, word, number, quoted, mark, newline, blank, comment, invalid, end, bad, Lexeme, tokens_from, name_in, operation_in}
use Rattle.names.specs.Names.{directives}
use Rattle.names.specs.Table.{operations}
use Rattle.rules.specs.Records.{Record, ST, LL, LI, LD, LC, LT, field, open_records}
use Rattle.rules.specs.Reader.{Reader, Answer, done, refused, Line, Cause, at, nowhere, ◌>>=◌, ◌>>◌, return, write, refuse, arrive, next, ahead, kind, passed, left, refuse_here, is_mark, is_line_end}
use Rattle.rules.specs.Expressions.{expression}
use Rattle.rules.specs.Operands.{operands, is_word, open_operands}

-- What a reading is told: its table of operations, and which numbers it takes in a data line, by how many bytes a number has there.
pub record Profile : Type 0 where
  pub table : List ℕ
  pub takes : ℕ → ℕ → Bool

-- The largest number that fits a data line's word, RULES 7.6: one byte of `db`, two of `dw`.
unfoldable pub largest : ℕ → ℕ
largest width = if eqb width 1 then 255 else 65535

unfoldable pub fits : ℕ → ℕ → Bool
fits width v = leb v (largest width)

-- The reading by a table, and by the table of the names.
abbrev pub fitting : List ℕ → Profile
fitting table = record { table = table; takes = fits }

abbrev pub present : Profile
present = fitting operations

-- The reading of the base rules (RULES 14.3), and of the original: any number is taken, and its low bytes are kept. No call reads so; it is here to be
-- compared with (Data: OnlyTooWide).
abbrev pub cutting : List ℕ → Profile
cutting table = record { table = table; takes = λ width v. true }

-- The rows of a source: its tokens up to and with each line end.
pub record Row : Type 0 where
  pub first : Lexeme
  pub more : List Lexeme

-- Where a statement is read: what is left of the line, and the rows below it.
pub record State : Type 0 where
  pub line : Line
  pub below : List Row

unfoldable pub push : Lexeme → List Row → List Row
push x [] = record { first = x; more = [] } ∷ []
push x (r ∷ rs) = record { first = x; more = r.first ∷ r.more } ∷ rs

unfoldable pub rows : List Lexeme → List Row
rows [] = []
rows (x ∷ xs) = if is_line_end x.kind then record { first = x; more = [] } ∷ rows xs else push x (rows xs)

-- What reads within a line reads in a state, and leaves the rows below alone.
unfoldable pub over : {A : Type 0} → List Row → Answer Line A → Answer State A
over rs (done w a l) = done w a (record { line = l; below = rs })
over rs (refused r) = refused r

unfoldable pub in_line : {A : Type 0} → Reader Line A → Reader State A
in_line m s = over s.below (m s.line)

-- At a row's first token. No token of the row is passed yet.
unfoldable pub first_of : Row → Line
first_of r = record { last = r.first.from; here = r.first; more = r.more }

unfoldable pub enter : Row → List Row → State
enter r rs = record { line = first_of r; below = rs }

-- To the next row, if there is one.
unfoldable pub step_row : List Row → Reader State (Unit {0})
step_row [] s = done [] tt s
step_row (r ∷ rs) s = arrive r.first (done [] tt (enter r rs))

unfoldable pub next_row : Reader State (Unit {0})
next_row s = step_row s.below s

-- The line has to end here; to the next one.
unfoldable pub line_end : Reader State (Unit {0})
line_end = do
  k ← in_line kind
  if is_line_end k then next_row else (in_line (refuse_here 10))

-- Past empty lines, to the first token of a line that has one, or to the end.
unfoldable pub skip : Line → List Row → Answer State (Unit {0})
skip l [] = done [] tt (record { line = l; below = [] })
skip l (r ∷ rs) =
    if is_line_end l.here.kind then arrive r.first (skip (first_of r) rs)
    else done [] tt (record { line = l; below = r ∷ rs })

unfoldable pub skip_lines : Reader State (Unit {0})
skip_lines s = skip s.line s.below

-- Past the word that a statement begins with.
unfoldable pub passing : Reader State (Unit {0}) → Reader State (Unit {0})
passing m = in_line next >> m

-- A label, whose name was x; a colon may follow on its line, and no line end is needed. LL leaves the colon out.
unfoldable pub label : Lexeme → Reader Line (Unit {0})
label x = do
  k ← kind
  if is_mark ":" k then next else (return tt)
  write (LL x.from x.to)

abbrev pub rep : ℕ
rep = 46

abbrev pub repne : ℕ
repne = 47

-- An instruction, whose word was x. `rep` and `repne` take no operands and need no line end.
unfoldable pub instruction : Lexeme → ℕ → Reader State (Unit {0})
instruction x op =
    if eqb op rep || eqb op repne then (do
      t ← in_line passed
      write (LI x.from t op 0 t t))
    else (do
      o ← in_line operands
      t ← in_line passed
      line_end
      write (LI x.from t op o.count o.from o.to))

-- A constant, whose `equ` was x.
unfoldable pub constant : Lexeme → Reader State (Unit {0})
constant x = do
  in_line expression
  t ← in_line passed
  line_end
  write (LC x.from t)

-- The numbers that are taken in a data line are those of a test.
module _ (takes : ℕ → ℕ → Bool) where
  -- The bytes of the literals up to the line's end: of a string its characters, of a number its `width` bytes, the low one first; a comma has none.
  -- There are at most n literals, and the n of `data_of` never runs out (Claims: CountersSuffice). 60 is met when its number is taken, and so
  -- before the token behind it.
  unfoldable pub literal_of : Kind → ℕ → Reader Line (List ℕ) → Reader Line (List ℕ)
  literal_of newline width others = return []
  literal_of end width others = return []
  literal_of (mark c) width others = if is "," c then (next >> others) else (refuse_here 15)
  literal_of (quoted closed s) width others = if closed then (next >> others >>= λ ds. return (s ++ ds)) else (refuse_here 26)
  literal_of (number v) width others =
      if takes width v then (next >> others >>= λ ds. return (take width (field v) ++ ds)) else (refuse_here 60)
  literal_of (word w) width others = refuse_here 15
  literal_of blank width others = refuse_here 15
  literal_of comment width others = refuse_here 15
  literal_of invalid width others = refuse_here 15
  literal_of (bad r) width others = refuse_here 15

  unfoldable pub literals : ℕ → ℕ → Reader Line (List ℕ)
  literals zero width = return []
  literals (suc n) width = kind >>= λ k. literal_of k width (literals n width)

-- `db` or `dw` without data is 23, at the word x.
unfoldable pub some_data : Lexeme → List ℕ → Reader State (Unit {0})
some_data x [] = refuse (at 23 x.from x.to)
some_data x (b ∷ bs) = do
  t ← in_line passed
  line_end
  write (LD x.from t (b ∷ bs))

unfoldable pub data_of : (ℕ → ℕ → Bool) → Lexeme → ℕ → Reader State (Unit {0})
data_of takes x width = do
  n ← in_line left
  ds ← in_line (literals takes (suc n) width)
  some_data x ds

-- What a reading comes to: the records, or the first refusal.
pub data Outcome : Type 0 where
  accepted : List Record → Outcome
  refusal : Cause → Outcome

unfoldable pub outcome : Answer State (Unit {0}) → Outcome
outcome (done w a s) = accepted w
outcome (refused r) = refusal r

module _ (profile : Profile) where
  -- A statement whose first token is ahead; `times` reads one that begins with that word. A word that is neither an operation nor a directive
  -- becomes a label; without a word it is 20.
  unfoldable pub line : Reader State (Unit {0}) → Reader State (Unit {0})
  line times = do
    x ← in_line ahead
    maybe (operation_in profile.table x.kind)
        (maybe (name_in directives x.kind)
        (if is_word x.kind then (passing (in_line (label x))) else (in_line (refuse_here 20)))
        λ n. if eqb n 0 then (passing (constant x)) else if ltb n 3 then (passing (data_of profile.takes x n)) else times)
        λ op. passing (instruction x op)

  -- The content of a `times`, whose word was x; 34, at that word, where there is none.
  unfoldable pub content : Reader State (Unit {0}) → Lexeme → Reader State (Unit {0})
  content times x = do
    k ← in_line kind
    if is_line_end k then (refuse (at 34 x.from x.to)) else (line times)
    write LT

  -- `times`: its count, and behind any empty lines its content, which may be another one. n more may be nested; at 0 the word is refused with 5.
  unfoldable pub times : ℕ → Reader State (Unit {0})
  times zero = in_line (refuse_here 5)
  times (suc n) = do
    x ← in_line ahead
    passing (in_line expression >> (skip_lines >> content (times n) x))

  -- A statement, ST first, or the answer that none is left. A content may itself be a `times`, up to 16 deep.
  unfoldable pub begun : Reader State Bool
  begun = do
    x ← in_line ahead
    if is_line_end x.kind then (return false) else (write (ST x.from) >> line (times 16) >> return true)

  unfoldable pub statement : Reader State Bool
  statement = skip_lines >> begun

  -- Statements, at most n, until none is left or one is refused. The n of `read_from` never runs out (Claims: CountersSuffice).
  unfoldable pub statements : ℕ → Reader State (Unit {0})
  statements zero = return tt
  statements (suc n) = do
    more ← statement
    if more then (statements n) else (return tt)

  -- The first token is read, then statements until none is left.
  unfoldable pub read_rows : ℕ → List Row → Answer State (Unit {0})
  read_rows n [] = refused (nowhere 0)  -- no source has no row
  read_rows n (r ∷ rs) = arrive r.first (statements n (enter r rs))

  -- The reading of bytes that may be read, which stand from place p on, or are a source. What is asked of a source before is in Calls.
  unfoldable pub read_from : ℕ → List ℕ → Outcome
  read_from p s = outcome (read_rows (suc (length s)) (rows (tokens_from p 0 s)))

  unfoldable pub reading : List ℕ → Outcome
  reading source = read_from 0 source

unfoldable pub open_statements : Unit {0}
unfolding open_operands largest fits push rows over in_line first_of enter step_row next_row line_end skip skip_lines passing label instruction constant
    literal_of literals some_data data_of line content times begun statement statements outcome read_rows read_from reading open_records
open_statements = tt
