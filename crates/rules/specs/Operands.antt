-- Operands. RULES 6.
use Rattle.std.specs.Prelude.{Bool, true, false, ◌||◌, ℕ, zero, suc, ◌+◌, eqb, if◌then◌else◌}
use Rattle.std.proofs.Math.Option.{Option, none, some}
use Rattle.lexer.specs.Text.{maybe}
use Rattle.rules.specs.Lexemes.{Kind, word, number, quoted, mark, newline, blank, comment, invalid, end, bad, text_of, name_in}
use Rattle.names.specs.Names.{registers, segments, sizes}
use Rattle.rules.specs.Records.{OR, OS, OI, OF, OD, OX}
use Rattle.rules.specs.Reader.{Reader, Line, at, encoding, ◌>>=◌, ◌>>◌, return, write, refuse, attempt, next, ahead, kind, passed, left, refuse_here, is_mark, is_line_end, expect}
use Rattle.rules.specs.Expressions.{expression, open_expressions}

-- An immediate is an expression; `a:b` is far.
unfoldable pub immediate_or_far : Reader Line (Unit {0})
immediate_or_far = do
  x ← ahead
  expression
  k ← kind
  if is_mark ":" k then (do
    next
    expression
    t ← passed
    write (OF x.from t))
      else (do
        t ← passed
        write (OI x.from t))

-- The registers that a bracket may begin with, by their numbers.
abbrev pub bx : ℕ
bx = 11

abbrev pub bp : ℕ
bp = 13

abbrev pub si : ℕ
si = 14

abbrev pub di : ℕ
di = 15

-- The encodings of RULES 6.6: si, di, bp or bx alone; bx or bp with si or di.
unfoldable pub alone : ℕ → ℕ
alone r = if eqb r si then 4 else if eqb r di then 5 else if eqb r bp then 6 else 7

unfoldable pub is_index : ℕ → Bool
is_index r = eqb r si || eqb r di

unfoldable pub is_base : ℕ → Bool
is_base r = eqb r bx || eqb r bp

unfoldable pub paired : ℕ → ℕ → ℕ
paired r q = (if eqb r bx then 0 else 2) + (if eqb q si then 0 else 1)

-- Behind the first register r, which began at f: `+` si or di. Where no register follows the plus, there is nothing here: the reader goes
-- back to the plus. si or di, plus si or di, is 33; another register is 25.
unfoldable pub plus_index : ℕ → ℕ → Reader Line (Option ℕ)
plus_index f r = do
  next
  x ← ahead
  maybe (name_in registers x.kind) (return none) λ q.
      if is_index q then (do
        next
        t ← passed
        if is_index r then (refuse (at 33 f t)) else (return (some (paired r q))))
      else (refuse (encoding f x.to r q))

-- The encoding behind the first register.
unfoldable pub second : ℕ → ℕ → Reader Line ℕ
second f r = do
  k ← kind
  if is_mark "+" k then (attempt (plus_index f r) (alone r)) else (return (alone r))

-- Then bx, bp, si or di, perhaps `+` si or di. Another register is 25, from its start to the end of the token before it.
unfoldable pub registers_ahead : Reader Line (Option ℕ)
registers_ahead = do
  x ← ahead
  t ← passed
  maybe (name_in registers x.kind) (return none) λ r.
      if is_base r || is_index r then (do
        next
        e ← second x.from r
        return (some e))
      else (refuse (encoding x.from t r 255))

-- An expression, unless the bracket closes. It gives 1 where there is one, else 0.
unfoldable pub displacement : Reader Line ℕ
displacement = do
  k ← kind
  if is_mark "]" k then (return 0) else (expression >> return 1)

-- A bracket's end, and the record of a bracket that began at f; 32 where nothing follows the override.
unfoldable pub close : ℕ → ℕ → ℕ → Option ℕ → ℕ → Reader Line (Unit {0})
close f size segment e has = do
  expect "]" 13
  t ← passed
  maybe e
      (if eqb has 0 then (refuse (at 32 f t)) else (write (OD f t size segment)))
      λ n. write (OX f t n has size segment)

-- A segment name there needs a colon. It gives 1 more than its number, or 0.
unfoldable pub override : Reader Line ℕ
override = do
  k ← kind
  maybe (name_in segments k) (return 0) λ s. do
    next
    expect ":" 12
    return (suc s)

-- What a bracket may begin with.
unfoldable pub is_word : Kind → Bool
is_word k = maybe (text_of k) false (λ w. true)

unfoldable pub is_number : Kind → Bool
is_number (word w) = false
is_number (number v) = true
is_number (quoted b w) = false
is_number (mark c) = false
is_number newline = false
is_number blank = false
is_number comment = false
is_number invalid = false
is_number end = false
is_number (bad n) = false

-- A bracket starts with a number or a name, else 24.
unfoldable pub memory : ℕ → Reader Line (Unit {0})
memory size = do
  x ← ahead
  next
  k ← kind
  if is_word k then (do
    s ← override
    e ← registers_ahead
    has ← displacement
    close x.from size s e has)
      else if is_number k then (expression >> close x.from size 0 none 1)
      else (refuse_here 24)

-- An operand. Size words may repeat; the last counts, and only before a bracket. At most n of them follow, and the n of `operand` never runs
-- out (Claims: CountersSuffice); `size` is the last one passed.
unfoldable pub operand_sized : ℕ → ℕ → Reader Line (Unit {0})
operand_sized zero size = immediate_or_far
operand_sized (suc n) size = do
  x ← ahead
  if is_mark "[" x.kind then (memory size)
      else maybe (name_in registers x.kind) (maybe (name_in segments x.kind) (maybe (name_in sizes x.kind) immediate_or_far
      (λ z. next >> operand_sized n (suc z)))
      (λ s. next >> write (OS x.from x.to s)))
      (λ r. next >> write (OR x.from x.to r))

unfoldable pub operand : Reader Line (Unit {0})
operand = do
  n ← left
  operand_sized (suc n) 0

-- The operands of an instruction, none, one, or two with a comma between them (11): how many, and their span. With none it is end..end of
-- the word.
pub record Operands : Type 0 where
  pub count : ℕ
  pub from : ℕ
  pub to : ℕ

unfoldable pub operands : Reader Line Operands
operands = do
  x ← ahead
  l ← passed
  if is_line_end x.kind then (return (record { count = 0; from = l; to = l }))
      else (do
        operand
        k ← kind
        if is_line_end k then (do
          t ← passed
          return (record { count = 1; from = x.from; to = t }))
            else if is_mark "," k then (do
              next
              operand
              t ← passed
              return (record { count = 2; from = x.from; to = t }))
            else (refuse_here 11))

unfoldable pub open_operands : Unit {0}
unfolding open_expressions immediate_or_far alone is_index is_base paired plus_index second registers_ahead displacement close override is_word is_number memory
    operand_sized operand operands
open_operands = tt
