-- Parts of the rules' readers of operands, each a function of the code.
use Rattle.std.specs.Prelude.{ℕ, if◌then◌else◌}
use Rattle.std.proofs.Math.Option.{Option, some}
use Rattle.rules.specs.Records.{OF}
use Rattle.rules.specs.Reader.{Reader, Line, at, ◌>>=◌, ◌>>◌, return, write, refuse, next, passed}
use Rattle.rules.specs.Expressions.{expression}
use Rattle.rules.specs.Operands as rules

-- the colon and the second expression of a far operand that began at f
abbrev pub far : ℕ → Reader Line (Unit {0})
far f = do
  next
  expression
  t ← passed
  write (OF f t)

-- the second register, q, which is si or di, behind the first, r, which began at f
abbrev pub index : (f r q : ℕ) → Reader Line (Option ℕ)
index f r q = do
  next
  t ← passed
  if rules.is_index r then (refuse (at 33 f t)) else (return (some (rules.paired r q)))

-- the first register, r, which began at f, and what follows it
abbrev pub first : (f r : ℕ) → Reader Line (Option ℕ)
first f r = do
  next
  e ← rules.second f r
  return (some e)

-- what stands in a bracket that began at f and whose first token is a name
abbrev pub address : (f size : ℕ) → Reader Line (Unit {0})
address f size = do
  s ← rules.override
  e ← rules.registers_ahead
  has ← rules.displacement
  rules.close f size s e has

-- the comma and the second operand, where the first began at f
abbrev pub source : ℕ → Reader Line rules.Operands
source f = do
  next
  rules.operand
  t ← passed
  return (record { count = 2; from = f; to = t })
