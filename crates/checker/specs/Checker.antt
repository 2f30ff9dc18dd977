-- What the checker of a listing answers (41), and its parts. RULES 8.5.
use Rattle.std.specs.Prelude.{Bool, false, List, ℕ, ◌+◌, ◌*◌, leb, length, take, drop, if◌then◌else◌, Some, None}
use Rattle.std.specs.Prelude as std
use Rattle.std.proofs.Math.Option.{Option, none, some}
use Rattle.lexer.specs.Text.{maybe}
use Rattle.rules.specs.Decode.{Sized, nth, record_of, decode}
use Rattle.rules.specs.WellFormed.{Stack, given, checked, well_formed}
use Rattle.checker.specs.declared.Stack.{Stack as Counters}

-- A listing is well-formed for a source of length n: its bytes are records, and those are well-formed.
unfoldable pub well_formed_bytes : List ℕ → ℕ → Bool
well_formed_bytes b n = maybe (decode b) false (well_formed n)

-- The i-th field, or 0 where the bytes end before it does.
unfoldable pub field_in : ℕ → List ℕ → ℕ
field_in i s = if leb (4 * i + 4) (length s) then nth i s else 0

-- The stack behind a record, and the number of the record's bytes.
pub record Pass : Type 0 where
  pub stack : Stack
  pub size : ℕ

abbrev pub sized : ℕ → Option Stack → Option Pass
sized n none = none
sized n (some k) = some (record { stack = k; size = n })

-- A record that is read is checked; the next of the bytes s is.
abbrev pub passes : ℕ → Stack → Option Sized → Option Pass
passes n k none = none
passes n k (some z) = sized z.size (checked n k z.what)

unfoldable pub next_pass : ℕ → Stack → List ℕ → Option Pass
next_pass n k s = passes n k (record_of (take 2 s) (drop 2 s))

-- A record of n bytes behind its mark, if there are as many, and if b says that its fields are good; k is the stack behind it.
unfoldable pub whole : ℕ → List ℕ → Bool → Option Stack → Option Pass
whole n s b k = if leb n (length s) then sized (n + 2) (given b k) else none

-- The code's counters and answers, seen as those of the rules.
abbrev pub stack_of : Counters → Stack
stack_of k = record { place = k.place; floor = k.floor; before = k.before; operands = k.operands; above = k.above; closed = k.closed }

-- how much stands of a statement
abbrev pub height_of : Counters → ℕ
height_of k = k.before + k.operands + k.above

abbrev pub checked_of : std.Option Counters → Option Stack
checked_of (Some k) = some (stack_of k)
checked_of None = none

abbrev pub passed_of : std.Option (Counters × ℕ) → Option Pass
passed_of (Some k) = some (record { stack = stack_of k.0; size = k.1 })
passed_of None = none
