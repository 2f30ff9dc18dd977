-- What the code's answers say of the reader that is meant: how its values are seen, and what a token names.
use Rattle.std.specs.Prelude.{ℕ, suc, Bool, true, false}
use Rattle.std.specs.Prelude.{Option as Maybe, None, Some}
use Rattle.std.proofs.Math.Option.{Option, none, some}
use Rattle.rules.specs.Lexemes.{Kind, name_in}
use Rattle.names.specs.Names.{registers, segments, sizes, name_from}
use Rattle.names.specs.declared.Name.{Name}
use Rattle.rules.specs.Operands.{Operands}
use Rattle.operands.specs.declared.OperandList.{OperandList}

abbrev pub operands_of : OperandList → Operands
operands_of o = record { count = o.count; from = o.from; to = o.to }

-- What a token names: a register, else a segment, else a size word.
abbrev pub name_at : Kind → Maybe Name
name_at k = name_from (name_in registers k) (name_in segments k) (name_in sizes k)

-- A number that is the rules' own.
abbrev pub itself : ℕ → ℕ
itself n = n

-- The encoding of registers, where there are any.
abbrev pub encoding_of : Maybe ℕ → Option ℕ
encoding_of (Some e) = some e
encoding_of None = none

-- A size or a segment as the rules and the records have it: 1 more than its number, else 0.
abbrev pub coded : Maybe ℕ → ℕ
coded (Some n) = suc n
coded None = 0

-- Whether there is a displacement: 1 or 0.
abbrev pub flag : Bool → ℕ
flag true = 1
flag false = 0
