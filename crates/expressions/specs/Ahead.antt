-- The token ahead: the operator that it is, and a record that is put for it.
use Rattle.std.specs.Prelude.{ℕ, Option as Answer, Some, None}
use Rattle.std.proofs.Math.Option.{Option, none, some}
use Rattle.operators.specs.Operators.{operator_number}
use Rattle.operators.specs.declared.Operator.{Operator}
use Rattle.rules.specs.Records.{Record}
use Rattle.rules.specs.Reader.{Reader, Line, write, next, ◌>>◌}

-- The operator that the token ahead is, if it is one, by its number.
abbrev pub number_in : Answer Operator → Option ℕ
number_in (Some op) = some (operator_number op)
number_in None = none

-- Past the token ahead, for which one record is written.
abbrev pub token_record : Record → Reader Line (Unit {0})
token_record r = next >> write r
