-- The static is the definition's list of bytes, and that is a good table.
use mathlib.Core.Path.{refl}
use Rattle.lexer.specs.Text.{bytes}
use Rattle.names.specs.Table.{spellings, row, rows_of, operations}
use Rattle.names.proofs.Good.{operations_good}
use Rattle.names.proofs.operations.Goals as goal

pub invariant_of-result : goal.invariant_of-result
unfolding bytes spellings row rows_of operations
invariant_of-result c = record { good = operations_good }

pub returns : goal.returns
unfolding bytes spellings row rows_of operations
returns c = refl
