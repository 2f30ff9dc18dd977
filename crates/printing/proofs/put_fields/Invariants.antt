-- The mark and the fields so far are put.
use Rattle.std.proofs.Common.{◌++◌}
use Rattle.records.specs.Marks.{letters_of}
use Rattle.text.specs.Text.{numbers, Put}
use Rattle.printing.specs.Shapes.{nths}
use Rattle.printing.proofs.put_fields.Given as goal

abbrev pub invariant-loop-i : goal.invariant-loop-i
invariant-loop-i l = Put (letters_of l.fn.mark ++ numbers (nths l.i l.s)) l.fn.text l.text
