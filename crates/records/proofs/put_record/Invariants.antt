use mathlib.Core.List.{◌++◌}
use lib.ListN.{take}
use Rattle.rules.specs.Records.{fields}
use Rattle.records.specs.Marks.{letters_of}
use Rattle.records.specs.Writes.{Wrote}
use Rattle.records.proofs.put_record.Given as goal

abbrev pub invariant-loop-v : goal.invariant-loop-v
invariant-loop-v g l = Wrote l.fn.at (letters_of l.fn.mark ++ fields (take l.v-index l.fn.numbers)) l.fn.out l.out l.w
