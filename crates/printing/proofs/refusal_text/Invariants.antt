-- The numbers so far are put behind the word.
use Rattle.std.proofs.Common.{take}
use Rattle.text.specs.Text.{numbers, Put}
use Rattle.printing.proofs.refusal_text.Given as goal

abbrev pub invariant-loop-value : goal.invariant-loop-value
invariant-loop-value l = Put (numbers (take l.value-index l.value-items)) l.initial.text l.text
