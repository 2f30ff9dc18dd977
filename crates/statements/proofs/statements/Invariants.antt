-- The invariant: what is read from the start is what was read and written so far, and then what is read from here. Each statement read leaves fewer tokens.
-- Assumes nothing.
use Rattle.rules.proofs.Progress.{size}
use Rattle.state.specs.Views.{state_of}
use Rattle.statements.proofs.Run.{Runs}
use Rattle.statements.proofs.statements.Given as goal

abbrev pub invariant-loop-after : goal.invariant-loop-after
invariant-loop-after l = Runs l.table.rows.now l.source.text.now l.initial.q l.initial.out l.q l.out

abbrev pub decreases-loop-after : goal.decreases-loop-after
decreases-loop-after l = size (state_of l.source.text.now l.q)
