-- The invariant: what is skipped from the start is what is skipped from here. Each line feed passed leaves fewer tokens.
-- Assumes nothing.
use mathlib.Core.Path.{◌≡◌}
use Rattle.rules.specs.Statements.{skip_lines}
use Rattle.rules.proofs.Progress.{size}
use Rattle.state.specs.Views.{state_of}
use Rattle.statements.proofs.skip_lines.Given as goal

abbrev pub invariant-loop-source : goal.invariant-loop-source
invariant-loop-source l = skip_lines (state_of l.source.text.now l.initial.q) ≡ skip_lines (state_of l.source.text.now l.q)

abbrev pub decreases-loop-source : goal.decreases-loop-source
decreases-loop-source l = size (state_of l.source.text.now l.q)
