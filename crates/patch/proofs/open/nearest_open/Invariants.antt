-- The invariant: a line begins below, and the nearest above it is the nearest above the place.
-- Assumes nothing.
use mathlib.Core.Path.{◌≡◌}
use mathlib.Core.Bool.{true, false}
use mathlib.Core.List.{[]}
use lib.ListN.{take}
use Rattle.lexer.specs.Text.{maybe}
use Rattle.rules.specs.Statements.{present}
use Rattle.rules.specs.Patch.{begins_line, lines_from, nearest, leaves_open}
use Rattle.patch.proofs.open.nearest_open.Given as goal

abbrev pub invariant-loop-below : goal.invariant-loop-below
invariant-loop-below l = (begins_line l.source.text.now l.below ≡ true)
    × (maybe (nearest (lines_from [] (take l.below l.source.text.now))) false (leaves_open present) ≡ maybe (nearest (lines_from [] (take l.place l.source.text.now))) false (leaves_open present))

abbrev pub decreases-loop-below : goal.decreases-loop-below
decreases-loop-below l = l.below
