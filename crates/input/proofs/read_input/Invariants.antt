-- What was read lies at the head of the buffer, whose length stays. The room that is left falls.
use Rattle.std.proofs.Common.{◌≡◌, ◌-◌, ◌≤◌, length, take}
use Rattle.std.specs.Io.KnownBytes.{Consumes}
use Rattle.input.proofs.read_input.Given as goal

abbrev pub invariant-loop-n : goal.invariant-loop-n
invariant-loop-n g l = (length l.input ≡ length l.initial.input) × (l.n ≤ length l.input) × Consumes (g.R.Read.remaining l.initial.from) (g.R.Read.remaining l.from) (take l.n l.input)

abbrev pub decreases-loop-n : goal.decreases-loop-n
decreases-loop-n g l = length l.input - l.n
