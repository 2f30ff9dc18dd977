-- The first token from a place on. The invariant: what is left of the source from here on has the same tokens.
use Prim.Native.Nat.{◌-◌, ◌^◌, ◌<◌}
use mathlib.Core.Path.{◌≡◌}
use lib.ListN.{length}
use Rattle.state.proofs.Stream.{From}
use Rattle.state.proofs.fetch.Given as goal

abbrev pub invariant-loop-at : goal.invariant-loop-at
invariant-loop-at l = (From l.source.text.now l.at ≡ From l.source.text.now l.place) × (l.at < 2 ^ 32)

abbrev pub decreases-loop-at : goal.decreases-loop-at
decreases-loop-at l = length l.source.text.now - l.at
