use Rattle.std.proofs.Common.{◌≡◌, ◌<◌, map}
use Prim.Native.Nat.{◌^◌}
use Rattle.lexer.specs.Text.{lower}
use Rattle.names.specs.Keys.{joined}
use Rattle.names.proofs.letters.Given as goal

abbrev pub invariant-loop-i : goal.invariant-loop-i
invariant-loop-i l = record { is : l.key ≡ joined 0 l.i (map lower l.word); low : l.key < 256 ^ l.i }
