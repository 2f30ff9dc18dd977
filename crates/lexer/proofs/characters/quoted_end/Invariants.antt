-- The invariant: what is left of the string ends where the whole string does.
use Prim.Native.Nat.{◌+◌, ◌-◌}
use mathlib.Core.Path.{◌≡◌}
use lib.ListN.{length, drop}
use Rattle.lexer.specs.Text.{run}
use Rattle.lexer.specs.Tokens.{in_quotes}
use Rattle.lexer.proofs.characters.quoted_end.Given as goal

abbrev pub invariant-loop-i : goal.invariant-loop-i
invariant-loop-i l = l.i + run in_quotes (drop l.i l.source) ≡ l.from + run in_quotes (drop l.from l.source)

abbrev pub decreases-loop-i : goal.decreases-loop-i
decreases-loop-i l = length l.source - l.i
