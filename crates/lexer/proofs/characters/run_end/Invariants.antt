-- The invariant: what is left of the run ends where the whole run does, whichever class of bytes the test is of.
use Rattle.std.proofs.Common.{◌≡◌, Bool, ℕ, ◌+◌, ◌<◌, drop}
use Rattle.lexer.specs.Text.{run}
use Rattle.lexer.proofs.characters.run_end.Given as goal

abbrev pub invariant-loop-i : goal.invariant-loop-i
invariant-loop-i g l =
    (p : ℕ → Bool) → ((c : ℕ) (r : Bool) → c < 256 → goal.F-post g l.belongs c r → r ≡ p c)
    → l.i + run p (drop l.i l.source) ≡ l.fn.from + run p (drop l.fn.from l.source)
