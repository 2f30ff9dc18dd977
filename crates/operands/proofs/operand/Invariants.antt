-- Size words are passed one by one; the invariant: what the rules' operand has still to read is what they read behind the last of them, with
-- as many size words to come as tokens are left. Each is one token less.
-- Assumes nothing.
use Prim.Native.Nat.{ℕ, suc, ◌≤◌}
use lib.ListN.{length}
use Rattle.rules.specs.Operands.{operand_sized, operand as rules-operand}
use Rattle.state.specs.Views.{line, line_of}
use Rattle.state.proofs.Chain.{Sofar}
use Rattle.operands.specs.Answers.{coded}
use Rattle.operands.proofs.operand.Given as goal

abbrev pub invariant-loop-source : goal.invariant-loop-source
invariant-loop-source l =
    (n : ℕ)
    × (length (line_of l.source.text.now l.q).more ≤ n)
    × Sofar line l.source.text.now l.initial.q rules-operand l.initial.out l.q (operand_sized (suc n) (coded l.size)) l.out

abbrev pub decreases-loop-source : goal.decreases-loop-source
decreases-loop-source l = length (line_of l.source.text.now l.q).more
