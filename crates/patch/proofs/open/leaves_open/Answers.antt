-- The number of the full read's refusal tells, if it refuses the line.
-- Assumes nothing.
use borrow.Author.Rules.{rules}
use Rattle.patch.proofs.LeavesOpen.{open_tells}
use Rattle.patch.proofs.open.leaves_open.Goals as goal

pub returns : goal.returns
returns c = open_tells _ _ c.full_read_lean.result c.full_read_lean.ensures.answer (search rules)
