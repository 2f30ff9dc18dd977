-- No register is a segment, and no size word.
-- Assumes nothing.
use Rattle.operands.proofs.Laws.{no_segment}
use Rattle.operands.proofs.segment_ahead.Goals as goal

pub returns-in-Register : goal.returns-in-Register
returns-in-Register c = no_segment _ c.in_ok-s.ensures c.in-Register.is
