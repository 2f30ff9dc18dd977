use native.Mathlib.Omega.{arith}
use Rattle.records.proofs.OneRecord.{room_all, size_six}
use Rattle.records.proofs.Walks.{moved_decodes, moved_end, moved_again}
use Rattle.records.proofs.moves.move_all.Goals as goal

pub mark_at-mark-requires : goal.mark_at-mark-requires
mark_at-mark-requires c = (moved_decodes c.loop-i.invariant, c.loop-i-test.true)

pub overflow_add-i : goal.overflow_add-i
overflow_add-i c = omega (arith, room_all c.mark_at-mark.ensures, c.size-n.ensures)

pub loop-i-smaller : goal.loop-i-smaller
loop-i-smaller c = omega (arith, room_all c.mark_at-mark.ensures, size_six c.mark_at-mark.ensures, c.size-n.ensures, c.loop-i.invariant.long)

pub loop-i-preserved : goal.loop-i-preserved
loop-i-preserved c = rw c.size-n.ensures (moved_again c.loop-i.invariant c.mark_at-mark.ensures c.move_record.ensures)

pub returns : goal.returns
returns c = moved_end c.loop-i.invariant c.loop-i-test.false
