use mathlib.Core.Path.{sym, ◌∙◌}
use native.Mathlib.Omega.{arith}
use Rattle.records.proofs.OneRecord.{room_all, size_six}
use Rattle.records.proofs.Walks.{passes_end, passes_found, passes_again}
use Rattle.records.proofs.moves.first_from.Goals as goal

pub returns-then-starts : goal.returns-then-starts
returns-then-starts c = passes_found c.loop-i.invariant c.mark_at-mark.ensures (sym c.if-starts.true ∙ c.starts.ensures)

pub overflow_add-i : goal.overflow_add-i
overflow_add-i c = omega (arith, room_all c.mark_at-mark.ensures, c.size-i.ensures)

pub loop-i-smaller : goal.loop-i-smaller
loop-i-smaller c = omega (arith, room_all c.mark_at-mark.ensures, size_six c.mark_at-mark.ensures, c.size-i.ensures)

pub loop-i-preserved : goal.loop-i-preserved
loop-i-preserved c = rw c.size-i.ensures (passes_again c.loop-i.invariant c.mark_at-mark.ensures (sym c.if-starts.false ∙ c.starts.ensures))

pub returns : goal.returns
returns c = passes_end c.loop-i.invariant c.loop-i-test.false
