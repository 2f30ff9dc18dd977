-- It follows its reader statement by statement; `rep` and `repne` end with their word.
-- Assumes nothing.
use Rattle.rules.specs.Reader.{◌>>◌}
use mathlib.Core.Path.{sym, ◌∙◌}
use Rattle.rules.specs.Records.{LI}
use Rattle.state.proofs.Chain.{called, comes, ends, writes, lifts, lifts_comes, lifts_denied, is_passed, reads_done}
use Rattle.records.proofs.Writers.{same_still}
use Rattle.state.proofs.Chain.{stops_on}
use Rattle.statements.proofs.Forms.{past_word, word_stops, recorded, line_goes_on, repeats, operates}
use Rattle.statements.proofs.instruction.Goals as goal

pub returns-in_err-q : goal.returns-in_err-q
returns-in_err-q c = word_stops _ c.from_residual.ensures.1 (same_still _) c.in_err-q.ensures.so

pub returns-then-is_repeat : goal.returns-then-is_repeat
unfolding ◌>>◌
returns-then-is_repeat c = reads_done (ends (comes _ _ (repeats _ _ (past_word _ _ c.in_ok-q.ensures.so) (sym c.is_repeat.ensures ∙ c.if-is_repeat.true)) (lifts_comes is_passed)) (writes (LI _ _ _ _ _ _) (rw c.from.ensures at c.put_record.ensures)))

pub returns-in_err-end : goal.returns-in_err-end
unfolding ◌>>◌
returns-in_err-end c =
    let so = operates _ _ (past_word _ c.args.out.now c.in_ok-q.ensures.so) (sym c.is_repeat.ensures ∙ c.if-is_repeat.false) in
    stops_on c.from_residual-in_err-end.ensures.1 _ _ so c.in_err-end.ensures.lent (lifts_denied c.in_err-end.ensures.so)

pub returns-in_err-below : goal.returns-in_err-below
unfolding ◌>>◌
returns-in_err-below c =
    let so = operates _ _ (past_word _ c.args.out.now c.in_ok-q.ensures.so) (sym c.is_repeat.ensures ∙ c.if-is_repeat.false) in
    line_goes_on _ (called _ _ so (lifts c.in_ok-end.ensures.so)) c.from_residual-in_err-below.ensures.1 (same_still _) c.in_err-below.ensures.so

pub returns : goal.returns
unfolding ◌>>◌
returns c =
    let so = operates _ _ (past_word _ c.args.out.now c.in_ok-q.ensures.so) (sym c.is_repeat.ensures ∙ c.if-is_repeat.false) in
    recorded (λ t. LI _ t _ _ _ _) (called _ _ so (lifts c.in_ok-end.ensures.so)) c.in_ok-below.ensures.so (rw c.from-2.ensures at c.put_record-2.ensures)
