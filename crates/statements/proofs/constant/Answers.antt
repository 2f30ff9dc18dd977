-- It follows its reader statement by statement.
-- Assumes nothing.
use Rattle.rules.specs.Reader.{◌>>◌}
use Rattle.rules.specs.Records.{LC}
use Rattle.rules.specs.Expressions.{expression}
use Rattle.rules.specs.Statements.{constant}
use Rattle.state.proofs.Chain.{called, lifts, lifts_denied}
use Rattle.records.proofs.Writers.{same_still}
use Rattle.state.proofs.Chain.{stops_on}
use Rattle.statements.proofs.Forms.{past_word, word_stops, recorded, line_goes_on}
use Rattle.statements.proofs.constant.Goals as goal

pub returns-in_err-q : goal.returns-in_err-q
returns-in_err-q c = word_stops _ c.from_residual.ensures.1 (same_still _) c.in_err-q.ensures.so

pub returns-in_err-end : goal.returns-in_err-end
unfolding ◌>>◌ expression constant
returns-in_err-end c = stops_on c.from_residual-in_err-end.ensures.1 _ _ (past_word _ _ c.in_ok-q.ensures.so) c.in_err-end.ensures.lent (lifts_denied c.in_err-end.ensures.so)

pub returns-in_err-below : goal.returns-in_err-below
unfolding ◌>>◌ expression constant
returns-in_err-below c = line_goes_on _ (called _ _ (past_word _ _ c.in_ok-q.ensures.so) (lifts c.in_ok-end.ensures.so)) c.from_residual-in_err-below.ensures.1 (same_still _) c.in_err-below.ensures.so

pub returns : goal.returns
unfolding ◌>>◌ expression constant
returns c = recorded (LC _) (called _ _ (past_word _ _ c.in_ok-q.ensures.so) (lifts c.in_ok-end.ensures.so)) c.in_ok-below.ensures.so c.put_record.ensures
