-- It follows its reader statement by statement. The bytes of the literals are put first, and the record before them when they are counted.
-- Assumes nothing.
use mathlib.Core.Path.{sym, ◌∙◌}
use Rattle.rules.specs.Records.{LD}
use Rattle.records.proofs.Writers.{data_put, same_begun, same_on}
use Rattle.state.proofs.Chain.{lifts_denied, reads_refused_on}
use Rattle.state.proofs.Chain.{stops_on}
use Rattle.statements.proofs.Forms.{word_stops, recorded, line_goes_on}
use Rattle.statements.proofs.Data.{data_begun, data_read, data_some, data_none}
use Rattle.statements.proofs.data_of.Goals as goal

pub returns-in_err-q : goal.returns-in_err-q
returns-in_err-q c = word_stops _ c.from_residual.ensures.1 (same_begun c.begin_data-start.ensures) c.in_err-q.ensures.so

pub returns-in_err-end : goal.returns-in_err-end
returns-in_err-end c = stops_on c.from_residual-in_err-end.ensures.1 _ _ (data_begun _ _ _ c.in_ok-q.ensures.so) (same_on (same_begun c.begin_data-start.ensures) c.in_err-end.ensures.lent) (lifts_denied c.in_err-end.ensures.so)

pub returns-then-not-some : goal.returns-then-not-some
returns-then-not-some c =
    let d = c.in_ok-end.ensures.so in
    reads_refused_on (same_on (same_begun c.begin_data-start.ensures) c.in_ok-end.ensures.lent) (data_none _ _ (data_read _ _ c.args.out.now c.in_ok-q.ensures.so d.comes) (sym d.is_some_lem ∙ c.if-not-some.true) c.refused_at.ensures)

pub returns-in_err-below : goal.returns-in_err-below
returns-in_err-below c =
    let d = c.in_ok-end.ensures.so in
    let so = data_some _ _ (data_read _ _ c.args.out.now c.in_ok-q.ensures.so d.comes) (sym d.is_some_lem ∙ c.if-not-some.false) in
    line_goes_on _ so c.from_residual-in_err-below.ensures.1 (same_on (same_begun c.begin_data-start.ensures) c.in_ok-end.ensures.lent) c.in_err-below.ensures.so

pub returns : goal.returns
returns c =
    let d = c.in_ok-end.ensures.so in
    let so = data_some _ _ (data_read _ _ c.args.out.now c.in_ok-q.ensures.so d.comes) (sym d.is_some_lem ∙ c.if-not-some.false) in
    recorded (λ t. LD _ t _) so c.in_ok-below.ensures.so (data_put _ _ _ c.begin_data-start.ensures d.puts c.end_data.ensures)
