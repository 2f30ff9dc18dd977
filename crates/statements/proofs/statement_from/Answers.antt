-- Past empty lines none is left, or the place is written and the statement follows.
-- Assumes nothing.
use mathlib.Core.Path.{sym, ◌∙◌}
use Rattle.state.proofs.Chain.{exits}
use Rattle.statements.proofs.Run.{none_there, none_denied, statement_reads, statement_denied}
use Rattle.statements.proofs.statement_from.Goals as goal

pub returns-in_err-q : goal.returns-in_err-q
returns-in_err-q c = rw (exits c.from_residual.ensures.1) (none_denied _ _ c.in_err-q.ensures.so)

pub returns-then-is_line_end : goal.returns-then-is_line_end
returns-then-is_line_end c = none_there _ c.in_ok-q.ensures.so (sym c.is_line_end.ensures ∙ c.if-is_line_end.true) _

pub returns-in_err-after : goal.returns-in_err-after
returns-in_err-after c =
    let inside = sym c.is_line_end.ensures ∙ c.if-is_line_end.false in
    rw (exits c.from_residual-in_err-after.ensures.1) (statement_denied _ c.in_ok-q.ensures.so inside c.put_record.ensures c.in_err-after.ensures.lent c.in_err-after.ensures.so)

pub returns : goal.returns
returns c =
    let inside = sym c.is_line_end.ensures ∙ c.if-is_line_end.false in
    statement_reads _ c.in_ok-q.ensures.so inside c.put_record.ensures c.in_ok-after.ensures.lent c.in_ok-after.ensures.so
