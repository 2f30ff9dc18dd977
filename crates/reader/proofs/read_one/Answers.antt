-- Measured over an empty buffer, and written where it fits: the second reading reads the same.
-- Assumes nothing.
use borrow.Author.Rules.{rules}
use Rattle.state.proofs.Chain.{exits}
use Rattle.reader.proofs.OneReads.{not_begun, denied_there, none_there, no_room, read_again}
use Rattle.reader.proofs.read_one.Goals as goal

pub returns-in_err-p : goal.returns-in_err-p
returns-in_err-p c = rw (exits c.from_residual.ensures.1) (not_begun _ _ _ c.in_err-p.ensures.so)

pub returns-in_err-q : goal.returns-in_err-q
returns-in_err-q c = rw (exits c.from_residual-in_err-q.ensures.1) (denied_there _ _ _ c.in_ok-p.ensures.so (rw c.operations-table.ensures at c.in_err-q.ensures))

pub returns-in_default : goal.returns-in_default
returns-in_default c = none_there _ _ _ c.in_ok-p.ensures.so (rw (c.operations-table.ensures, c.in_default.is) at c.in_ok-q.ensures)

pub returns-then-out-length : goal.returns-then-out-length
returns-then-out-length c = no_room c.args.source _ c.requires _ c.in_ok-p.ensures.so c.new-measured.ensures.place (rw (c.operations-table.ensures, c.in-Read.is) at c.in_ok-q.ensures) c.refused_nowhere.ensures c.if-out-length.true

pub returns : goal.returns
returns c = read_again c.args.source _ c.requires _ c.in_ok-p.ensures.so c.new-measured.ensures.place (rw (c.operations-table.ensures, c.in-Read.is) at c.in_ok-q.ensures) c.new-written.ensures.place (search rules) _ (rw c.operations-table.ensures at c.in_ok-statement.ensures) c.if-out-length.false (λ e. search rules)
