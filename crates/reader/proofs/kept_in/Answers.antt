-- What is kept is the listing, which is copied where it fits; else the second reading writes the same.
-- Assumes nothing.
use borrow.Author.Rules.{rules}
use Rattle.names.specs.Table.{operations}
use Rattle.state.proofs.Chain.{exits}
use Rattle.reader.proofs.FullReads.{denies, not_begun, is_denied, no_room, kept_copied, read_again}
use Rattle.reader.proofs.kept_in.Goals as goal

pub returns-in_err-p : goal.returns-in_err-p
returns-in_err-p g c = rw (exits c.from_residual.ensures.1) (is_denied _ _ (not_begun operations _ c.in_err-p.ensures.so))

pub returns-in_err-statements : goal.returns-in_err-statements
returns-in_err-statements g c = rw (exits c.from_residual-in_err-statements.ensures.1) (is_denied _ _ (denies operations _ _ c.in_ok-p.ensures.so (rw c.operations-table.ensures at c.in_err-statements.ensures)))

pub returns-then-out-size : goal.returns-then-out-size
returns-then-out-size g c = no_room c.args.source c.in_ok-p.ensures.so c.new-first.ensures.place (rw c.operations-table.ensures at c.in_ok-statements.ensures) c.refused_nowhere.ensures c.if-out-size.true

pub returns-then-size : goal.returns-then-size
returns-then-size g c =
    kept_copied c.args.source c.in_ok-p.ensures.so c.new-first.ensures.place (rw c.operations-table.ensures at c.in_ok-statements.ensures) (λ e. search rules) c.if-out-size.false (search rules) (c.copy.ensures)

pub returns-in_ok-statements-2 : goal.returns-in_ok-statements-2
returns-in_ok-statements-2 g c = read_again c.args.source c.in_ok-p.ensures.so c.new-first.ensures.place (rw c.operations-table.ensures at c.in_ok-statements.ensures) c.new-again.ensures.place (search rules) (rw c.operations-table.ensures at c.in_ok-statements-2.ensures) c.if-out-size.false (λ e. search rules)
