-- What is read again is what was measured, so it is not refused and fits.
-- Assumes nothing.
use borrow.Author.Rules.{rules}
use Rattle.patch.proofs.Rereading.{read_again}
use Rattle.patch.proofs.write_line.Goals as goal

pub returns : goal.returns
returns c =
    read_again c.args.line c.requires.0 c.new-new.ensures.place (search rules) c.requires.1 c.requires.2 _ (rw c.operations.ensures at c.statements.ensures) (λ e. search rules)
