-- As behind a line feed that ends at the place.
-- Assumes nothing.
use Rattle.statements.proofs.Lines.{begins}
use Rattle.statements.proofs.start.Goals as goal

pub returns : goal.returns
returns c = begins _ _ c.next_line.ensures
