-- The first token tells.
-- Assumes nothing.
use borrow.Author.Rules.{rules}
use Rattle.patch.proofs.Bare.{bare_tells}
use Rattle.patch.proofs.open.is_bare.Goals as goal

pub returns : goal.returns
returns c = bare_tells _ c.requires c.start.result c.start.ensures (search rules)
