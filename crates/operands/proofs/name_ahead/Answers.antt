-- A word is looked up by its text; any other token names nothing.
-- Assumes nothing.
use mathlib.Core.Path.{ap, ◌∙◌}
use Rattle.names.specs.Names.{name_of}
use Rattle.operands.proofs.Laws.{name_there, no_name_there}
use Rattle.operands.proofs.name_ahead.Goals as goal

pub returns-then-eq : goal.returns-then-eq
returns-then-eq c = c.name_of.ensures ∙ ap name_of c.text.ensures ∙ name_there c.args.source.now c.args.p c.if-eq.ensures

pub returns-else-eq : goal.returns-else-eq
returns-else-eq c = no_name_there c.args.source.now c.args.p c.if-eq.ensures
