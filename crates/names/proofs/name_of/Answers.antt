-- A word names what its key names.
use mathlib.Core.Path.{◌∙◌}
use Rattle.names.proofs.Names.{names_by}
use Rattle.names.proofs.name_of.Goals as goal

pub returns : goal.returns
returns c = c.name_by.ensures ∙ names_by c.args.word.now c.type_inv.word c.word_key.ensures.0
