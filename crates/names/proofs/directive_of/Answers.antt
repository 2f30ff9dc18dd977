-- A word names the directive of its key.
use mathlib.Core.Path.{◌∙◌}
use Rattle.names.proofs.Names.{directs_by}
use Rattle.names.proofs.directive_of.Goals as goal

pub returns : goal.returns
returns c = c.directive_by.ensures ∙ directs_by c.args.word.now c.type_inv.word c.word_key.ensures.0
