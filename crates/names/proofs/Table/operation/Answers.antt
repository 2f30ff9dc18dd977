-- A word names the operation of its key.
use mathlib.Core.Path.{ap, ◌∙◌}
use Rattle.names.specs.Names.{found_of}
use Rattle.names.proofs.Rows.{operates_by}
use Rattle.names.proofs.Table.operation.Goals as goal

pub returns : goal.returns
returns c =
    c.operation_by.ensures
    ∙ ap found_of (operates_by c.args.self.rows.now c.args.self.good c.args.word.now c.type_inv.word c.word_key.ensures.0)
