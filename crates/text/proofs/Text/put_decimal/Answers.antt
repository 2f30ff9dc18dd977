-- The digits of `io` are those of the definition.
use mathlib.Core.Path.{◌∙◌}
use Rattle.text.proofs.Puts.{reads_as}
use Rattle.text.proofs.Digits.{fewest}
use borrow.Author.Rules.{rules}
use Rattle.text.proofs.Text.put_decimal.Goals as goal

pub returns : goal.returns
returns c = reads_as (c.decimal-k.ensures.digits ∙ fewest _ _ (search rules) c.decimal-k.ensures.len) c.put_all.ensures
