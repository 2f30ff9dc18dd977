-- A blank, and the digits behind it.
use Rattle.text.proofs.Puts.{follows, number}
use Rattle.lexer.specs.Text.{bytes}
use Rattle.text.proofs.Text.put_number.Goals as goal

pub returns : goal.returns
unfolding bytes
returns c = number _ (follows _ _ c.put.ensures c.put_decimal.ensures)
