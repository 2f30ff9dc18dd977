-- The word, the count, and the line feed.
use mathlib.Core.List.{[]}
use Rattle.lexer.specs.Text.{bytes}
use Rattle.text.specs.Text.{numbers}
use Rattle.printing.specs.Lines.{line}
use Rattle.text.proofs.Puts.{follows, behind}
use Rattle.printing.proofs.put_end.Goals as goal

pub returns : goal.returns
unfolding line numbers bytes
returns c = follows _ _ (behind (bytes "END") [] c.args.count c.put_all.ensures c.put_number.ensures) c.put.ensures
