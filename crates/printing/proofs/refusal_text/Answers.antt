-- The word, the five numbers one behind the other, and the line feed.
use mathlib.Core.Path.{ap}
use borrow.Author.Rules.{rules}
use mathlib.Core.List.{[]}
use lib.Seq.{take_all}
use Rattle.lexer.specs.Text.{bytes}
use Rattle.text.specs.Text.{numbers}
use Rattle.printing.specs.Lines.{line, refusal_text}
use Rattle.text.proofs.Puts.{nothing, follows, reads_as, number_behind}
use Rattle.printing.proofs.Holds.{holds}
use Rattle.printing.proofs.refusal_text.Goals as goal

pub loop-value-init : goal.loop-value-init
unfolding numbers
loop-value-init c = nothing _

pub loop-value-preserved : goal.loop-value-preserved
loop-value-preserved c = number_behind [] _ c.loop-value-test.true c.loop-value.invariant (rw c.from.ensures at c.put_number.ensures)

pub returns : goal.returns
unfolding refusal_text line numbers bytes
returns c =
    let put = follows _ _ (follows _ _ c.put_all.ensures (reads_as (ap numbers (take_all _ _ c.loop-value-test.false)) c.loop-value.invariant)) c.put.ensures in
    holds (rw (c.number.ensures, c.first-first.ensures, c.second-second.ensures) at put) c.new-text.ensures.place (search rules) (search rules)
