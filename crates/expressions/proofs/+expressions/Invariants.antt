-- Each function follows its reader statement by statement. The depth that is left falls at each call of `expression`: three times it is that
-- function's measure, and those that it calls at the depth below have one or two more than three times that. The loop of operators carries
-- its fuel, which the tokens left of the line bound.
use Rattle.std.proofs.Common.{ℕ, ◌+◌, ◌≤◌, length}
use Rattle.rules.specs.Expressions.{expr, infixes}
use Rattle.state.specs.Views.{line_of, line}
use Rattle.state.proofs.Chain.{Sofar}
use Rattle.expressions.proofs.+expressions.Given as goal

abbrev pub decreases-expression : goal.decreases-expression
decreases-expression l = l.left + l.left + l.left

abbrev pub decreases-infixes : goal.decreases-infixes
decreases-infixes l = l.deeper + l.deeper + l.deeper + 1

abbrev pub decreases-parenthesis : goal.decreases-parenthesis
decreases-parenthesis l = l.deeper + l.deeper + l.deeper + 1

abbrev pub decreases-prefixed : goal.decreases-prefixed
decreases-prefixed l = l.deeper + l.deeper + l.deeper + 1

abbrev pub decreases-primary : goal.decreases-primary
decreases-primary l = l.deeper + l.deeper + l.deeper + 2

abbrev pub invariant-infixes-loop-op : goal.invariant-infixes-loop-op
invariant-infixes-loop-op l =
    let s = l.source.text.now in
    (n : ℕ)
    × (length (line_of s l.left).more ≤ n)
    × Sofar line s l.initial.left (infixes (length (line_of s l.initial.left).more) (expr l.deeper) l.level l.from) l.initial.out l.left (infixes n (expr l.deeper) l.level l.from) l.out

abbrev pub decreases-infixes-loop-op : goal.decreases-infixes-loop-op
decreases-infixes-loop-op l = length (line_of l.source.text.now l.left).more
