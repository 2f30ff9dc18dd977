-- Each follows its reader statement by statement. The nesting left falls where `times` calls `content`: three times it is the measure of `times`,
-- one more that of `line`, which calls it, and two more that of `content`, which calls `line`.
use Rattle.std.proofs.Common.{◌+◌, ◌*◌}
use Rattle.statements.proofs.+statements.Given as goal

abbrev pub decreases-content : goal.decreases-content
decreases-content l = 3 * l.left + 2

abbrev pub decreases-line : goal.decreases-line
decreases-line l = 3 * l.left + 1

abbrev pub decreases-times : goal.decreases-times
decreases-times l = 3 * l.left
