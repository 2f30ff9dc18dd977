-- Meets its contract: its parts are written one behind the other.
-- Assumes nothing.
use borrow.Author.Rules.{rules}
use Rattle.rules.specs.Records.{field}
use Rattle.records.proofs.Writes.{fields_start, fields_turn, fields_end}
use Rattle.records.proofs.put_record.Goals as goal

pub loop-v-init : goal.loop-v-init
loop-v-init g c = fields_start c.args.numbers c.letters.ensures c.put-w.ensures

pub loop-v-preserved : goal.loop-v-preserved
unfolding field
loop-v-preserved g c = fields_turn _ c.args.numbers (search rules) c.loop-v.invariant (rw c.to_le_bytes.ensures at c.put-w-in-loop-v.ensures)

pub returns : goal.returns
returns g c = fields_end _ _ (search rules) c.loop-v.invariant
