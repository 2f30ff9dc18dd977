-- Meets its contract: the head counts the bytes put since it was left out.
-- Assumes nothing.
use mathlib.Core.Path.{refl}
use Rattle.lexer.specs.Text.{bytes}
use Rattle.records.specs.Writers.{head}
use Rattle.records.proofs.Writer.end_data.Goals as goal

pub returns : goal.returns
unfolding bytes head
returns c = record { behind = c.put_record.result; wrote = rw (c.saturating_sub-count.ensures, c.behind_head.ensures) at c.put_record.ensures; place = refl; buffer = refl }
