-- Only a statement opens with ST, and its field is its place.
-- Assumes nothing.
use mathlib.Core.Path.{ap, ◌∙◌}
use lib.Dec.{leb}
use native.Mathlib.Omega.{arith}
use Rattle.records.proofs.OneRecord.{room_six, is_start, no_start}
use Rattle.records.proofs.moves.starts.Goals as goal

pub field_at-requires : goal.field_at-requires
field_at-requires c = omega (arith, room_six c.requires)

pub returns-in-ST : goal.returns-in-ST
returns-in-ST c = ap (leb c.args.place) c.field_at.ensures ∙ is_start c.requires _ c.in-ST.is

pub returns-in_default : goal.returns-in_default
returns-in_default c = no_start c.requires _ c.in_default.not-ST
