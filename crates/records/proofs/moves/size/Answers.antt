-- A record is its mark and its fields; LD's data are as many as its last field says.
-- Assumes nothing.
use native.Mathlib.Omega.{arith}
use Rattle.records.proofs.OneRecord.{room_ld, size_is, size_data}
use Rattle.records.proofs.moves.size.Goals as goal

pub field_at-requires : goal.field_at-requires
field_at-requires c = omega (arith, room_ld c.requires c.in-LD.is)

pub returns-in-LD : goal.returns-in-LD
returns-in-LD c = omega (arith, c.fields.ensures.0, size_data c.requires c.in-LD.is c.field_at.ensures)

pub returns-in_default : goal.returns-in_default
returns-in_default c = omega (arith, c.fields.ensures.0, size_is c.requires c.in_default.not-LD)
