-- The copied bytes are the records from there on; they are moved in their place.
-- Assumes nothing.
use Rattle.records.proofs.Listed.{octets}
use Rattle.patch.proofs.Moving.{part_decodes, put_back}
use Rattle.patch.proofs.moves.move_rest.Goals as goal

pub move_all-requires : goal.move_all-requires
move_all-requires c = let a = c.args in part_decodes a.out.now a.listing.now a.at a.on c.requires.2 c.copy.ensures c.requires.0

pub returns : goal.returns
returns c = let a = c.args in put_back a.out.now a.listing.now a.at a.on c.requires.2 c.copy.ensures c.requires.0 (octets a.listing.now (λ i. (c.type_inv.listing i).fits)) _ _ c.move_all.ensures
