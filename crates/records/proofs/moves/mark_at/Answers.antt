-- A record has six bytes or more, and opens with a mark.
-- Assumes nothing.
use native.Mathlib.Omega.{arith}
use Rattle.records.proofs.OneRecord.{six_there, mark_some}
use Rattle.records.proofs.moves.mark_at.Goals as goal

pub bounds-s-at-2 : goal.bounds-s-at-2
bounds-s-at-2 c = omega (arith, six_there (λ i. (c.type_inv.s i).fits) c.requires.0 c.requires.1)

pub unwrap-requires : goal.unwrap-requires
unwrap-requires c = mark_some (λ i. (c.type_inv.s i).fits) c.requires.0 c.requires.1 _ c.of.ensures
