-- 42 first, then as `readable`.
-- Assumes nothing.
use Rattle.reader.proofs.Lending.{too_far, not_far}
use Rattle.reader.proofs.readable_at.Goals as goal

pub returns-then-source-place : goal.returns-then-source-place
returns-then-source-place c = too_far _ _ c.if-source-place.true c.refused_nowhere.ensures

pub returns : goal.returns
returns c = not_far _ _ c.if-source-place.false c.readable.ensures
