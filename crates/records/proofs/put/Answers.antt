-- Meets its contract: the bytes stand where there is room for all of them, and nothing is written at the limit.
-- Assumes nothing.
use native.Mathlib.Omega.{arith}
use Rattle.records.proofs.Writes.{has_room, at_limit}
use Rattle.records.proofs.put.Goals as goal

pub returns-then-at-ge-LIMIT : goal.returns-then-at-ge-LIMIT
returns-then-at-ge-LIMIT g c = at_limit _ (omega (arith, c.if-at-ge-LIMIT.true))

pub returns-then-from-out : goal.returns-then-from-out
returns-then-from-out g c = has_room (omega arith) (λ h. omega (arith, h)) c.copy.ensures
