-- Meets its contract: the bytes stand where there is room for all of them, and nothing is written at the limit.
-- Assumes nothing.
use native.Mathlib.Omega.{arith}
use Rattle.records.proofs.Writes.{has_room, at_limit}
use Rattle.records.proofs.put_run.Goals as goal

pub returns-then-at-ge-LIMIT : goal.returns-then-at-ge-LIMIT
returns-then-at-ge-LIMIT c = at_limit _ (omega (arith, c.if-at-ge-LIMIT.true))

pub returns-then-run-out : goal.returns-then-run-out
returns-then-run-out c = let m = c.min.ensures in has_room (omega arith) (λ h. omega (arith, h, m)) c.copy.ensures
