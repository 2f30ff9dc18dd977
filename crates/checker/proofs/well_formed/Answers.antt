use mathlib.Core.Path.{sym, ap, ◌∙◌}
use Prim.Native.Nat.{◌+◌, ◌≤◌}
use native.Mathlib.Omega.{arith}
use Rattle.checker.specs.Checker.{stack_of, passed_of}
use Rattle.checker.proofs.Walk.{Stands, stands_first, stands_end, stands_bad, stands_again}
use Rattle.checker.proofs.well_formed.Goals as goal

pub loop-at-init : goal.loop-at-init
loop-at-init c = stands_first _ _

pub returns-in_default : goal.returns-in_default
returns-in_default c = stands_bad c.loop-at.invariant c.loop-at-test.true (sym c.check_at.ensures ∙ ap passed_of c.in_default.is)

-- the invariant behind the record
again : (c : goal.In-Some) →
    Stands c.args.listing.now c.args.length (stack_of c.in-Some.next) (c.loop-at.at + c.in-Some.size) × (6 ≤ c.in-Some.size)
again c = stands_again c.loop-at.invariant c.loop-at-test.true (sym c.check_at.ensures ∙ ap passed_of c.in-Some.is)

pub overflow_add-at : goal.overflow_add-at
overflow_add-at c = omega (arith, (again c).0.within)

pub loop-at-smaller : goal.loop-at-smaller
loop-at-smaller c = omega (arith, (again c).0.within, (again c).1)

pub loop-at-preserved : goal.loop-at-preserved
loop-at-preserved c = (again c).0

pub returns : goal.returns
returns c = c.complete.ensures ∙ stands_end c.loop-at.invariant c.loop-at-test.false
