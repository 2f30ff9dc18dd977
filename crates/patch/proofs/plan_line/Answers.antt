-- The cut ends behind the new line, so only that line is read, in its place.
-- Assumes nothing.
use Prim.Native.Nat.{◌≤◌}
use native.Mathlib.Omega.{arith}
use borrow.Author.Rules.{rules}
use lib.ListN.{length}
use Rattle.lines.proofs.Laws.{begins_within}
use Rattle.state.proofs.Chain.{exits}
use Rattle.records.proofs.Listed.{octets, first_decodes}
use Rattle.patch.proofs.Rereading.{new_within, cut_is, not_begun, denied, line_denied}
use Rattle.patch.proofs.Planning.{new_short, plan_small, line_planned}
use Rattle.patch.proofs.plan_line.Goals as goal

pub overflow_add-x : goal.overflow_add-x
overflow_add-x c = let x = c.args.x in omega (arith, new_within x.old.text.now x.place x.text.now (begins_within x.old.text.now x.place x.begins) c.requires.0, c.args.edited.source.short)

pub overflow_add-x-2 : goal.overflow_add-x-2
overflow_add-x-2 c = let x = c.args.x in omega (arith, new_within x.old.text.now x.place x.text.now (begins_within x.old.text.now x.place x.begins) c.requires.0, c.args.edited.source.short)

pub overflow_cast-x : goal.overflow_cast-x
overflow_cast-x c = let x = c.args.x in omega (arith, begins_within x.old.text.now x.place x.begins, x.old.short)

pub returns-in_err-start : goal.returns-in_err-start
returns-in_err-start c =
    let x = c.args.x in
    let cut = cut_is x.old.text.now x.place x.text.now (begins_within x.old.text.now x.place x.begins) c.requires.0 c.min-cut.ensures in
    rw (exits c.from_residual.ensures.1) (line_denied _ _ _ _ _ _ cut.line (not_begun _ _ c.in_err-start.ensures.so))

pub returns-in_err-statements : goal.returns-in_err-statements
returns-in_err-statements c =
    let x = c.args.x in
    let cut = cut_is x.old.text.now x.place x.text.now (begins_within x.old.text.now x.place x.begins) c.requires.0 c.min-cut.ensures in
    rw (exits c.from_residual-in_err-statements.ensures.1)
    (line_denied _ _ _ _ _ _ cut.line (denied _ _ c.in_ok-start.ensures.so (rw c.operations.ensures at c.in_err-statements.ensures)))

pub first_from-requires : goal.first_from-requires
first_from-requires c = first_decodes c.first_from-below.ensures

pub invariant_of-plan : goal.invariant_of-plan
invariant_of-plan c = record { low = new_short c.args.x c.args.edited c.requires.0 }

pub fitted-requires : goal.fitted-requires
fitted-requires c =
    let long : length c.args.listing.now ≤ 9223372036854775807 = search rules in
    plan_small c.args.x c.args.edited c.requires.0 (octets c.args.listing.now (λ i. (c.type_inv.listing i).fits)) c.min-cut.ensures c.new-measured.ensures.place c.in_ok-start.ensures.so
    (rw c.operations.ensures at c.in_ok-statements.ensures) c.requires.1 c.first_from-below.ensures c.first_from.ensures long

pub returns : goal.returns
returns c =
    line_planned c.args.x c.args.edited c.requires.0 (octets c.args.listing.now (λ i. (c.type_inv.listing i).fits)) c.min-cut.ensures c.new-measured.ensures.place c.in_ok-start.ensures.so
    (rw c.operations.ensures at c.in_ok-statements.ensures) c.requires.1 c.first_from-below.ensures c.first_from.ensures _ c.args.rooms _ c.fitted.ensures
