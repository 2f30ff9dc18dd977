-- What stands at the head of the room is the edited source; the plan has all refusals, and applied it is the patch.
-- Assumes nothing.
use mathlib.Core.Path.{sym, ap, ◌∙◌}
use native.Mathlib.Omega.{arith}
use lib.ListN.{length}
use Rattle.lines.proofs.Laws.{begins_within}
use Rattle.state.proofs.Chain.{exits}
use Rattle.patch.proofs.Placing.{refused}
use Rattle.patch.proofs.Rereading.{end_within, edited_length}
use Rattle.patch.proofs.Order.{edit_denied, edit_is, edit_ascii}
use Rattle.patch.proofs.Planning.{applied}
use Rattle.patch.proofs.exchange_line.Goals as goal

pub edit-requires : goal.edit-requires
edit-requires c =
    let x = c.args.x in
    let within = begins_within x.old.text.now x.place x.begins in
    let end = end_within x.old.text.now x.place within in
    (omega (arith, x.ends), omega (arith, x.ends, end), x.old.short, omega (arith, edited_length x.old.text.now x.place within x.ends x.text.now, end, x.ends, c.requires))

pub plan_patch-requires : goal.plan_patch-requires
plan_patch-requires c = edit_is c.args.x _ c.requires.0 c.requires.1 c.edit.ensures c.in_ok-edited.ensures

pub returns-in_err-edited : goal.returns-in_err-edited
returns-in_err-edited c = rw (exits c.from_residual.ensures.1) (edit_denied c.args.x _ c.requires.0 c.requires.1 c.edit.ensures _ _ _ c.in_err-edited.ensures)

pub returns-in_err-plan : goal.returns-in_err-plan
returns-in_err-plan c =
    let (why, e, i) = c.in_err-plan.ensures.so in
    rw (exits c.from_residual-in_err-plan.ensures.1) (refused why (edit_ascii c.args.x _ c.requires.0 c.requires.1 c.edit.ensures c.in_ok-edited.ensures _ ∙ e) i)

pub returns : goal.returns
returns c =
    applied (edit_ascii c.args.x _ c.requires.0 c.requires.1 c.edit.ensures c.in_ok-edited.ensures _ ∙ c.in_ok-plan.ensures.so.given)
    (c.requires.0 ∙ ap length (sym (edit_is c.args.x _ c.requires.0 c.requires.1 c.edit.ensures c.in_ok-edited.ensures))) c.apply-listing.ensures
