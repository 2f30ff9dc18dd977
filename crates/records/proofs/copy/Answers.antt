use Rattle.std.proofs.Common.{◌∙◌, ap, ◌+◌, ℕ, List, get_or}
use lib.ListN.{set}
use Rattle.records.proofs.Writes.{stored_none, stored_more}
use Rattle.records.proofs.copy.Goals as goal

pub loop-i-init : goal.loop-i-init
loop-i-init c = stored_none c.args.out.now c.args.at c.args.run.now

pub loop-i-preserved : goal.loop-i-preserved
loop-i-preserved c =
    let a = c.args in
    let i = c.loop-i.i in
    ap (λ (l : List ℕ). set l (a.at + i) (get_or a.run.now i 0)) c.loop-i.invariant ∙ stored_more a.out.now a.run.now a.at i c.loop-i-test.true
