-- With fewer than two bytes nothing stands between the quotes.
-- Assumes nothing.
use Prim.Native.Nat.{◌-◌}
use mathlib.Core.Path.{◌≡◌}
use native.Mathlib.Omega.{arith}
use lib.ListN.{length}
use Rattle.records.proofs.Writers.{puts_nothing}
use Rattle.statements.proofs.put_characters.Goals as goal

pub returns-in_default : goal.returns-in_default
returns-in_default c = let e : length c.args.word.now - 2 ≡ 0 = omega (arith, c.in_default.len_below) in rw e (puts_nothing _)
