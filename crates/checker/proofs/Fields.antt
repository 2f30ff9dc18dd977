-- A field, or 0 where the bytes end before it does.
use mathlib.Core.Path.{◌≡◌}
use mathlib.Core.List.{List}
use Prim.Native.Nat.{ℕ, ◌+◌, ◌*◌, ◌≤◌}
use lib.ListN.{length}
use borrow.Author.Tests.{le-leb}
use Rattle.rules.specs.Decode.{nth}
use Rattle.checker.specs.Checker.{field_in}

module _ (i : ℕ) (s : List ℕ) where
  pub field_nth : 4 * i + 4 ≤ length s → field_in i s ≡ nth i s
  unfolding field_in
  field_nth h = rw (le-leb (4 * i + 4) (length s) h)
