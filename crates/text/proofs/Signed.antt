-- A value's text is that of the signed number of its bits.
use Rattle.std.specs.Prelude.{if◌then◌else◌}
use mathlib.Core.Path.{◌≡◌, refl, ap}
use mathlib.Core.Bool.{Bool, true, false}
use mathlib.Core.List.{List, ◌++◌}
use Prim.Native.Nat.{ℕ, suc, ◌-◌, ◌<◌}
use native.Mathlib.Omega.{arith}
use lib.Dec.{ltb}
use borrow.Author.Tests.{lt-ltb, le-ltb}
use lib.IntN.{ℤ, pos, negsuc, ◌-ℤ◌, nat_abs}
use lib.Signed.{lt_z}
use mir.Syntax.{w32}
use mir.Val.{to_z, sel}
use Rattle.lexer.specs.Text.{bytes}
use Rattle.text.specs.Text.{decimal, signed}
use Rattle.text.specs.Claims.{signed_of, decimal_of, PrintsSigned}

-- The same by the sign of the bits' value, as the code tests it.
pub signed_text : (v : ℕ) → v < 4294967296 → let n : ℕ = nat_abs (to_z w32 v) in signed v ≡ (if lt_z (to_z w32 v) (pos 0) then (bytes "-" ++ decimal n) else (decimal n))
unfolding signed
signed_text v h = go (ltb v 2147483648)
  where
    of : ℤ → List ℕ
    of z = if lt_z z (pos 0) then (bytes "-" ++ decimal (nat_abs z)) else (decimal (nat_abs z))

    go : (b : Bool) → (if b then (decimal v) else (bytes "-" ++ decimal (4294967296 - v))) ≡ of (sel b (pos v) (negsuc (4294967296 - suc v)))
    go true = rw (le-ltb v 0 (omega arith))
    go false = let e : 4294967296 - v ≡ suc (4294967296 - suc v) = omega arith in ap (λ (n : ℕ). bytes "-" ++ decimal n) e

pub prints_signed : PrintsSigned
unfolding signed signed_of decimal_of
prints_signed = record { value = λ v h. go v h (ltb v 2147483648) }
  where
    negative : (v : ℕ) → v < 4294967296 → bytes "-" ++ decimal (4294967296 - v) ≡ decimal_of (pos v -ℤ pos 4294967296)
    negative v h =
        let e : 4294967296 - v ≡ suc (4294967296 - suc v) = omega arith in
        rw (lt-ltb v 4294967296 h) (ap (λ (n : ℕ). bytes "-" ++ decimal n) e)

    go : (v : ℕ) → v < 4294967296 → (b : Bool) → (if b then (decimal v) else (bytes "-" ++ decimal (4294967296 - v))) ≡ decimal_of (if b then (pos v) else (pos v -ℤ pos 4294967296))
    go v h true = refl
    go v h false = negative v h
