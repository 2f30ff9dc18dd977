-- What the calls say of what they have written holds of their numbers too.
-- Assumes nothing.
use Prim.Native.Nat.{ℕ}
use native.Mathlib.Omega.{arith}
use mathlib.Core.Path.{◌≡◌, refl}
use mathlib.Core.List.{List}
use Rattle.rules.specs.Decode.{open_decode}
use Rattle.rules.specs.WellFormed.{open_well_formed}
use Rattle.std.specs.Prelude.{Result, Ok, Err}
use Rattle.refusals.specs.declared.Refusal.{Refusal}
use Rattle.refusals.specs.Refusals.{by_numbers}
use Rattle.reader.specs.Calls.{Writes}
use Rattle.laqhoncu.specs.declared.FullReading.{FullReading}
use Rattle.laqhoncu.specs.Readings.{full_reading, Written}

-- no bytes are a well-formed listing
by_answer : {s l : List ℕ} (a : Result ℕ Refusal) → Writes s l a → Written s l (full_reading (by_numbers a))
unfolding open_decode open_well_formed
by_answer (Ok n) h = let (i, j, k) = h.so in record { within = i; bounded = j; formed = k }
by_answer (Err r) h = record { within = omega arith; bounded = omega arith; formed = refl }

pub written : {s l : List ℕ} {a : Result ℕ Refusal} {r : FullReading} → r ≡ full_reading (by_numbers a) → Writes s l a → Written s l r
written {a = a} e h = rw e (by_answer a h)
