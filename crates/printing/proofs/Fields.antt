-- The fields of bytes, one more at a time.
use Prim.Native.Nat.{ℕ, zero, suc, ◌+◌}
use mathlib.Core.Path.{◌≡◌, ap, ◌∙◌}
use mathlib.Core.List.{List, [], ◌∷◌, ◌++◌}
use native.Mathlib.Omega.{arith}
use native.Mathlib.Numerals.{add-one}
use native.Mathlib.Nat.{add-zero, zero-add}
use Rattle.rules.specs.Decode.{nth, nths_from}
use Rattle.printing.specs.Shapes.{nths}

nths_snoc : (i n : ℕ) (s : List ℕ) → nths_from i (suc n) s ≡ nths_from i n s ++ (nth (i + n) s ∷ [])
unfolding nths_from
nths_snoc i zero s = rw (add-zero i)
nths_snoc i (suc n) s =
    let e : suc i + n ≡ i + suc n = omega arith in
    ap (λ (l : List ℕ). nth i s ∷ l) (nths_snoc (suc i) n s ∙ ap (λ (k : ℕ). nths_from (suc i) n s ++ (nth k s ∷ [])) e)

-- one field more
pub nths_more : (n : ℕ) (s : List ℕ) → nths (n + 1) s ≡ nths n s ++ (nth n s ∷ [])
nths_more n s = rw add-one (nths_snoc 0 n s ∙ ap (λ (k : ℕ). nths n s ++ (nth k s ∷ [])) (zero-add n))
