-- The text of a token has the source's bytes, so that it may be looked up by its key.
use mathlib.Core.Path.{◌≡◌, sym, subst}
use mathlib.Core.List.{List, [], ◌∷◌}
use Prim.Native.Nat.{ℕ, zero, suc, ◌-◌}
use native.Mathlib.Omega.{arith}
use lib.ListN.{take, drop}
use lib.Seq.{get_or-drop}
use Rattle.names.proofs.Keys.{Bytes}
use Rattle.state.specs.Views.{text_of}

taken : (n : ℕ) (s : List ℕ) → Bytes s → Bytes (take n s)
taken zero s b i = omega arith
taken (suc n) [] b i = omega arith
taken (suc n) (c ∷ s) b zero = b 0
taken (suc n) (c ∷ s) b (suc i) = taken n s (λ j. b (suc j)) i

dropped : (n : ℕ) (s : List ℕ) → Bytes s → Bytes (drop n s)
dropped n s b i = rw (get_or-drop n s i 0) (b _)

pub text_bytes : (s : List ℕ) → Bytes s → (a e : ℕ) {w : List ℕ} → w ≡ text_of s a e → Bytes w
unfolding text_of
text_bytes s b a e h = subst Bytes (sym h) (taken (e - a) (drop a s) (dropped a s b))
