-- Text put from a buffer's first byte on.
use Prim.Native.Nat.{ℕ, ◌+◌, ◌-◌, min}
use mathlib.Core.Path.{◌≡◌, sym, ap, ◌∙◌}
use mathlib.Core.List.{List, ◌++◌}
use native.Mathlib.Omega.{arith, min_cases}
use native.Mathlib.Nat.{zero-add}
use lib.ListN.{length, length-take, length-drop, take, drop, take-append-drop, drop_of_length-le}
use lib.Seq.{sets, length-sets, sets-eq}
use Rattle.rules.specs.Calls.{overwrite}
use Rattle.text.specs.declared.Text.{Text}
use Rattle.text.specs.Text.{stores, Put}
use Rattle.printing.specs.Holds.{Holds}
use Rattle.text.proofs.Puts.{sets_append, sets_out}

sets_cut : (bs l : List ℕ) → sets l 0 bs ≡ take (length l) bs ++ drop (length (take (length l) bs)) l
sets_cut bs l =
    let a : List ℕ = take (length l) bs in
    let b : List ℕ = drop (length l) bs in
    let n : length a ≡ min (length l) (length bs) = length-take (length l) bs in
    let k : length b ≡ length bs - length l = length-drop (length l) bs in
    let m : length (sets l 0 a) ≡ length l = length-sets l 0 a in
    let rest : sets (sets l 0 a) (0 + length a) b ≡ sets l 0 a = min_cases (length l) (length bs) _
    (λ h _. sets_out (sets l 0 a) (0 + length a) b (omega arith))
    (λ h _. ap (sets (sets l 0 a) (0 + length a)) (drop_of_length-le bs h)) in
    ap (sets l 0) (sym (take-append-drop (length l) bs)) ∙ sets_append l 0 a b ∙ rest ∙ sets-eq a l 0 (omega arith) ∙ ap (λ (k : ℕ). a ++ drop k l) (zero-add (length a))

-- By a text that begins at the head of the buffer l, which is l' then.
pub holds : {bs l l' : List ℕ} {t t' : Text} → Put bs t t' → t.at ≡ 0 → t.out.now ≡ l → l' ≡ t'.out.now → Holds bs l l' t'.at
unfolding stores overwrite
holds {bs} {l} {l'} {t} {t'} x z b e =
    let n : length (take (length l) bs) ≡ min (length l) (length bs) = length-take (length l) bs in
    let k : length t.out.now ≡ length l = ap length b in
    let p = x.place in
    record { text = e ∙ x.text ∙ rw (z, b) (sets_cut bs l); size = omega arith }
