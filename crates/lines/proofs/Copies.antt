-- Bytes copied to a buffer, and the runs of an edited source, one behind the other.
-- Assumes nothing.
use mathlib.Core.Path.{◌≡◌, sym, ap, ap₂, ◌∙◌}
use mathlib.Core.List.{List, [], ◌++◌, append-nil, append_assoc}
use Prim.Native.Nat.{ℕ, ◌+◌, ◌-◌, ◌≤◌}
use native.Mathlib.Omega.{arith}
use native.Mathlib.Nat.{zero-add}
use lib.ListN.{length, take, drop, length-append, length-drop, drop_of_length-le}
use lib.Seq.{take-length, length-take-le, drop-drop}
use Rattle.rules.specs.Calls.{overwrite}
use Rattle.records.specs.Writes.{stores}
use Rattle.records.proofs.Writes.{stores_room, stored_before, rest_of, stored_over}

-- Bytes copied to the part p of a buffer from a place on.
pub copied : (l : List ℕ) (at : ℕ) (b : List ℕ) {p : List ℕ} → at + length b ≤ length l → p ≡ take (length b) b ++ drop (length b) (take (length l - at) (drop at l))
    → take at l ++ (p ++ drop (length l - at) (drop at l)) ≡ stores l at b
copied l at b {p} h e =
    let R : List ℕ = drop (at + length b) l in
    let x : p ≡ b ++ R = e ∙ ap₂ ◌++◌ (take-length b) (ap (drop (length b)) (rest_of l at) ∙ drop-drop (length b) at l) in
    let z : drop (length l - at) (drop at l) ≡ [] = drop_of_length-le (drop at l) {i = length l - at} (omega (arith, length-drop at l)) in
    rw (x, z) (ap (λ (q : List ℕ). take at l ++ q) (append-nil (b ++ R)) ∙ sym (append_assoc (take at l) b R) ∙ sym (stores_room l at b h))

-- Three runs of bytes that fill a buffer from its first byte on, the last copied first.
pub exchanged_over : (s t l : List ℕ) (a e : ℕ) {l₁ l₂ l₃ : List ℕ} → a ≤ length s → a + length t + (length s - e) ≤ length l
    → l₁ ≡ stores l (a + length t) (take (length s - e) (drop e s)) → l₂ ≡ stores l₁ a t → l₃ ≡ stores l₂ 0 (take a s) → l₃ ≡ overwrite (take a s ++ (t ++ drop e s)) l
exchanged_over s t l a e {l₁} {l₂} {l₃} h k i j m =
    let A : List ℕ = take a s in
    let D : List ℕ = drop e s in
    let x : length A ≡ a = length-take-le a s h in
    let y : length D ≡ length s - e = length-drop e s in
    let u : l₂ ≡ stores l a (t ++ D) = j ∙ ap (λ (o : List ℕ). stores o a t) (i ∙ ap (stores l (a + length t)) (rest_of s e)) ∙ stored_before l a t D in
    let v : l₃ ≡ stores l 0 (A ++ (t ++ D)) =
    m ∙ ap (λ (o : List ℕ). stores o 0 A) u ∙ ap (λ (n : ℕ). stores (stores l n (t ++ D)) 0 A) (sym (zero-add (length A) ∙ x)) ∙ stored_before l 0 A (t ++ D) in
    v ∙ stored_over l (A ++ (t ++ D)) (omega (arith, length-append A (t ++ D), length-append t D))
