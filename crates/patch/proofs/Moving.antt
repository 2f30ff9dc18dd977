-- The records of an old listing, copied to a buffer and moved there.
-- Assumes nothing.
use mathlib.Core.Path.{◌≡◌, sym, ap, ◌∙◌}
use mathlib.Core.List.{List, ◌++◌, append_assoc}
use Prim.Native.Nat.{ℕ, ◌+◌, ◌-◌, ◌≤◌}
use native.Mathlib.Omega.{arith}
use lib.ListN.{length, take, drop, length-drop}
use lib.Seq.{take_at, drop_at, length-take-le}
use Rattle.rules.specs.Decode.{decode}
use Rattle.rules.proofs.Reencode.{Octets}
use Rattle.records.specs.Writes.{stores}
use Rattle.records.specs.Moves.{records_at, Decodes, moved_bytes}
use Rattle.records.proofs.Writes.{stores_room, rest_of}
use Rattle.records.proofs.Listed.{records_are, decodes, rest_length, moved_length}

-- The records of l from `on` on, copied to a place of a buffer and moved there.
module _ (o l : List ℕ) (at on : ℕ) (h : at + (length l - on) ≤ length o) {o' : List ℕ} (e : o' ≡ stores o at (take (length l - on) (drop on l))) where
  before : length (take at o) ≡ at
  before = length-take-le at o (omega arith)

  whole : o' ≡ take at o ++ (drop on l ++ drop (at + (length l - on)) o)
  whole =
      e ∙ ap (stores o at) (rest_of l on) ∙ stores_room o at (drop on l) (omega (arith, length-drop on l)) ∙ append_assoc (take at o) (drop on l) (drop (at + length (drop on l)) o)
      ∙ ap (λ (n : ℕ). take at o ++ (drop on l ++ drop (at + n) o)) (length-drop on l)

  there : drop at o' ≡ drop on l ++ drop (at + (length l - on)) o
  there = ap (drop at) whole ∙ drop_at (take at o) (drop on l ++ drop (at + (length l - on)) o) at before

  long : length (drop on l) ≡ at + (length l - on) - at
  long = length-drop on l ∙ omega arith

  part_is : take (at + (length l - on) - at) (drop at o') ≡ drop on l
  part_is = ap (take (at + (length l - on) - at)) there ∙ take_at (drop on l) (drop (at + (length l - on)) o) (at + (length l - on) - at) long

  module _ (d : Decodes l on) where
    pub part_decodes : Decodes (take (at + (length l - on) - at) (drop at o')) 0
    part_decodes = decodes (take (at + (length l - on) - at) (drop at o')) 0 (ap decode part_is ∙ d.so)

    pub put_back : Octets l → (q p : ℕ) {y : List ℕ} → y ≡ moved_bytes q p (records_at (take (at + (length l - on) - at) (drop at o')) 0)
        → take at o' ++ (y ++ drop (at + (length l - on) - at) (drop at o')) ≡ stores o at (moved_bytes q p (records_at l on))
    put_back b q p {y} f =
        let M : List ℕ = moved_bytes q p (records_at l on) in
        let n : length M ≡ length l - on = moved_length q p (records_at l on) ∙ sym (rest_length b d) in
        let r : y ≡ M = f ∙ ap (moved_bytes q p) (records_are (take (at + (length l - on) - at) (drop at o')) 0 (ap decode part_is ∙ d.so)) in
        let u : take at o' ≡ take at o = ap (take at) whole ∙ take_at (take at o) (drop on l ++ drop (at + (length l - on)) o) at before in
        let v : drop (at + (length l - on) - at) (drop at o') ≡ drop (at + length M) o =
        ap (drop (at + (length l - on) - at)) there ∙ drop_at (drop on l) (drop (at + (length l - on)) o) (at + (length l - on) - at) long ∙ ap (λ (i : ℕ). drop (at + i) o) (sym n) in
        (λ i. u i ++ (r i ++ v i)) ∙ sym (append_assoc (take at o) M (drop (at + length M) o)) ∙ sym (stores_room o at M (omega arith))
