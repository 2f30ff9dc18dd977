-- Records whose fields fit four bytes are what their bytes are decoded to: each field's value comes back, and the next record begins where
-- this one's bytes end.
use mathlib.Core.Path.{◌≡◌, refl, sym, ap, ap₂, ◌∙◌}
use mathlib.Core.List.{List, [], ◌∷◌, ◌++◌, append_assoc, append-nil}
use mathlib.Core.Option.{some}
use Prim.Native.Nat.{ℕ, suc, pred, ◌+◌, ◌*◌, ◌/◌, ◌%◌, ◌<◌}
use native.Mathlib.Omega.{arith}
use native.Mathlib.Nat.{div-div-eq-div-mul}
use lib.ListN.{length, take, drop, length-append}
use lib.Seq.{take-append_seam, drop_at, drop-drop}
use borrow.Author.Tests.{le-leb}
use Rattle.rules.specs.Records.{Form, form_of, Record, plain, laden, mark_of, fields_of, cells, field, fields, encode, listing}
use Rattle.rules.specs.Decode.{value, nth, nths_from, having, data_at, formed, record_of, also, records_from, decode}
use Rattle.rules.proofs.Records.{length_fields}
use Rattle.rules.proofs.Forms.{is_laden, data_of, two_letters}

abbrev pub Low : ℕ → Type 0
Low v = v < 4294967296

pub value_field : (v : ℕ) → Low v → value (field v) ≡ v
unfolding value field
value_field v h =
    let e : v / 65536 ≡ v / 256 / 256 = sym (div-div-eq-div-mul v 256 256) in
    let f : v / 16777216 ≡ v / 256 / 256 / 256 = sym (ap (λ (k : ℕ). k / 256) (div-div-eq-div-mul v 256 256) ∙ div-div-eq-div-mul v 65536 256) in
    rw (e, f) (joined (v % 256) (v / 256) v h (omega arith))
  where
    joined : (r q v : ℕ) → Low v → v ≡ r + 256 * q → r + 256 * (q % 256 + 256 * (q / 256 % 256 + 256 * (q / 256 / 256 % 256 + 256 * 0))) ≡ v
    joined r q v h e = omega arith

abbrev pub AllLow : List ℕ → Type 0
AllLow [] = Unit {0}
AllLow (v ∷ vs) = Low v × AllLow vs

-- The record has a description, and every field fits its four bytes.
pub record Ranged (r : Record) : Type 0 where
  pub described : Form
  pub so : form_of (mark_of r) ≡ some described
  pub shaped : described.laden ≡ is_laden r
  pub many : length (fields_of r) ≡ length (cells described.holds)
  pub low : AllLow (fields_of r)
  pub counted : Low (length (data_of r))

abbrev pub AllRanged : List Record → Type 0
AllRanged [] = Unit {0}
AllRanged (r ∷ rs) = Ranged r × AllRanged rs

-- A field behind others, and others behind it.
pub nth_is : (i : ℕ) (s : List ℕ) (v : ℕ) (z : List ℕ) → Low v → drop (4 * i) s ≡ field v ++ z → nth i s ≡ v
unfolding nth field
nth_is i s v z h e = ap (λ (l : List ℕ). value (take 4 l)) e ∙ value_field v h

next_is : (i : ℕ) (s : List ℕ) (v : ℕ) (z : List ℕ) → drop (4 * i) s ≡ field v ++ z → drop (4 * suc i) s ≡ z
unfolding field
next_is i s v z e =
    let k : 4 * suc i ≡ 4 * i + 4 = omega arith in
    ap (λ (n : ℕ). drop n s) k ∙ sym (drop-drop 4 (4 * i) s) ∙ ap (drop 4) e

nths_are : (i : ℕ) (s vs z : List ℕ) → AllLow vs → drop (4 * i) s ≡ fields vs ++ z → nths_from i (length vs) s ≡ vs
unfolding nths_from fields
nths_are i s [] z h e = refl
nths_are i s (v ∷ vs) z h e =
    let f : drop (4 * i) s ≡ field v ++ (fields vs ++ z) = e ∙ append_assoc (field v) (fields vs) z in
    ap₂ ◌∷◌ (nth_is i s v (fields vs ++ z) h.0 f) (nths_are (suc i) s vs z h.1 (next_is i s v (fields vs ++ z) f))

-- A record's bytes behind its fields, and those behind its mark.
abbrev pub tail_of : Record → List ℕ
tail_of (plain m vs) = []
tail_of (laden m vs d) = field (length d) ++ d

unfoldable body_of : Record → List ℕ
body_of (plain m vs) = fields vs
body_of (laden m vs d) = fields vs ++ (field (length d) ++ d)

fields_append : (a b : List ℕ) → fields (a ++ b) ≡ fields a ++ fields b
unfolding fields
fields_append [] b = refl
fields_append (v ∷ a) b = ap (λ (l : List ℕ). field v ++ l) (fields_append a b) ∙ sym (append_assoc (field v) (fields a) (fields b))

body : (r : Record) → encode r ≡ mark_of r ++ body_of r
unfolding encode body_of fields
body (plain m vs) = refl
body (laden m vs d) =
    let c : List ℕ = field (length d) in
    ap (λ (l : List ℕ). m ++ l ++ d) (fields_append vs (length d ∷ []) ∙ ap (λ (l : List ℕ). fields vs ++ l) (append-nil c))
    ∙ append_assoc m (fields vs ++ c) d ∙ ap (λ (l : List ℕ). m ++ l) (append_assoc (fields vs) c d)

pub parts : (r : Record) → encode r ≡ mark_of r ++ (fields (fields_of r) ++ tail_of r)
unfolding body_of
parts (plain m vs) = body (plain m vs) ∙ ap (λ (l : List ℕ). m ++ l) (sym (append-nil (fields vs)))
parts (laden m vs d) = body (laden m vs d)

module _ (m vs z : List ℕ) (low : AllLow vs) where
  plain_of : having (length vs) (fields vs ++ z) (plain m (nths_from 0 (length vs) (fields vs ++ z))) ≡ some (record { what = plain m vs; size = 2 + length (fields vs) })
  unfolding having
  plain_of =
      let s : List ℕ = fields vs ++ z in
      let k : length (fields vs) ≡ 4 * length vs = length_fields vs in
      rw (le-leb (4 * length vs) (length s) (omega (arith, length-append (fields vs) z)), nths_are 0 s vs z low refl, k)

  laden_of : (d : List ℕ) → Low (length d) → let s : List ℕ = (fields vs ++ (field (length d) ++ d)) ++ z in
      data_at (length vs) m s ≡ some (record { what = laden m vs d; size = 2 + length (fields vs ++ (field (length d) ++ d)) })
  unfolding data_at field
  laden_of d h =
      let n : ℕ = length vs in
      let c : ℕ = length d in
      let b : List ℕ = field c ++ (d ++ z) in
      let s : List ℕ = (fields vs ++ (field c ++ d)) ++ z in
      let k : length (fields vs) ≡ 4 * n = length_fields vs in
      let e : s ≡ fields vs ++ b = append_assoc (fields vs) (field c ++ d) z ∙ ap (λ (l : List ℕ). fields vs ++ l) (append_assoc (field c) d z) in
      let f : drop (4 * n) s ≡ field c ++ (d ++ z) = ap (drop (4 * n)) e ∙ drop_at (fields vs) b (4 * n) k in
      let g : drop (4 * n + 4) s ≡ d ++ z = sym (drop-drop 4 (4 * n) s) ∙ ap (drop 4) f in
      let i : nth n s ≡ c = nth_is n s c (d ++ z) h f in
      let j : 4 * n + 4 + c ≡ length (fields vs ++ (field c ++ d)) = omega (arith, length-append (fields vs) (field c ++ d)) in
      rw (i, g, take-append_seam d z, nths_are 0 s vs b low e, le-leb (4 * n + 4 + c) (length s) (omega (arith, length-append (fields vs ++ (field c ++ d)) z)), j)

record_of_lem : (r : Record) (z : List ℕ) → Ranged r → record_of (mark_of r) (body_of r ++ z) ≡ some (record { what = r; size = 2 + length (body_of r) })
unfolding record_of formed body_of
record_of_lem (plain m vs) z h = rw (h.so, h.shaped, ← h.many) (plain_of m vs z h.low)
record_of_lem (laden m vs d) z h = rw (h.so, h.shaped, ← h.many) (laden_of m vs z h.low d h.counted)

two : (r : Record) → Ranged r → (c : ℕ) × (d : ℕ) × (encode r ≡ c ∷ d ∷ body_of r) × (mark_of r ≡ c ∷ d ∷ [])
two r h = let (c, d, e) = two_letters (mark_of r) h.described h.so in (c, d, body r ∙ ap (λ (l : List ℕ). l ++ body_of r) e, e)

records_skip : (xs ys : List ℕ) → records_from (length xs) (xs ++ ys) ≡ records_from 0 ys
unfolding records_from
records_skip [] ys = refl
records_skip (x ∷ xs) ys = records_skip xs ys

one_decoded : (r : Record) (c d : ℕ) (b z : List ℕ) → record_of (c ∷ d ∷ []) (b ++ z) ≡ some (record { what = r; size = 2 + length b }) → records_from 0 (c ∷ d ∷ (b ++ z)) ≡ also r (records_from 0 z)
unfolding records_from
one_decoded r c d b z h =
    let e : pred (2 + length b) ≡ suc (length b) = omega arith in
    rw (h, e) (ap (also r) (records_skip b z))

-- THE ROUND TRIP.
records_decoded : (w : List Record) → AllRanged w → records_from 0 (listing w) ≡ some w
unfolding listing records_from also
records_decoded [] h = refl
records_decoded (r ∷ rs) h =
    let (c, d, e, m) = two r h.0 in
    ap (λ (l : List ℕ). records_from 0 (l ++ listing rs)) e ∙ one_decoded r c d (body_of r) (listing rs) (rw m at (record_of_lem r (listing rs) h.0)) ∙ ap (also r) (records_decoded rs h.1)

pub decoded : (w : List Record) → AllRanged w → decode (listing w) ≡ some w
unfolding decode
decoded w h = records_decoded w h
