-- A record with fewer bytes than its mark and its fields have is none; the parts of the others are written one behind the other.
use Prim.Native.Nat.{ℕ, ◌≤◌, ◌+◌, ◌-◌}
use mathlib.Core.Path.{◌≡◌, sym, ap, subst, ◌∙◌}
use mathlib.Core.List.{List, [], ◌∷◌, ◌++◌}
use mathlib.Core.Option.{none}
use native.Mathlib.Omega.{arith}
use lib.ListN.{length, get_or, take, drop}
use Rattle.lexer.specs.Text.{bytes}
use Rattle.rules.specs.Decode.{nth, record_of}
use Rattle.records.specs.Marks.{letters_of}
use Rattle.text.specs.Text.{numbers, signed}
use Rattle.printing.specs.Shapes.{nths, Lined}
use Rattle.text.proofs.Puts.{nothing, follows, reads_as}
use Rattle.printing.proofs.Room.{fields_short, value_short, data_short}
use Rattle.printing.proofs.Shapes.{no_mark, not_known, too_short, value_fields, data_fields, value_there, data_there, no_data, fields_there, printed, two_letters, tail, whole_line}
use Rattle.printing.proofs.put_record.Goals as goal
use Rattle.printing.proofs.put_record.Goals.{in-VC, in-LD+else-rest-count, in_default-mark}

-- the bytes behind the mark
room : (s : List ℕ) → length (take (length s - 2) (drop 2 s)) ≡ length (drop 2 s)
room s = ap length (tail 2 s)

pub returns-in_default : goal.returns-in_default
returns-in_default c = (no_mark c.args.s.now c.in_default.len_below, nothing _)

pub returns-in_err-mark : goal.returns-in_err-mark
returns-in_err-mark c =
    let s = c.args.s.now in
    rw c.from_residual.ensures (not_known (take 2 s) (drop 2 s) (rw (two_letters s c.in-len2-up.len_at_least) c.in_err-mark.ensures), nothing _)

-- The letters l of a mark stand at the head of s.
letters : (s : List ℕ) {l : List ℕ} → 2 ≤ length s → l ≡ get_or s 0 0 ∷ get_or s 1 0 ∷ [] → l ≡ take 2 s
letters s h e = e ∙ sym (two_letters s h)

none_at : (s : List ℕ) {l : List ℕ} → l ≡ take 2 s → record_of l (drop 2 s) ≡ none → record_of (take 2 s) (drop 2 s) ≡ none
none_at s e f = ap (λ (m : List ℕ). record_of m (drop 2 s)) (sym e) ∙ f

lined_at : (s : List ℕ) {l : List ℕ} (size : ℕ) (text : List ℕ) → l ≡ take 2 s → Lined l (drop 2 s) size text → Lined (take 2 s) (drop 2 s) size text
lined_at s size text e so = subst (λ (m : List ℕ). Lined m (drop 2 s) size text) e so

pub returns-then-rest-n : goal.returns-then-rest-n
returns-then-rest-n c =
    let s = c.args.s.now in
    let m = letters s c.in-len2-up.len_at_least c.in_ok-mark.ensures.0 in
    (none_at s m (too_short _ (drop 2 s) (omega (arith, room s, c.if-rest-n.true, c.fields-n.ensures.0))), nothing _)

pub put_fields-requires : goal.put_fields-requires
put_fields-requires c = omega (arith, value_fields c.in-VC.is c.fields-n.ensures.0 c.if-rest-n.false)

pub field-requires : goal.field-requires
field-requires c = value_fields c.in-VC.is c.fields-n.ensures.0 c.if-rest-n.false

pub field-count-requires : goal.field-count-requires
field-count-requires c = data_fields c.in-LD.is c.fields-n.ensures.0 c.if-rest-n.false

pub overflow_sub-rest : goal.overflow_sub-rest
overflow_sub-rest c = data_fields c.in-LD.is c.fields-n.ensures.0 c.if-rest-n.false

pub put_fields-requires-in-LD : goal.put_fields-requires-in-LD
put_fields-requires-in-LD c = data_fields c.in-LD.is c.fields-n.ensures.0 c.if-rest-n.false

pub slice_bounds-put_numbers-end : goal.slice_bounds-put_numbers-end
slice_bounds-put_numbers-end c = omega (arith, c.if-rest-count.false, data_fields c.in-LD.is c.fields-n.ensures.0 c.if-rest-n.false)

pub returns-then-rest-count : goal.returns-then-rest-count
returns-then-rest-count c =
    let s = c.args.s.now in
    let m = sym (ap letters_of c.in-LD.is) ∙ letters s c.in-len2-up.len_at_least c.in_ok-mark.ensures.0 in
    let n = c.field-count.ensures ∙ ap (nth 2) (tail 2 s) in
    (none_at s m (no_data (drop 2 s) (omega (arith, room s, c.if-rest-count.true, n, data_fields c.in-LD.is c.fields-n.ensures.0 c.if-rest-n.false))), nothing _)

pub returns : goal.returns
unfolding bytes
returns c =
    let s = c.args.s.now in
    let h = c.in-len2-up.len_at_least in
    let (e, known) = c.in_ok-mark.ensures in
    let k = c.fields-n.ensures.0 in
    let there = c.if-rest-n.false in
    elim c.match-mark.branch [
      | in-VC w ↦
          let value = follows _ _ (follows _ _ (rw e at w.put_fields.ensures) w.put.ensures) (rw w.field.ensures at w.put_signed.ensures) in
          let put = follows _ _ value (rw w.text-is at c.put-2.ensures) in
          let so = lined_at s _ _ (sym (ap letters_of w.in-VC.is) ∙ letters s h e) (value_there (drop 2 s) (omega (arith, room s, value_fields w.in-VC.is k there))) in
          rw w.size-is (printed s _ _ h (value_short (drop 2 s)) so (reads_as (whole_line s (λ r. numbers (nths 2 r) ++ bytes " " ++ signed (nth 2 r)) h) put))
      | in-LD+else-rest-count w ↦
          let n = w.field-count.result in
          let j : 12 + n - 12 ≡ n = omega arith in
          let put = follows _ _ (follows _ _ (rw e at w.put_fields-in-LD.ensures) (rw j at w.put_numbers.ensures)) (rw w.text-is at c.put-2.ensures) in
          let so = lined_at s _ _ (sym (ap letters_of w.in-LD.is) ∙ letters s h e)
          (data_there (drop 2 s) n (w.field-count.ensures ∙ ap (nth 2) (tail 2 s)) (omega (arith, room s, w.if-rest-count.false, data_fields w.in-LD.is k there))) in
          rw w.size-is (printed s _ _ h (data_short n s (λ i. (c.type_inv.s i).fits)) so (reads_as (whole_line s (λ r. numbers (nths 3 r) ++ numbers (take n (drop 12 r))) h) put))
      | in_default-mark w ↦
          let n = c.fields-n.result in
          let put = follows _ _ (rw e at w.put_fields-in_default-mark.ensures) (rw w.text-is at c.put-2.ensures) in
          let so = lined_at s _ _ (letters s h e) (fields_there _ n (drop 2 s) k (rw e known) (omega (arith, room s, there)) w.in_default-mark.not-VC w.in_default-mark.not-LD) in
          rw w.size-is (printed s _ _ h (fields_short n (drop 2 s)) so (reads_as (whole_line s (λ r. numbers (nths n r)) h) put))
    ]
