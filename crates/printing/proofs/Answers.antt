-- What is printed of a full read's answer: the bytes that it wrote decode to the records that it gives.
use Prim.Native.Nat.{ℕ, ◌+◌, ◌-◌, ◌≤◌, min}
use mathlib.Core.Path.{◌≡◌, refl, ap, ◌∙◌}
use mathlib.Core.Bool.{true≢false}
use mathlib.Core.List.{List}
use native.Mathlib.Omega.{arith}
use lib.ListN.{length, length-append, length-take, length-drop, take, drop}
use lib.Seq.{take-append_seam}
use Rattle.io.specs.Counts.{IsPrefixLen}
use Rattle.rules.specs.Statements.{present}
use Rattle.rules.specs.Records.{Record, listing}
use Rattle.rules.specs.Calls.{Result, gives, refuses, overwrite, leaves, full_read, full_buffer}
use Rattle.rules.proofs.Calls.{Accepted, accepted_call}
use Rattle.rules.proofs.Table.{proper}
use Rattle.rules.proofs.Listing.{listing_decodes}
use Rattle.refusals.specs.declared.Refusal.{Refusal}
use Rattle.refusals.specs.Refusals.{numbers, by_numbers}
use Rattle.std.specs.Prelude.{Ok, Err}
use Rattle.rules.specs.Reader.{numbers_of}
use Rattle.reader.specs.Calls.{full_answer}
use Rattle.printing.specs.Holds.{Holds}
use Rattle.printing.specs.Lines.{text_of, refusal_text, answer_text, records_in}
use Rattle.printing.proofs.Records.{text_of_listing}

-- text that is not too long is whole, and lies within the buffer
pub said : {bs l l' : List ℕ} {r : ℕ} (most : ℕ) → Holds bs l l' r → length bs ≤ most → (most ≤ length l → r ≡ length bs) × IsPrefixLen r l'
unfolding overwrite
said {bs} {l} {l'} {r} most h k =
    let t : List ℕ = take (length l) bs in
    let n : length t ≡ min (length l) (length bs) = length-take (length l) bs in
    let m : length l' ≡ length t + length (drop (length t) l) = ap length h.text ∙ length-append t (drop (length t) l) in
    let d : length (drop (length t) l) ≡ length l - length t = length-drop (length t) l in
    let z : r ≡ length t = h.size in
    ((λ room. omega arith), (omega arith, omega (arith, length-take r l')))

module _ (s l l' : List ℕ) where
  pub written : {n : ℕ} → by_numbers (Ok n) ≡ full_answer (full_read present s (length l)) → l' ≡ full_buffer present s l → text_of (records_in 0 (take n l')) ≡ answer_text (full_read present s (length l))
  unfolding full_buffer answer_text leaves overwrite
  written {n} e f = go (full_read present s (length l)) refl e f
    where
      go : (x : Result (List Record)) → full_read present s (length l) ≡ x → Ok n ≡ full_answer x → l' ≡ leaves listing x l → text_of (records_in 0 (take n l')) ≡ answer_text x
      go (gives w) h e f =
          let k : n ≡ length (listing w) = cc in
          let b : take n l' ≡ listing w = rw (k, f) (take-append_seam (listing w) (drop (length (listing w)) l)) in
          let a : Accepted present s w = accepted_call present s (length l) w h in
          rw b (ap text_of (text_of_listing (listing w) w (listing_decodes present proper s w a.small a.short a.reads)))
      go (refuses c) h e f = absurd (true≢false cc)

  pub denied : (r : Refusal) → by_numbers {A = ℕ} (Err r) ≡ full_answer (full_read present s (length l)) → refusal_text (numbers r) ≡ answer_text (full_read present s (length l))
  unfolding answer_text
  denied r e = go (full_read present s (length l)) e
    where
      go : (x : Result (List Record)) → by_numbers {A = ℕ} (Err r) ≡ full_answer x → refusal_text (numbers r) ≡ answer_text x
      go (gives w) e = absurd (true≢false cc)
      go (refuses c) e = let k : numbers r ≡ numbers_of c = cc in rw k
