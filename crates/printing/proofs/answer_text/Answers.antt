-- The bytes that the full read wrote are its records', and a refusal's numbers are its own.
use Prim.Native.Nat.{ℕ, ◌+◌, ◌*◌}
use mathlib.Core.Path.{sym, ap, ◌∙◌}
use native.Mathlib.Omega.{arith}
use lib.ListN.{length, length-take}
use Rattle.refusals.specs.Refusals.{numbers, by_numbers}
use Rattle.printing.proofs.Room.{refusal_most}
use Rattle.printing.proofs.Answers.{said, written, denied}
use Rattle.printing.proofs.answer_text.Goals as goal

pub returns-in-Ok : goal.returns-in-Ok
returns-in-Ok c =
    let a = c.args in
    let f = c.full_read.ensures in
    let e = written a.source.now a.listing.now c.full_read.new.out (ap (by_numbers {A = ℕ}) (sym c.in-Ok.is) ∙ f.answer) f.buffer in
    let h = rw e at c.listing_text.ensures.holds in
    let k = rw e at c.listing_text.ensures.listing_len_bound in
    let w = said (6 * length a.listing.now + 109) h (omega (arith, k, length-take c.in-Ok.n c.full_read.new.out)) in
    record { within = w.1; text = h; whole = w.0; listing = f.buffer }

pub returns-in-Err : goal.returns-in-Err
returns-in-Err c =
    let a = c.args in
    let f = c.full_read.ensures in
    let e = denied a.source.now a.listing.now a.listing.now c.in-Err.r (ap (by_numbers {A = ℕ}) (sym c.in-Err.is) ∙ f.answer) in
    let h = rw e at c.refusal_text.ensures in
    let w = said (6 * length a.listing.now + 109) h (rw (sym e) (omega (arith, refusal_most (numbers c.in-Err.r)))) in
    record { within = w.1; text = h; whole = w.0; listing = f.buffer }
