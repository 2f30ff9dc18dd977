-- The old listing's parts stand where the plan says, and the second reading writes what the first has measured.
-- Assumes nothing.
use Rattle.std.proofs.Common.{ℕ, List, get_or, Fits, w8}
use mathlib.Core.Path.{sym}
use native.Mathlib.Omega.{arith}
use lib.Seq.{length-take-le}
use Rattle.patch.specs.declared.Plan.{Plan}
use Rattle.patch.specs.Plans.{Surveyed}
use Rattle.records.proofs.Listed.{octets}
use Rattle.patch.proofs.Placing.{Parts, parts, written}
use borrow.Author.Rules.{rules}
use Rattle.patch.proofs.apply.Goals as goal

whole : (l : List ℕ) {line : List ℕ} {x : Plan} → ((i : ℕ) → Fits w8 (get_or l i 0)) → Surveyed line l x → Parts l x.place x.shift.old x.below x.on
whole l f q = parts (octets l (λ i. (f i).fits)) q.decodes q.below q.on

pub slice_bounds-copy-end : goal.slice_bounds-copy-end
slice_bounds-copy-end c = let w = whole c.args.listing.now c.type_inv.listing c.requires.1 in sym (length-take-le c.args.x.below c.args.listing.now (omega (arith, w.order, w.all)))

pub move_rest-requires : goal.move_rest-requires
move_rest-requires c = let w = whole c.args.listing.now c.type_inv.listing c.requires.1 in (w.decodes, omega (arith, w.all), search rules)

pub overflow_sub-result : goal.overflow_sub-result
overflow_sub-result c = omega (arith, (whole c.args.listing.now c.type_inv.listing c.requires.1).all)

pub returns : goal.returns
returns c =
    let s = c.requires.1 in
    written (whole c.args.listing.now c.type_inv.listing s) _ _ _ _ _ s.measured.size c.requires.2 c.requires.3 c.copy.ensures c.write_line.ensures c.copy-2.ensures c.move_rest.ensures
