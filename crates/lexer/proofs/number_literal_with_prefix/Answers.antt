-- The digits of the run fit the base, so the number is refused only where it is too large.
use Prim.Native.Nat.{◌+◌, ◌≤◌}
use mathlib.Core.Path.{sym, ◌∙◌}
use native.Mathlib.Omega.{arith}
use borrow.Author.Rules.{rules}
use Rattle.lexer.specs.Runs.{radix}
use Rattle.lexer.proofs.Scans.{prefix_alone, prefix_within, prefix_hex, prefix_fits, prefix_beyond}
use Rattle.lexer.proofs.number_literal_with_prefix.Goals as goal

pub returns-then-end-from : goal.returns-then-end-from
returns-then-end-from g c = λ p e h. c.plain.ensures ∙ prefix_alone _ _ _ _ _ (c.run_end-end.ensures p e) c.if-end-from.true

pub from_radix-requires : goal.from_radix-requires
from_radix-requires g c =
    let (p, e, h) = c.requires.1.1 in
    prefix_hex p (radix c.args.base) _ _ _ (c.run_end-end.ensures p e) h c.if-end-from.false

pub slice_bounds-from_radix-end : goal.slice_bounds-from_radix-end
slice_bounds-from_radix-end g c = let (p, e, h) = c.requires.1.1 in prefix_within p 0 _ _ _ (c.run_end-end.ensures p e) c.if-end-from.false

pub returns-in-Some : goal.returns-in-Some
returns-in-Some g c = λ p e h. prefix_fits _ _ _ _ _ (c.run_end-end.ensures p e) h c.if-end-from.false (sym c.from_radix.ensures ∙ c.in-Some.is)

pub returns-in-None : goal.returns-in-None
returns-in-None g c = λ p e h. c.plain-in-None.ensures ∙ prefix_beyond _ _ _ _ _ (c.run_end-end.ensures p e) h c.if-end-from.false (sym c.from_radix.ensures ∙ c.in-None.is)

pub slice_bounds-from_radix-count : goal.slice_bounds-from_radix-count
slice_bounds-from_radix-count g c = let (p, e, h) = c.requires.1.1 in omega (arith, c.run_end-end.ensures p e)

pub slice_bounds-from_radix-start : goal.slice_bounds-from_radix-start
slice_bounds-from_radix-start g c =
    let (p, e, h) = c.requires.1.1 in
    let l : c.args.at + 2 ≤ c.run_end-end.result = omega (arith, c.run_end-end.ensures p e) in
    search (rules, l)
