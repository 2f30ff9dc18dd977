-- The line goes on up to the first line feed of what is left.
-- Assumes nothing.
use mathlib.Core.Path.{ap, sym, ◌∙◌}
use Prim.Native.Nat.{ℕ, ◌+◌, ◌-◌}
use lib.ListN.{length, take, drop}
use borrow.Author.Rules.{rules}
use borrow.Author.Tests.{tests}
use Rattle.std.proofs.lemmas.Iterator.{IsFirst-from_position, YieldsList-from_slice}
use Rattle.records.proofs.Writes.{rest_of}
use Rattle.lexer.specs.Text.{run}
use Rattle.lexer.specs.Tokens.{in_comment}
use Rattle.lines.proofs.Searches.{Feed, Other, run_found}
use Rattle.lines.proofs.line_end.Goals as goal

pub returns : goal.returns
returns c =
    let s = c.args.source.now in
    let a = c.args.place in
    let t = take (length s - a) (drop a s) in
    let found = run_found t c.position.result (IsFirst-from_position _ _ c.position.result Feed Other c.position.ensures.ran (YieldsList-from_slice t cc) (λ x q k. search (rules, tests)) (λ x q k. search (rules, tests))) in
    ap (λ (n : ℕ). a + n) (c.unwrap_or.ensures ∙ sym found ∙ ap (run in_comment) (rest_of s a))
