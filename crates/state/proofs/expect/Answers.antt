-- The token ahead is the mark, and is passed; or it is refused on it.
use mathlib.Core.Path.{sym, ap, ◌∙◌}
use borrow.Author.Rules.{rules}
use borrow.Author.Tests.{eq-eqb, ne_eqb}
use Rattle.std.specs.Prelude.{Err}
use denote.Enum.Bare.{same_true, same_false}
use Rattle.lexer.specs.contracts.Kind.{the_type}
use Rattle.lexer.specs.Scanned.{number_of}
use Rattle.state.proofs.ByNumber.{number_tells}
use Rattle.state.proofs.Steps.{expect_passes, expect_denied}
use Rattle.state.proofs.expect.Goals as goal

pub next-requires : goal.next-requires
next-requires c = rw (same_true the_type (search rules) _ _ (sym c.if-eq.ensures)) c.requires

pub returns-then-eq : goal.returns-then-eq
returns-then-eq c = record {
  there = λ _. c.next.ensures;
  other = λ k. absurd (k (same_true the_type (search rules) _ _ (sym c.if-eq.ensures)));
  so = λ a e h. expect_passes _ _ a _ h (eq-eqb _ _ (ap number_of (same_true the_type (search rules) _ _ (sym c.if-eq.ensures)) ∙ sym e)) c.next.ensures;
}

pub returns : goal.returns
returns c = let n = same_false the_type _ _ (sym c.if-eq.ensures) in record {
  there = λ k. absurd (n k);
  other = λ _. ap Err c.refuse_here.ensures;
  so = λ a e h. expect_denied _ _ a _ h (ne_eqb _ _ (λ k. n (number_tells (k ∙ e)))) c.refuse_here.ensures;
}
