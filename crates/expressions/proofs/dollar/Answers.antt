-- One dollar is passed, and a second one where it follows; the span stays that of the first.
-- Assumes nothing.
use mathlib.Core.Path.{refl, sym, ap}
use borrow.Author.Rules.{rules}
use borrow.Author.Tests.{eq-eqb, ne_eqb}
use denote.Enum.Bare.{same_true, same_false}
use Rattle.lexer.specs.contracts.Kind.{the_type}
use Rattle.lexer.specs.Scanned.{number_of}
use Rattle.lexer.specs.declared.Kind.TheVariants.{Dollar}
use Rattle.rules.specs.Records.{VI}
use Rattle.rules.specs.Reader.{◌>>◌}
use Rattle.state.proofs.ByNumber.{number_tells}
use Rattle.state.proofs.Flat.{plain}
use Rattle.state.proofs.Chain.{comes, ends, hands_on, writes, reads_done}
use Rattle.state.proofs.Chain.{stops}
use Rattle.expressions.proofs.Reading.{atom_dollar, mark_here, mark_other}
use Rattle.expressions.proofs.dollar.Goals as goal

pub returns-in_err-q : goal.returns-in_err-q
unfolding ◌>>◌
returns-in_err-q c = stops c.from_residual.ensures.1 _ _ (atom_dollar _ _ c.args.out.now c.requires) c.in_err-q.ensures.so

pub returns-then-eq : goal.returns-then-eq
unfolding ◌>>◌
returns-then-eq c =
    let same = same_true the_type (search rules) c.in_ok-q.q.kind Dollar (sym c.if-eq.ensures) in
    hands_on (mark_here "$" (plain "$" refl) _ _ (comes _ _ (atom_dollar _ _ _ c.requires) c.in_ok-q.ensures.so) (eq-eqb _ _ (ap number_of same))) c.token_record.ensures

pub returns : goal.returns
unfolding ◌>>◌
returns c =
    let other = same_false the_type _ _ (sym c.if-eq.ensures) in
    reads_done (ends (mark_other "$" (plain "$" refl) _ _ (comes _ _ (atom_dollar _ _ _ c.requires) c.in_ok-q.ensures.so) (ne_eqb _ _ (λ h. other (number_tells {b = Dollar} h)))) (writes (VI _ _) c.put_record.ensures))
