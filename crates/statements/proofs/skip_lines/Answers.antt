use mathlib.Core.Path.{◌∙◌}
use borrow.Author.Tests.{eq-eqb}
use Rattle.lexer.specs.declared.Kind.TheVariants as kind
use Rattle.state.proofs.Chain.{exits}
use Rattle.statements.proofs.Lines.{same_kind, other_kind, feed_falls, feed_skips, feed_denied, skip_stays}
use Rattle.statements.proofs.skip_lines.Goals as goal

pub returns-in_err-q : goal.returns-in_err-q
returns-in_err-q c =
    let e = eq-eqb _ _ (same_kind kind.NewLine _ c.loop-source-test.ensures) in
    let d = c.in_err-q.ensures.so in
    rw (exits c.from_residual.ensures.1) (record { so = record { cause = d.cause; reads = c.loop-source.invariant ∙ feed_denied _ _ e d.reads; by_numbers = d.by_numbers } })

pub loop-source-smaller : goal.loop-source-smaller
loop-source-smaller c = feed_falls _ _ (eq-eqb _ _ (same_kind kind.NewLine _ c.loop-source-test.ensures)) c.in_ok-q.ensures.so

pub loop-source-preserved : goal.loop-source-preserved
loop-source-preserved c = c.loop-source.invariant ∙ feed_skips _ _ (eq-eqb _ _ (same_kind kind.NewLine _ c.loop-source-test.ensures)) c.in_ok-q.ensures.so

pub returns : goal.returns
returns c = record { so = record { reads = c.loop-source.invariant ∙ skip_stays _ _ (other_kind kind.NewLine _ c.loop-source-test.ensures); kept = tt } }
