use mathlib.Core.Path.{refl, sym, ◌∙◌}
use Rattle.lexer.proofs.Runs.{run_more, run_stop, run_none}
use Rattle.lexer.proofs.characters.quoted_end.Goals as goal

pub loop-i-init : goal.loop-i-init
loop-i-init c = refl

pub loop-i-preserved : goal.loop-i-preserved
loop-i-preserved c =
    sym (run_more _ _ _ c.loop-i-test.true (sym c.is_quoted.ensures ∙ c.if-is_quoted.true)) ∙ c.loop-i.invariant

pub returns-else-is_quoted : goal.returns-else-is_quoted
returns-else-is_quoted c =
    sym (run_stop _ _ _ c.loop-i-test.true (sym c.is_quoted.ensures ∙ c.if-is_quoted.false)) ∙ c.loop-i.invariant

pub returns : goal.returns
returns c = sym (run_none _ _ _ c.loop-i-test.false) ∙ c.loop-i.invariant
