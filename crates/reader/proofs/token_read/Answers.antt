-- 42, 1 and 2, then the token of the cursor at the place.
-- Assumes nothing.
use mathlib.Core.Path.{sym, ◌∙◌}
use native.Mathlib.Omega.{arith}
use borrow.Author.Rules.{rules}
use Rattle.state.proofs.Chain.{exits}
use Rattle.reader.proofs.Lending.{token_denied, token_mapped, within}
use Rattle.reader.proofs.token_read.Goals as goal

pub returns-in_err-readable_at : goal.returns-in_err-readable_at
returns-in_err-readable_at c = rw (exits c.from_residual.ensures.1) (token_denied _ _ c.in_err-readable_at.ensures)

pub map_err-requires : goal.map_err-requires
map_err-requires c bad e = let w = within _ _ c.in_ok-readable_at.ensures (sym e ∙ c.next_token.ensures) in (λ _ _ _. omega (arith, w.0), λ _ _ _ _. omega (arith, w.1))

pub returns : goal.returns
returns c = token_mapped _ _ c.in_ok-readable_at.ensures _ _ _ c.next_token.ensures c.map_err.ensures.cases (λ bad r made. search rules)
