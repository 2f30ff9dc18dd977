-- By what the token ahead names: no register, one that may stand first, or another, which is 25.
-- Assumes nothing.
use mathlib.Core.Bool.{◌||◌}
use mathlib.Core.Path.{refl, sym, ap₂, ◌∙◌}
use mathlib.Core.Option.{none}
use Rattle.names.specs.Names.{registers}
use Rattle.rules.specs.Reader.{encoding, ◌>>◌}
use Rattle.rules.specs.Operands.{registers_ahead}
use Rattle.state.proofs.Chain.{looks_comes, looks_denied, refuses, returns as gives, is_ahead, is_passed, then_comes, then_denied}
use Rattle.operands.proofs.Laws.{within, is_found, is_absent, then_looks}
use Rattle.operands.proofs.registers_ahead.Goals as goal

pub returns-in_default : goal.returns-in_default
unfolding registers_ahead ◌>>◌
returns-in_default c = looks_comes (then_comes _ is_ahead (then_comes _ is_passed (rw (is_absent _ c.in_default.ensures) (gives none))))

pub first-requires : goal.first-requires
first-requires c = within c.args.source.text.now c.args.p registers (is_found _ c.in-Some.ensures)

pub returns-then-is_base-is_index : goal.returns-then-is_base-is_index
unfolding registers_ahead ◌>>◌
returns-then-is_base-is_index c = then_looks _ is_ahead (then_looks _ is_passed (rw (is_found _ c.in-Some.ensures, ap₂ ◌||◌ (sym c.is_base.ensures) (sym c.is_index.ensures) ∙ c.if-is_base-is_index.true) c.first.ensures))

pub returns : goal.returns
unfolding registers_ahead ◌>>◌
returns c = looks_denied (then_denied _ is_ahead (then_denied _ is_passed (rw (is_found _ c.in-Some.ensures, ap₂ ◌||◌ (sym c.is_base.ensures) (sym c.is_index.ensures) ∙ c.if-is_base-is_index.false) (refuses (encoding c.args.p.token_start c.args.p.last_token_end c.in-Some.r 255) refl))))
