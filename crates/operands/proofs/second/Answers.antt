-- By the token ahead: what `plus_index` finds, or the register alone.
-- Assumes nothing.
use mathlib.Core.Path.{refl}
use Rattle.lexer.specs.declared.Kind.TheVariants as kind
use Rattle.rules.specs.Operands.{second}
use Rattle.state.proofs.Chain.{looks_comes, returns as gives, is_kind, then_comes}
use Rattle.state.proofs.Flat.{plain}
use Rattle.operands.proofs.Laws.{mark_there, other_there, then_looks}
use Rattle.operands.proofs.second.Goals as goal

pub returns-then-eq : goal.returns-then-eq
unfolding second
returns-then-eq c = then_looks _ is_kind (rw (mark_there c.args.source.text.now c.args.p kind.Plus "+" (plain "+" refl) refl c.if-eq.ensures) c.plus_index.ensures)

pub returns : goal.returns
unfolding second
returns c = looks_comes (then_comes _ is_kind (rw (other_there c.args.source.text.now c.args.p kind.Plus "+" (plain "+" refl) refl c.if-eq.ensures, c.alone.ensures) (gives _)))
