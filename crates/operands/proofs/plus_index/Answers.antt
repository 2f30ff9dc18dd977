-- The plus is passed. Where no register stands behind it, the rules go back as well, to the plus.
-- Assumes nothing.
use mathlib.Core.Path.{refl, sym}
use mathlib.Core.Option.{none}
use Rattle.names.specs.Names.{registers}
use Rattle.rules.specs.Reader.{encoding, ◌>>◌}
use Rattle.rules.specs.Operands.{plus_index}
use Rattle.state.proofs.Chain.{looks_comes, looks_denied, refuses, returns as gives, is_ahead, then_comes, then_denied, attempt_back, attempt_denied, exits}
use Rattle.operands.proofs.Laws.{next_denied, within, is_found, is_absent, then_looks, attempt_looks}
use Rattle.operands.proofs.plus_index.Goals as goal

pub returns-in_err-q : goal.returns-in_err-q
unfolding plus_index
returns-in_err-q c = rw (exits c.from_residual.ensures.1) (looks_denied (attempt_denied _ (next_denied _ c.in_err-q.ensures.so)))

pub returns-in_default : goal.returns-in_default
unfolding plus_index ◌>>◌
returns-in_default c = looks_comes (rw c.alone.ensures (attempt_back _ {q = c.in_ok-q.q} (then_comes _ c.in_ok-q.ensures.so (then_comes _ is_ahead (rw (is_absent _ c.in_default.ensures) (gives none))))))

pub index-requires : goal.index-requires
index-requires c = within c.args.source.text.now c.in_ok-q.q registers (is_found _ c.in-Some.ensures)

pub returns-then-is_index : goal.returns-then-is_index
unfolding plus_index ◌>>◌
returns-then-is_index c = attempt_looks _ (then_looks _ c.in_ok-q.ensures.so (then_looks _ is_ahead (rw (is_found _ c.in-Some.ensures, sym c.if-is_index.ensures) c.index.ensures)))

pub returns : goal.returns
unfolding plus_index ◌>>◌
returns c = looks_denied (attempt_denied _ (then_denied _ c.in_ok-q.ensures.so (then_denied _ is_ahead (rw (is_found _ c.in-Some.ensures, sym c.if-is_index.ensures) (refuses (encoding c.args.r.from c.in_ok-q.q.pos c.args.r.register c.in-Some.s) refl)))))
