-- Three runs of bytes, one behind the other.
-- Assumes nothing.
use native.Mathlib.Omega.{arith}
use Rattle.lines.proofs.Copies.{exchanged_over}
use Rattle.lines.proofs.edit.Goals as goal

pub returns : goal.returns
returns c = let a = c.args in exchanged_over a.source.now a.text.now a.out.now a.place a.end (omega (arith, c.requires.0, c.requires.1)) c.requires.3 c.copy.ensures c.copy-2.ensures c.copy-3.ensures
