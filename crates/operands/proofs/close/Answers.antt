-- The closing bracket is passed; then the registers and the displacement say which record it is, or that it is 32.
-- Assumes nothing.
use mathlib.Core.Path.{◌≡◌, refl, sym}
use mathlib.Core.Bool.{true, false}
use borrow.Author.Rules.{rules}
use Rattle.rules.specs.Records.{OD, OX, encode}
use Rattle.lexer.specs.Text.{bytes}
use Rattle.rules.specs.Reader.{at, ◌>>◌}
use Rattle.rules.specs.Operands.{close}
use Rattle.state.proofs.Chain.{starts, ends, comes, reads_done, reads_refused, writes, refuses, is_passed, then_denied, first_denied, exits}
use Rattle.state.proofs.Flat.{plain}
use Rattle.operands.proofs.close.Goals as goal

pub returns-in_err-q : goal.returns-in_err-q
unfolding close ◌>>◌
returns-in_err-q c = rw (exits c.from_residual.ensures.1) (reads_refused (first_denied _ (c.in_err-q.ensures.so "]" refl (plain "]" refl)).so))

pub returns-then-not-bracket : goal.returns-then-not-bracket
unfolding close ◌>>◌
returns-then-not-bracket c =
    let d : c.args.bracket.displaced ≡ false = search rules in
    reads_refused (then_denied _ (c.in_ok-q.ensures.so "]" refl (plain "]" refl)).so (then_denied _ is_passed (rw (c.in-None.is, d) (refuses (at 32 _ _) c.refused_at.ensures))))

pub returns-in-Some : goal.returns-in-Some
unfolding close ◌>>◌ encode bytes
returns-in-Some c = reads_done (ends (comes _ _ (comes _ _ (starts _ _ _ _ _) (c.in_ok-q.ensures.so "]" refl (plain "]" refl)).so) is_passed) (rw (c.in-Some.is, sym c.from.ensures, sym c.from-has.ensures, sym c.coded-size.ensures, sym c.coded-segment.ensures) (writes (OX _ _ _ _ _ _) c.put_record.ensures)))

pub returns-else-not-bracket : goal.returns-else-not-bracket
unfolding close ◌>>◌ encode bytes
returns-else-not-bracket c =
    let d : c.args.bracket.displaced ≡ true = search rules in
    reads_done (ends (comes _ _ (comes _ _ (starts _ _ _ _ _) (c.in_ok-q.ensures.so "]" refl (plain "]" refl)).so) is_passed) (rw (c.in-None.is, d, sym c.coded-size.ensures, sym c.coded-segment.ensures) (writes (OD _ _ _ _) c.put_record-in-None.ensures)))
