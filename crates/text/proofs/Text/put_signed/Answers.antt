-- The sign's text where the value has one, and the digits of the value without it.
use mathlib.Core.Path.{◌≡◌, ap, ◌∙◌}
use mir.Syntax.{w32, w64}
use mir.Val.{to_z, of_z}
use borrow.Author.Rules.{rules}
use lib.IntN.{nat_abs}
use Rattle.lexer.specs.Text.{bytes}
use Rattle.text.proofs.Puts.{follows}
use Rattle.text.proofs.Signed.{signed_text}
use Rattle.text.proofs.Text.put_signed.Goals as goal
use Rattle.text.proofs.Text.put_signed.Goals.{then-v-lt0, else-v-lt0}

pub returns : goal.returns
unfolding bytes
returns c =
    let v = c.args.v in
    let value : to_z w64 (of_z w64 c.from-v.result) ≡ to_z w32 v = search rules in
    let digits : c.unsigned_abs.result ≡ nat_abs (to_z w32 v) = c.unsigned_abs.ensures.value ∙ ap nat_abs value in
    let put = rw digits at c.put_decimal.ensures in
    let text = signed_text v c.ranges.v.fits in
    elim c.if-v-lt0.branch [
      | then-v-lt0 w ↦ rw (text, rw value at w.if-v-lt0.true) (follows _ _ w.put.ensures (rw w.self-is at put))
      | else-v-lt0 w ↦ rw (text, rw value at w.if-v-lt0.false) (rw w.self-is at put)
    ]
