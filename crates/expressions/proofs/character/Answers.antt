-- The text with its quotes has three bytes exactly where one character stands between them.
-- Assumes nothing.
use borrow.Author.Rules.{rules}
use mathlib.Core.Path.{◌≡◌}
use native.Mathlib.Omega.{arith}
use lib.ListN.{length}
use Rattle.rules.specs.Expressions.{atom_of}
use Rattle.state.proofs.Chain.{denied, hands_on, refuses_here, reads_refused}
use Rattle.expressions.proofs.Reading.{atom_character, atom_text}
use Rattle.expressions.proofs.character.Goals as goal

pub returns-in-len3 : goal.returns-in-len3
unfolding atom_of
returns-in-len3 c =
    let three : length c.text.result.now ≡ 3 = omega (arith, c.in-len3.len_at_least, c.in-len3.len_below) in
    hands_on (atom_character _ _ _ c.requires (rw c.text.ensures at three)) (rw (c.from.ensures, c.text.ensures) at c.token_record.ensures)

pub returns-in_default : goal.returns-in_default
returns-in_default c =
    let other : length c.text.result.now ≡ 3 → ⊥ = search rules in
    reads_refused (denied (atom_text _ _ c.args.out.now c.requires (rw c.text.ensures at other)) (refuses_here 17 c.refuse_here.ensures))
