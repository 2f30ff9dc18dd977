-- An atom goes by the kind of its token.
-- Assumes nothing.
use mathlib.Core.Path.{ap}
use Rattle.lexer.specs.Scanned.{number_of}
use Rattle.rules.specs.Expressions.{atom_of}
use Rattle.state.proofs.Chain.{denied, hands_on, refuses_here, reads_refused}
use Rattle.expressions.proofs.Reading.{number_is, atom_by, atom_name, atom_open, atom_none}
use Rattle.expressions.proofs.atom.Goals as goal

pub returns-in-Number : goal.returns-in-Number
unfolding atom_of
returns-in-Number c = hands_on (atom_by _ _ _ (number_is _ _ (ap number_of c.in-Number.is))) c.token_record.ensures

pub returns-in-Identifier : goal.returns-in-Identifier
returns-in-Identifier c = hands_on (atom_name _ _ _ c.in-Identifier.is) c.token_record-in-Identifier.ensures

pub returns-in-UnclosedString : goal.returns-in-UnclosedString
returns-in-UnclosedString c = reads_refused (denied (atom_open _ _ c.args.out.now c.in-UnclosedString.is) (refuses_here 16 c.refuse_here.ensures))

pub returns-in_default : goal.returns-in_default
returns-in_default c =
    let n = c.in_default in
    reads_refused (denied (atom_none _ _ c.args.out.now n.not-Number n.not-Identifier n.not-Dollar n.not-ClosedString n.not-UnclosedString) (refuses_here 21 c.refuse_here-in_default.ensures))
