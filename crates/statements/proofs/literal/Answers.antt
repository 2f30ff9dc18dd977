-- Each kind is the literal that the rules say.
-- Assumes nothing.
use mathlib.Core.Path.{ap}
use Rattle.lexer.specs.Scanned.{number_of}
use Rattle.records.proofs.Writers.{same_still}
use Rattle.statements.proofs.Lines.{is_other_than}
use Rattle.statements.proofs.Data.{is_comma, is_string, is_open_lem, is_other}
use Rattle.statements.proofs.literal.Goals as goal

pub returns-in-Comma : goal.returns-in-Comma
returns-in-Comma c = record { so = is_comma _ _ _ _ (ap number_of c.in-Comma.is); lent = same_still _ }

pub returns-in-Number : goal.returns-in-Number
returns-in-Number c = c.number.ensures _

pub returns-in-ClosedString : goal.returns-in-ClosedString
returns-in-ClosedString c = is_string _ _ _ (ap number_of c.in-ClosedString.is) c.text-word.ensures c.put_characters.ensures

pub returns-in-UnclosedString : goal.returns-in-UnclosedString
returns-in-UnclosedString c = is_open_lem _ _ _ (ap number_of c.in-UnclosedString.is) c.refuse_here.ensures

pub returns-in_default : goal.returns-in_default
returns-in_default c =
    let d = c.in_default in
    is_other _ _ _ (is_other_than d.not-Comma) (is_other_than d.not-Number) (is_other_than d.not-ClosedString) (is_other_than d.not-UnclosedString) c.requires c.refuse_here-in_default.ensures
