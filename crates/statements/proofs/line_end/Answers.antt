-- At a line feed to the next line; at the end of the source it stays, where no line is below; elsewhere it is refused.
-- Assumes nothing.
use Rattle.statements.proofs.Lines.{is_of, is_other_than, to_next, stays, not_ended}
use Rattle.statements.proofs.line_end.Goals as goal

pub returns-in-NewLine : goal.returns-in-NewLine
returns-in-NewLine c = to_next _ _ (is_of c.in-NewLine.is) c.next_line.ensures

pub returns-in-EndOfFile : goal.returns-in-EndOfFile
returns-in-EndOfFile c = stays _ _ (is_of c.in-EndOfFile.is)

pub returns-in_default : goal.returns-in_default
returns-in_default c = not_ended _ _ (is_other_than c.in_default.not-NewLine) (is_other_than c.in_default.not-EndOfFile) c.refuse_here.ensures
