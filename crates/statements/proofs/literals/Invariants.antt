-- The invariant: the bytes so far are put, and stand in front of those of the literals from here on. Each literal leaves fewer tokens.
-- Assumes nothing.
use lib.ListN.{length}
use Rattle.state.specs.Views.{line_of}
use Rattle.statements.specs.Statements.{bytes_in}
use Rattle.statements.proofs.Data.{Front}
use Rattle.statements.proofs.literals.Given as goal

abbrev pub invariant-loop-width : goal.invariant-loop-width
invariant-loop-width l = Front l.source.text.now l.initial.q (bytes_in l.width) l.initial.out l.q l.some l.out

abbrev pub decreases-loop-width : goal.decreases-loop-width
decreases-loop-width l = length (line_of l.source.text.now l.q).more
