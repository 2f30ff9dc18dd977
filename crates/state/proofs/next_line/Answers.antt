-- From the token ahead to the next line: its first token is refused or taken as the rules say.
use mathlib.Core.Path.{ap}
use Rattle.lexer.proofs.Branches.{or_split}
use Rattle.lexer.specs.declared.Kind.{Kind}
use Rattle.lexer.specs.Scanned.{number_of}
use lib.Dec.{eqb}
use Rattle.state.proofs.Chain.{exits}
use Rattle.state.proofs.Flat.{is_refused}
use Rattle.state.proofs.Steps.{row_comes, row_denied}
use Rattle.state.proofs.next_line.Goals as goal

pub returns-in_err-t : goal.returns-in_err-t
returns-in_err-t c =
    let t = c.in_err-t.ensures in
    rw (exits c.from_residual.ensures.1) (row_denied _ _ t.4 (ap (λ (k : Kind). eqb (number_of k) 10) c.requires) t.6 (is_refused _ _ _ t.5))

pub returns : goal.returns
returns c =
    let t = c.in_ok-t.ensures in
    let f = or_split _ _ t.1 in
    row_comes _ _ t.0 (ap (λ (k : Kind). eqb (number_of k) 10) c.requires) f.0 f.1
