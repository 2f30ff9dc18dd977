-- From the token ahead to the next of its line: the token is refused or taken as the rules say.
use Rattle.lexer.proofs.Branches.{or_split}
use Rattle.state.proofs.Chain.{exits}
use Rattle.state.proofs.Flat.{is_refused}
use Rattle.state.proofs.Steps.{next_comes, next_denied}
use Rattle.state.proofs.next.Goals as goal

pub returns-in_err-t : goal.returns-in_err-t
returns-in_err-t c =
    let l = or_split _ _ c.requires in
    let t = c.in_err-t.ensures in
    rw (exits c.from_residual.ensures.1) (next_denied _ _ t.4 l.0 l.1 t.6 (is_refused _ _ _ t.5))

pub returns : goal.returns
returns c =
    let l = or_split _ _ c.requires in
    let t = c.in_ok-t.ensures in
    let f = or_split _ _ t.1 in
    next_comes _ _ t.0 l.0 l.1 f.0 f.1
