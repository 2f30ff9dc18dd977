-- Past the word, past a colon if there is one, and the record.
-- Assumes nothing.
use borrow.Author.Tests.{eq-eqb}
use Rattle.lexer.specs.declared.Kind.TheVariants as kind
use Rattle.state.proofs.Chain.{exits, ends, denied, lifts, lifts_denied, reads_done, reads_refused}
use Rattle.records.proofs.Writers.{same_still}
use Rattle.statements.proofs.Lines.{same_kind, other_kind}
use Rattle.statements.proofs.Forms.{past_word, word_stops, label_colon, label_bare, label_denied}
use Rattle.statements.proofs.label.Goals.{then-eq+in_ok-q-2, else-eq}
use Rattle.statements.proofs.label.Goals as goal

pub returns-in_err-q : goal.returns-in_err-q
returns-in_err-q c = word_stops _ c.from_residual.ensures.1 (same_still _) c.in_err-q.ensures.so

pub returns-in_err-q-2 : goal.returns-in_err-q-2
returns-in_err-q-2 c =
    let o = c.args.out.now in
    let e = eq-eqb _ _ (same_kind kind.Colon _ c.if-eq.ensures) in
    rw (exits c.from_residual-in_err-q-2.ensures.1) (reads_refused (denied (past_word _ o c.in_ok-q.ensures.so) (lifts_denied (label_denied _ _ o e c.in_err-q-2.ensures.so))))

pub returns : goal.returns
returns c =
    elim c.if-eq.branch [
      | then-eq+in_ok-q-2 w ↦
          let e = eq-eqb _ _ (same_kind kind.Colon _ w.if-eq.ensures) in
          rw w.q-is (reads_done (ends (past_word _ _ c.in_ok-q.ensures.so) (lifts (label_colon _ _ c.put_record.ensures e w.in_ok-q-2.ensures.so))))
      | else-eq w ↦
          let e = other_kind kind.Colon _ w.if-eq.ensures in
          rw w.q-is (reads_done (ends (past_word _ _ c.in_ok-q.ensures.so) (lifts (label_bare _ _ c.put_record.ensures e))))
    ]
