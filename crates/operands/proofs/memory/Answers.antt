-- The bracket is passed; its first token says whether an address, an expression or 24 follows.
-- Assumes nothing.
use Rattle.rules.specs.Reader.{◌>>◌}
use Rattle.rules.specs.Operands.{memory}
use Rattle.state.proofs.Chain.{starts, called, comes, hands_on, reads_refused, refuses_here, is_ahead, is_kind, then_denied, first_denied, exits, reads_refused_on}
use Rattle.operands.proofs.Laws.{next_denied, word_there, word_not_there, number_there, no_word_there, no_number_there}
use Rattle.operands.proofs.memory.Goals as goal

pub returns-in_err-q : goal.returns-in_err-q
unfolding memory
returns-in_err-q c = rw (exits c.from_residual.ensures.1) (reads_refused (then_denied _ is_ahead (next_denied _ c.in_err-q.ensures.so)))

pub returns-in_err-end-in-Number : goal.returns-in_err-end-in-Number
unfolding memory ◌>>◌
returns-in_err-end-in-Number c = rw (exits c.from_residual-in_err-end-in-Number.ensures.1) (reads_refused_on c.in_err-end-in-Number.ensures.lent (then_denied _ is_ahead (then_denied _ c.in_ok-q.ensures.so (then_denied _ is_kind (rw (word_not_there c.args.source.text.now c.in_ok-q.q c.in-Number.is, number_there c.args.source.text.now c.in_ok-q.q c.in-Number.is) (first_denied _ c.in_err-end-in-Number.ensures.so))))))

pub returns-in-Identifier : goal.returns-in-Identifier
unfolding memory ◌>>◌
returns-in-Identifier c = hands_on (comes _ _ (comes _ _ (comes _ _ (starts _ _ _ _ _) is_ahead) c.in_ok-q.ensures.so) is_kind) (rw (word_there c.args.source.text.now c.in_ok-q.q c.in-Identifier.is) c.address.ensures)

pub returns-in_ok-end-in-Number : goal.returns-in_ok-end-in-Number
unfolding memory ◌>>◌
returns-in_ok-end-in-Number c = hands_on (comes _ _ (comes _ _ (comes _ _ (starts _ _ _ _ _) is_ahead) c.in_ok-q.ensures.so) is_kind) (rw (word_not_there c.args.source.text.now c.in_ok-q.q c.in-Number.is, number_there c.args.source.text.now c.in_ok-q.q c.in-Number.is) (hands_on (called _ _ (starts _ _ _ _ _) c.in_ok-end-in-Number.ensures.so) c.close.ensures))

pub returns-in_default : goal.returns-in_default
unfolding memory ◌>>◌
returns-in_default c = reads_refused (then_denied _ is_ahead (then_denied _ c.in_ok-q.ensures.so (then_denied _ is_kind (rw (no_word_there c.args.source.text.now c.in_ok-q.q c.in_default.not-Identifier, no_number_there c.args.source.text.now c.in_ok-q.q c.in_default.not-Number) (refuses_here 24 c.refuse_here.ensures)))))
