-- 42, 1 and 2, then the reading of one statement.
-- Assumes nothing.
use native.Mathlib.Omega.{arith}
use Rattle.state.proofs.Chain.{exits}
use Rattle.reader.proofs.OneReads.{call_within, call_answer, call_buffer, call_denied, buffer_denied}
use Rattle.reader.proofs.statement_read.Goals as goal

pub returns-in_err-readable_at-clause-answer : goal.returns-in_err-readable_at-clause-answer
returns-in_err-readable_at-clause-answer c = rw (exits c.from_residual.ensures.1) (call_denied _ _ c.args.out.now c.in_err-readable_at.ensures)

pub returns-in_err-readable_at-clause-buffer : goal.returns-in_err-readable_at-clause-buffer
returns-in_err-readable_at-clause-buffer c = buffer_denied _ _ _ c.in_err-readable_at.ensures

pub overflow_cast-place : goal.overflow_cast-place
overflow_cast-place c = let a = call_within c.args.source.now c.args.place c.args.out.now c.in_ok-readable_at.ensures in omega (arith, a.0, a.1)

pub read_one-requires : goal.read_one-requires
read_one-requires c = rw c.in_ok-readable_at.ensures.so.1 (call_within c.args.source.now c.args.place c.args.out.now c.in_ok-readable_at.ensures).1

pub returns-clause-answer : goal.returns-clause-answer
returns-clause-answer c = call_answer _ _ _ c.in_ok-readable_at.ensures c.read_one.ensures

pub returns-clause-buffer : goal.returns-clause-buffer
returns-clause-buffer c = call_buffer _ _ _ c.in_ok-readable_at.ensures c.read_one.ensures
