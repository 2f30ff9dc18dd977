use Rattle.rules.specs.Reader.{◌>>◌}
use mathlib.Core.Path.{refl}
use native.Mathlib.Nat.{le_refl}
use native.Mathlib.Omega.{arith}
use lib.ListN.{length}
use Rattle.lexer.specs.declared.Kind.TheVariants as kind
use Rattle.names.specs.Names.{registers, segments, sizes}
use Rattle.rules.specs.Operands.{operand_sized, operand as rules-operand}
use Rattle.state.specs.Views.{line_of}
use Rattle.state.proofs.Chain.{starts, comes, denied, hands_on, is_ahead, is_left, exits, reads_refused_on, lent_sofar}
use Rattle.state.proofs.Flat.{plain}
use Rattle.operands.proofs.Laws.{mark_there, other_there, next_denied, within, is_register, is_segment, is_size, is_other, one_less, turns}
use Rattle.operands.proofs.operand.Goals as goal

pub loop-source-init : goal.loop-source-init
unfolding rules-operand
loop-source-init c = (length (line_of c.args.source.text.now c.args.p).more, le_refl _, comes _ _ (starts _ _ _ _ _) is_left)

pub returns-then-eq : goal.returns-then-eq
unfolding operand_sized
returns-then-eq c = hands_on (comes _ _ c.loop-source.invariant.2 is_ahead) (rw (mark_there c.args.source.text.now c.loop-source.q kind.OpenBracket "[" (plain "[" refl) refl c.if-eq.ensures) c.memory.ensures)

pub token_record-requires : goal.token_record-requires
token_record-requires c = (omega arith, within c.args.source.text.now c.loop-source.q registers (is_register _ c.in-Some-Register.field-0-is c.in-Some-Register.ensures))

pub returns-in-Some-Register : goal.returns-in-Some-Register
unfolding operand_sized ◌>>◌
returns-in-Some-Register c = hands_on (comes _ _ c.loop-source.invariant.2 is_ahead) (rw (other_there c.args.source.text.now c.loop-source.q kind.OpenBracket "[" (plain "[" refl) refl c.if-eq.ensures, is_register _ c.in-Some-Register.field-0-is c.in-Some-Register.ensures) (rw c.from.ensures at c.token_record.ensures))

pub token_record-requires-in-Some-Segment : goal.token_record-requires-in-Some-Segment
token_record-requires-in-Some-Segment c = (omega arith, within c.args.source.text.now c.loop-source.q segments (is_segment _ c.in-Some-Segment.field-0-is c.in-Some-Segment.ensures).1)

pub returns-in-Some-Segment : goal.returns-in-Some-Segment
unfolding operand_sized ◌>>◌
returns-in-Some-Segment c =
    let s = is_segment _ c.in-Some-Segment.field-0-is c.in-Some-Segment.ensures in
    hands_on (comes _ _ c.loop-source.invariant.2 is_ahead) (rw (other_there c.args.source.text.now c.loop-source.q kind.OpenBracket "[" (plain "[" refl) refl c.if-eq.ensures, s.0, s.1) (rw c.from-in-Some-Segment.ensures at c.token_record-in-Some-Segment.ensures))

pub next-requires : goal.next-requires
next-requires c = within c.args.source.text.now c.loop-source.q sizes (is_size _ c.in-Some-Size.field-0-is c.in-Some-Size.ensures).2

pub returns-in_err-q-in-Some-Size : goal.returns-in_err-q-in-Some-Size
unfolding operand_sized
returns-in_err-q-in-Some-Size c =
    let z = is_size _ c.in-Some-Size.field-0-is c.in-Some-Size.ensures in
    rw (exits c.from_residual.ensures.1) (reads_refused_on (lent_sofar c.loop-source.invariant.2) (denied (comes _ _ c.loop-source.invariant.2 is_ahead) (rw (other_there c.args.source.text.now c.loop-source.q kind.OpenBracket "[" (plain "[" refl) refl c.if-eq.ensures, z.0, z.1, z.2) (next_denied _ c.in_err-q-in-Some-Size.ensures.so))))

pub loop-source-smaller : goal.loop-source-smaller
loop-source-smaller c = omega (arith, one_less c.args.source.text.now c.loop-source.q c.in_ok-q-in-Some-Size.q sizes (is_size _ c.in-Some-Size.field-0-is c.in-Some-Size.ensures).2 c.in_ok-q-in-Some-Size.ensures)

pub loop-source-preserved : goal.loop-source-preserved
loop-source-preserved c =
    let z = is_size _ c.in-Some-Size.field-0-is c.in-Some-Size.ensures in
    turns _ _ c.loop-source.invariant.2 (other_there c.args.source.text.now c.loop-source.q kind.OpenBracket "[" (plain "[" refl) refl c.if-eq.ensures) z.0 z.1 z.2 c.in_ok-q-in-Some-Size.ensures.so
    (omega (arith, c.loop-source.invariant.1, one_less c.args.source.text.now c.loop-source.q c.in_ok-q-in-Some-Size.q sizes z.2 c.in_ok-q-in-Some-Size.ensures))

pub returns-in-None : goal.returns-in-None
unfolding operand_sized
returns-in-None c =
    let o = is_other _ c.in-None.ensures in
    hands_on (comes _ _ c.loop-source.invariant.2 is_ahead) (rw (other_there c.args.source.text.now c.loop-source.q kind.OpenBracket "[" (plain "[" refl) refl c.if-eq.ensures, o.0, o.1, o.2) c.immediate_or_far.ensures)
