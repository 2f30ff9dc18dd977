-- Each letter comes behind the ones before it, of which seven fit.
use Rattle.std.proofs.Common.{◌≡◌, ◌+◌, ◌*◌, ◌<◌, ◌≤◌, map, ap, sym, ◌∙◌, arith}
use Prim.Native.Nat.{ℕ, suc, ◌^◌}
use Rattle.std.proofs.Math.Nat.{pow-le-pow_right}
use Rattle.lexer.specs.Text.{lower}
use Rattle.names.specs.Keys.{joined, key}
use Rattle.names.proofs.Keys.{joined_last, seven_key}
use Rattle.names.proofs.letters.Goals as goal

six : (i : ℕ) → i < 7 → 256 ^ i ≤ 256 ^ 6
six i h = let l : i ≤ 6 = omega arith in let n : 0 < 256 = omega arith in pow-le-pow_right n l

pub overflow_mul-key : goal.overflow_mul-key
overflow_mul-key c = omega (arith, c.loop-i.invariant.low, six c.loop-i.i c.loop-i-test.true)

pub overflow_add-key : goal.overflow_add-key
overflow_add-key c = omega (arith, c.loop-i.invariant.low, six c.loop-i.i c.loop-i-test.true)

pub loop-i-preserved : goal.loop-i-preserved
loop-i-preserved c =
    let l = c.loop-i in
    let v = map lower c.args.word.now in
    let e : l.i + 1 ≡ suc l.i = omega arith in
    let p : 256 ^ suc l.i ≡ 256 * 256 ^ l.i = omega arith in
    record {
      is = let q = joined_last l.i 0 v in rw e (omega (arith, q, l.invariant.is, c.letter_at.ensures));
      low = rw e (omega (arith, l.invariant.low, p));
    }

pub returns : goal.returns
unfolding key
returns c =
    let v = map lower c.args.word.now in
    let e : c.loop-i.i ≡ 7 = omega (arith, c.loop-i-test.false, c.loop-i.auto.i-end) in
    c.loop-i.invariant.is ∙ ap (λ (n : ℕ). joined 0 n v) e ∙ sym (seven_key v)
