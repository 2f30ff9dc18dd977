-- Seven halvings leave one row of at most 128.
use Rattle.std.proofs.Common.{◌≡◌, ℕ, ◌+◌, ◌*◌, ◌-◌, ◌/◌, ◌%◌, suc, subst, sym, ◌∙◌, arith}
use Rattle.names.proofs.Keys.{eight_key, key_low}
use Rattle.names.proofs.Halves.{Bounds, all_rows, upper, lower, one}
use Rattle.names.proofs.Table.search.Goals as goal
use Rattle.names.proofs.Table.search.Goals.{then-row-most, else-row-most}

pub loop-halving-init : goal.loop-halving-init
loop-halving-init c = all_rows c.args.self.rows.now c.args.self.good (c.args.key % 72057594037927936)

pub loop-halving-preserved : goal.loop-halving-preserved
loop-halving-preserved c =
    let t = c.args.self.rows.now in
    let l = c.loop-halving in
    let mid = l.row + l.rows / 2 in
    let rows = l.rows - l.rows / 2 in
    let key = c.args.key % 72057594037927936 in
    let e : 7 - l._halving ≡ suc (7 - (l._halving + 1)) = omega (arith, c.loop-halving-test.true) in
    let q = c.row.ensures.0 ∙ eight_key t (8 * mid) in
    let o = c.row.ensures.1 in
    elim c.if-row-most.branch [
      | then-row-most w ↦ subst (λ (i : ℕ). Bounds t key i rows (7 - (l._halving + 1))) (sym w.row-is) (upper t c.args.self.good key l.row l.rows _ _ e l.invariant (omega (arith, q, o, w.if-row-most.true)))
      | else-row-most w ↦ subst (λ (i : ℕ). Bounds t key i rows (7 - (l._halving + 1))) (sym w.row-is) (lower t c.args.self.good key l.row l.rows _ _ e l.invariant (omega (arith, q, o, w.if-row-most.false)))
    ]

pub returns : goal.returns
returns c =
    let t = c.args.self.rows.now in
    let l = c.loop-halving in
    let b : Bounds t (c.args.key % 72057594037927936) l.row l.rows 0 = subst (λ (n : ℕ). Bounds t (c.args.key % 72057594037927936) l.row l.rows n) (omega (arith, c.loop-halving-test.false)) l.invariant in (
      omega (arith, b.left, b.within),
      λ k h e. one b k h (let s = key_low t c.octets.ensures (8 * k) in omega (arith, s, e)),
    )
