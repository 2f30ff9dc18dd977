-- No row has the key 0. Of any other, the search leaves one row that may have it.
use Rattle.std.specs.Prelude.{Some}
use mathlib.Core.Path.{◌≡◌, ap, ◌∙◌}
use Prim.Native.Nat.{◌+◌, ◌*◌, ◌%◌, ◌/◌, ◌<◌}
use native.Mathlib.Omega.{arith}
use lib.ListN.{get_or}
use Rattle.names.specs.Names.{found_of}
use Rattle.names.specs.Keys.{key_at}
use Rattle.names.proofs.Keys.{eight_key}
use Rattle.names.proofs.Rows.{there, nowhere, null_key}
use Rattle.names.proofs.Table.operation_by.Goals as goal

pub returns-then-key-eq0 : goal.returns-then-key-eq0
returns-then-key-eq0 c = ap found_of (null_key c.args.self.rows.now c.args.self.good c.args.key c.if-key-eq0.true)

pub returns-then-row-key : goal.returns-then-row-key
returns-then-row-key c =
    let t = c.args.self.rows.now in
    let k = c.search.result in
    let r = c.row-row in
    let l : get_or t (8 * k + 7) 0 < 256 = r.ensures.1 in
    let e : r.result ≡ key_at t k * 256 + get_or t (8 * k + 7) 0 = r.ensures.0 ∙ eight_key t (8 * k) in
    let h = c.if-row-key.true in
    let q : key_at t k ≡ c.args.key = omega arith in
    let n : r.result % 256 ≡ get_or t (8 * k + 7) 0 = omega arith in
    ap Some n ∙ ap found_of (there t c.args.self.good c.args.key k c.search.ensures.0 q)

pub returns-else-row-key : goal.returns-else-row-key
returns-else-row-key c =
    let t = c.args.self.rows.now in
    let f = c.search in
    let k = f.result in
    let r = c.row-row in
    let l : get_or t (8 * k + 7) 0 < 256 = r.ensures.1 in
    let e : r.result ≡ key_at t k * 256 + get_or t (8 * k + 7) 0 = r.ensures.0 ∙ eight_key t (8 * k) in
    let q : r.result / 256 ≡ key_at t k = omega arith in
    ap found_of (nowhere t c.args.self.good c.args.key k f.ensures.0 f.ensures.1 (λ p. c.if-row-key.false (q ∙ p)))
