use Rattle.std.proofs.Common.{◌≡◌, Bool, true, false, ℕ, ◌+◌, ◌≤◌, List, length, drop, refl, sym, ◌∙◌, arith}
use Prim.Native.Nat.{max}
use lib.Dec.{leb}
use borrow.Author.Tests.{leb-true, leb-false}
use Rattle.lexer.specs.Text.{run}
use Rattle.lexer.proofs.Runs.{run_more, run_stop, run_none}
use Rattle.lexer.proofs.characters.run_end.Goals as goal

pub loop-i-init : goal.loop-i-init
loop-i-init g c = λ p h. refl

pub loop-i-preserved : goal.loop-i-preserved
loop-i-preserved g c = λ p h.
    sym (run_more p _ _ c.loop-i-test.true (sym (h _ _ (c.type_inv.source c.loop-i.i).fits c.belongs.ensures) ∙ c.if-not-belongs.false)) ∙ c.loop-i.invariant p h

pub returns-then-not-belongs : goal.returns-then-not-belongs
returns-then-not-belongs g c = λ p h.
    sym (run_stop p _ _ c.loop-i-test.true (sym (h _ _ (c.type_inv.source c.loop-i.i).fits c.belongs.ensures) ∙ c.if-not-belongs.true)) ∙ c.loop-i.invariant p h

-- the loop has run to the end of the source, or not at all where the run begins beyond it
ended : (p : ℕ → Bool) (s : List ℕ) (from i m : ℕ) → m ≡ max from (length s) → length s ≤ i → (from ≤ length s → i ≤ length s)
    → i + run p (drop i s) ≡ from + run p (drop from s) → m ≡ from + run p (drop from s)
ended p s from i m e l b h = go (leb from (length s)) refl
  where
    go : (t : Bool) → leb from (length s) ≡ t → m ≡ from + run p (drop from s)
    go true q = let f = leb-true from (length s) q in let j = b f in let r : m ≡ i = omega arith in r ∙ sym (run_none p s i l) ∙ h
    go false q = let f = leb-false from (length s) q in let r : m ≡ from = omega arith in r ∙ sym (run_none p s from (omega arith))

pub returns : goal.returns
returns g c = λ p h. ended p c.args.source.now c.args.from c.loop-i.i c.max.result c.max.ensures c.loop-i-test.false c.loop-i.auto.i-end (c.loop-i.invariant p h)
