-- Each arm is a mark, whose record the rules read and check by the same tests; with other letters there is no record.
-- Assumes nothing.
use mathlib.Core.Path.{◌≡◌, refl, sym, ap, ap₂, ◌∙◌}
use mathlib.Core.Bool.{Bool, ◌&&◌}
use mathlib.Core.List.{List, [], ◌∷◌}
use mathlib.Core.Option.{Option}
use Prim.Native.Nat.{ℕ, ◌+◌, ◌*◌, ◌≤◌}
use native.Mathlib.Omega.{arith}
use lib.Dec.{ltb}
use lib.ListN as ListN
use Rattle.lexer.specs.Text.{bytes, same}
use Rattle.rules.specs.Records.{Record, ST}
use Rattle.rules.specs.Decode.{nth, nths_from, having, record_of}
use Rattle.rules.specs.WellFormed.{Stack, given, spans, checked, to_operand, to_line}
use Rattle.records.specs.declared.marks.Mark.{Mark}
use Rattle.records.specs.Marks.{letters_of}
use Rattle.records.proofs.Marking.{known_none}
use Rattle.checker.specs.Checker.{field_in, passes, whole, stack_of, passed_of}
use Rattle.checker.proofs.Fields.{field_nth}
use Rattle.checker.proofs.Arms.{arm, arm_data, given_true, no_record}
use Rattle.checker.proofs.Stack.check.Goals as goal

-- a field that has room
at : (s : List ℕ) (i : ℕ) {v : ℕ} → v ≡ field_in i s → 4 * i + 4 ≤ ListN.length s → v ≡ nth i s
at s i e h = e ∙ field_nth i s h

-- one test more: the i-th field is below w
also : (s : List ℕ) (w i : ℕ) {b b' : Bool} {v : ℕ} → b ≡ b' → v ≡ field_in i s → 4 * i + 4 ≤ ListN.length s → b && ltb v w ≡ b' && ltb (nth i s) w
also s w i p e h = ap₂ ◌&&◌ p (ap (λ (v : ℕ). ltb v w) (at s i e h))

-- The bytes s behind the letters l of the mark m, a stack and a source's length n: two fields are known, and the test of their span.
module _ (s : List ℕ) (k : Stack) (n : ℕ) {f t : ℕ} {b : Bool} (first : f ≡ field_in 0 s) (second : t ≡ field_in 1 s) (test : b ≡ spans n k f t) where
  spanned : 8 ≤ ListN.length s → b ≡ spans n k (nth 0 s) (nth 1 s)
  spanned h = test ∙ ap₂ (spans n k) (at s 0 first (omega arith)) (at s 1 second (omega arith))

  module _ {l : List ℕ} {m x : Mark} (letters : letters_of m ≡ l) (is : m ≡ x) {o o' : Option Stack} (next : o ≡ o') where
    -- a record of j fields that is tested by its span
    by_span : (j : ℕ) (r : Record) → 2 ≤ j → record_of (letters_of x) s ≡ having j s r → given (spans n k (nth 0 s) (nth 1 s)) o' ≡ checked n k r → whole (4 * j) s b o ≡ passes n k (record_of l s)
    by_span j r w d g = arm n k s j r _ _ letters is d (λ h. ap₂ given (spanned (omega arith)) next ∙ g)

    -- one of three fields that is tested by its span and by its third, which is below w
    by_kind : (w : ℕ) (r : Record) {v : ℕ} → v ≡ field_in 2 s → record_of (letters_of x) s ≡ having 3 s r → given (spans n k (nth 0 s) (nth 1 s) && ltb (nth 2 s) w) o' ≡ checked n k r
        → whole 12 s (b && ltb v w) o ≡ passes n k (record_of l s)
    by_kind w r v d g = arm n k s 3 r _ _ letters is d (λ h. ap₂ given (also s w 2 (spanned (omega arith)) v (omega arith)) next ∙ g)

pub returns-in-ST : goal.returns-in-ST
unfolding record_of same bytes checked
returns-in-ST c =
    let f = at c.args.s.now 0 c.field-f.ensures in
    c.whole.ensures ∙ arm _ _ _ 1 _ _ _ c.in_ok-mark.ensures.0 c.in-ST.is refl (λ h. given_true _ ∙ c.to_statement.ensures ∙ ap (λ (p : ℕ). checked c.args.length (stack_of c.args.self) (ST p)) (f (omega arith)))

pub returns-in-VC : goal.returns-in-VC
unfolding record_of same bytes checked
returns-in-VC c = c.whole-in-VC.ensures ∙ by_span _ _ _ c.field-f.ensures c.field-t.ensures c.spans-ok.ensures c.in_ok-mark.ensures.0 c.in-VC.is c.to_expression.ensures 3 _ (omega arith) refl refl

pub returns-in-VL : goal.returns-in-VL
unfolding record_of same bytes checked
returns-in-VL c = c.whole-in-VL.ensures ∙ by_span _ _ _ c.field-f.ensures c.field-t.ensures c.spans-ok.ensures c.in_ok-mark.ensures.0 c.in-VL.is c.to_expression-in-VL.ensures 2 _ (omega arith) refl refl

pub returns-in-VI : goal.returns-in-VI
unfolding record_of same bytes checked
returns-in-VI c = c.whole-in-VI.ensures ∙ by_span _ _ _ c.field-f.ensures c.field-t.ensures c.spans-ok.ensures c.in_ok-mark.ensures.0 c.in-VI.is c.to_expression-in-VI.ensures 2 _ (omega arith) refl refl

pub returns-in-VS : goal.returns-in-VS
unfolding record_of same bytes checked
returns-in-VS c = c.whole-in-VS.ensures ∙ by_span _ _ _ c.field-f.ensures c.field-t.ensures c.spans-ok.ensures c.in_ok-mark.ensures.0 c.in-VS.is c.to_expression-in-VS.ensures 2 _ (omega arith) refl refl

pub returns-in-PF : goal.returns-in-PF
unfolding record_of same bytes checked
returns-in-PF c = c.whole-in-PF.ensures ∙ by_kind _ _ _ c.field-f.ensures c.field-t.ensures c.spans-ok.ensures c.in_ok-mark.ensures.0 c.in-PF.is c.to_expression-in-PF.ensures 2 _ c.field.ensures refl refl

pub returns-in-IN : goal.returns-in-IN
unfolding record_of same bytes checked
returns-in-IN c = c.whole-in-IN.ensures ∙ by_kind _ _ _ c.field-f.ensures c.field-t.ensures c.spans-ok.ensures c.in_ok-mark.ensures.0 c.in-IN.is c.to_expression-in-IN.ensures 4 _ c.field-in-IN.ensures refl refl

pub returns-in-OR : goal.returns-in-OR
unfolding record_of same bytes checked
returns-in-OR c = c.whole-in-OR.ensures ∙ by_kind _ _ _ c.field-f.ensures c.field-t.ensures c.spans-ok.ensures c.in_ok-mark.ensures.0 c.in-OR.is c.to_operand.ensures 16 _ c.field-in-OR.ensures refl refl

pub returns-in-OS : goal.returns-in-OS
unfolding record_of same bytes checked
returns-in-OS c = c.whole-in-OS.ensures ∙ by_kind _ _ _ c.field-f.ensures c.field-t.ensures c.spans-ok.ensures c.in_ok-mark.ensures.0 c.in-OS.is c.to_operand-in-OS.ensures 4 _ c.field-in-OS.ensures refl refl

pub returns-in-OI : goal.returns-in-OI
unfolding record_of same bytes checked
returns-in-OI c = c.whole-in-OI.ensures ∙ by_span _ _ _ c.field-f.ensures c.field-t.ensures c.spans-ok.ensures c.in_ok-mark.ensures.0 c.in-OI.is c.to_operand-in-OI.ensures 2 _ (omega arith) refl refl

pub returns-in-OF : goal.returns-in-OF
unfolding record_of same bytes checked
returns-in-OF c = c.whole-in-OF.ensures ∙ by_span _ _ _ c.field-f.ensures c.field-t.ensures c.spans-ok.ensures c.in_ok-mark.ensures.0 c.in-OF.is c.to_operand-in-OF.ensures 2 _ (omega arith) refl refl

pub returns-in-OD : goal.returns-in-OD
unfolding record_of same bytes checked
returns-in-OD c =
    let s = c.args.s.now in
    c.whole-in-OD.ensures ∙ arm _ _ _ 4 _ _ _ c.in_ok-mark.ensures.0 c.in-OD.is refl λ h.
    ap₂ given (also s 5 3 (also s 3 2 (spanned _ _ _ c.field-f.ensures c.field-t.ensures c.spans-ok.ensures (omega arith)) c.field-in-OD.ensures (omega arith)) c.field-in-OD-2.ensures (omega arith)) c.to_operand-in-OD.ensures

pub returns-in-OX : goal.returns-in-OX
unfolding record_of same bytes checked
returns-in-OX c =
    let s = c.args.s.now in
    c.whole-in-OX.ensures ∙ arm _ _ _ 6 _ _ _ c.in_ok-mark.ensures.0 c.in-OX.is refl λ h.
    let two = also s 2 3 (also s 8 2 (spanned _ _ _ c.field-f.ensures c.field-t.ensures c.spans-ok.ensures (omega arith)) c.field-in-OX.ensures (omega arith)) c.field-d.ensures (omega arith) in
    ap₂ given (also s 5 5 (also s 3 4 two c.field-in-OX-2.ensures (omega arith)) c.field-in-OX-3.ensures (omega arith))
    (c.to_operand-in-OX.ensures ∙ ap (λ (v : ℕ). to_operand v (stack_of c.args.self)) (at s 3 c.field-d.ensures (omega arith)))

pub returns-in-LL : goal.returns-in-LL
unfolding record_of same bytes checked
returns-in-LL c = c.whole-in-LL.ensures ∙ by_span _ _ _ c.field-f.ensures c.field-t.ensures c.spans-ok.ensures c.in_ok-mark.ensures.0 c.in-LL.is c.to_line.ensures 2 _ (omega arith) refl refl

pub returns-in-LI : goal.returns-in-LI
unfolding record_of same bytes checked
returns-in-LI c =
    let s = c.args.s.now in
    let operands = spans c.args.length (stack_of c.args.self) in
    c.whole-in-LI.ensures ∙ arm _ _ _ 6 _ _ _ c.in_ok-mark.ensures.0 c.in-LI.is refl λ h.
    let two = also s 3 3 (also s 99 2 (spanned _ _ _ c.field-f.ensures c.field-t.ensures c.spans-ok.ensures (omega arith)) c.field-in-LI-3.ensures (omega arith)) c.field-n.ensures (omega arith) in
    ap₂ given (ap₂ ◌&&◌ two (c.spans-operands.ensures ∙ ap₂ operands (at s 4 c.field-in-LI.ensures (omega arith)) (at s 5 c.field-in-LI-2.ensures (omega arith))))
    (c.to_line-in-LI.ensures ∙ ap (λ (v : ℕ). to_line 0 v (stack_of c.args.self)) (at s 3 c.field-n.ensures (omega arith)))

pub returns-in-LD : goal.returns-in-LD
unfolding record_of same bytes checked nths_from
returns-in-LD c = c.whole-in-LD.ensures ∙ arm_data _ _ _ _ (76 ∷ 68 ∷ []) c.spans-ok.result _ c.in_ok-mark.ensures.0 c.in-LD.is refl c.field-count.ensures
    (λ d e h. ap₂ given (ap₂ ◌&&◌ (spanned _ _ _ c.field-f.ensures c.field-t.ensures c.spans-ok.ensures (omega arith)) (ap (ltb 0) (sym e))) c.to_line-in-LD.ensures)

pub returns-in-LC : goal.returns-in-LC
unfolding record_of same bytes checked
returns-in-LC c = c.whole-in-LC.ensures ∙ by_span _ _ _ c.field-f.ensures c.field-t.ensures c.spans-ok.ensures c.in_ok-mark.ensures.0 c.in-LC.is c.to_line-in-LC.ensures 2 _ (omega arith) refl refl

pub returns-in-LT : goal.returns-in-LT
unfolding record_of same bytes checked
returns-in-LT c =
    let s = c.args.s.now in
    c.whole-in-LT.ensures ∙ arm _ _ _ 2 _ _ _ c.in_ok-mark.ensures.0 c.in-LT.is refl λ h.
    ap₂ given (also s 1 1 (ap (λ (v : ℕ). ltb v 1) (at s 0 c.field-f.ensures (omega arith))) c.field-t.ensures (omega arith)) c.to_times.ensures

pub returns-in_err-mark : goal.returns-in_err-mark
returns-in_err-mark c = ap passed_of c.from_residual.ensures ∙ sym (ap (passes c.args.length (stack_of c.args.self)) (no_record _ _ (known_none _ c.in_err-mark.ensures)))
