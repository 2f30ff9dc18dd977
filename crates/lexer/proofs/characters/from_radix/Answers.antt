use Rattle.std.proofs.Common.{rules, arith, ◌≡◌, true, ℕ, ◌+◌, ◌*◌, ◌≤◌, ◌<◌, List, ◌∷◌, length, drop, get_or, sym, ap, ◌∙◌}
use Rattle.std.specs.Prelude.{Option}
use native.Mathlib.Nat.{mul-le-mul}
use native.Mathlib.Numerals.{add-one}
use lib.ListN.{drop_of_length-le}
use lib.Seq.{drop-cons}
use Rattle.lexer.specs.Text.{is_hex_digit, digit, all}
use Rattle.lexer.specs.Runs.{radix, valued_from}
use Rattle.lexer.specs.declared.characters.Base.{Base}
use Rattle.lexer.proofs.Runs.{both, radix_within, valued_more, valued_stop, valued_large, valued_end}
use Rattle.lexer.proofs.characters.from_radix.Goals as goal

module _ (s : List ℕ) (i : ℕ) (h : i < length s) where
  first : drop i s ≡ get_or s i 0 ∷ drop (i + 1) s
  first = rw (drop-cons s i 0 h, add-one)

  -- the digit at i is a hexadecimal one, as all that follow
  hex : all is_hex_digit (drop i s) ≡ true → (is_hex_digit (get_or s i 0) ≡ true) × (all is_hex_digit (drop (i + 1) s) ≡ true)
  unfolding all
  hex e = both (is_hex_digit (get_or s i 0)) _ (rw first at e)

  -- and one that fits the base is taken into the number
  taken : (base v d : ℕ) {w : Option ℕ} → d ≡ digit (get_or s i 0) → d < base → valued_from v base (drop i s) ≡ w → valued_from (v * base + d) base (drop (i + 1) s) ≡ w
  taken base v d e l n =
      let fits : digit (get_or s i 0) < base = omega (arith, e) in
      rw e (sym (valued_more _ _ _ _ fits) ∙ sym (ap (valued_from v base) first) ∙ n)

pub loop-c-init : goal.loop-c-init
loop-c-init c = (search rules, ap (λ b. valued_from 0 b c.args.digits.now) c.number-base.ensures, c.requires)

pub returns-then-base-d : goal.returns-then-base-d
returns-then-base-d c =
    let s = c.args.digits.now in
    let l = c.loop-c in
    let e = hex s l.c-index c.loop-c-test.true l.invariant.2 in
    valued_stop _ _ _ _ (omega (arith, c.digit_value-d.ensures e.0)) ∙ sym (ap (valued_from l.v c.number-base.result) (first s l.c-index c.loop-c-test.true)) ∙ l.invariant.1

-- before a digit is taken, the number is small
small : (b : Base) {v n : ℕ} → n ≡ radix b → v ≤ 2147483647 → (n ≤ 16) × (v * n ≤ 2147483647 * 16)
small b {v} {n} e l =
    let most : n ≤ 16 = omega (arith, radix_within b) in
    (most, mul-le-mul l most)

pub overflow_mul-v : goal.overflow_mul-v
overflow_mul-v c = omega (arith, small c.args.base c.number-base.ensures c.loop-c.invariant.0)

pub overflow_add-v : goal.overflow_add-v
overflow_add-v c = omega (arith, small c.args.base c.number-base.ensures c.loop-c.invariant.0)

pub returns-then-v-gt2147483647 : goal.returns-then-v-gt2147483647
returns-then-v-gt2147483647 c =
    let s = c.args.digits.now in
    let l = c.loop-c in
    let e = hex s l.c-index c.loop-c-test.true l.invariant.2 in
    valued_large _ _ _ (omega (arith, radix_within c.args.base, c.number-base.ensures)) c.if-v-gt2147483647.true ∙ taken s l.c-index c.loop-c-test.true c.number-base.result l.v _ (c.digit_value-d.ensures e.0) c.if-base-d.false l.invariant.1

pub loop-c-preserved : goal.loop-c-preserved
loop-c-preserved c =
    let s = c.args.digits.now in
    let l = c.loop-c in
    let e = hex s l.c-index c.loop-c-test.true l.invariant.2 in
    (search rules, taken s l.c-index c.loop-c-test.true c.number-base.result l.v _ (c.digit_value-d.ensures e.0) c.if-base-d.false l.invariant.1, e.1)

pub returns : goal.returns
returns c =
    valued_end _ _ c.loop-c.invariant.0 ∙ sym (ap (valued_from _ _) (drop_of_length-le c.args.digits.now c.loop-c-test.false)) ∙ c.loop-c.invariant.1
