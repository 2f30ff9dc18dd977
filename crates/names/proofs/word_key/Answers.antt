-- A word that is empty, too long or ends in a zero has the key 0; any other has that of its letters.
use Rattle.std.proofs.Common.{◌≡◌, ℕ, ◌-◌, ap, sym, ◌∙◌, List, map, length, get_or, arith}
use lib.ListN.{length-map, get_or-eq_default}
use Rattle.lexer.specs.Text.{lower}
use Rattle.names.specs.Keys.{key_of}
use Rattle.names.proofs.Keys.{seven_key, long, null, whole, bounded, lower_at, lower_small, lower_null, null_lower}
use Rattle.names.proofs.word_key.Goals as goal

last : (w : List ℕ) → get_or (map lower w) (length (map lower w) - 1) 0 ≡ lower (get_or w (length w - 1) 0)
last w = ap (λ (n : ℕ). get_or (map lower w) (n - 1) 0) (length-map w lower) ∙ lower_at w (length w - 1)

pub returns-in-len1-up : goal.returns-in-len1-up
returns-in-len1-up c =
    let w = c.args.word.now in
    let e : c.letters.result ≡ key_of (map lower w) =
    c.letters.ensures
    ∙ seven_key (map lower w)
    ∙ whole (map lower w) (omega (arith, length-map w lower)) (λ e. let z : get_or w (length w - 1) 0 ≡ 0 = lower_null _ (sym (last w) ∙ e) in omega arith) in
    (e, omega (arith, e, bounded (map lower w) (lower_small w c.type_inv.word)))

pub returns-in_default : goal.returns-in_default
returns-in_default c =
    let w = c.args.word.now in
    (null (map lower w) (get_or-eq_default (map lower w) 0 (omega (arith, length-map w lower))), omega arith)

pub returns-in_default-2 : goal.returns-in_default-2
returns-in_default-2 c =
    let w = c.args.word.now in
    (null (map lower w) (last w ∙ null_lower (let z : get_or w (length w - 1) 0 ≡ 0 = omega arith in z)), omega arith)

pub returns-in_default-3 : goal.returns-in_default-3
returns-in_default-3 c =
    let w = c.args.word.now in
    (long (map lower w) (omega (arith, length-map w lower)), omega arith)
