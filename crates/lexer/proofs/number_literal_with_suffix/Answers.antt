-- The run, the letter behind it and its last byte settle the suffix, and with it the base, as in the definition.
use mathlib.Core.Path.{◌≡◌, sym, ap, ◌∙◌}
use mathlib.Core.Bool.{true}
use native.Mathlib.Omega.{arith}
use mathlib.Core.List.{List}
use Prim.Native.Nat.{ℕ, ◌+◌, ◌-◌, ◌≤◌, ◌<◌}
use lib.ListN.{length, get_or, drop}
use Rattle.lexer.specs.Text.{is_digit, is_hex_digit, run}
use Rattle.lexer.specs.Runs.{up_to_one, are_hex_digits}
use Rattle.lexer.specs.Scanned.{scanned_of}
use Rattle.lexer.proofs.Scans.{suffix_inside, suffix_within, suffix_hex, suffix_larger, suffix_binary, suffix_decimal, suffix_octal, suffix_hexadecimal, suffix_none, larger_scanned}
use borrow.Author.Rules.{rules}
use Rattle.lexer.proofs.number_literal_with_suffix.Goals as goal

inside : (s : List ℕ) (at : ℕ) {end : ℕ} → (at < length s) × (is_digit (get_or s at 0) ≡ true) → end ≡ at + run is_hex_digit (drop at s) → (at < end) × (end ≤ length s)
inside s at p e = (suffix_inside s at _ p.0 p.1 e, suffix_within s at _ p.0 p.1 e)

-- and what stands in it, with its last byte or without, are hexadecimal digits
hex : (s : List ℕ) (at : ℕ) {end : ℕ} → (at < length s) × (is_digit (get_or s at 0) ≡ true) → end ≡ at + run is_hex_digit (drop at s)
    → (are_hex_digits s at end ≡ true) × (are_hex_digits s at (end - 1) ≡ true)
hex s at {end} p e =
    let (i, j) = inside s at p e in
    (suffix_hex s at _ p.0 p.1 e end (omega arith), suffix_hex s at _ p.0 p.1 e (end - 1) (omega arith))

pub returns-in-Some-eq111 : goal.returns-in-Some-eq111
returns-in-Some-eq111 c = c.number_literal.ensures ∙ ap (scanned_of _) (sym (suffix_octal _ _ _ c.requires.0 c.requires.1 (c.run_end-end.ensures is_hex_digit (λ _ _ _ e. e)) (search rules)))

pub returns-in-Some-eq104 : goal.returns-in-Some-eq104
returns-in-Some-eq104 c = c.number_literal-in-Some-eq104.ensures ∙ ap (scanned_of _) (sym (suffix_hexadecimal _ _ _ c.requires.0 c.requires.1 (c.run_end-end.ensures is_hex_digit (λ _ _ _ e. e)) (search rules) (search rules)))

pub returns-then-run_end-last : goal.returns-then-run_end-last
returns-then-run_end-last c = c.plain.ensures ∙ larger_scanned _ _ (inside c.args.source.now c.args.at c.requires (c.run_end-end.ensures is_hex_digit (λ _ _ _ e. e))).0 ∙ ap (scanned_of _) (sym (suffix_larger _ _ _ c.requires.0 c.requires.1 (c.run_end-end.ensures is_hex_digit (λ _ _ _ e. e)) (search rules) (search rules) (search rules) _ (c.run_end.ensures up_to_one (λ _ _ _ e. e)) c.if-run_end-last.true))

pub returns-in-98 : goal.returns-in-98
returns-in-98 c = c.number_literal-in-98.ensures ∙ ap (scanned_of _) (sym (suffix_binary _ _ _ c.requires.0 c.requires.1 (c.run_end-end.ensures is_hex_digit (λ _ _ _ e. e)) (search rules) (search rules) (search rules) _ (c.run_end.ensures up_to_one (λ _ _ _ e. e)) c.if-run_end-last.false))

pub returns-in-100 : goal.returns-in-100
returns-in-100 c = c.number_literal-in-100.ensures ∙ ap (scanned_of _) (sym (suffix_decimal _ _ _ c.requires.0 c.requires.1 (c.run_end-end.ensures is_hex_digit (λ _ _ _ e. e)) (search rules) (search rules) (search rules) (search rules)))

pub returns : goal.returns
returns c = c.number_literal-2.ensures ∙ ap (scanned_of _) (sym (suffix_none _ _ _ c.requires.0 c.requires.1 (c.run_end-end.ensures is_hex_digit (λ _ _ _ e. e)) (search rules) (search rules) (search rules) (search rules)))

pub overflow_sub-last : goal.overflow_sub-last
overflow_sub-last c = omega (arith, inside c.args.source.now c.args.at c.requires (c.run_end-end.ensures is_hex_digit (λ _ _ _ e. e)))

pub bounds-source-last : goal.bounds-source-last
bounds-source-last c = omega (arith, inside c.args.source.now c.args.at c.requires (c.run_end-end.ensures is_hex_digit (λ _ _ _ e. e)))

pub overflow_add-end : goal.overflow_add-end
overflow_add-end c = omega (arith, inside c.args.source.now c.args.at c.requires (c.run_end-end.ensures is_hex_digit (λ _ _ _ e. e)))

pub number_literal-requires : goal.number_literal-requires
number_literal-requires c = search (rules, inside c.args.source.now c.args.at c.requires (c.run_end-end.ensures is_hex_digit (λ _ _ _ e. e)), hex c.args.source.now c.args.at c.requires (c.run_end-end.ensures is_hex_digit (λ _ _ _ e. e)))

pub number_literal-requires-in-Some-eq104 : goal.number_literal-requires-in-Some-eq104
number_literal-requires-in-Some-eq104 c = search (rules, inside c.args.source.now c.args.at c.requires (c.run_end-end.ensures is_hex_digit (λ _ _ _ e. e)), hex c.args.source.now c.args.at c.requires (c.run_end-end.ensures is_hex_digit (λ _ _ _ e. e)))

pub number_literal-requires-in-98 : goal.number_literal-requires-in-98
number_literal-requires-in-98 c = search (rules, inside c.args.source.now c.args.at c.requires (c.run_end-end.ensures is_hex_digit (λ _ _ _ e. e)), hex c.args.source.now c.args.at c.requires (c.run_end-end.ensures is_hex_digit (λ _ _ _ e. e)))

pub number_literal-requires-in-100 : goal.number_literal-requires-in-100
number_literal-requires-in-100 c = search (rules, inside c.args.source.now c.args.at c.requires (c.run_end-end.ensures is_hex_digit (λ _ _ _ e. e)), hex c.args.source.now c.args.at c.requires (c.run_end-end.ensures is_hex_digit (λ _ _ _ e. e)))

pub number_literal-requires-2 : goal.number_literal-requires-2
number_literal-requires-2 c = search (rules, inside c.args.source.now c.args.at c.requires (c.run_end-end.ensures is_hex_digit (λ _ _ _ e. e)), hex c.args.source.now c.args.at c.requires (c.run_end-end.ensures is_hex_digit (λ _ _ _ e. e)))
