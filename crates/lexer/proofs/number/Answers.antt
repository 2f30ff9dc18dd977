-- A leading zero and the byte behind it settle the prefix.
use Prim.Native.Nat.{suc}
use mathlib.Core.Path.{◌≡◌, refl, sym, ap, ◌∙◌}
use lib.ListN.{drop}
use borrow.Author.Rules.{rules}
use Rattle.lexer.specs.Text.{within, is, is_digit, is_hex_digit}
use Rattle.lexer.specs.Tokens.{number_with, number_at, suffixed}
use Rattle.lexer.specs.Scanned.{scanned_of}
use Rattle.lexer.proofs.Runs.{binary_digit, octal_digit, decimal_digit, hexadecimal_digit}
use Rattle.lexer.proofs.Scans.{number_prefixed, number_plain, number_other}
use Rattle.lexer.proofs.number.Goals as goal
use Rattle.lexer.proofs.number.Goals.{then-first-eq48+in-Some+in_default-1, then-first-eq48+in-None-1, else-first-eq48}
use borrow.Author.Tests.{ne_eqb}

pub number_literal_with_prefix-requires : goal.number_literal_with_prefix-requires
number_literal_with_prefix-requires c = (c.requires.0, (search rules, (within "0" "1", (λ _ _ _ e. e), binary_digit)))

pub returns-in-Some-eq98 : goal.returns-in-Some-eq98
unfolding number_with is
returns-in-Some-eq98 c =
    number_prefixed _ _ _ (within "0" "1") 2 97 refl c.if-first-eq48.true (search rules)
    (c.number_literal_with_prefix.ensures (within "0" "1") (λ _ _ _ e. e) binary_digit)

pub number_literal_with_prefix-requires-in-Some-eq111 : goal.number_literal_with_prefix-requires-in-Some-eq111
number_literal_with_prefix-requires-in-Some-eq111 c = (c.requires.0, (search rules, (within "0" "7", (λ _ _ _ e. e), octal_digit)))

pub returns-in-Some-eq111 : goal.returns-in-Some-eq111
unfolding number_with is
returns-in-Some-eq111 c =
    number_prefixed _ _ _ (within "0" "7") 8 110 refl c.if-first-eq48.true (search rules)
    (c.number_literal_with_prefix-in-Some-eq111.ensures (within "0" "7") (λ _ _ _ e. e) octal_digit)

pub number_literal_with_prefix-requires-in-Some-eq100 : goal.number_literal_with_prefix-requires-in-Some-eq100
number_literal_with_prefix-requires-in-Some-eq100 c = (c.requires.0, (search rules, (is_digit, (λ _ _ _ e. e), decimal_digit)))

pub returns-in-Some-eq100 : goal.returns-in-Some-eq100
unfolding number_with is
returns-in-Some-eq100 c =
    number_prefixed _ _ _ is_digit 10 99 refl c.if-first-eq48.true (search rules)
    (c.number_literal_with_prefix-in-Some-eq100.ensures is_digit (λ _ _ _ e. e) decimal_digit)

pub number_literal_with_prefix-requires-in-Some-eq120 : goal.number_literal_with_prefix-requires-in-Some-eq120
number_literal_with_prefix-requires-in-Some-eq120 c = (c.requires.0, (search rules, (is_hex_digit, (λ _ _ _ e. e), hexadecimal_digit)))

pub returns-in-Some-eq120 : goal.returns-in-Some-eq120
unfolding number_with is
returns-in-Some-eq120 c =
    number_prefixed _ _ _ is_hex_digit 16 119 refl c.if-first-eq48.true (search rules)
    (c.number_literal_with_prefix-in-Some-eq120.ensures is_hex_digit (λ _ _ _ e. e) hexadecimal_digit)

pub returns : goal.returns
returns c =
    let s = c.args.source.now in
    let at = c.args.at in
    let first = c.args.first in
    let plain : number_at first (drop (suc at) s) ≡ suffixed first (drop (suc at) s) = elim c.if-first-eq48.branch [
      | then-first-eq48+in-Some+in_default-1 w ↦ number_plain first s at w.if-first-eq48.true (search rules) (search rules) (search rules) (search rules)
      | then-first-eq48+in-None-1 w ↦ number_plain first s at w.if-first-eq48.true (search rules) (search rules) (search rules) (search rules)
      | else-first-eq48 w ↦ number_other suffixed first (drop (suc at) s) (ne_eqb _ 48 w.if-first-eq48.false)
    ] in
    c.number_literal_with_suffix.ensures ∙ ap (λ x. scanned_of at (suffixed x (drop (suc at) s))) (sym c.requires.1) ∙ ap (scanned_of at) (sym plain)
