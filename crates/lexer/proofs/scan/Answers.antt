-- The first byte settles the token: the classes of first bytes lie apart, so the order of the tests is free.
use Prim.Native.Nat.{◌+◌}
use mathlib.Core.Path.{refl, sym, ap, ◌∙◌}
use borrow.Author.Rules.{rules}
use Rattle.std.proofs.lemmas.Option.{MatchOption-at_some}
use Rattle.lexer.specs.Text.{is_blank, is_word_part}
use Rattle.lexer.specs.Tokens.{in_comment}
use Rattle.lexer.specs.declared.Kind.TheVariants as kind
use Rattle.lexer.proofs.Scans.{flat, run_end_is, string_closed, string_unclosed, scanned_at, scanned_end, single_scanned, not_line, stray_scanned, token_comment, token_blank, token_number, token_word, token_string, token_other}
use Rattle.lexer.proofs.scan.Goals as goal

pub returns-then-source-at : goal.returns-then-source-at
returns-then-source-at c = c.plain.ensures ∙ scanned_end _ _ c.if-source-at.true

pub returns-then-is_whitespace : goal.returns-then-is_whitespace
returns-then-is_whitespace c = c.plain-then-is_whitespace.ensures ∙ run_end_is _ _ _ _ (c.run_end.ensures is_blank (λ _ _ _ e. e)) kind.Whitespace ∙ scanned_at _ _ c.if-source-at.false (token_blank _ _ (c.type_inv.source c.args.at).fits (sym c.is_whitespace.ensures ∙ c.if-is_whitespace.true))

pub returns-then-is_identifier_first : goal.returns-then-is_identifier_first
returns-then-is_identifier_first c = c.plain-then-is_identifier_first.ensures ∙ run_end_is _ _ _ _ (c.run_end-then-is_identifier_first.ensures is_word_part (λ _ _ _ e. e)) kind.Identifier ∙ scanned_at _ _ c.if-source-at.false (token_word _ _ (c.type_inv.source c.args.at).fits (sym c.is_identifier_first.ensures ∙ c.if-is_identifier_first.true))

pub returns-then-is_decimal_digit : goal.returns-then-is_decimal_digit
returns-then-is_decimal_digit c = c.number.ensures ∙ scanned_at _ _ c.if-source-at.false (token_number _ _ (c.type_inv.source c.args.at).fits (sym c.is_decimal_digit.ensures ∙ c.if-is_decimal_digit.true))

pub returns-in-Some : goal.returns-in-Some
returns-in-Some c =
    c.plain-in-Some.ensures ∙ MatchOption-at_some (Unit {0}) _ _ (sym c.single.ensures ∙ c.in-Some.is) (single_scanned c.args.at _ _) ∙ scanned_at _ _ c.if-source-at.false refl

pub returns-then-c-eq59 : goal.returns-then-c-eq59
returns-then-c-eq59 c = c.plain-then-c-eq59.ensures ∙ run_end_is _ _ _ _ (c.run_end-then-c-eq59.ensures in_comment (λ _ _ _ e. e)) kind.Comment ∙ scanned_at _ _ c.if-source-at.false (token_comment _ _ c.if-c-eq59.true)

pub returns-in-Some-eq39 : goal.returns-in-Some-eq39
returns-in-Some-eq39 c =
    c.plain-in-Some-eq39.ensures ∙ string_closed _ _ _ c.quoted_end-end.ensures (search rules) ∙ scanned_at _ _ c.if-source-at.false (token_string _ _ c.if-c-eq39.true)

pub returns-then-c-eq39 : goal.returns-then-c-eq39
returns-then-c-eq39 c =
    c.plain-then-c-eq39.ensures ∙ string_unclosed _ _ _ c.quoted_end-end.ensures (search rules) ∙ scanned_at _ _ c.if-source-at.false (token_string _ _ c.if-c-eq39.true)

pub returns : goal.returns
returns c =
    let n = sym c.single.ensures ∙ c.in_default.is in
    ap (λ v. flat kind.Invalid v (c.args.at + 1)) c.from.ensures
    ∙ stray_scanned _ n _
    ∙ scanned_at _ _ c.if-source-at.false (token_other _ _ (sym c.is_whitespace.ensures ∙ c.if-is_whitespace.false) (sym c.is_identifier_first.ensures ∙ c.if-is_identifier_first.false) (sym c.is_decimal_digit.ensures ∙ c.if-is_decimal_digit.false) c.if-c-eq59.false c.if-c-eq39.false (not_line _ n))
