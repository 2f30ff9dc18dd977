-- 42, 43 and 1 as the rules say; demand 3 from what the whole answers.
-- Assumes nothing.
use Prim.Native.Nat.{ℕ, ◌+◌, ◌≤◌}
use mathlib.Core.Path.{◌≡◌, sym, ap, ◌∙◌}
use mathlib.Core.List.{List}
use native.Mathlib.Omega.{arith}
use lib.ListN.{length, drop}
use Rattle.lexer.specs.Text.{run}
use Rattle.lexer.specs.Tokens.{in_comment}
use Rattle.rules.specs.Reader.{nowhere}
use Rattle.rules.specs.Patch.{line_at}
use Rattle.lines.proofs.Laws.{begins_within, line_length}
use Rattle.patch.proofs.Placing.{refused, same_edit}
use Rattle.patch.proofs.Rereading.{end_within, edited_length}
use Rattle.patch.proofs.Order.{clauses, no_line, has_feed, both_short, any_long, edited_long, all_lent}
use Rattle.patch.proofs.patch.Goals as goal

-- where the line ends
ends : (s : List ℕ) (a : ℕ) {e : ℕ} → a ≤ length s → e ≡ a + run in_comment (drop a s) → e ≡ a + length (line_at s a)
ends s a h e = e ∙ ap (λ (k : ℕ). a + k) (sym (line_length s a h))

pub returns-then-not-begins_line : goal.returns-then-not-begins_line
returns-then-not-begins_line c =
    let a = c.args in
    let so = clauses (refused {r = c.refused_nowhere.result} (nowhere 42) (no_line a.old.now a.listing.now a.place a.text.now a.source.now a.out.now (sym c.if-not-begins_line.ensures)) c.refused_nowhere.ensures) in
    record { answer = so.0; source = so.1.0; listing = so.1.1.0; demand_3 = so.1.1.1 }

pub returns-then-line_end-text : goal.returns-then-line_end-text
returns-then-line_end-text c =
    let a = c.args in
    let so = clauses (refused {r = c.refused_nowhere-then-line_end-text.result} (nowhere 43) (has_feed a.old.now a.listing.now a.place a.text.now a.source.now a.out.now (sym c.if-not-begins_line.ensures) (omega (arith, c.line_end.ensures, c.if-line_end-text.true)))
    c.refused_nowhere-then-line_end-text.ensures) in
    record { answer = so.0; source = so.1.0; listing = so.1.1.0; demand_3 = so.1.1.1 }

pub returns-then-old-text : goal.returns-then-old-text
returns-then-old-text c =
    let a = c.args in
    let so = clauses (refused {r = c.refused_nowhere-then-old-text.result} (nowhere 1) (any_long a.old.now a.listing.now a.place a.text.now a.source.now a.out.now (sym c.if-not-begins_line.ensures)
    (omega (arith, c.line_end.ensures, c.if-line_end-text.false)) c.if-old-text.true) c.refused_nowhere-then-old-text.ensures) in
    record { answer = so.0; source = so.1.0; listing = so.1.1.0; demand_3 = so.1.1.1 }

pub line_end-end-requires : goal.line_end-end-requires
line_end-end-requires c = begins_within c.args.old.now c.args.place (sym c.if-not-begins_line.ensures)

pub overflow_sub-n-2 : goal.overflow_sub-n-2
overflow_sub-n-2 c =
    let a = c.args in
    let h = begins_within a.old.now a.place (sym c.if-not-begins_line.ensures) in
    omega (arith, ends a.old.now a.place h c.line_end-end.ensures, end_within a.old.now a.place h)

pub returns-then-n-gt-SOURCE_MAX : goal.returns-then-n-gt-SOURCE_MAX
returns-then-n-gt-SOURCE_MAX c =
    let a = c.args in
    let h = begins_within a.old.now a.place (sym c.if-not-begins_line.ensures) in
    let n = edited_length a.old.now a.place h (ends a.old.now a.place h c.line_end-end.ensures) a.text.now in
    let so = clauses (refused {r = c.refused_nowhere-then-n-gt-SOURCE_MAX.result} (nowhere 1) (edited_long a.old.now a.listing.now a.place a.text.now a.source.now a.out.now (sym c.if-not-begins_line.ensures)
    (omega (arith, c.line_end.ensures, c.if-line_end-text.false)) (omega (arith, n, c.if-n-gt-SOURCE_MAX.true))) c.refused_nowhere-then-n-gt-SOURCE_MAX.ensures) in
    record { answer = so.0; source = so.1.0; listing = so.1.1.0; demand_3 = so.1.1.1 }

pub invariant_of-x : goal.invariant_of-x
invariant_of-x c = let a = c.args in record { short = (both_short (length a.old.now) (length a.text.now) c.if-old-text.false).0 }

pub invariant_of-x-2 : goal.invariant_of-x-2
invariant_of-x-2 c =
    let a = c.args in
    let line = sym c.if-not-begins_line.ensures in
    record { begins = line; ends = ends a.old.now a.place (begins_within a.old.now a.place line) c.line_end-end.ensures }

pub exchange_line-requires : goal.exchange_line-requires
exchange_line-requires c =
    let a = c.args in
    let h = begins_within a.old.now a.place (sym c.if-not-begins_line.ensures) in
    (edited_length a.old.now a.place h (ends a.old.now a.place h c.line_end-end.ensures) a.text.now, c.if-n-gt-SOURCE_MAX.false)

pub returns : goal.returns
returns c =
    let a = c.args in
    let h = begins_within a.old.now a.place (sym c.if-not-begins_line.ensures) in
    let n = edited_length a.old.now a.place h (ends a.old.now a.place h c.line_end-end.ensures) a.text.now in
    let so = clauses (same_edit (all_lent a.old.now a.listing.now a.place a.text.now a.source.now a.out.now (sym c.if-not-begins_line.ensures)
    (omega (arith, c.line_end.ensures, c.if-line_end-text.false)) (both_short (length a.old.now) (length a.text.now) c.if-old-text.false).0 (omega (arith, n, c.if-n-gt-SOURCE_MAX.false))) c.exchange_line.ensures) in
    record { answer = so.0; source = so.1.0; listing = so.1.1.0; demand_3 = so.1.1.1 }
