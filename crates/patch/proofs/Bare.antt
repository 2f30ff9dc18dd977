-- Whether a line read alone is bare says its first token.
-- Assumes nothing.
use Rattle.std.specs.Prelude.{Result, Ok, Err, MatchResult}
use Prim.Native.Nat.{ℕ}
use mathlib.Core.Path.{◌≡◌, refl, sym, ap, ◌∙◌}
use mathlib.Core.Bool.{Bool, true, false, and-true, true≢false}
use mathlib.Core.List.{List, [], ◌∷◌}
use Rattle.lexer.specs.Text.{among}
use Rattle.rules.specs.Lexemes.{tokens_from}
use Rattle.rules.specs.Reader.{Cause, Answer, done, refused, arrive, is_line_end}
use Rattle.rules.specs.Statements.{Row, State, rows, first_of, enter}
use Rattle.rules.specs.Patch.{bare_line}
use Rattle.rules.proofs.Append.{end_fine, arrive_fine}
use Rattle.rules.proofs.Cut.{blank_rows, arrive_done}
use Rattle.rules.proofs.Exchange.{ends_rows}
use Rattle.rules.proofs.OneRow.{Single, one_row as single_row}
use Rattle.state.specs.declared.Parser.{Parser}
use Rattle.refusals.specs.declared.Refusal.{Refusal}
use Rattle.state.specs.Views.{ends_line, here_of, state_of}
use Rattle.state.proofs.Flat.{end_ahead}
use Rattle.statements.specs.Statements.{begin, Started, NotStarted, Starts}

-- A text without a line feed is one row.
abbrev One : List Row → Type 0
One l = (r : Row) × (l ≡ r ∷ [])

single_one : (l : List Row) → Single l → One l
single_one [] h = absurd h
single_one (r ∷ []) h = (r, refl)
single_one (r ∷ q ∷ rs) h = absurd h

one_row : (p k : ℕ) (s : List ℕ) → among 10 s ≡ false → One (rows (tokens_from p k s))
one_row p k s h = single_one (rows (tokens_from p k s)) (single_row p k s h)

-- Whether it is bare says its first token.
module _ (s : List ℕ) (plain : among 10 s ≡ false) where
  bare_by : (r : Row) → rows (tokens_from 0 0 s) ≡ r ∷ [] → is_line_end r.first.kind ≡ bare_line s
  unfolding bare_line blank_rows
  bare_by r e = sym (sym (ends_rows (tokens_from 0 0 s)) ∙ ap blank_rows e ∙ and-true (is_line_end r.first.kind))

  bare_begun : (p : Parser) → Started s 0 p → is_line_end (here_of s p).kind ≡ bare_line s
  unfolding begin enter first_of
  bare_begun p b =
      let (r, e) = one_row 0 0 s plain in
      let i : arrive r.first (done [] tt (enter r [])) ≡ done [] tt (state_of s p) = rw e at b.reads in
      let j : enter r [] ≡ state_of s p = cc (arrive_done r.first (done [] tt (enter r [])) i) in
      sym (ap (λ (u : State). is_line_end u.line.here.kind) j) ∙ bare_by r e

  bare_not_begun : {q : Refusal} → NotStarted s 0 q → false ≡ bare_line s
  unfolding begin
  bare_not_begun b =
      let (r, e) = one_row 0 0 s plain in
      let i : arrive r.first (done [] tt (enter r [])) ≡ refused b.cause = rw e at b.reads in
      go r (is_line_end r.first.kind) refl b.cause i ∙ bare_by r e
    where
      go : (r : Row) (o : Bool) → is_line_end r.first.kind ≡ o → (k : Cause) → ◌≡◌ {A = Answer State (Unit {0})} (arrive r.first (done [] tt (enter r []))) (refused k) → false ≡ is_line_end r.first.kind
      go r false h k i = sym h
      go r true h k i =
          let j : ◌≡◌ {A = Answer State (Unit {0})} (done [] tt (enter r [])) (refused k) = sym (arrive_fine r.first (done [] tt (enter r [])) (end_fine r.first.kind h)) ∙ i in
          absurd (true≢false cc)

  -- of what `start` answers
  pub bare_tells : (r : Result Parser Refusal) → Starts s 0 r → {b : Bool} → MatchResult r (λ p. b ≡ ends_line p.kind) (λ _. b ≡ false) → b ≡ bare_line s
  bare_tells (Ok p) h k = sym (end_ahead s p k refl) ∙ bare_begun p h.so
  bare_tells (Err r) h k = k ∙ bare_not_begun h.so
