-- What the entry points read, from the answers of `start`, `statement` and `statements`.
-- Assumes nothing.
use Prim.Native.Nat.{ℕ, suc}
use mathlib.Core.Path.{◌≡◌, refl, ap, ◌∙◌}
use mathlib.Core.List.{List, [], ◌∷◌}
use lib.ListN.{length, drop}
use Rattle.rules.specs.Lexemes.{tokens_from}
use Rattle.rules.specs.Records.{Record, listing}
use Rattle.rules.specs.Reader.{Cause, Answer, refused, thence, numbers_of}
use Rattle.rules.specs.Statements.{fitting, Row, State, rows, enter, statement, statements, accepted, refusal, outcome, read_rows, read_from}
use Rattle.rules.specs.Calls.{one_read}
use Rattle.std.specs.Prelude.{Ok, Err}
use Rattle.records.specs.declared.Writer.{Writer}
use Rattle.records.specs.Writers.{Puts}
use Rattle.refusals.specs.Refusals.{numbers}
use Rattle.state.specs.declared.Parser.{Parser}
use Rattle.refusals.specs.declared.Refusal.{Refusal}
use Rattle.state.specs.Views.{state_of}
use Rattle.statements.specs.Statements.{begin, Started, NotStarted, ReadsStatements}
use Rattle.state.proofs.Chain.{after_nil}
use Rattle.statements.proofs.Lines.{arrive_then}

module _ (table : List ℕ) where
  rows_begin : (n : ℕ) (rs : List Row) → read_rows (fitting table) n rs ≡ thence (begin rs) (λ _. statements (fitting table) n)
  unfolding read_rows begin thence
  rows_begin n [] = refl
  rows_begin n (r ∷ rs) = arrive_then r.first (enter r rs) (statements (fitting table) n)

  one_begin : (rs : List Row) → one_read (fitting table) rs ≡ thence (begin rs) (λ _. statement (fitting table))
  unfolding one_read begin thence
  one_begin [] = refl
  one_begin (r ∷ rs) = arrive_then r.first (enter r rs) (statement (fitting table))

  module _ (s : List ℕ) (place : ℕ) where
    abbrev from : List Row
    from = rows (tokens_from place 0 (drop place s))

    -- the bytes from the place on are read; they are refused
    pub record AllRead (o n : Writer) : Type 0 where
      pub v : List Record
      pub reads : read_from (fitting table) place (drop place s) ≡ accepted v
      pub puts : Puts (listing v) o n

    pub record FullRefused (r : Refusal) : Type 0 where
      pub cause : Cause
      pub reads : read_from (fitting table) place (drop place s) ≡ refusal cause
      pub by_numbers : numbers r ≡ numbers_of cause

    -- a statement is refused
    pub record OneRefused (r : Refusal) : Type 0 where
      pub cause : Cause
      pub reads : one_read (fitting table) from ≡ refused cause
      pub by_numbers : numbers r ≡ numbers_of cause

    module _ {r : Refusal} (h : NotStarted s place r) where
      pub all_not_started : FullRefused r
      unfolding read_from outcome thence
      all_not_started = record { cause = h.cause; reads = ap outcome (rows_begin _ from ∙ ap (λ (o : Answer State (Unit {0})). thence o (λ _. statements (fitting table) (suc (length (drop place s))))) h.reads); by_numbers = h.by_numbers }

      pub one_not_started : OneRefused r
      unfolding thence
      one_not_started = record { cause = h.cause; reads = one_begin from ∙ ap (λ (o : Answer State (Unit {0})). thence o (λ _. statement (fitting table))) h.reads; by_numbers = h.by_numbers }

    module _ {q : Parser} (h : Started s place q) where
      rows_at : (n : ℕ) → read_rows (fitting table) n from ≡ statements (fitting table) n (state_of s q)
      unfolding thence
      rows_at n = rows_begin n from ∙ ap (λ (o : Answer State (Unit {0})). thence o (λ _. statements (fitting table) n)) h.reads ∙ after_nil _

      pub one_at : one_read (fitting table) from ≡ statement (fitting table) (state_of s q)
      unfolding thence
      one_at = one_begin from ∙ ap (λ (o : Answer State (Unit {0})). thence o (λ _. statement (fitting table))) h.reads ∙ after_nil _

      pub all_read : {o n : Writer} {q₂ : Parser} → ReadsStatements table s q o n (Ok q₂) → AllRead o n
      unfolding read_from outcome
      all_read k =
          let g = (k.so (length (drop place s)) h.few).so in
          record { v = g.v; reads = ap outcome (rows_at (suc (length (drop place s))) ∙ g.reads); puts = g.puts }

      pub all_refused : {o n : Writer} {r : Refusal} → ReadsStatements table s q o n (Err r) → FullRefused r
      unfolding read_from outcome
      all_refused k =
          let g = (k.so (length (drop place s)) h.few).so in
          record { cause = g.cause; reads = ap outcome (rows_at (suc (length (drop place s))) ∙ g.reads); by_numbers = g.by_numbers }
