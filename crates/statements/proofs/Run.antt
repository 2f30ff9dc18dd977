-- A statement with its place, and statements until none is left: each one read leaves fewer tokens.
-- Assumes nothing.
use Rattle.std.specs.Prelude.{if◌then◌else◌}
use Prim.Native.Nat.{ℕ, zero, suc, ◌≤◌, ◌<◌}
use mathlib.Core.Path.{◌≡◌, refl, ap, ◌∙◌}
use mathlib.Core.List.{List}
use mathlib.Core.Bool.{Bool, true, false}
use native.Mathlib.Omega.{arith}
use native.Mathlib.Nat.{le_refl}
use lib.ListN.{length}
use Rattle.rules.specs.Records.{ST, encode}
use Rattle.rules.specs.Reader.{Answer, Reader, thence, ◌>>◌, return, write, ahead, ◌>>=◌}
use Rattle.rules.specs.Statements.{fitting, State, over, in_line, skip_lines, line, times, begun, statement, statements}
use Rattle.rules.proofs.Progress.{size, Lower, statement_left}
use Rattle.std.specs.Prelude.{Ok, Err}
use Rattle.lexer.specs.Scanned.{number_of as kind_number}
use Rattle.records.specs.declared.Writer.{Writer}
use Rattle.records.specs.Writers.{Puts, SameBuffer}
use Rattle.records.proofs.Writers.{same_still, same_put, same_on}
use Rattle.state.specs.declared.Parser.{Parser}
use Rattle.refusals.specs.declared.Refusal.{Refusal}
use Rattle.state.specs.Views.{ends_line, behind, state_of, whole, Gives, Denies, Comes}
use Rattle.statements.specs.declared.StatementRead.TheVariants.{Read, NoneLeft}
use Rattle.statements.specs.Statements.{NoneThere, ReadsStatement, ReadsStatements}
use Rattle.state.proofs.Chain.{after_nil, Sofar, starts, becomes, comes, called, called_denied, ends, first_denied, denied, lands, writes, returns, lent_sofar, reads_done, reads_refused_on}
use Rattle.statements.proofs.Lines.{end_is, tokens_left, view_below}

module _ (table : List ℕ) {s : List ℕ} {p q : Parser} (h : Comes whole s p skip_lines q tt) where
  -- what is read from the first token on that is no line end
  abbrev first : Bool → Reader State Bool
  first b = if b then (return false) else (write (ST q.token_start) >> line (fitting table) (times (fitting table) 16) >> return true)

  begun_by : {b : Bool} → ends_line q.kind ≡ b → begun (fitting table) (state_of s q) ≡ first b (state_of s q)
  unfolding begun ◌>>=◌ in_line over ahead thence
  begun_by e = after_nil _ ∙ rw (end_is s q ∙ e)

  statement_by_lem : {b : Bool} → ends_line q.kind ≡ b → (o : Writer) → Sofar whole s p (statement (fitting table)) o q (first b) o
  unfolding statement ◌>>◌
  statement_by_lem e o = becomes (comes skip_lines (λ _. begun (fitting table)) (starts whole s p (statement (fitting table)) o) h) (begun_by e)

  pub none_there : ends_line q.kind ≡ true → (o : Writer) → ReadsStatement table s p o o (Ok (NoneLeft q))
  unfolding statement ◌>>◌ ◌>>=◌ thence return
  none_there e o = record {
    so = record { comes = record { reads = ap (λ (o : Answer State (Unit {0})). thence o (λ _. begun (fitting table))) h.reads ∙ after_nil _ ∙ begun_by e; kept = tt }; same = refl };
    lent = same_still o;
  }

  module _ (e : ends_line q.kind ≡ false) {o n : Writer} (k : Puts (encode (ST q.token_start)) o n) where
    placed : Sofar whole s q (write (ST q.token_start) >> line (fitting table) (times (fitting table) 16)) o q (line (fitting table) (times (fitting table) 16)) n
    unfolding ◌>>◌
    placed = called _ _ (starts whole s q (write (ST q.token_start) >> line (fitting table) (times (fitting table) 16)) o) (writes (ST q.token_start) k)

    module _ {w : Writer} (l : SameBuffer n w) where
      pub statement_reads : {q₂ : Parser} → Gives whole s q (line (fitting table) (times (fitting table) 16)) n w q₂ tt → ReadsStatement table s p o w (Ok (Read q₂))
      unfolding ◌>>◌
      statement_reads g = record { so = lands (called _ _ (statement_by_lem e o) (ends placed g)) (returns true); lent = same_on (same_put k) l }

      pub statement_denied : {r : Refusal} → Denies whole s q (line (fitting table) (times (fitting table) 16)) r → ReadsStatement table s p o w (Err r)
      unfolding ◌>>◌
      statement_denied g = record { so = called_denied _ _ (statement_by_lem e o) (denied placed g); lent = same_on (same_put k) l }

pub none_denied : (table : List ℕ) {s : List ℕ} {p : Parser} (o : Writer) {r : Refusal} → Denies whole s p skip_lines r → ReadsStatement table s p o o (Err r)
unfolding statement ◌>>◌
none_denied table o h = record { so = first_denied (λ _. begun (fitting table)) h; lent = same_still o }

-- a statement that is read leaves fewer tokens
module _ (table : List ℕ) {s : List ℕ} {q q₂ : Parser} {o n : Writer} (g : Gives whole s q (statement (fitting table)) o n q₂ true) where
  fewer : (k : ℕ) → size (state_of s q) ≤ k → (j : ℕ) × (k ≡ suc j) × (size (state_of s q₂) ≤ j)
  fewer k h = go k (rw g.reads at (statement_left (fitting table) k (state_of s q) (view_below s q k h)))
    where
      go : (k : ℕ) → Lower k (state_of s q₂) → (j : ℕ) × (k ≡ suc j) × (size (state_of s q₂) ≤ j)
      go zero b = absurd b
      go (suc j) b = (j, refl, b.few)

  pub statement_falls : size (state_of s q₂) < size (state_of s q)
  statement_falls =
      let (j, e, h) = fewer (size (state_of s q)) (le_refl _) in
      omega arith

-- Statements from p on have come to q, with enough fuel left wherever there was enough.
pub record Runs (table s : List ℕ) (p : Parser) (o : Writer) (q : Parser) (w : Writer) : Type 0 where
  pub so : (n : ℕ) → size (state_of s p) ≤ n → (k : ℕ) × (size (state_of s q) ≤ k) × Sofar whole s p (statements (fitting table) (suc n)) o q (statements (fitting table) (suc k)) w

pub run_starts : (table s : List ℕ) (p : Parser) (o : Writer) → Runs table s p o p o
run_starts table s p o = record { so = λ n h. (n, h, starts whole s p (statements (fitting table) (suc n)) o) }

module _ (table : List ℕ) {s : List ℕ} {p : Parser} {o : Writer} {q : Parser} {w : Writer} (r : Runs table s p o q w) where
  pub run_turns : {w₂ : Writer} {q₂ : Parser} → Gives whole s q (statement (fitting table)) w w₂ q₂ true → Runs table s p o q₂ w₂
  unfolding statements
  run_turns g = record {
    so = λ n h.
        let (k, f, so) = r.so n h in
        let (j, e, m) = fewer table g k f in
        (j, m, rw e at (called (statement (fitting table)) (λ more. if more then (statements (fitting table) k) else (return tt)) so g));
  }

  few : {n : ℕ} → length (behind s (kind_number p.kind) p.pos) ≤ n → size (state_of s p) ≤ n
  few h = omega (arith, tokens_left s p)

  pub run_ends : {w₂ : Writer} {q₂ : Parser} → NoneThere table s q w w₂ q₂ → ReadsStatements table s p o w₂ (Ok q₂)
  unfolding statements
  run_ends g = record {
    so = λ n h.
        let (k, f, so) = r.so n (few h) in
        rw g.same (reads_done (lands (comes (statement (fitting table)) (λ more. if more then (statements (fitting table) k) else (return tt)) so g.comes) (returns tt)));
  }

  pub run_denied : {w₂ : Writer} → SameBuffer w w₂ → {c : Refusal} → Denies whole s q (statement (fitting table)) c → ReadsStatements table s p o w₂ (Err c)
  unfolding statements
  run_denied l g = record {
    so = λ n h.
        let (k, f, so) = r.so n (few h) in
        reads_refused_on (same_on (lent_sofar so) l) (called_denied (statement (fitting table)) (λ more. if more then (statements (fitting table) k) else (return tt)) so g);
  }
