-- The answer of the patch as the code gives it, and demand 3 in its words.
use Rattle.std.specs.Prelude.{ℕ, ◌≤◌, ◌≡◌, true, false, List, [], length, drop, Result as Answer, Ok, Err}
use Rattle.lexer.specs.Text.{among}
use Rattle.rules.specs.Records.{Record, listing}
use Rattle.rules.specs.Statements.{present, Outcome, accepted, refusal, read_from}
use Rattle.rules.specs.Calls.{Result, gives, refuses, full_read, full_buffer, leaves}
use Rattle.rules.specs.Patch.{begins_line, edited, open_line, Edit, patch_source, patch_listing}
use Rattle.state.specs.declared.Parser.{Parser}
use Rattle.statements.specs.Statements.{Started}
use Rattle.rules.specs.Reader.{numbers_of}
use Rattle.reader.specs.Calls.{full_answer}
use Rattle.refusals.specs.declared.Refusal.{Refusal}
use Rattle.refusals.specs.Refusals.{Numbers, by_numbers}
use Rattle.patch.specs.declared.Patched.{Patched}

-- RULES 9.5: the lengths of the edited source and of its listing, or a refusal's.
abbrev pub patch_answer : Result Edit → Answer Patched Numbers
patch_answer (gives e) = Ok (record { source = length e.source; listing = length (listing e.records) })
patch_answer (refuses c) = Err (numbers_of c)

-- A patch's answer, and what the buffers hold afterwards: s and l before, s' and l' then.
pub record Patches (e : Result Edit) (s s' l l' : List ℕ) (r : Answer Patched Refusal) : Type 0 where
  pub answer : by_numbers r ≡ patch_answer e
  pub source : s' ≡ patch_source e s
  pub listing : l' ≡ patch_listing e l

-- The records of a reading that accepts.
abbrev pub accepted_of : Outcome → List Record
accepted_of (accepted w) = w
accepted_of (refusal c) = []

-- The bytes of s from a place on were read from the state p, and their records measured.
pub record Measured (s : List ℕ) (place : ℕ) (p : Parser) (n : ℕ) : Type 0 where
  pub started : Started s place p
  pub reads : read_from present place (drop place s) ≡ accepted (accepted_of (read_from present place (drop place s)))
  pub size : n ≡ length (listing (accepted_of (read_from present place (drop place s))))

-- The full read's answer for a source of n bytes, as the patch gives it.
abbrev pub as_patch : ℕ → Answer ℕ Numbers → Answer Patched Numbers
as_patch n (Ok m) = Ok (record { source = n; listing = m })
as_patch n (Err r) = Err r

-- What demand 3 supposes: an accepted source with its listing, one of its lines, a new text without a line feed; no line of the proviso
-- leaves a `times` without its content; the source buffer is long enough.
pub record Supposed (old bytes : List ℕ) (a : ℕ) (new s : List ℕ) : Type 0 where
  pub room : ℕ
  pub records : List Record
  pub accepted : full_read present old room ≡ gives records
  pub its_listing : bytes ≡ listing records
  pub at_a_line : begins_line old a ≡ true
  pub one_line : among 10 new ≡ false
  pub none_open : open_line present old a new ≡ false
  pub long_enough : length (edited old a new) ≤ length s

-- DEMAND 3. The patch answers as the full read of the edited source does, lent as many bytes for the listing: the same length, or the same
-- number, span and registers; and it leaves the same bytes there. Where that read accepts, the edited source is written; else nothing is.
-- `given` says in which form the answer r is given.
pub record AsFullRead {R : Type 0} (given : Answer Patched Numbers → R) (old bytes : List ℕ) (a : ℕ) (new s s' l l' : List ℕ) (r : R) : Type 0 where
  pub so : Supposed old bytes a new s
      → (r ≡ given (as_patch (length (edited old a new)) (full_answer (full_read present (edited old a new) (length l)))))
      × (s' ≡ leaves (λ (v : List Record). edited old a new) (full_read present (edited old a new) (length l)) s)
      × (l' ≡ full_buffer present (edited old a new) l)
