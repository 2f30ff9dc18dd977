-- The answers of the calls, as the code gives them: the numbers and values of RULES 9 and 11.1 for each case.
use Rattle.std.specs.Prelude.{ℕ, ◌+◌, ◌*◌, ◌≤◌, ◌≡◌, List, true, false, length, take, drop, Option, Some, None, Result as Answer, Ok, Err}
use Rattle.lexer.specs.Text.{maybe}
use Rattle.rules.specs.Lexemes.{tokens_from}
use Rattle.rules.specs.Decode.{decode}
use Rattle.rules.specs.WellFormed.{well_formed}
use Rattle.lexer.specs.Tokens.{length_of}
use Rattle.lexer.specs.declared.Token.{Token}
use Rattle.lexer.specs.declared.Cursor.{Cursor}
use Rattle.rules.specs.Records.{Record, listing}
use Rattle.rules.specs.Statements.{present, rows, reading}
use Rattle.rules.specs.Calls.{Result, gives, refuses, lent, lent_at, listed, leaves, Found, nothing, found, one_found, one_read, found_bytes, full_read, full_buffer}
use Rattle.rules.specs.Reader.{Cause, numbers_of}
use Rattle.refusals.specs.declared.Refusal.{Refusal}
use Rattle.refusals.specs.Refusals.{Numbers, numbers, by_numbers}
use Rattle.reader.specs.declared.ascii.Ascii.{Ascii}
use Rattle.reader.specs.declared.Written.{Written}

-- What the rules say of the source s is x, and the code's answer is that: the source itself, or the refusal.
abbrev pub LendsAs : List ℕ → Result (Unit {0}) → Answer Ascii Refusal → Type 0
LendsAs s x (Ok v) = (x ≡ gives tt) × (v.source.text.now ≡ s)
LendsAs s x (Err r) = (c : Cause) × (x ≡ refuses c) × (numbers r ≡ numbers_of c)

pub record Lends (s : List ℕ) (r : Answer Ascii Refusal) : Type 0 where
  pub so : LendsAs s (lent s (gives tt)) r

pub record LendsAt (s : List ℕ) (p : ℕ) (r : Answer Ascii Refusal) : Type 0 where
  pub so : LendsAs s (lent_at s p (gives tt)) r

-- the token read at a place, with the state behind it
abbrev pub token_answer : ℕ → Result Token → Answer (Token × Cursor) Numbers
token_answer p (gives t) = Ok (t, record { pos = p + length_of t })
token_answer p (refuses c) = Err (numbers_of c)

abbrev pub statement_answer : Result Found → Answer (Option Written) Numbers
statement_answer (gives nothing) = Ok None
statement_answer (gives (found w p)) = Ok (Some (record { length = length (listing w); ahead = p }))
statement_answer (refuses c) = Err (numbers_of c)

abbrev pub full_answer : Result (List Record) → Answer ℕ Numbers
full_answer (gives w) = Ok (length (listing w))
full_answer (refuses c) = Err (numbers_of c)

-- What a source that is one to read gives: the answer, and what the buffer holds afterwards.
pub record ReadsAll (s l l' : List ℕ) (r : Answer ℕ Refusal) : Type 0 where
  pub answer : by_numbers r ≡ full_answer (listed (length l) (reading present s))
  pub buffer : l' ≡ leaves listing (listed (length l) (reading present s)) l

pub record OneRead (s : List ℕ) (p : ℕ) (l l' : List ℕ) (r : Answer (Option Written) Refusal) : Type 0 where
  pub answer : by_numbers r ≡ statement_answer (one_found (length l) (one_read present (rows (tokens_from p 0 (drop p s)))))
  pub buffer : l' ≡ leaves found_bytes (one_found (length l) (one_read present (rows (tokens_from p 0 (drop p s))))) l

-- What holds of the bytes that an accepted full read has written: a listing is never longer than 18 times its source, and it is well-formed.
abbrev pub WritesAs : List ℕ → List ℕ → Answer ℕ Refusal → Type 0
WritesAs s l (Ok n) = (n ≤ length l) × (n ≤ 18 * length s) × (maybe (decode (take n l)) false (well_formed (length s)) ≡ true)
WritesAs s l (Err r) = Unit {0}

pub record Writes (s l : List ℕ) (r : Answer ℕ Refusal) : Type 0 where
  pub so : WritesAs s l r

-- THE FULL READ, of both functions: the answer, what the buffer holds afterwards, and what holds of it.
pub record FullReads (s l l' : List ℕ) (r : Answer ℕ Refusal) : Type 0 where
  pub answer : by_numbers r ≡ full_answer (full_read present s (length l))
  pub buffer : l' ≡ full_buffer present s l
  pub written : Writes s l' r
