-- The answers of the calls as the numbers that Rust and C take: number, span and registers of each case (RULES 9.1, 11.1).
use Rattle.std.specs.Prelude.{ℕ, ◌*◌, ◌≤◌, ◌≡◌, true, false, List, eqb, ℤ, pos, length, take, if◌then◌else◌, Option, Some, None, Result as Answer, Ok, Err}
use Rattle.lexer.specs.Text.{maybe}
use Rattle.lexer.specs.declared.Kind.TheVariants as kind
use Rattle.rules.specs.Statements.{present}
use Rattle.rules.specs.Calls.{Result, gives, refuses, full_read, full_buffer}
use Rattle.reader.specs.Calls.{full_answer}
use Rattle.rules.specs.Evaluate.{evaluate}
use Rattle.rules.specs.Decode.{decode}
use Rattle.rules.specs.WellFormed.{well_formed}
use Rattle.refusals.specs.Refusals.{Numbers as Values}
use Rattle.rules.specs.Reader.{numbers_of}
use Rattle.lexer.specs.declared.Token.{Token}
use Rattle.lexer.specs.declared.Cursor.{Cursor}
use Rattle.reader.specs.declared.Written.{Written as Read}
use Rattle.patch.specs.declared.Patched.{Patched}
use Rattle.laqhoncu.specs.declared.Numbers.{Numbers}
use Rattle.laqhoncu.specs.declared.Patching.{Patching}
use Rattle.laqhoncu.specs.declared.FullReading.{FullReading}
use Rattle.laqhoncu.specs.declared.StatementReading.{StatementReading}
use Rattle.laqhoncu.specs.declared.TokenFound.{TokenFound}
use Rattle.laqhoncu.specs.declared.TokenReading.{TokenReading}
use Rattle.laqhoncu.specs.declared.Valuation.{Valuation}
use Rattle.laqhoncu.specs.Found.{plain, token_found}

-- a number without a place; 0 is no refusal's (`rules`: Claims, NumbersTell)
abbrev pub numbered : ℕ → Numbers
numbered n = record { number = n; from = 0; to = 0; first = 255; second = 255 }

abbrev pub numbers : Values → Numbers
numbers r = record { number = r.number; from = r.from; to = r.to; first = r.first; second = r.second }

abbrev pub full : Numbers → ℕ → FullReading
full refusal length = record { refusal = refusal; length = length }

abbrev pub full_reading : Answer ℕ Values → FullReading
full_reading (Ok n) = full (numbered 0) n
full_reading (Err r) = full (numbers r) 0

-- What holds of the bytes of the buffer l that a full read of the source s has written, as `Writes` says of its answer: they are within
-- the buffer, at most 18 times the source, and a well-formed listing. At a refusal there are none.
pub record Written (s l : List ℕ) (r : FullReading) : Type 0 where
  pub within : r.length ≤ length l
  pub bounded : r.length ≤ 18 * length s
  pub formed : maybe (decode (take r.length l)) false (well_formed (length s)) ≡ true

-- THE FULL READ, of both functions: the answer, what the buffer holds afterwards, and what holds of it.
pub record FullReads (s l l' : List ℕ) (r : FullReading) : Type 0 where
  pub answer : r ≡ full_reading (full_answer (full_read present s (length l)))
  pub buffer : l' ≡ full_buffer present s l
  pub written : Written s l' r

abbrev pub one : Numbers → ℕ → ℕ → ℕ → StatementReading
one refusal found length ahead = record { refusal = refusal; found = found; length = length; ahead = ahead }

abbrev pub statement_reading : Answer (Option Read) Values → StatementReading
statement_reading (Ok (Some w)) = one (numbered 0) 1 w.length w.ahead
statement_reading (Ok None) = one (numbered 0) 0 0 0
statement_reading (Err r) = one (numbers r) 0 0 0

abbrev pub token : Numbers → TokenFound → TokenReading
token refusal t = record { refusal = refusal; token = t }

abbrev pub token_reading : Answer (Token × Cursor) Values → TokenReading
token_reading (Ok (t, c)) = token (numbered 0) (token_found t c.pos)
token_reading (Err r) = token (numbers r) (plain kind.EndOfFile 0)

abbrev pub both : Numbers → ℕ → ℕ → Patching
both refusal source listing = record { refusal = refusal; source = source; listing = listing }

abbrev pub patching : Answer Patched Values → Patching
patching (Ok w) = both (numbered 0) w.source w.listing
patching (Err r) = both (numbers r) 0 0

abbrev pub value : Numbers → ℤ → Valuation
value refusal v = record { refusal = refusal; value = v }

abbrev pub valued : Result ℤ → Valuation
valued (gives z) = value (numbered 0) z
valued (refuses c) = value (numbers (numbers_of c)) (pos 0)

-- The operator of a number on two numbers; a number that is no operator's is 255, which is none of the reading's (RULES 9.6).
unfoldable pub valuation : ℕ → ℤ → ℤ → Valuation
valuation op a b =
    if eqb op 0 then (valued (evaluate 0 a b))
    else if eqb op 1 then (valued (evaluate 1 a b))
    else if eqb op 2 then (valued (evaluate 2 a b))
    else if eqb op 3 then (valued (evaluate 3 a b))
    else value (numbered 255) (pos 0)
