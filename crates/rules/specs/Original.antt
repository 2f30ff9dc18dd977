-- The sources that demand 2 speaks of (RULES 13.2): what RULES 14 names is not in them, and they are answered as by the base rules.
use Rattle.std.specs.Prelude.{◌≡◌, true, false, List, ℕ, drop}
use Rattle.lexer.specs.Dots.{dot_follows}
use Rattle.lexer.specs.Original.{original_token, changes}
use Rattle.rules.specs.Lexemes.{tokens, tokens_from}
use Rattle.rules.specs.Reader.{Cause}
use Rattle.rules.specs.Statements.{Profile, fitting, cutting}
use Rattle.rules.specs.Calls.{refuses, full_read, statement_call}
use Rattle.rules.specs.ByRule.{statement_by, full_by, somewhere, SameWithout}
use Rattle.rules.specs.Data.{Alike}

-- WHERE NO DOT FOLLOWS A NAME DIRECTLY, and no run without a prefix that ends in b, B, d or D has an o, O, h or H behind it, the answers are those by
-- the base rules' tokens, which are the original's.
abbrev pub SameAsOriginal : Profile → Type 0
SameAsOriginal profile = SameWithout profile original_token changes

-- AND WHERE NO NUMBER IN A DATA LINE IS TOO WIDE they are those of the reading of these tokens that takes any number and cuts it off, as the Rust does.
pub record ReadAsOriginal (table : List ℕ) : Type 0 where
  pub of_full_read : (source : List ℕ) (room : ℕ) → somewhere original_token changes 0 source ≡ false
      → Alike (fitting table) (tokens source) (full_read (fitting table) source room) (full_by original_token (cutting table) source room)
  pub of_statement : (source : List ℕ) (p room : ℕ) → somewhere original_token changes 0 (drop p source) ≡ false
      → Alike (fitting table) (tokens_from p 0 (drop p source)) (statement_call (fitting table) source p room)
      (statement_by original_token (cutting table) source p room)

-- A DOT DIRECTLY BEHIND A NAME WAS ALWAYS REFUSED: the base rules' reading refuses every source that has one, however long the buffer.
pub record DotsRefusedByOriginal (profile : Profile) : Type 0 where
  pub of_full_read : (source : List ℕ) (room : ℕ) → somewhere original_token dot_follows 0 source ≡ true
      → (r : Cause) × (full_by original_token profile source room ≡ refuses r)
