-- The calls, told the rule of a token: to say what a rule of RULES 14 changes of what is read, and what it leaves.
use Rattle.std.specs.Prelude.{◌≡◌, Bool, false, ◌||◌, List, [], ◌∷◌, ℕ, zero, suc, pred, length, drop}
use Rattle.lexer.specs.Tokens.{token_at, size_of}
use Rattle.lexer.specs.declared.Token.{Token}
use Rattle.lexer.specs.declared.TokenRead.{TokenRead}
use Rattle.rules.specs.Lexemes.{tokens_by}
use Rattle.rules.specs.Records.{Record}
use Rattle.rules.specs.Statements.{Profile, rows, outcome, read_rows}
use Rattle.rules.specs.Calls.{Result, lent, lent_at, token_read, token_call, listed, full_read, Found, one_found, one_read, statement_call}

-- By `token_at` they are what the calls answer (ByRule). Nothing is read by another rule; they are here to be compared with.
module _ (rule : List ℕ → TokenRead) where
  unfoldable pub token_by : List ℕ → ℕ → Result Token
  token_by source p = lent_at source p (token_read p (rule (drop p source)))

  unfoldable pub statement_by : Profile → List ℕ → ℕ → ℕ → Result Found
  statement_by profile source p room = lent_at source p (one_found room (one_read profile (rows (tokens_by rule p 0 (drop p source)))))

  unfoldable pub full_by : Profile → List ℕ → ℕ → Result (List Record)
  full_by profile source room = lent source (listed room (outcome (read_rows profile (suc (length source)) (rows (tokens_by rule 0 0 source)))))

pub record ByRule (profile : Profile) : Type 0 where
  pub of_token : (source : List ℕ) (p : ℕ) → token_call source p ≡ token_by token_at source p
  pub of_statement : (source : List ℕ) (p room : ℕ) → statement_call profile source p room ≡ statement_by token_at profile source p room
  pub of_full_read : (source : List ℕ) (room : ℕ) → full_read profile source room ≡ full_by token_at profile source room

-- Among the tokens of bytes by a rule there is one at whose beginning a test holds. The first k bytes belong to a token that is already read.
unfoldable pub somewhere : (List ℕ → TokenRead) → (List ℕ → Bool) → ℕ → List ℕ → Bool
somewhere rule test k [] = false
somewhere rule test (suc k) (c ∷ cs) = somewhere rule test k cs
somewhere rule test zero (c ∷ cs) = test (c ∷ cs) || somewhere rule test (pred (size_of (rule (c ∷ cs)))) cs

-- WHERE A TEST HOLDS OF NO TOKEN the calls answer as by the rule, each refusal among the answers. Of the token read it is asked of that token alone,
-- of the statement read of the bytes from its place on.
pub record SameWithout (profile : Profile) (rule : List ℕ → TokenRead) (test : List ℕ → Bool) : Type 0 where
  pub of_token : (source : List ℕ) (p : ℕ) → test (drop p source) ≡ false → token_call source p ≡ token_by rule source p
  pub of_statement : (source : List ℕ) (p room : ℕ) → somewhere rule test 0 (drop p source) ≡ false
      → statement_call profile source p room ≡ statement_by rule profile source p room
  pub of_full_read : (source : List ℕ) (room : ℕ) → somewhere rule test 0 source ≡ false
      → full_read profile source room ≡ full_by rule profile source room
