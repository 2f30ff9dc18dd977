-- What the code's answers say of the readers of statements and of data.
use Rattle.std.specs.Prelude.{ℕ, suc, ◌-◌, ◌≤◌, ◌≡◌, Bool, true, false, List, [], ◌∷◌, ◌++◌, length, take, drop, Result, Ok, Err}
use Rattle.rules.specs.Lexemes.{tokens_from}
use Rattle.rules.specs.Reader.{Cause, nowhere, Answer, done, refused, Reader, Line, thence, ◌>>◌, return, arrive, next, numbers_of}
use Rattle.rules.specs.Statements.{fitting, fits, Row, State, rows, enter, literal_of, literals, statement, statements}
use Rattle.lexer.specs.Scanned.{number_of as kind_number}
use Rattle.records.specs.declared.Writer.{Writer}
use Rattle.records.specs.Writers.{Puts, SameBuffer}
use Rattle.refusals.specs.declared.Refusal.{Refusal}
use Rattle.refusals.specs.Refusals.{numbers}
use Rattle.state.specs.declared.Parser.{Parser}
use Rattle.statements.specs.declared.Width.{Width}
use Rattle.statements.specs.declared.Width.TheVariants.{Byte, Word}
use Rattle.statements.specs.declared.StatementRead.{StatementRead}
use Rattle.statements.specs.declared.StatementRead.TheVariants.{Read, NoneLeft}
use Rattle.state.specs.Views.{here_of, behind, line_of, state_of, line, whole, Gives, Comes, Denies, Reads}

-- The reading of rows begins: their first token is read.
unfoldable pub begin : List Row → Answer State (Unit {0})
begin [] = refused (nowhere 0)  -- no source has no row
begin (r ∷ rs) = arrive r.first (done [] tt (enter r rs))

-- The first token from a place on is ahead in q; no more tokens than bytes stand behind it.
pub record Started (s : List ℕ) (place : ℕ) (q : Parser) : Type 0 where
  pub reads : begin (rows (tokens_from place 0 (drop place s))) ≡ done [] tt (state_of s q)
  pub few : length (behind s (kind_number q.kind) q.pos) ≤ length (drop place s)

pub record NotStarted (s : List ℕ) (place : ℕ) (r : Refusal) : Type 0 where
  pub cause : Cause
  pub reads : begin (rows (tokens_from place 0 (drop place s))) ≡ refused cause
  pub by_numbers : numbers r ≡ numbers_of cause

abbrev pub StartsAs : List ℕ → ℕ → Result Parser Refusal → Type 0
StartsAs s place (Ok q) = Started s place q
StartsAs s place (Err r) = NotStarted s place r

pub record Starts (s : List ℕ) (place : ℕ) (r : Result Parser Refusal) : Type 0 where
  pub so : StartsAs s place r

-- what stands between the quotes of a closed string
abbrev pub between : List ℕ → List ℕ
between w = take (length w - 2) (drop 1 w)

abbrev pub is_some : List ℕ → Bool
is_some [] = false
is_some (b ∷ bs) = true

-- how many bytes a number has
abbrev pub bytes_in : Width → ℕ
bytes_in Byte = 1
bytes_in Word = 2

-- An answer's bytes, with others in front.
unfoldable pub front : List ℕ → Answer Line (List ℕ) → Answer Line (List ℕ)
front a o = thence o (λ b. return (a ++ b))

-- The literal ahead has the bytes ds, which are put, and `others` follow behind the next token.
pub record Literal (s : List ℕ) (p : Parser) (width : ℕ) (old new : Writer) (some : Bool) : Type 0 where
  pub ds : List ℕ
  pub reads : (others : Reader Line (List ℕ)) → literal_of fits (here_of s p).kind width others (line_of s p) ≡ front ds ((next >> others) (line_of s p))
  pub puts : Puts ds old new
  pub is_some_lem : some ≡ is_some ds

-- It is refused.
pub record NoLiteral (s : List ℕ) (p : Parser) (width : ℕ) (r : Refusal) : Type 0 where
  pub cause : Cause
  pub reads : (others : Reader Line (List ℕ)) → literal_of fits (here_of s p).kind width others (line_of s p) ≡ refused cause
  pub by_numbers : numbers r ≡ numbers_of cause

abbrev pub ReadsLiteralAs : List ℕ → Parser → ℕ → Writer → Writer → Result Bool Refusal → Type 0
ReadsLiteralAs s p width old new (Ok some) = Literal s p width old new some
ReadsLiteralAs s p width old new (Err r) = NoLiteral s p width r

pub record ReadsLiteral (s : List ℕ) (p : Parser) (width : ℕ) (old new : Writer) (r : Result Bool Refusal) : Type 0 where
  pub so : ReadsLiteralAs s p width old new r
  pub lent : SameBuffer old new

-- The literals of the line: at most one for each token that is left.
abbrev pub literals_from : List ℕ → Parser → ℕ → Reader Line (List ℕ)
literals_from s p width = literals fits (suc (length (line_of s p).more)) width

pub record Literals (s : List ℕ) (p : Parser) (width : ℕ) (old new : Writer) (q : Parser) (some : Bool) : Type 0 where
  pub ds : List ℕ
  pub comes : Comes line s p (literals_from s p width) q ds
  pub puts : Puts ds old new
  pub is_some_lem : some ≡ is_some ds

abbrev pub ReadsLiteralsAs : List ℕ → Parser → ℕ → Writer → Writer → Result (Parser × Bool) Refusal → Type 0
ReadsLiteralsAs s p width old new (Ok q) = Literals s p width old new q.0 q.1
ReadsLiteralsAs s p width old new (Err r) = Denies line s p (literals_from s p width) r

pub record ReadsLiterals (s : List ℕ) (p : Parser) (width : ℕ) (old new : Writer) (r : Result (Parser × Bool) Refusal) : Type 0 where
  pub so : ReadsLiteralsAs s p width old new r
  pub lent : SameBuffer old new

module _ (table s : List ℕ) where
  -- None is left: nothing is written.
  pub record NoneThere (p : Parser) (old new : Writer) (q : Parser) : Type 0 where
    pub comes : Comes whole s p (statement (fitting table)) q false
    pub same : new ≡ old

  abbrev pub ReadsStatementAs : Parser → Writer → Writer → Result StatementRead Refusal → Type 0
  ReadsStatementAs p old new (Ok (Read q)) = Gives whole s p (statement (fitting table)) old new q true
  ReadsStatementAs p old new (Ok (NoneLeft q)) = NoneThere p old new q
  ReadsStatementAs p old new (Err r) = Denies whole s p (statement (fitting table)) r

  pub record ReadsStatement (p : Parser) (old new : Writer) (r : Result StatementRead Refusal) : Type 0 where
    pub so : ReadsStatementAs p old new r
    pub lent : SameBuffer old new

  -- All statements, of which there are at most as many as tokens.
  pub record ReadsStatements (p : Parser) (old new : Writer) (r : Result Parser Refusal) : Type 0 where
    pub so : (n : ℕ) → length (behind s (kind_number p.kind) p.pos) ≤ n → Reads whole s p (statements (fitting table) (suc n)) old new r
