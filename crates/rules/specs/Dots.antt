-- Dots in names: what they change of what is read, and what they leave. RULES 2.3, 14.1.
use Rattle.std.specs.Prelude.{◌≡◌, Bool, true, List, ℕ, get_or}
use Rattle.std.proofs.Math.Option.{none}
use Prim.Native.Char.{code}
use Rattle.lexer.specs.Text.{is, among}
use Rattle.lexer.specs.Tokens.{token_at}
use Rattle.lexer.specs.Dots.{plain_token, dot_follows}
use Rattle.rules.specs.Lexemes.{word, Lexeme}
use Rattle.rules.specs.Records.{Record, VL}
use Rattle.rules.specs.Reader.{Cause, Reader, Line, ◌>>◌, return, write, next}
use Rattle.rules.specs.Expressions.{atom}
use Rattle.rules.specs.Operands.{immediate_or_far, override, registers_ahead, operand_sized}
use Rattle.rules.specs.Statements.{Profile, State, in_line, passing, label, line}
use Rattle.rules.specs.Calls.{gives, refuses, full_read}
use Rattle.rules.specs.ByRule.{full_by, somewhere, SameWithout}

-- In bytes a dot follows a name directly; the names are the base rules' (RULES 14.1).
abbrev pub dot_behind_name : ℕ → List ℕ → Bool
dot_behind_name k s = somewhere plain_token dot_follows k s

-- WHERE NO DOT FOLLOWS A NAME DIRECTLY NOTHING CHANGES: the answer is the one by the base rules' names. (Numbers are read by RULES 2.5 in both; with the
-- base rules' order of their suffixes too: Original.)
abbrev pub SameWithoutDots : Profile → Type 0
SameWithoutDots profile = SameWithout profile plain_token dot_follows

-- ONLY SOURCES THAT WERE REFUSED BEFORE CHANGE: one that the full read accepted by the base rules' names, lent some room, it answers as by them, whatever
-- room it is lent. For a source in which a dot follows a name directly was refused by them, however long the buffer.
pub record OnlyRefused (profile : Profile) : Type 0 where
  pub accepted : (source : List ℕ) (before room : ℕ) (w : List Record) → full_by plain_token profile source before ≡ gives w
      → full_read profile source room ≡ full_by plain_token profile source room
  pub refused : (source : List ℕ) (room : ℕ) → dot_behind_name 0 source ≡ true
      → (r : Cause) × (full_by plain_token profile source room ≡ refuses r)

-- A DOT THAT STARTS A TOKEN IS ACCEPTED NOWHERE.
unfoldable pub starts_with_dot : List ℕ → Bool
starts_with_dot s = is "." (get_or s 0 0)

abbrev pub lone_dot : ℕ → List ℕ → Bool
lone_dot k s = somewhere token_at starts_with_dot k s

pub record LoneDotsRefused (profile : Profile) : Type 0 where
  pub of_full_read : (source : List ℕ) (room : ℕ) → lone_dot 0 source ≡ true → (r : Cause) × (full_read profile source room ≡ refuses r)

-- A token that is a name with a dot in it.
pub record HoldsDot (x : Lexeme) : Type 0 where
  pub text : List ℕ
  pub name : x.kind ≡ word text
  pub dot : among (code ".") text ≡ true

-- LABELS, OPERANDS, EXPRESSIONS AND NAME LOOKUP FOLLOW: such a name is a label where a statement begins with it, an expression where an operand
-- does, whatever size words stand before it, a name in an expression, and no segment and no register in a bracket.
pub record DottedRead (profile : Profile) : Type 0 where
  pub as_label : (times : Reader State (Unit {0})) (s : State) → HoldsDot s.line.here
      → line profile times s ≡ passing (in_line (label s.line.here)) s
  pub as_operand : (n size : ℕ) (l : Line) → HoldsDot l.here → operand_sized n size l ≡ immediate_or_far l
  pub as_value : (l : Line) → HoldsDot l.here → atom l ≡ (next >> write (VL l.here.from l.here.to)) l
  pub no_segment : (l : Line) → HoldsDot l.here → override l ≡ return 0 l
  pub no_register : (l : Line) → HoldsDot l.here → registers_ahead l ≡ return none l
