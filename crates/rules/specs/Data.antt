-- Data lines: what they say, the numbers that are too wide for them (60), and what is claimed of both. RULES 7.6.
use Rattle.std.specs.Prelude.{◌≡◌, true, List, [], ◌∷◌, ◌++◌, ℕ, suc, ◌+◌, ◌*◌, ◌≤◌, ◌<◌, length, take, drop}
use Rattle.std.proofs.Math.Option.{none, some}
use Prim.Native.Char.{code}
use Rattle.names.specs.Names.{directives}
use Rattle.rules.specs.Lexemes.{Lexeme, number, quoted, mark, tokens, tokens_from, name_in, operation_in}
use Rattle.rules.specs.Records.{Record, LD}
use Rattle.rules.specs.Reader.{at, done, refused_as, is_line_end, ◌>>◌}
use Rattle.rules.specs.Expressions.{expression}
use Rattle.rules.specs.Statements.{Profile, fitting, cutting, Row, State, rows, in_line, enter, skip_lines, passing, begun}
use Rattle.rules.specs.Calls.{Result, gives, refuses, lent, found, full_read, statement_call}
use Rattle.rules.specs.Grammar.{end_of}
use Rattle.rules.specs.Patch.{behind, patch}

-- What bytes are worth together, low first.
unfoldable pub worth : List ℕ → ℕ
worth [] = 0
worth (b ∷ bs) = b + 256 * worth bs

abbrev pub AreBytes : List ℕ → Type 0
AreBytes [] = Unit {0}
AreBytes (b ∷ bs) = (b < 256) × AreBytes bs

-- The bytes of a number, as many as its data word gives it: they are worth that number, so no bit of it is lost.
pub record BytesOf (width value : ℕ) (bs : List ℕ) : Type 0 where
  pub many : length bs ≡ width
  pub each : AreBytes bs
  pub kept : worth bs ≡ value

-- `Says width xs ds`: the tokens xs are literals and commas, and say the bytes ds, where a number has `width` bytes: strings give one byte a
-- character, numbers their bytes, low first.
pub data Says (width : ℕ) : List Lexeme → List ℕ → Type 0 where
  ends : Says width [] []
  comma : {x : Lexeme} {xs : List Lexeme} {ds : List ℕ} → x.kind ≡ mark (code ",") → Says width xs ds → Says width (x ∷ xs) ds
  string : {x : Lexeme} {s : List ℕ} {xs : List Lexeme} {ds : List ℕ} → x.kind ≡ quoted true s → Says width xs ds → Says width (x ∷ xs) (s ++ ds)
  count : {x : Lexeme} {value : ℕ} {bs : List ℕ} {xs : List Lexeme} {ds : List ℕ} → x.kind ≡ number value → BytesOf width value bs
      → Says width xs ds → Says width (x ∷ xs) (bs ++ ds)

-- By a reading of the tokens xs, a statement opens at the token ahead of a state: the first one, or one behind a statement, past empty lines.
module _ (profile : Profile) (xs : List Lexeme) where
  pub data Opens : State → Type 0 where
    first : {r : Row} {rs : List Row} {w : List Record} {u : State} → rows xs ≡ r ∷ rs → refused_as r.first.kind ≡ none
        → skip_lines (enter r rs) ≡ done w tt u → Opens u
    next : {u s v : State} {w w' : List Record} → Opens u → begun profile u ≡ done w true s → skip_lines s ≡ done w' tt v → Opens v

  -- Or the content of a `times` does, behind its expression, past empty lines; n more of them may begin there.
  pub data OpensIn : ℕ → State → Type 0 where
    statement : {u : State} → Opens u → OpensIn 16 u
    content : {n : ℕ} {u v : State} {w : List Record} → OpensIn (suc n) u → operation_in profile.table u.line.here.kind ≡ none
        → name_in directives u.line.here.kind ≡ some 3 → passing (in_line expression >> skip_lines) u ≡ done w tt v → OpensIn n v

  -- A data line opens with the word x: `db` gives a number one byte, `dw` two.
  pub record OpensData (x : Lexeme) (width : ℕ) : Type 0 where
    pub state : State
    pub left : ℕ
    pub opens : OpensIn left state
    pub ahead : state.line.here ≡ x
    pub no_operation : operation_in profile.table x.kind ≡ none
    pub named : name_in directives x.kind ≡ some width
    pub least : 1 ≤ width
    pub most : width ≤ 2

  -- Among the tokens there is a data line, from f to t, that says the bytes ds: its word, and behind it, to the line's end, literals and commas.
  pub record DataLine (f t : ℕ) (ds : List ℕ) : Type 0 where
    pub word : Lexeme
    pub width : ℕ
    pub is_data : OpensData word width
    pub literals : List Lexeme
    pub ending : Lexeme
    pub rest : List Lexeme
    pub line : is_data.state.line.more ≡ literals ++ (ending ∷ rest)
    pub says : Says width literals ds
    pub is_ending : is_line_end ending.kind ≡ true
    pub from : f ≡ word.from
    pub to : t ≡ end_of (word ∷ literals)

  -- In a data line there is a number, from f to t, that is too wide for its word: behind literals and commas, and with no bytes, as many as
  -- the word gives, that are worth it.
  pub record TooWide (f t : ℕ) : Type 0 where
    pub word : Lexeme
    pub width : ℕ
    pub is_data : OpensData word width
    pub literals : List Lexeme
    pub wide : Lexeme
    pub rest : List Lexeme
    pub line : is_data.state.line.more ≡ literals ++ (wide ∷ rest)
    pub said : List ℕ
    pub says : Says width literals said
    pub value : ℕ
    pub is_number : wide.kind ≡ number value
    pub no_bytes : (bs : List ℕ) → ¬ (BytesOf width value bs)
    pub from : f ≡ wide.from
    pub to : t ≡ wide.to

-- THE DATA ARE WHAT THE SOURCE SAYS: each data record that the full read or the statement read gives is a data line's, whose every number's
-- bytes are worth that number.
pub record DataKept (table : List ℕ) : Type 0 where
  pub of_full_read : (source : List ℕ) (room : ℕ) (before rest : List Record) (f t : ℕ) (ds : List ℕ)
      → full_read (fitting table) source room ≡ gives (before ++ (LD f t ds ∷ rest)) → DataLine (fitting table) (tokens source) f t ds
  pub of_statement : (source : List ℕ) (p room ahead : ℕ) (before rest : List Record) (f t : ℕ) (ds : List ℕ)
      → statement_call (fitting table) source p room ≡ gives (found (before ++ (LD f t ds ∷ rest)) ahead)
      → DataLine (fitting table) (tokens_from p 0 (drop p source)) f t ds

-- Two answers to the tokens xs are the same, or the first is 60, at a number in a data line of the reading that is too wide for its word.
pub data Alike {A : Type 0} (profile : Profile) (xs : List Lexeme) : Result A → Result A → Type 0 where
  same : {a : Result A} → Alike profile xs a a
  apart : {f t : ℕ} {a : Result A} → TooWide profile xs f t → Alike profile xs (refuses (at 60 f t)) a

-- ONLY SOURCES WITH SUCH A NUMBER IN A DATA LINE CHANGE: on all others the reading answers as one that takes any number and cuts it off. Of the
-- patch the tokens are those of the new line, in its place.
pub record OnlyTooWide (table : List ℕ) : Type 0 where
  pub of_full_read : (source : List ℕ) (room : ℕ)
      → Alike (fitting table) (tokens source) (full_read (fitting table) source room) (full_read (cutting table) source room)
  pub of_statement : (source : List ℕ) (p room : ℕ)
      → Alike (fitting table) (tokens_from p 0 (drop p source)) (statement_call (fitting table) source p room) (statement_call (cutting table) source p room)
  pub of_patch : (old bytes : List ℕ) (a : ℕ) (new : List ℕ) (room_s room_l : ℕ)
      → Alike (fitting table) (tokens_from a 0 (new ++ take 1 (behind old a)))
      (patch (fitting table) old bytes a new room_s room_l) (patch (cutting table) old bytes a new room_s room_l)

-- SUCH A NUMBER IS REFUSED: of a source that may be read, with 60, at the number.
pub record TooWideRefused (table : List ℕ) : Type 0 where
  pub of_full_read : (source : List ℕ) (room f t : ℕ) → TooWide (fitting table) (tokens source) f t
      → full_read (fitting table) source room ≡ lent source (refuses (at 60 f t))
