-- How the code prints the record at the head of bytes.
use Rattle.std.specs.Prelude.{◌≡◌, List, [], ◌++◌, ℕ, ◌+◌, ◌*◌, ◌≤◌, length, take, drop}
use Rattle.std.specs.Prelude.{Option, None, Some}
use Rattle.std.proofs.Math.Option.{none, some}
use Rattle.lexer.specs.Text.{bytes}
use Rattle.rules.specs.Records.{Record}
use Rattle.rules.specs.Decode.{nths_from, record_of}
use Rattle.text.specs.declared.Text.{Text}
use Rattle.text.specs.Text.{Put}
use Rattle.printing.specs.Lines.{line_of}

-- The first n fields.
abbrev pub nths : ℕ → List ℕ → List ℕ
nths n s = nths_from 0 n s

-- A record with the mark m, whose other bytes are at the head of s, and its line.
pub record Lined (m s : List ℕ) (size : ℕ) (text : List ℕ) : Type 0 where
  pub what : Record
  pub there : record_of m s ≡ some (record { what = what; size = 2 + size })
  pub fits : size ≤ length s
  pub said : line_of what ≡ m ++ text ++ bytes "\n"

-- The record at the head of s is printed: its length; or none is there, and nothing is printed.
pub record Printed (s : List ℕ) (size : ℕ) (old new : Text) : Type 0 where
  pub what : Record
  pub there : record_of (take 2 s) (drop 2 s) ≡ some (record { what = what; size = size })
  pub long : 2 ≤ size
  pub fits : size ≤ length s
  pub short : length (line_of what) ≤ 6 * size
  pub wrote : Put (line_of what) old new

abbrev pub Prints : List ℕ → Text → Text → Option ℕ → Type 0
Prints s old new (Some size) = Printed s size old new
Prints s old new None = (record_of (take 2 s) (drop 2 s) ≡ none) × Put [] old new
