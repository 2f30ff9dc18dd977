-- What a word names: a register, a segment, a size word, a directive, an operation. Case is ignored. RULES 3.
use Rattle.std.specs.Prelude.{not, List, [], ◌∷◌, map, ℕ, zero, suc, ◌/◌, eqb, length, take, drop, get_or, if◌then◌else◌}
use Rattle.std.specs.Prelude.{Option as Maybe, None, Some}
use Rattle.std.proofs.Math.Option.{Option, none, some}
use Prim.Native.String.{String}
use Rattle.lexer.specs.Text.{maybe, bytes, lower, same, run}
use Rattle.names.specs.declared.Name.{Name}
use Rattle.names.specs.declared.Name.TheVariants as name
use Rattle.names.specs.declared.Directive.{Directive}
use Rattle.names.specs.declared.Directive.TheVariants as directive

-- A name's number is its place in its list. Registers by encoding: byte 0 to 7, word 8 to 15.
unfoldable pub registers : List String
registers = "al" ∷ "cl" ∷ "dl" ∷ "bl" ∷ "ah" ∷ "ch" ∷ "dh" ∷ "bh" ∷ "ax" ∷ "cx" ∷ "dx" ∷ "bx" ∷ "sp" ∷ "bp" ∷ "si" ∷ "di" ∷ []

unfoldable pub segments : List String
segments = "es" ∷ "cs" ∷ "ss" ∷ "ds" ∷ []

unfoldable pub sizes : List String
sizes = "byte" ∷ "word" ∷ []

unfoldable pub directives : List String
directives = "equ" ∷ "db" ∷ "dw" ∷ "times" ∷ []

-- the place of a word among names, of which the first has the number n
unfoldable pub place_from : ℕ → List ℕ → List String → Option ℕ
place_from n w [] = none
place_from n w (name ∷ names) = let r : Option ℕ = place_from (suc n) w names in if same w (bytes name) then some n else r

unfoldable pub named : List String → List ℕ → Option ℕ
named names w = place_from 0 (map lower w) names

-- The rows of a table of eight bytes a row: up to seven letters, filled up with zeros, and the operation's number.
unfoldable pub spelling : List ℕ → List ℕ
spelling row = take (run (λ c. not (eqb c 0)) (take 7 row)) row

unfoldable pub operation_from : ℕ → List ℕ → List ℕ → Option ℕ
operation_from zero w table = none
operation_from (suc n) w table =
    let r : Option ℕ = operation_from n w (drop 8 table) in
    if same w (spelling table) then some (get_or table 7 0) else r

-- how many rows a table has; bytes behind the last whole row count for nothing
abbrev pub rows_in : List ℕ → ℕ
rows_in table = length table / 8

-- the operation that a word names by a table: that of the first row which spells it
unfoldable pub operation_named : List ℕ → List ℕ → Option ℕ
operation_named table w = operation_from (rows_in table) (map lower w) table

-- What is found, as the code answers it.
abbrev pub found_of : Option ℕ → Maybe ℕ
found_of none = None
found_of (some n) = Some n

-- a register, else a segment, else a size word: 0 byte, 1 word
abbrev pub name_from : Option ℕ → Option ℕ → Option ℕ → Maybe Name
name_from r s z = maybe r (maybe s (maybe z None (λ n. Some (name.Size n))) (λ n. Some (name.Segment n))) (λ n. Some (name.Register n))

abbrev pub name_of : List ℕ → Maybe Name
name_of w = name_from (named registers w) (named segments w) (named sizes w)

abbrev pub directive_from : Option ℕ → Maybe Directive
directive_from d = maybe d None (λ n. get_or (Some directive.Equ ∷ Some directive.Db ∷ Some directive.Dw ∷ Some directive.Times ∷ []) n None)

abbrev pub directive_of : List ℕ → Maybe Directive
directive_of w = directive_from (named directives w)
