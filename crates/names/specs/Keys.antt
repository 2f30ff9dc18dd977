-- Keys: seven letters as one number, the first highest, so that the keys of rows in rising order rise. A word is looked up by its key.
use Rattle.std.specs.Prelude.{Bool, true, false, not, ◌&&◌, List, [], ◌∷◌, ℕ, zero, suc, ◌+◌, ◌*◌, ◌-◌, eqb, leb, ltb, length, get_or, drop, if◌then◌else◌}
use Rattle.std.specs.Prelude.{Option as Maybe}
use Rattle.std.proofs.Math.Option.{Option, none, some}
use Prim.Native.String.{String}
use Rattle.lexer.specs.Text.{maybe, bytes, all}
use Rattle.names.specs.declared.Name.{Name}
use Rattle.names.specs.declared.Directive.{Directive}
use Rattle.names.specs.Names.{spelling, rows_in, registers, segments, sizes, directives, name_from, directive_from}

-- n bytes of s as one number behind a; past the end of s they are 0
abbrev pub joined : ℕ → ℕ → List ℕ → ℕ
joined a zero s = a
joined a (suc n) s = joined (a * 256 + get_or s 0 0) n (drop 1 s)

-- seven and eight bytes that are read one by one
abbrev pub seven : List ℕ → ℕ
seven s = joined 0 7 (get_or s 0 0 ∷ get_or s 1 0 ∷ get_or s 2 0 ∷ get_or s 3 0 ∷ get_or s 4 0 ∷ get_or s 5 0 ∷ get_or s 6 0 ∷ [])

abbrev pub eight : List ℕ → ℕ → ℕ
eight s i =
    joined 0 8
    (get_or s i 0 ∷ get_or s (i + 1) 0 ∷ get_or s (i + 2) 0 ∷ get_or s (i + 3) 0
    ∷ get_or s (i + 4) 0 ∷ get_or s (i + 5) 0 ∷ get_or s (i + 6) 0 ∷ get_or s (i + 7) 0 ∷ [])

unfoldable pub key : List ℕ → ℕ
key s = joined 0 7 s

-- the key of a row
abbrev pub key_at : List ℕ → ℕ → ℕ
key_at table k = key (drop (8 * k) table)

-- The key of a word, or 0, which no name has, where the word is empty, has more than seven letters or ends in a zero:
-- a zero behind a name would not show in its key.
unfoldable pub key_of : List ℕ → ℕ
key_of w = if leb (length w) 7 && not (eqb (get_or w (length w - 1) 0) 0) then key w else 0

-- The place of a key among those of names, of which the first has the number n.
abbrev pub keys_of : List String → List ℕ
keys_of [] = []
keys_of (s ∷ ss) = key (bytes s) ∷ keys_of ss

abbrev pub place_of : ℕ → ℕ → List ℕ → Option ℕ
place_of n x [] = none
place_of n x (k ∷ ks) = let r : Option ℕ = place_of (suc n) x ks in if eqb x k then some n else r

-- what a key names
abbrev pub name_by : ℕ → Maybe Name
name_by x = name_from (place_of 0 x (keys_of registers)) (place_of 0 x (keys_of segments)) (place_of 0 x (keys_of sizes))

abbrev pub directive_by : ℕ → Maybe Directive
directive_by x = directive_from (place_of 0 x (keys_of directives))

-- opens the keys of names, which are then computed
unfoldable pub open_keys : Unit {0}
unfolding bytes registers segments sizes directives key
open_keys = tt

-- the operation of the first row that has a key
unfoldable pub operation_from_key : ℕ → ℕ → List ℕ → Option ℕ
operation_from_key zero x table = none
operation_from_key (suc n) x table =
    let r : Option ℕ = operation_from_key n x (drop 8 table) in
    if eqb x (key table) then some (get_or table 7 0) else r

unfoldable pub operation_by : List ℕ → ℕ → Option ℕ
operation_by table x = operation_from_key (rows_in table) x table

-- What may be looked up by its key: one to seven letters, each a byte and not zero.
unfoldable pub spelled : List ℕ → Bool
spelled s = ltb 0 (length s) && leb (length s) 7 && all (λ c. ltb 0 c && ltb c 256) s

-- n rows whose letters are filled up with zeros, and whose keys rise from above k
unfoldable pub good_from : ℕ → ℕ → List ℕ → Bool
good_from zero k table = true
good_from (suc n) k table =
    ltb k (key table) && spelled (spelling table) && eqb (key table) (key (spelling table)) && good_from n (key table) (drop 8 table)

-- n rows none of which spells a directive
unfoldable pub apart_from : ℕ → List ℕ → Bool
apart_from zero table = true
apart_from (suc n) table = maybe (place_of 0 (key table) (keys_of directives)) true (λ d. false) && apart_from n (drop 8 table)

-- a table of 1 to 128 spellings in rising order, free of repeats and of directives
unfoldable pub good_table : List ℕ → Bool
good_table table = ltb 0 (rows_in table) && leb (rows_in table) 128 && good_from (rows_in table) 0 table && apart_from (rows_in table) table
