-- What a patch that works on bytes keeps and moves: the statements below a place and from it on are all, so their bytes are the first and
-- the last of the old listing; a moved record is as long.
use Rattle.std.specs.Prelude.{if◌then◌else◌}
use mathlib.Core.Path.{◌≡◌, refl, sym, ap, ap₂, ◌∙◌}
use mathlib.Core.Bool.{Bool, true, false}
use mathlib.Core.List.{List, [], ◌∷◌, ◌++◌, map}
use Prim.Native.Nat.{ℕ, suc, ◌+◌, ◌*◌}
use lib.ListN.{length, length-append}
use Rattle.rules.specs.Records.{Record, plain, laden, encode, listing, Cell, cells_of, move_cells, move_record}
use Rattle.rules.specs.Patch.{statement_from, records_below, records_on}
use Rattle.rules.proofs.Records.{listing_append, length_plain, length_laden}

-- the statements below a place and from it on are all
pub below_on : (a : ℕ) (rs : List Record) → records_below a rs ++ records_on a rs ≡ rs
unfolding records_below records_on
below_on a [] = refl
below_on a (r ∷ rs) = go (statement_from a r) (below_on a rs)
  where
    go : (b : Bool) → records_below a rs ++ records_on a rs ≡ rs → ◌≡◌ {A = List Record} ((if b then [] else (r ∷ records_below a rs)) ++ (if b then (r ∷ rs) else (records_on a rs))) (r ∷ rs)
    go true h = refl
    go false h = ap (λ (l : List Record). r ∷ l) h

-- so the bytes that are kept are the first of the old listing
pub kept_bytes : (a : ℕ) (rs : List Record) → listing rs ≡ listing (records_below a rs) ++ listing (records_on a rs)
kept_bytes a rs = ap listing (sym (below_on a rs)) ∙ listing_append (records_below a rs) (records_on a rs)

-- a moved record is as long
fields_moved : (f : ℕ → ℕ) (cs : List Cell) (ns : List ℕ) → length (move_cells f cs ns) ≡ length ns
unfolding move_cells
fields_moved f [] ns = refl
fields_moved f (c ∷ cs) [] = refl
fields_moved f (c ∷ cs) (n ∷ ns) = ap suc (fields_moved f cs ns)

pub length_moved : (f : ℕ → ℕ) (r : Record) → length (encode (move_record f r)) ≡ length (encode r)
unfolding move_record
length_moved f (plain m ns) = length_plain m (move_cells f (cells_of m) ns) ∙ ap (λ (n : ℕ). length m + 4 * n) (fields_moved f (cells_of m) ns) ∙ sym (length_plain m ns)
length_moved f (laden m ns d) = length_laden m (move_cells f (cells_of m) ns) d ∙ ap (λ (n : ℕ). length m + (4 * n + 4 + length d)) (fields_moved f (cells_of m) ns) ∙ sym (length_laden m ns d)

pub listing_moved : (f : ℕ → ℕ) (rs : List Record) → length (listing (map (move_record f) rs)) ≡ length (listing rs)
unfolding listing
listing_moved f [] = refl
listing_moved f (r ∷ rs) = length-append (encode (move_record f r)) (listing (map (move_record f) rs)) ∙ ap₂ ◌+◌ (length_moved f r) (listing_moved f rs) ∙ sym (length-append (encode r) (listing rs))
