-- The records of a listing from a place of its bytes on, and the bytes of those moved.
use Rattle.std.specs.Prelude.{ℕ, ◌+◌, ◌-◌, ◌<◌, ◌≡◌, List, [], ◌∷◌, map, length, drop, get_or}
use Rattle.std.proofs.Math.Option.{some}
use Rattle.lexer.specs.Text.{maybe}
use Rattle.rules.specs.Records.{Record, LT, field, listing, move_record}
use Rattle.rules.specs.Decode.{decode}
use Rattle.rules.specs.Patch.{records_below, records_on}
use Rattle.records.specs.Writes.{stores}
use Rattle.records.specs.declared.marks.Mark.{Mark}
use Rattle.records.specs.Marks.{letters_of, field_at}

unfoldable pub records_at : List ℕ → ℕ → List Record
records_at l at = maybe (decode (drop at l)) [] (λ rs. rs)

-- The bytes from a place on are records.
pub record Decodes (l : List ℕ) (at : ℕ) : Type 0 where
  pub so : decode (drop at l) ≡ some (records_at l at)

-- The first of them; where there is none, it is never asked for.
abbrev pub first : List Record → Record
first [] = LT
first (r ∷ rs) = r

unfoldable pub record_at : List ℕ → ℕ → Record
record_at l at = first (records_at l at)

-- A record stands at a place, and opens with a mark.
pub record Opens (l : List ℕ) (at : ℕ) (mark : Mark) : Type 0 where
  pub octets : (i : ℕ) → get_or l i 0 < 256
  pub decodes : Decodes l at
  pub there : at < length l
  pub letters : letters_of mark ≡ get_or l at 0 ∷ get_or l (at + 1) 0 ∷ []

-- From the records at `from` on, the first statement with a place of a or above stands at r.
pub record First (l : List ℕ) (from a r : ℕ) : Type 0 where
  pub below : r ≡ from + length (listing (records_below a (records_at l from)))
  pub on : decode (drop r l) ≡ some (records_on a (records_at l from))

-- Places moved by q − p.
unfoldable pub moved_bytes : ℕ → ℕ → List Record → List ℕ
moved_bytes q p rs = listing (map (move_record (λ k. k + q - p)) rs)

-- The bytes with the field at a place moved.
unfoldable pub move_field : ℕ → ℕ → List ℕ → ℕ → List ℕ
move_field q p l at = stores l at (field (field_at l at + q - p))
