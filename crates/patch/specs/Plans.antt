-- The plan of a patch: what is to be exchanged, once all refusals are past. Nothing is lent for writing before that.
use Rattle.std.specs.Prelude.{ℕ, ◌+◌, ◌-◌, ◌≤◌, ◌≡◌, List, ltb, length, take, drop, if◌then◌else◌, Result as Answer, Ok, Err}
use Rattle.refusals.specs.declared.Refusal.{Refusal}
use Rattle.refusals.specs.Refusals.{Numbers, spanned, numbers}
use Rattle.rules.specs.Records.{Record, listing}
use Rattle.rules.specs.Reader.{Cause, numbers_of}
use Rattle.rules.specs.Statements.{present, read_from}
use Rattle.rules.specs.Calls.{Result, gives, refuses, Short, overwrite}
use Rattle.reader.specs.Lent.{foreign_place}
use Rattle.rules.specs.Patch.{Edit, exchanged}
use Rattle.records.specs.Moves.{records_at, Decodes, First}
use Rattle.patch.specs.declared.Plan.{Plan}
use Rattle.patch.specs.declared.Rooms.{Rooms}
use Rattle.patch.specs.Patched.{accepted_of, Measured}

-- The length of the new listing, where the old one has n bytes.
abbrev pub new_length : Plan → ℕ → ℕ
new_length x n = x.below + x.size + (n - x.on)

-- 6, then 4, for an edited source of m bytes and an old listing of n.
abbrev pub fitted_of : Plan → (m n : ℕ) → Rooms → Answer Plan Numbers
fitted_of x m n rooms =
    if ltb rooms.source m then (Err (spanned 6 0 0))
    else if ltb rooms.listing (new_length x n) then (Err (spanned 4 0 0))
    else (Ok x)

-- What a plan has found of the old listing and of the line, which ends behind the new text and is read from the plan's state.
pub record Surveyed (line bytes : List ℕ) (x : Plan) : Type 0 where
  pub short : Short line
  pub plain : foreign_place line ≡ length line
  pub place : x.place ≤ length line
  pub measured : Measured line x.place x.start x.size
  pub decodes : Decodes bytes 0
  pub below : First bytes 0 x.place x.below
  pub on : First bytes x.below (x.place + x.shift.old) x.on

-- The new line's records, and their bytes.
abbrev pub line_records : List ℕ → Plan → List Record
line_records line x = accepted_of (read_from present x.place (drop x.place line))

abbrev pub line_bytes : List ℕ → Plan → List ℕ
line_bytes line x = listing (line_records line x)

-- The records of the new listing.
abbrev pub new_records : (line bytes : List ℕ) → Plan → List Record
new_records line bytes x =
    exchanged x.place x.shift.old x.shift.new (records_at bytes 0) (line_records line x)

-- All refusals of the patch e are past: both buffers have room.
pub record Ready (e : Result Edit) (edited bytes : List ℕ) (x : Plan) (rooms : Rooms) : Type 0 where
  pub cut : x.cut ≤ length edited
  pub found : Surveyed (take x.cut edited) bytes x
  pub given : e ≡ gives (record { source = edited; records = new_records (take x.cut edited) bytes x })
  pub source_room : length edited ≤ rooms.source
  pub listing_room : new_length x (length bytes) ≤ rooms.listing

abbrev pub PlansAs : Result Edit → (edited bytes : List ℕ) → Rooms → Answer Plan Refusal → Type 0
PlansAs e edited bytes rooms (Ok x) = Ready e edited bytes x rooms
PlansAs e edited bytes rooms (Err r) = (c : Cause) × (e ≡ refuses c) × (numbers r ≡ numbers_of c)

pub record Plans (e : Result Edit) (edited bytes : List ℕ) (rooms : Rooms) (r : Answer Plan Refusal) : Type 0 where
  pub so : PlansAs e edited bytes rooms r

-- A plan is applied: both buffers hold what is new, and n is the listing's length.
pub record Applied (edited : List ℕ) (w : List Record) (s s' l l' : List ℕ) (n : ℕ) : Type 0 where
  pub source : s' ≡ overwrite edited s
  pub listed : l' ≡ overwrite (listing w) l
  pub size : n ≡ length (listing w)
