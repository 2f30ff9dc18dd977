-- The plan: what is found of the new line and of the old listing, 6 and 4 by its numbers, and what is written is the patch.
-- Assumes nothing.
use Rattle.std.specs.Prelude.{if◌then◌else◌, Result as Answer, Ok, Err}
use Prim.Native.Nat.{ℕ, ◌+◌, ◌-◌, ◌≤◌, ◌<◌, min}
use mathlib.Core.Path.{◌≡◌, refl, ◌∙◌}
use mathlib.Core.Bool.{Bool, true, false}
use mathlib.Core.List.{List, ◌++◌}
use native.Mathlib.Omega.{arith}
use borrow.Author.Tests.{ltb-true, ltb-false}
use lib.Dec.{ltb}
use lib.ListN.{length, take, drop}
use Rattle.refusals.specs.declared.Refusal.{Refusal}
use Rattle.refusals.specs.Refusals.{spanned, by_numbers}
use Rattle.rules.specs.Records.{Record, listing}
use Rattle.rules.specs.Reader.{nowhere}
use Rattle.rules.specs.Statements.{present, read_from}
use Rattle.rules.specs.Calls.{Result, gives, leaves}
use Rattle.reader.specs.declared.ascii.Ascii.{Ascii}
use Rattle.records.specs.declared.Writer.{Writer}
use Rattle.statements.specs.Statements.{Started, ReadsStatements}
use Rattle.names.specs.Table.{operations}
use Rattle.rules.proofs.Reencode.{Octets}
use Rattle.lines.proofs.Laws.{begins_within}
use Rattle.patch.specs.declared.Exchange.{Exchange}
use Rattle.rules.specs.Patch.{Edit, behind, edited, placed_in, reread, patch_source, patch_listing}
use Rattle.records.specs.Moves.{records_at, Decodes, First}
use Rattle.state.specs.declared.Parser.{Parser}
use Rattle.patch.specs.declared.Plan.{Plan}
use Rattle.patch.specs.declared.Rooms.{Rooms}
use Rattle.patch.specs.Patched.{Patches, accepted_of}
use Rattle.patch.specs.Plans.{new_length, fitted_of, Surveyed, new_records, PlansAs, Plans, Applied}
use Rattle.patch.proofs.Placing.{Parts, parts, size_is, no_source, no_listing, placed}
use Rattle.patch.proofs.Rereading.{new_within, Cut, cut_is, first_as, short_take, plain_take, measured, measure_small, line_accepted}

pub same_plan : {e e' : Result Edit} {ed b : List ℕ} {rooms : Rooms} {r : Answer Plan Refusal} → e ≡ e' → Plans e' ed b rooms r → Plans e ed b rooms r
same_plan h p = rw h p

-- 6 and 4 by the numbers of a plan.
module _ (e : Result Edit) (ed old : List ℕ) (x : Plan) (cut : x.cut ≤ length ed) (f : Surveyed (take x.cut ed) old x)
    (P : Parts old x.place x.shift.old x.below x.on) (rooms : Rooms) (h : e ≡ placed_in rooms.source rooms.listing ed (new_records (take x.cut ed) old x)) where
  size : new_length x (length old) ≡ length (listing (new_records (take x.cut ed) old x))
  size = size_is P x.shift.new (accepted_of (read_from present x.place (drop x.place (take x.cut ed)))) f.measured.size

  pub plans_fitted : (r : Answer Plan Refusal) → by_numbers r ≡ fitted_of x (length ed) (length old) rooms → Plans e ed old rooms r
  plans_fitted r k = record { so = go r (ltb rooms.source (length ed)) refl (ltb rooms.listing (new_length x (length old))) refl k }
    where
      go : (r : Answer Plan Refusal) (b : Bool) → ltb rooms.source (length ed) ≡ b → (c : Bool) → ltb rooms.listing (new_length x (length old)) ≡ c
          → by_numbers r ≡ (if b then (Err (spanned 6 0 0)) else if c then (Err (spanned 4 0 0)) else (Ok x)) → PlansAs e ed old rooms r
      go (Err r) true i c j k = (nowhere 6, h ∙ no_source rooms.source rooms.listing ed _ (ltb-true rooms.source (length ed) i), cc)
      go (Err r) false i true j k =
          (nowhere 4, h ∙ no_listing rooms.source rooms.listing ed _ (ltb-false rooms.source (length ed) i) (omega (arith, ltb-true rooms.listing (new_length x (length old)) j, size)), cc)
      go (Err r) false i false j k = cc
      go (Ok y) true i c j k = cc
      go (Ok y) false i true j k = cc
      go (Ok y) false i false j k = let z : y ≡ x = cc in rw z (record {
        cut = cut;
        found = f;
        given = h ∙ placed rooms.source rooms.listing ed _ (ltb-false rooms.source (length ed) i) (omega (arith, ltb-false rooms.listing (new_length x (length old)) j, size));
        source_room = ltb-false rooms.source (length ed) i;
        listing_room = ltb-false rooms.listing (new_length x (length old)) j;
      })

-- the new text is no longer than the edited source
pub new_short : (x : Exchange) (v : Ascii) → v.source.text.now ≡ edited x.old.text.now x.place x.text.now → length x.text.now ≤ 65536
new_short x v is = omega (arith, new_within x.old.text.now x.place x.text.now (begins_within x.old.text.now x.place x.begins) is, v.source.short)

-- What is found where the line was read to its end.
module _ (x : Exchange) (v : Ascii) (is : v.source.text.now ≡ edited x.old.text.now x.place x.text.now) {bytes : List ℕ} (octets : Octets bytes) {cut : ℕ} (k : cut ≡ min (x.place + length x.text.now + 1) (length v.source.text.now))
    {p q : Parser} {o w : Writer} (begins : o.at ≡ 0) (started : Started (take cut v.source.text.now) x.place p) (reads : ReadsStatements operations (take cut v.source.text.now) p o w (Ok q))
    (d : Decodes bytes 0) {below on : ℕ} (f : First bytes 0 x.place below) (g : First bytes below x.end on) where
  abbrev ed : List ℕ
  ed = v.source.text.now

  within : x.place ≤ length x.old.text.now
  within = begins_within x.old.text.now x.place x.begins

  abbrev plan : length x.text.now ≤ 65536 → Plan
  plan low = record { place = x.place; shift = record { new = length x.text.now; old = x.end - x.place; low = low }; cut = cut; below = below; on = on; size = w.at; start = p }

  cut_so : Cut x.old.text.now x.place x.text.now within is cut
  cut_so = cut_is x.old.text.now x.place x.text.now within is k

  rest : First bytes below (x.place + (x.end - x.place)) on
  rest = let e : x.end ≡ x.place + (x.end - x.place) = omega (arith, x.ends) in first_as e g

  old_parts : Parts bytes x.place (x.end - x.place) below on
  old_parts = parts octets d f rest

  line_found : (low : length x.text.now ≤ 65536) → Surveyed (take cut ed) bytes (plan low)
  line_found low = record {
    short = short_take cut ed v.source.short;
    plain = plain_take cut ed v.ascii;
    place = cut_so.place;
    measured = measured (take cut ed) x.place (short_take cut ed v.source.short) (plain_take cut ed v.ascii) cut_so.place begins started reads;
    decodes = d;
    below = f;
    on = rest;
  }

  -- its numbers are small
  pub plan_small : length bytes ≤ 9223372036854775807 → (on ≤ length bytes) × (new_length (plan (new_short x v is)) (length bytes) < 18446744073709551616)
  plan_small l =
      let y = line_found (new_short x v is) in
      let m = measure_small (take cut ed) x.place y.short y.plain y.place y.measured in
      (omega (arith, old_parts.all), omega (arith, old_parts.all, old_parts.order, m))

  pub line_planned : (low : length x.text.now ≤ 65536) (rooms : Rooms) (r : Answer Plan Refusal) → by_numbers r ≡ fitted_of (plan low) (length ed) (length bytes) rooms
      → Plans (reread x.old.text.now (records_at bytes 0) x.place x.text.now rooms.source rooms.listing (read_from present x.place (x.text.now ++ take 1 (behind x.old.text.now x.place)))) ed bytes rooms r
  line_planned low rooms = plans_fitted _ ed bytes (plan low) cut_so.within (line_found low) old_parts rooms
      (line_accepted x.old.text.now (records_at bytes 0) x.place x.text.now rooms (take cut ed) cut_so.line {end = x.end} {ed = ed} (line_found low).measured x.ends is)

-- An applied plan is the patch.
pub applied : {e : Result Edit} {ed : List ℕ} {w : List Record} {s s' l l' : List ℕ} {m n : ℕ} → e ≡ gives (record { source = ed; records = w }) → m ≡ length ed → Applied ed w s s' l l' n
    → Patches e s s' l l' (Ok (record { source = m; listing = n }))
unfolding patch_source patch_listing leaves
applied h k a = record { answer = rw h (rw (k, a.size)); source = rw h a.source; listing = rw h a.listed }
