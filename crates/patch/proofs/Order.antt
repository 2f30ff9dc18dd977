-- The whole patch by its steps: 42, 43, 1, 2, 41, 40, and what the rest gives; and demand 3 for it.
-- Assumes nothing.
use Prim.Native.Nat.{ℕ, ◌-◌, ◌≤◌, ◌<◌}
use mathlib.Core.Path.{◌≡◌, refl, sym, ap, ◌∙◌}
use mathlib.Core.Bool.{Bool, true, false, ◌||◌, true≢false}
use mathlib.Core.Logic.{⊎_elim}
use mathlib.Core.List.{List, [], ◌++◌}
use mathlib.Core.Option.{Option, none, some}
use native.Mathlib.Omega.{arith}
use borrow.Author.Tests.{lt-ltb, le-ltb, ltb-true, ltb-false}
use lib.Dec.{ltb}
use lib.ListN.{length, take, drop}
use lib.Seq.{take_at}
use Rattle.lexer.specs.Text.{maybe, among, run}
use Rattle.lexer.specs.Tokens.{in_comment}
use Rattle.lexer.proofs.Runs.{one_of}
use Rattle.rules.specs.Records.{Record, listing}
use Rattle.rules.specs.Reader.{nowhere}
use Rattle.rules.specs.Statements.{present, read_from}
use Rattle.rules.specs.Calls.{Result, gives, refuses, unless, most_bytes, too_long, ascii, lent, overwrite, leaves, full_read, full_buffer}
use Rattle.rules.specs.Decode.{decode}
use Rattle.rules.specs.WellFormed.{well_formed}
use Rattle.rules.specs.Patch.{begins_line, above, line_at, behind, edited, lines_from, nearest, leaves_open, open_line, Edit, reread, patched, patch, patch_source, patch_listing}
use Rattle.rules.proofs.Table.{proper}
use Rattle.rules.proofs.Demand3.{edits, demand_3}
use Rattle.checker.specs.Checker.{well_formed_bytes}
use Rattle.std.specs.Prelude.{Result as Answer, Ok, Err}
use Rattle.reader.specs.declared.ascii.Ascii.{Ascii}
use Rattle.reader.specs.Calls.{full_answer, Lends}
use Rattle.reader.proofs.Lending.{lent_refused, lent_accepted}
use Rattle.refusals.specs.declared.Refusal.{Refusal}
use Rattle.refusals.specs.Refusals.{by_numbers}
use Rattle.patch.specs.declared.Exchange.{Exchange}
use Rattle.patch.specs.declared.Patched.{Patched}
use Rattle.records.specs.Moves.{records_at, Decodes}
use Rattle.patch.specs.Patched.{patch_answer, Patches, as_patch, AsFullRead}
use Rattle.lines.proofs.Laws.{begins_within, feed_among}
use Rattle.patch.proofs.Placing.{refused}
use Rattle.patch.proofs.Rereading.{line_slice, edited_is, new_within}

-- DEMAND 3, from what the rules say of it.
module _ (ed : List ℕ) where
  answers : (x : Result (List Record)) → patch_answer (edits ed x) ≡ as_patch (length ed) (full_answer x)
  unfolding edits
  answers (gives w) = refl
  answers (refuses c) = refl

  sources : (x : Result (List Record)) (s : List ℕ) → patch_source (edits ed x) s ≡ leaves (λ (v : List Record). ed) x s
  unfolding edits patch_source leaves
  sources (gives w) s = refl
  sources (refuses c) s = refl

  listings : (x : Result (List Record)) (l : List ℕ) → patch_listing (edits ed x) l ≡ leaves listing x l
  unfolding edits patch_listing leaves
  listings (gives w) l = refl
  listings (refuses c) l = refl

pub as_full_read : {old bytes : List ℕ} {a : ℕ} {new s s' l l' : List ℕ} {r : Answer Patched Refusal} → Patches (patch present old bytes a new (length s) (length l)) s s' l l' r
    → AsFullRead (λ x. x) old bytes a new s s' l l' (by_numbers r)
unfolding full_buffer
as_full_read {old} {bytes} {a} {new} {s} {l = l} p = record {
  so = λ d.
      let ed : List ℕ = edited old a new in
      let x : Result (List Record) = full_read present ed (length l) in
      let k : patch present old bytes a new (length s) (length l) ≡ edits ed x = ap (λ (b : List ℕ). patch present old b a new (length s) (length l)) d.its_listing
      ∙ demand_3 present proper old d.records a new d.room (length s) (length l) d.accepted d.at_a_line d.one_line d.none_open d.long_enough in
      (p.answer ∙ ap patch_answer k ∙ answers ed x, p.source ∙ ap (λ (y : Result Edit). patch_source y s) k ∙ sources ed x s, p.listing ∙ ap (λ (y : Result Edit). patch_listing y l) k ∙ listings ed x l);
}

-- The clauses of the contract.
pub clauses : {old bytes : List ℕ} {a : ℕ} {new s s' l l' : List ℕ} {r : Answer Patched Refusal} → Patches (patch present old bytes a new (length s) (length l)) s s' l l' r
    → (by_numbers r ≡ patch_answer (patch present old bytes a new (length s) (length l))) × ((s' ≡ patch_source (patch present old bytes a new (length s) (length l)) s) × ((l' ≡ patch_listing (patch present old bytes a new (length s) (length l)) l)
    × AsFullRead (λ x. x) old bytes a new s s' l l' (by_numbers r)))
clauses p = (p.answer, (p.source, (p.listing, as_full_read p)))

pub both_short : (n m : ℕ) → (ltb 65536 n || ltb 65536 m) ≡ false → (n ≤ 65536) × (m ≤ 65536)
both_short n m e = go (ltb 65536 n) refl e
  where
    go : (b : Bool) → ltb 65536 n ≡ b → (b || ltb 65536 m) ≡ false → (n ≤ 65536) × (m ≤ 65536)
    go true k h = absurd (true≢false h)
    go false k h = (ltb-false 65536 n k, ltb-false 65536 m h)

-- 42, 43 and 1, and none of them.
module _ (old bytes : List ℕ) (a : ℕ) (new s l : List ℕ) where
  abbrev whole : Result Edit
  whole = patch present old bytes a new (length s) (length l)

  pub no_line : begins_line old a ≡ false → whole ≡ refuses (nowhere 42)
  unfolding patch unless
  no_line h = rw h

  module _ (h : begins_line old a ≡ true) where
    pub has_feed : run in_comment new < length new → whole ≡ refuses (nowhere 43)
    unfolding patch unless
    has_feed f = rw (h, feed_among new, lt-ltb (run in_comment new) (length new) f)

    module _ (f : length new ≤ run in_comment new) where
      feedless : among 10 new ≡ false
      feedless = feed_among new ∙ le-ltb (run in_comment new) (length new) f

      pub old_long : 65536 < length old → whole ≡ refuses (nowhere 1)
      unfolding patch unless too_long most_bytes
      old_long i = rw (h, feedless, lt-ltb 65536 (length old) i)

      pub edited_long : 65536 < length (edited old a new) → whole ≡ refuses (nowhere 1)
      unfolding patch unless too_long most_bytes
      edited_long i = rw (h, feedless, lt-ltb 65536 (length (edited old a new)) i) (either (ltb 65536 (length old)))
        where
          either : (b : Bool) → unless (b || true) (nowhere 1) (ascii (edited old a new) (patched present old (decode bytes) a new (length s) (length l))) ≡ refuses (nowhere 1)
          either true = refl
          either false = refl

      pub any_long : (ltb 65536 (length old) || ltb 65536 (length new)) ≡ true → whole ≡ refuses (nowhere 1)
      any_long i =
          ⊎_elim (λ j. old_long (ltb-true 65536 (length old) j))
          (λ j. edited_long (omega (arith, ltb-true 65536 (length new) j, new_within old a new (begins_within old a h) {ed = edited old a new} refl)))
          (one_of (ltb 65536 (length old)) (ltb 65536 (length new)) i)

      pub all_lent : length old ≤ 65536 → length (edited old a new) ≤ 65536 → whole ≡ ascii (edited old a new) (patched present old (decode bytes) a new (length s) (length l))
      unfolding patch unless too_long most_bytes
      all_lent i j = rw (h, feedless, le-ltb 65536 (length old) i, le-ltb 65536 (length (edited old a new)) j)

-- 2.
module _ (ed : List ℕ) (short : length ed ≤ 65536) (x : Result Edit) where
  lent_ascii : lent ed x ≡ ascii ed x
  unfolding lent unless too_long most_bytes
  lent_ascii = rw (le-ltb 65536 (length ed) short)

-- the edited source at the head of a room that is large enough
module _ (x : Exchange) (room : List ℕ) {n : ℕ} {room' : List ℕ} (k : n ≡ length (edited x.old.text.now x.place x.text.now)) (short : n ≤ 65536)
    (f : room' ≡ overwrite (take x.place x.old.text.now ++ (x.text.now ++ drop x.end x.old.text.now)) room) where
  abbrev ed : List ℕ
  ed = edited x.old.text.now x.place x.text.now

  edit_taken : take n room' ≡ ed
  unfolding overwrite
  edit_taken =
      ap (take n) (f ∙ ap (λ (b : List ℕ). overwrite b room) (edited_is x.old.text.now x.place (begins_within x.old.text.now x.place x.begins) x.ends x.text.now))
      ∙ take_at ed (drop (length ed) room) n (sym k)

  ascii_so : {c : Result Edit} (y : Result Edit) → lent (take n room') y ≡ c → ascii ed y ≡ c
  ascii_so y e = sym (lent_ascii ed (omega arith) y) ∙ ap (λ (s : List ℕ). lent s y) (sym edit_taken) ∙ e

  pub edit_denied : {r : Refusal} (y : Result Edit) (s l : List ℕ) → Lends (take n room') (Err r) → Patches (ascii ed y) s s l l (Err r)
  edit_denied y s l d = let (c, e, i) = lent_refused (take n room') y d in refused c (ascii_so y e) i

  module _ {v : Ascii} (d : Lends (take n room') (Ok v)) where
    pub edit_is : v.source.text.now ≡ ed
    edit_is = d.so.1 ∙ edit_taken

    pub edit_ascii : (y : Result Edit) → ascii ed y ≡ y
    edit_ascii y = ascii_so y (lent_accepted (take n room') y d).0

-- 41 and 40, and neither.
module _ (old bytes : List ℕ) (a : ℕ) (new : List ℕ) (room_s room_l : ℕ) where
  abbrev inner : Option (List Record) → Result Edit
  inner o = patched present old o a new room_s room_l

  pub ill_formed : well_formed_bytes bytes (length old) ≡ false → inner (decode bytes) ≡ refuses (nowhere 41)
  unfolding well_formed_bytes patched unless
  ill_formed h = go (decode bytes) h
    where
      go : (o : Option (List Record)) → maybe o false (well_formed (length old)) ≡ false → inner o ≡ refuses (nowhere 41)
      go none e = refl
      go (some rs) e = rw e

  module _ (h : well_formed_bytes bytes (length old) ≡ true) where
    abbrev rest : Result Edit
    rest = reread old (records_at bytes 0) a new room_s room_l (read_from present a (new ++ take 1 (behind old a)))

    formed : Decodes bytes 0 × (inner (decode bytes) ≡ unless (open_line present old a new) (nowhere 40) rest)
    unfolding well_formed_bytes patched unless records_at
    formed = go (decode bytes) refl h
      where
        go : (o : Option (List Record)) → decode bytes ≡ o → maybe o false (well_formed (length old)) ≡ true → Decodes bytes 0 × (inner (decode bytes) ≡ unless (open_line present old a new) (nowhere 40) rest)
        go none e k = absurd (true≢false (sym k))
        go (some rs) e k = (record { so = rw e }, rw (e, k))

    pub formed_decodes : Decodes bytes 0
    formed_decodes = formed.0

    pub is_open_lem : open_line present old a new ≡ true → inner (decode bytes) ≡ refuses (nowhere 40)
    unfolding unless
    is_open_lem k = formed.1 ∙ rw k

    pub is_closed : open_line present old a new ≡ false → inner (decode bytes) ≡ rest
    unfolding unless
    is_closed k = formed.1 ∙ rw k

-- 40 by its three lines.
module _ (x : Exchange) {b : Bool} (i : b ≡ leaves_open present (take (x.end - x.place) (drop x.place x.old.text.now))) where
  old_is : leaves_open present (line_at x.old.text.now x.place) ≡ b
  old_is = ap (leaves_open present) (sym (line_slice x.old.text.now x.place (begins_within x.old.text.now x.place x.begins) x.ends)) ∙ sym i

  pub old_open : b ≡ true → true ≡ open_line present x.old.text.now x.place x.text.now
  unfolding open_line
  old_open k = rw (old_is ∙ k)

  module _ (k : b ≡ false) {c : Bool} (m : c ≡ leaves_open present x.text.now) where
    pub new_open : c ≡ true → true ≡ open_line present x.old.text.now x.place x.text.now
    unfolding open_line
    new_open n = rw (old_is ∙ k, sym m ∙ n)

    pub near_open : c ≡ false → {d : Bool} → d ≡ maybe (nearest (lines_from [] (above x.old.text.now x.place))) false (leaves_open present)
        → d ≡ open_line present x.old.text.now x.place x.text.now
    unfolding open_line
    near_open n d = rw (old_is ∙ k, sym m ∙ n) d
