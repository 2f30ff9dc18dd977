-- DEMAND 3. The patch answers as the full read of the edited source.
use Rattle.std.specs.Prelude.{if◌then◌else◌}
use mathlib.Core.Path.{◌≡◌, refl, sym, ap, ◌∙◌}
use mathlib.Core.Bool.{Bool, true, false, not, ◌||◌, true≢false}
use mathlib.Core.List.{List, [], ◌∷◌, ◌++◌, append_assoc, append-nil}
use mathlib.Core.Option.{Option, none, some}
use Prim.Native.Nat.{ℕ, zero, suc, ◌+◌, ◌≤◌, zero-le}
use native.Mathlib.Omega.{arith}
use lib.Dec.{eqb, leb, ltb}
use lib.ListN.{length, take, drop, get_or, length-append, take-append-drop}
use lib.Seq.{length-take-le}
use borrow.Author.Tests.{ne_eqb, le-ltb, ltb-false, eqb-true, leb-true}
use Rattle.lexer.specs.Text.{maybe, is, among, run}
use Rattle.lexer.specs.Tokens.{in_comment}
use Rattle.rules.specs.Records.{Record, listing}
use Rattle.rules.specs.Reader.{Cause, at, nowhere, done}
use Rattle.rules.specs.Statements.{Profile, State, Outcome, accepted, refusal, outcome, read_from, reading}
use Rattle.lexer.proofs.Branches.{and_split, or_split}
use Rattle.lexer.proofs.TokensLine.{Lines}
use Rattle.rules.specs.Calls.{Result, gives, refuses, unless, most_bytes, too_long, foreign, ascii, lent, in_room, listed, full_read}
use Rattle.rules.specs.Decode.{decode}
use Rattle.rules.specs.Patch.{begins_line, above, line_at, behind, edited, lines_from, nearest, leaves_open, open_line, statement_from, records_below, records_on, Edit, exchanged, placed_in, reread, patched, patch}
use Rattle.rules.proofs.Shape.{up_to_split, Small, small_split, small_append, small_parts}
use Rattle.rules.proofs.Calls.{none_foreign, ascii_small, Readable, Accepted, accepted_call}
use Rattle.rules.proofs.Alone.{not_open, closed, nearest_readable}
use Rattle.rules.proofs.Table.{Proper}
use Rattle.rules.proofs.Cut.{Gives, line_feed, from_run, accepts_run, refuses_run, gives as given}
use Rattle.rules.proofs.Listing.{Inner, Headed, inner_append, from_mono, gives_fits, gives_feed, listing_formed, listing_decodes}
use Rattle.rules.proofs.Exchange.{whole, Near, near_open, Behind, nothing, feed, Exchange, Closed, exchange, gives_same}

-- The answer of the patch that goes with an answer of the full read of the edited source.
unfoldable pub edits : List ℕ → Result (List Record) → Result Edit
edits s (gives w) = gives (record { source = s; records = w })
edits s (refuses r) = refuses r

below_kept : (a : ℕ) (w v : List Record) → Inner a w → Headed a v → records_below a (w ++ v) ≡ w
unfolding records_below
below_kept a [] [] i h = refl
below_kept a [] (r ∷ rs) i h = rw h
below_kept a (r ∷ rs) v i h = rw i.0 (ap (λ (l : List Record). r ∷ l) (below_kept a rs v i.1 h))

on_rest : (a : ℕ) (w v : List Record) → Inner a w → Headed a v → records_on a (w ++ v) ≡ v
unfolding records_on
on_rest a [] [] i h = refl
on_rest a [] (r ∷ rs) i h = rw h
on_rest a (r ∷ rs) v i h = rw i.0 (on_rest a rs v i.1 h)

headed_append : (a : ℕ) (w v : List Record) → Headed a w → Headed a v → Headed a (w ++ v)
headed_append a [] v i j = j
headed_append a (r ∷ rs) v i j = i

module _ (a b : ℕ) (h : a ≤ b) where
  inner_mono : (w : List Record) → Inner a w → Inner b w
  inner_mono [] i = tt
  inner_mono (r ∷ rs) i = (from_mono a b h r i.0, inner_mono rs i.1)

  headed_mono : (w : List Record) → Headed b w → Headed a w
  headed_mono [] i = tt
  headed_mono (r ∷ rs) i = go (statement_from a r) refl
    where
      go : (c : Bool) → statement_from a r ≡ c → c ≡ true
      go true e = refl
      go false e = absurd (true≢false (sym i ∙ from_mono a b h r e))

small_same : {s t : List ℕ} → s ≡ t → Small s → Small t
small_same e h = rw e at h

readable_same : {s t : List ℕ} → s ≡ t → Readable s → Readable t
readable_same e h = rw e at h

readable_split : (a b : List ℕ) → Readable (a ++ b) → Readable a × Readable b
readable_split a b r = let (i, j) = up_to_split 127 a b r.plain in
    let n : length (a ++ b) ≤ 65536 = r.short in
    (record { short = omega (arith, length-append a b); plain = i }, record { short = omega (arith, length-append a b); plain = j })

-- The parts of a source at a line.
split_line : (s : List ℕ) (a : ℕ) → s ≡ above s a ++ (line_at s a ++ behind s a)
unfolding above line_at behind
split_line s a = sym (ap (λ (l : List ℕ). take a s ++ l) (take-append-drop (run in_comment (drop a s)) (drop a s)) ∙ take-append-drop a s)

feed_byte : (c : ℕ) → is "\n" c ≡ true → c ≡ 10
unfolding is
feed_byte c e = eqb-true c 10 e

run_behind : (s : List ℕ) → Behind (drop (run in_comment s) s)
unfolding run in_comment
run_behind [] = nothing
run_behind (c ∷ cs) = go (is "\n" c) refl (run_behind cs)
  where
    go : (b : Bool) → is "\n" c ≡ b → Behind (drop (run in_comment cs) cs) → Behind (drop (if not b then suc (run in_comment cs) else 0) (c ∷ cs))
    go false e r = r
    go true e r = rw (feed_byte c e) (feed cs)

lines_take : (n : ℕ) (s : List ℕ) → get_or s n 0 ≡ 10 → Lines (take (suc n) s)
lines_take n [] h = let z : ◌≡◌ {A = ℕ} 0 10 = h in absurd (omega arith)
lines_take zero (c ∷ cs) h = h
lines_take (suc n) (c ∷ []) h = let z : ◌≡◌ {A = ℕ} 0 10 = h in absurd (omega arith)
lines_take (suc n) (c ∷ d ∷ ds) h = lines_take n (d ∷ ds) h

-- what the first test says
pub record Line-at (s : List ℕ) (a : ℕ) : Type 0 where
  pub fits : a ≤ length s
  pub lines : Lines (take a s)

line_at_lem : (s : List ℕ) (a : ℕ) → begins_line s a ≡ true → Line-at s a
unfolding begins_line
line_at_lem s zero h = record { fits = zero-le; lines = tt }
line_at_lem s (suc n) h =
    let e : eqb (suc n) 0 ≡ false = ne_eqb (suc n) 0 (λ (i : suc n ≡ 0). omega arith) in
    let (i, j) = and_split (leb (suc n) (length s)) (is "\n" (get_or s n 0)) (rw e at h) in
    record { fits = leb-true (suc n) (length s) i; lines = lines_take n s (feed_byte (get_or s n 0) j) }

feed_is : is "\n" 10 ≡ true
unfolding is
feed_is = refl

whole_from : (l : List ℕ) (c : ℕ) (cs : List ℕ) → Lines (c ∷ cs) → whole (lines_from l (c ∷ cs)) ≡ l ++ (c ∷ cs)
unfolding whole lines_from line_feed
whole_from l c [] h = rw (h, feed_is) (append-nil (l ++ (10 ∷ [])))
whole_from l c (d ∷ ds) h = go (is "\n" c) refl (whole_from [] d ds h) (whole_from (l ++ (c ∷ [])) d ds h)
  where
    go : (b : Bool) → is "\n" c ≡ b → whole (lines_from [] (d ∷ ds)) ≡ d ∷ ds → whole (lines_from (l ++ (c ∷ [])) (d ∷ ds)) ≡ (l ++ (c ∷ [])) ++ (d ∷ ds)
        → whole (if b then (l ∷ lines_from [] (d ∷ ds)) else (lines_from (l ++ (c ∷ [])) (d ∷ ds))) ≡ l ++ (c ∷ d ∷ ds)
    go true e i j = rw i (append_assoc l (10 ∷ []) (d ∷ ds) ∙ ap (λ (k : ℕ). l ++ (k ∷ d ∷ ds)) (sym (feed_byte c e)))
    go false e i j = j ∙ append_assoc l (c ∷ []) (d ∷ ds)

whole_lines : (A : List ℕ) → Lines A → whole (lines_from [] A) ≡ A
unfolding whole lines_from
whole_lines [] l = refl
whole_lines (c ∷ cs) l = whole_from [] c cs l

-- what the patch's listing becomes
unfoldable pub exchanged_by : ℕ → ℕ → ℕ → List Record → Outcome → Outcome
exchanged_by a p q w (accepted v) = accepted (exchanged a p q w v)
exchanged_by a p q w (refusal r) = refusal r

edits_unless : (s : List ℕ) (b : Bool) (r : Cause) (x : Result (List Record)) → edits s (unless b r x) ≡ unless b r (edits s x)
unfolding unless edits
edits_unless s true r x = refl
edits_unless s false r x = refl

-- 1 and 2 of the edited source come before all that looks at its lines.
readable_only : (ed : List ℕ) (b : Bool) → ltb 65536 (length ed) ≡ b → (c : Option ℕ) → foreign 0 ed ≡ c → (x : Result Edit) (y : Result (List Record)) → (Readable ed → x ≡ edits ed y)
    → unless b (nowhere 1) (maybe c x (λ p. refuses (at 2 p (suc p)))) ≡ edits ed (unless b (nowhere 1) (maybe c y (λ p. refuses (at 2 p (suc p)))))
unfolding unless edits
readable_only ed true e c g x y k = refl
readable_only ed false e none g x y k = k (record { short = ltb-false 65536 (length ed) e; plain = none_foreign 0 ed g })
readable_only ed false e (some p) g x y k = refl

reread_is : (s : List ℕ) (w : List Record) (a : ℕ) (new : List ℕ) (room_s room_l : ℕ) → length (edited s a new) ≤ room_s → (o : Outcome)
    → reread s w a new room_s room_l o ≡ edits (edited s a new) (listed room_l (exchanged_by a (length (line_at s a)) (length new) w o))
unfolding reread exchanged_by listed in_room placed_in unless edits
reread_is s w a new room_s room_l h (accepted v) = rw (le-ltb room_s (length (edited s a new)) h)
    (sym (edits_unless (edited s a new) (ltb room_l (length (listing (exchanged a (length (line_at s a)) (length new) w v)))) (nowhere 4) (gives (exchanged a (length (line_at s a)) (length new) w v))))
reread_is s w a new room_s room_l h (refusal r) = refl

module _ (profile : Profile) (proper : Proper profile.table) where
  -- A's reading lacks no content where the nearest line does not
  closed_above : (A : List ℕ) → Readable A → Lines A → maybe (nearest (lines_from [] A)) false (leaves_open profile) ≡ false → Closed profile 0 A
  unfolding Closed
  closed_above A r l h a g o =
      let m : Near profile (lines_from [] A) = near_open profile 0 (lines_from [] A) (gives_same profile 0 (sym (whole_lines A l)) g) o in
      let i : leaves_open profile m.M ≡ false = rw m.found at h in
      not_open profile m.M (nearest_readable A m.M r m.found) i _ (given profile 0 m.M) (m.opens _ (given profile 0 m.M))

  module _ where
    dropped_inner : (n : ℕ) (L B : List ℕ) → Behind B → (w : List Record) (u : State) → Small L → Gives profile n (L ++ take 1 B) (done w tt u) → Inner (n + length L) w
    unfolding line_feed
    dropped_inner n L B nothing w u m g = (gives_fits profile proper n L w u m (gives_same profile n (append-nil L) g)).inner
    dropped_inner n L B (feed C) w u m g = (gives_feed profile proper n L w u m g).inner

    module _ (A L N B : List ℕ) (b : Behind B) (w : List Record) (smA : Small A) (smL : Small L) (smB : Small B) (E : Exchange profile 0 A L N B w) where
      after_line : Headed (0 + length A + length L) E.rest
      after_line = headed_mono (0 + length A + length L) (0 + length A + length (L ++ take 1 B)) (omega (arith, length-append L (take 1 B))) E.rest
          (gives_fits profile proper _ _ E.rest E.u₂ (small_parts 1 B smB).1 E.rests).headed

      kept_is : records_below (0 + length A) w ≡ E.kept
      kept_is = ap (records_below (0 + length A)) E.joined ∙ below_kept (0 + length A) E.kept (E.dropped ++ E.rest) (gives_fits profile proper 0 A E.kept E.u₀ smA E.keeps).inner
          (headed_append (0 + length A) E.dropped E.rest (gives_fits profile proper _ _ E.dropped E.u₁ (small_append L (take 1 B) smL (small_parts 1 B smB).0) E.drops).headed
          (headed_mono (0 + length A) (0 + length A + length L) (omega arith) E.rest after_line))

      rest_is : records_on (0 + length A + length L) w ≡ E.rest
      rest_is = ap (records_on (0 + length A + length L)) (E.joined ∙ sym (append_assoc E.kept E.dropped E.rest))
          ∙ on_rest (0 + length A + length L) (E.kept ++ E.dropped) E.rest
          (inner_append (0 + length A + length L) E.kept E.dropped
          (inner_mono (0 + length A) (0 + length A + length L) (omega arith) E.kept (gives_fits profile proper 0 A E.kept E.u₀ smA E.keeps).inner)
          (dropped_inner (0 + length A) L B b E.dropped E.u₁ smL E.drops)) after_line

      alike : (o : Outcome) → read_from profile (0 + length A) (N ++ take 1 B) ≡ o → read_from profile 0 (A ++ (N ++ B)) ≡ exchanged_by (0 + length A) (length L) (length N) w o
      unfolding exchanged_by exchanged outcome
      alike (accepted wN) h =
          let (u, g) = accepts_run profile (0 + length A) (N ++ take 1 B) wN h in
          let (u', e) = E.accepts wN u _ g (given profile 0 (A ++ (N ++ B))) in
          rw (kept_is, rest_is) (from_run profile 0 (A ++ (N ++ B)) (given profile 0 (A ++ (N ++ B))) ∙ ap outcome e)
      alike (refusal r) h =
          from_run profile 0 (A ++ (N ++ B)) (given profile 0 (A ++ (N ++ B))) ∙ ap outcome (E.refuses r _ (refuses_run profile (0 + length A) (N ++ take 1 B) r h) (given profile 0 (A ++ (N ++ B))))

    -- The reading of the edited source, from that of the new line.
    joined_alike : (A L N B : List ℕ) → Lines A → Behind B → Closed profile 0 A → Closed profile 0 L → Closed profile 0 N → (w : List Record) (u : State) → Small (A ++ (L ++ B)) → Gives profile 0 (A ++ (L ++ B)) (done w tt u)
        → (a : ℕ) → a ≡ 0 + length A → read_from profile 0 (A ++ (N ++ B)) ≡ exchanged_by a (length L) (length N) w (read_from profile a (N ++ take 1 B))
    joined_alike A L N B l b cA cL cN w u m g a e =
        let (mA, q) = small_split A (L ++ B) m in
        let (mL, mB) = small_split L B q in
        rw e (alike A L N B b w mA mL mB (exchange profile 0 A L N l cA cL cN b g) (read_from profile (0 + length A) (N ++ take 1 B)) refl)

    reads_alike : (old : List ℕ) (a : ℕ) (new : List ℕ) (w : List Record) → begins_line old a ≡ true → open_line profile old a new ≡ false → Readable old → Readable (edited old a new) → reading profile old ≡ accepted w
        → reading profile (edited old a new) ≡ exchanged_by a (length (line_at old a)) (length new) w (read_from profile a (new ++ take 1 (behind old a)))
    unfolding reading open_line edited above behind
    reads_alike old a new w h o p q e =
        let at' : Line-at old a = line_at_lem old a h in
        let (pA, pB) = readable_split (take a old) (line_at old a ++ behind old a) (readable_same (split_line old a) p) in
        let (pL, pC) = readable_split (line_at old a) (behind old a) pB in
        let (qA, qB) = readable_split (take a old) (new ++ behind old a) q in
        let (qN, qC) = readable_split new (behind old a) qB in
        let (i, j) = or_split (leaves_open profile (line_at old a)) (leaves_open profile new || maybe (nearest (lines_from [] (take a old))) false (leaves_open profile)) o in
        let (k, m) = or_split (leaves_open profile new) (maybe (nearest (lines_from [] (take a old))) false (leaves_open profile)) j in
        let (u, g) = accepts_run profile 0 old w e in
        joined_alike (take a old) (line_at old a) new (behind old a) at'.lines (run_behind (drop a old)) (closed_above (take a old) pA at'.lines m) (closed profile (line_at old a) pL i) (closed profile new qN k)
        w u (small_same (split_line old a) (ascii_small old p.plain)) (gives_same profile 0 (split_line old a) g) a (omega (arith, length-take-le a old at'.fits))

  patched_is : (old : List ℕ) (w : List Record) (a : ℕ) (new : List ℕ) (room_s room_l : ℕ) → begins_line old a ≡ true → open_line profile old a new ≡ false → Readable old → Readable (edited old a new) → reading profile old ≡ accepted w
      → length (edited old a new) ≤ room_s → patched profile old (some w) a new room_s room_l ≡ edits (edited old a new) (listed room_l (reading profile (edited old a new)))
  unfolding patched unless
  patched_is old w a new room_s room_l h o p q e r = rw (listing_formed profile proper old w (ascii_small old p.plain) e, o, reads_alike old a new w h o p q e)
      (reread_is old w a new room_s room_l r (read_from profile a (new ++ take 1 (behind old a))))

  -- DEMAND 3: for an accepted source with its listing, and a line that leaves no `times` open, the patch answers what the full read of the
  -- edited source answers, lent the same listing buffer. Where the edited source may not be read (1, 2), both say so before they look at a line.
  pub demand_3 : (old : List ℕ) (w : List Record) (a : ℕ) (new : List ℕ) (room room_s room_l : ℕ)
      → full_read profile old room ≡ gives w → begins_line old a ≡ true → among 10 new ≡ false → open_line profile old a new ≡ false → length (edited old a new) ≤ room_s
      → patch profile old (listing w) a new room_s room_l ≡ edits (edited old a new) (full_read profile (edited old a new) room_l)
  unfolding patch full_read lent ascii unless too_long most_bytes
  demand_3 old w a new room room_s room_l acc h f o r =
      let A : Accepted profile old w = accepted_call profile old room w acc in
      let d : decode (listing w) ≡ some w = listing_decodes profile proper old w A.small A.short A.reads in
      let i : ltb 65536 (length old) ≡ false = le-ltb 65536 (length old) A.short in
      let ed : List ℕ = edited old a new in
      rw (h, f, i, d) (readable_only ed (ltb 65536 (length ed)) refl (foreign 0 ed) refl _ _ (λ q. patched_is old w a new room_s room_l h o A.readable q A.reads r))
