-- The listing of a reading: well-formed, its statements in their places, and its bytes decode to its records.
use mathlib.Core.Path.{◌≡◌, refl, sym, ◌∙◌}
use mathlib.Core.Bool.{Bool, true, false, true≢false}
use mathlib.Core.List.{List, [], ◌∷◌, ◌++◌}
use mathlib.Core.Option.{Option, none, some}
use Prim.Native.Nat.{ℕ, ◌+◌, ◌≤◌, ◌<◌, zero-le}
use native.Mathlib.Omega.{arith}
use native.Mathlib.Nat.{le_refl, le_trans}
use lib.Dec.{leb}
use lib.ListN.{length, get_or}
use borrow.Author.Tests.{le-leb, lt-leb, leb-true}
use Rattle.lexer.specs.Text.{maybe}
use Rattle.rules.specs.Lexemes.{tokens_from}
use Rattle.rules.specs.Records.{Role, a_statement, a_times, an_expression, an_operand, a_line, Form, form_of, Record, ST, mark_of, fields_of, listing}
use Rattle.rules.specs.Reader.{Cause, Answer, done, refused, after}
use Rattle.rules.specs.Statements.{Profile, Row, State, first_of, enter, accepted, reading}
use Rattle.rules.specs.Decode.{decode}
use Rattle.rules.specs.WellFormed.{Stack, complete, checked, checked_all, fresh, well_formed}
use Rattle.rules.specs.Patch.{begins_from, statement_from}
use Rattle.rules.proofs.Table.{Proper}
use Rattle.rules.proofs.Append.{Reads, Begins, fine, broken}
use Rattle.rules.proofs.Hoare.{Run, nil, cons}
use Rattle.rules.proofs.Shape.{Small, Chain, chain_low, Checks}
use Rattle.rules.proofs.ShapeState.{flat, OnS, Ready, Stated, began, ended, statement_stated}
use Rattle.rules.proofs.LexSound.{chain_plain, chain_feed, flat_rows}
use Rattle.rules.proofs.Cut.{rows_from, Gives, line_feed, accepts_run}
use Rattle.rules.proofs.Decoded.{decoded}
use Rattle.rules.proofs.Ranged.{Extras, all_ranged}

-- No statement of these records is from hi on; the first of these is one from lo on.
abbrev pub Inner : ℕ → List Record → Type 0
Inner hi [] = Unit {0}
Inner hi (r ∷ rs) = (statement_from hi r ≡ false) × Inner hi rs

abbrev pub Headed : ℕ → List Record → Type 0
Headed lo [] = Unit {0}
Headed lo (r ∷ rs) = statement_from lo r ≡ true

pub inner_append : (a : ℕ) (w v : List Record) → Inner a w → Inner a v → Inner a (w ++ v)
inner_append a [] v i j = j
inner_append a (r ∷ rs) v i j = (i.0, inner_append a rs v i.1 j)

module _ (a b : ℕ) (h : a ≤ b) where
  leb_false_mono : (p : ℕ) → leb a p ≡ false → leb b p ≡ false
  leb_false_mono p e = go (leb b p) refl
    where
      go : (c : Bool) → leb b p ≡ c → c ≡ false
      go false i = refl
      go true i = absurd (true≢false (sym (le-leb a p (le_trans h (leb-true b p i))) ∙ e))

  begins_mono : (r : Role) (vs : List ℕ) → begins_from a r vs ≡ false → begins_from b r vs ≡ false
  begins_mono a_statement vs e = leb_false_mono (get_or vs 0 0) e
  begins_mono a_times vs e = refl
  begins_mono (an_expression m) vs e = refl
  begins_mono (an_operand m) vs e = refl
  begins_mono (a_line m o) vs e = refl

  pub from_mono : (r : Record) → statement_from a r ≡ false → statement_from b r ≡ false
  unfolding statement_from
  from_mono r e = go (form_of (mark_of r)) e
    where
      go : (o : Option Form) → maybe o false (λ w. begins_from a w.role (fields_of r)) ≡ false → maybe o false (λ w. begins_from b w.role (fields_of r)) ≡ false
      go none e = refl
      go (some w) e = begins_mono w.role (fields_of r) e

extras_append : (w v : List Record) → Extras w → Extras v → Extras (w ++ v)
extras_append [] v h i = i
extras_append (r ∷ rs) v h i = (h.0, extras_append rs v h.1 i)

pub fresh_ready : (lo : ℕ) → Ready lo fresh
unfolding fresh complete
fresh_ready lo = record { done' = refl; from' = zero-le }

flat_from : (p : ℕ) (s : List ℕ) → flat (rows_from p s) ≡ tokens_from p 0 s
unfolding rows_from
flat_from p s = flat_rows (tokens_from p 0 s)

pub chain_rows : (n hi lo p : ℕ) (s : List ℕ) {l : List Row} → rows_from p s ≡ l → Chain n hi lo (tokens_from p 0 s) → Chain n hi lo (flat l)
chain_rows n hi lo p s e c = rw (← e, flat_from p s) c

module _ (n hi : ℕ) where
  run_checked : {k k' : Stack} {w : List Record} (v : List Record) → Run (Checks n) k w k' → checked_all n k (w ++ v) ≡ checked_all n k' v
  unfolding checked_all
  run_checked v nil = refl
  run_checked v (cons c r) = rw c.checks (run_checked v r)

  run_inner : {k k' : Stack} {w : List Record} → Run (Checks n) k w k' → Inner hi w
  run_inner nil = tt
  run_inner (cons {r = r} c g) = (from_mono 0 hi zero-le r c.inner, run_inner g)

  run_extras : {k k' : Stack} {w : List Record} → Run (Checks n) k w k' → Extras w
  run_extras nil = tt
  run_extras (cons c g) = (c.extra, run_extras g)

  pub record Fits (lo : ℕ) (κ : Stack) (w : List Record) : Type 0 where
    pub top : Stack
    pub checks : checked_all n κ w ≡ some top
    pub whole : complete top ≡ true
    pub headed : Headed lo w
    pub inner : Inner hi w
    pub extras : Extras w

  pub data Listed (lo : ℕ) (κ : Stack) : Answer State (Unit {0}) → Type 0 where
    listed : {w : List Record} {u : State} → Fits lo κ w → Listed lo κ (done w tt u)
    unlisted : {r : Cause} → Listed lo κ (refused r)

  none_more : (lo : ℕ) (κ : Stack) → Ready lo κ → Fits lo κ []
  unfolding checked_all
  none_more lo κ y = record { top = κ; checks = refl; whole = y.done'; headed = tt; inner = tt; extras = tt }

  first_fits : (lo q lo' : ℕ) (κ κ₁ κ' : Stack) (v w : List Record) → lo ≤ q → q < hi → checked n κ (ST q) ≡ some κ₁ → Run (Checks n) κ₁ v κ' → Fits lo' κ' w → Fits lo κ (ST q ∷ (v ++ w))
  unfolding checked_all statement_from
  first_fits lo q lo' κ κ₁ κ' v w i j e r f = record {
    top = f.top;
    checks = rw e (run_checked w r ∙ f.checks);
    whole = f.whole;
    headed = le-leb lo q i;
    inner = (lt-leb hi q j, inner_append hi v w (run_inner r) f.inner);
    extras = (tt, extras_append v w (run_extras r) f.extras);
  }

  with_first : (lo q lo' : ℕ) (κ κ₁ κ' : Stack) (v : List Record) → lo ≤ q → q < hi → checked n κ (ST q) ≡ some κ₁ → Run (Checks n) κ₁ v κ' → {p : Answer State (Unit {0})} → Listed lo' κ' p → Listed lo κ (after (ST q ∷ v) p)
  unfolding after
  with_first lo q lo' κ κ₁ κ' v i j e r (listed {w} f) = listed (first_fits lo q lo' κ κ₁ κ' v w i j e r f)
  with_first lo q lo' κ κ₁ κ' v i j e r unlisted = unlisted

  stop_listed : (lo : ℕ) (κ : Stack) {w : List Record} {t : State} → Ready lo κ → Stated n hi lo κ (done w false t) → Listed lo κ (done w tt t)
  stop_listed lo κ y ended = listed (none_more lo κ y)

  go_listed : (lo : ℕ) (κ : Stack) {w : List Record} {t : State} {p : Answer State (Unit {0})} → ((lo' : ℕ) (κ' : Stack) → Ready lo' κ' → OnS n hi 0 lo' 0 κ' κ' t → Listed lo' κ' p)
      → Stated n hi lo κ (done w true t) → Listed lo κ (after w p)
  go_listed lo κ again (began {q} {lo'} {v} {κ₁ = κ₁} {κ'} i j l e r y o) = with_first lo q lo' κ κ₁ κ' v i j e r (again lo' κ' y o)

  pub enter_on : (lo : ℕ) (κ : Stack) (r : Row) (rs : List Row) → Chain n hi lo (flat (r ∷ rs)) → OnS n hi 0 lo 0 κ κ (enter r rs)
  unfolding enter first_of
  enter_on lo κ r rs c = record { same = refl; low = c.0; gap = le_refl r.first.from; soon = zero-le; chain = chain_low n hi lo 0 (flat (r ∷ rs)) zero-le c }

  fits : (lo : ℕ) (κ : Stack) {w : List Record} {u : State} → Listed lo κ (done w tt u) → Fits lo κ w
  fits lo κ (listed f) = f

module _ (profile : Profile) (proper : Proper profile.table) where
  module _ (n hi : ℕ) where
    pub reads_listed : {s : State} {p : Answer State (Unit {0})} → Reads profile s p → (lo : ℕ) (κ : Stack) → Ready lo κ → OnS n hi 0 lo 0 κ κ s → Listed n hi lo κ p
    reads_listed (Reads.stop {s} z) lo κ y o = stop_listed n hi lo κ y (rw z at (statement_stated n hi profile proper lo κ s y o))
    reads_listed (Reads.fail z) lo κ y o = unlisted
    reads_listed (Reads.go {s} z r) lo κ y o = go_listed n hi lo κ (λ lo' κ' y' o'. reads_listed r lo' κ' y' o') (rw z at (statement_stated n hi profile proper lo κ s y o))

    pub begins_listed : (l : List Row) {p : Answer State (Unit {0})} → Begins profile l p → (lo : ℕ) (κ : Stack) → Ready lo κ → Chain n hi lo (flat l) → Listed n hi lo κ p
    begins_listed l (fine {r} {rs} f g) lo κ y c = reads_listed g lo κ y (enter_on n hi lo κ r rs c)
    begins_listed l (broken f) lo κ y c = unlisted

  pub gives_fits : (p : ℕ) (s : List ℕ) (w : List Record) (u : State) → Small s → Gives profile p s (done w tt u) → Fits (p + length s) (p + length s) p fresh w
  gives_fits p s w u m g = fits (p + length s) (p + length s) p fresh (begins_listed (p + length s) (p + length s) (rows_from p s) g p fresh (fresh_ready p) (chain_rows _ _ p p s refl (chain_plain p s m)))

  pub gives_feed : (p : ℕ) (s : List ℕ) (w : List Record) (u : State) → Small s → Gives profile p (s ++ line_feed) (done w tt u) → Fits (p + length (s ++ line_feed)) (p + length s) p fresh w
  unfolding line_feed
  gives_feed p s w u m g = fits (p + length (s ++ (10 ∷ []))) (p + length s) p fresh
      (begins_listed (p + length (s ++ (10 ∷ []))) (p + length s) (rows_from p (s ++ (10 ∷ []))) g p fresh (fresh_ready p) (chain_rows _ _ p p (s ++ (10 ∷ [])) refl (chain_feed p s m)))

  pub listing_formed : (s : List ℕ) (w : List Record) → Small s → reading profile s ≡ accepted w → well_formed (length s) w ≡ true
  unfolding reading well_formed
  listing_formed s w m e =
      let (u, g) = accepts_run profile 0 s w e in
      let f : Fits (0 + length s) (0 + length s) 0 fresh w = gives_fits 0 s w u m g in
      let i : 0 + length s ≡ length s = omega arith in
      let c : checked_all (length s) fresh w ≡ some f.top = rw i at f.checks in
      rw c f.whole

  -- The bytes of a listing that is read are decoded to its records.
  pub listing_decodes : (s : List ℕ) (w : List Record) → Small s → length s ≤ 65536 → reading profile s ≡ accepted w → decode (listing w) ≡ some w
  unfolding reading
  listing_decodes s w m l e =
      let (u, g) = accepts_run profile 0 s w e in
      let f : Fits (0 + length s) (0 + length s) 0 fresh w = gives_fits 0 s w u m g in
      decoded w (all_ranged (0 + length s) (omega arith) fresh w f.checks f.extras)
