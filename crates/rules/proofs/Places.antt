-- The places of the statements from a place on are not below it, in a well-formed listing: places rise, and spans begin at the place or
-- behind it.
use Rattle.std.specs.Prelude.{if◌then◌else◌}
use mathlib.Core.Path.{◌≡◌, refl, ap}
use mathlib.Core.Bool.{Bool, true, false, true≢false, false≢true}
use mathlib.Core.List.{List, [], ◌∷◌, map}
use mathlib.Core.Option.{Option, none, some}
use Prim.Native.Nat.{ℕ, ◌+◌, ◌≤◌}
use native.Mathlib.Omega.{arith}
use lib.Dec.{eqb}
use lib.ListN.{get_or}
use borrow.Author.Tests.{leb-true}
use Rattle.lexer.specs.Text.{maybe}
use Rattle.lexer.proofs.Branches.{either, given as branch}
use Rattle.rules.specs.Records.{Field, start, span, value, below, Role, a_statement, a_times, an_expression, an_operand, a_line, Form, form_of, Record, plain, laden, mark_of, fields_of, Cell, a_place, a_number, a_signed, cells, cells_of, move_cells, move_record, places_in, places}
use Rattle.rules.specs.WellFormed.{Stack, stack, allow, to_expression, to_operand, to_line, complete, counted, makes, checked, checked_all, fresh, well_formed}
use Rattle.rules.specs.Patch.{begins_from, statement_from, records_on}
use Rattle.rules.specs.Claims.{Each, MovesExactly}
use Rattle.rules.proofs.Forms.{Within, Taken, taken, fields_within, starts}

allow_same : (c : Bool) (x : Stack) {k : Stack} → allow c x ≡ some k → x ≡ k
unfolding allow
allow_same true x h = cc
allow_same false x h = absurd (true≢false cc)

-- The statement's place, and the least one of the next, are b or more.
record High (b : ℕ) (k : Stack) : Type 0 where
  place : b ≤ k.place
  floor : b ≤ k.floor

-- A statement that begins at b or behind it.
begins_high : {b : ℕ} (k : Stack) {k' : Stack} (vs : List ℕ) → b ≤ get_or vs 0 0 → makes k a_statement vs ≡ some k' → High b k'
unfolding makes
begins_high k vs i e = rw (← allow_same _ _ e) (record { place = i; floor = omega arith })

module _ (b : ℕ) {k k' : Stack} (h : High b k) where
  stack_high : (c : Bool) (x y z : ℕ) (d : Bool) → allow c (stack k x y z d) ≡ some k' → High b k'
  unfolding stack
  stack_high c x y z d e = rw (← allow_same c (stack k x y z d) e) (record { place = h.place; floor = h.floor })

  expression_high : (m : ℕ) → to_expression m k ≡ some k' → High b k'
  unfolding to_expression
  expression_high m = either (λ (o : Option Stack). o ≡ some k' → High b k') (eqb k.operands 0) _ _ (stack_high _ _ _ _ _) (stack_high _ _ _ _ _)

  operand_high : (m : ℕ) → to_operand m k ≡ some k' → High b k'
  unfolding to_operand
  operand_high m = either (λ (o : Option Stack). o ≡ some k' → High b k') (eqb k.operands 0) _ _ (stack_high _ _ _ _ _) (stack_high _ _ _ _ _)

  line_high : (n m : ℕ) → to_line n m k ≡ some k' → High b k'
  unfolding to_line
  line_high n m = stack_high _ _ _ _ _

  makes_high : (r : Role) (vs : List ℕ) → (r ≡ a_statement → b ≤ get_or vs 0 0) → makes k r vs ≡ some k' → High b k'
  unfolding makes
  makes_high a_statement vs i e = begins_high k vs (i refl) e
  makes_high a_times vs i e = stack_high _ _ _ _ _ e
  makes_high (an_expression m) vs i e = expression_high m e
  makes_high (an_operand m) vs i e = operand_high (counted m vs) e
  makes_high (a_line m o) vs i e = line_high m (counted o vs) e

-- Each place of a record, by what it holds.
abbrev All : ℕ → List ℕ → Type 0
All b ps = Each (λ k. b ≤ k) ps

module _ (n b : ℕ) (k : Stack) where
  within_high : High b k → (hs : List Field) (vs : List ℕ) → Within n k hs vs → All b (places_in (cells hs) vs)
  unfolding cells places_in
  within_high h [] vs i = tt
  within_high h (start ∷ hs) [] i = absurd i
  within_high h (start ∷ hs) (p ∷ vs) i = (omega (arith, h.floor, i.0), within_high h hs vs i.2)
  within_high h (span ∷ hs) [] i = absurd i
  within_high h (span ∷ hs) (f ∷ []) i = absurd i
  within_high h (span ∷ hs) (f ∷ t ∷ vs) i = (omega (arith, h.place, i.0), (omega (arith, h.place, i.0, i.1), within_high h hs vs i.3))
  within_high h (value ∷ hs) [] i = absurd i
  within_high h (value ∷ hs) (v ∷ vs) i = within_high h hs vs i
  within_high h (below m ∷ hs) [] i = absurd i
  within_high h (below m ∷ hs) (v ∷ vs) i = within_high h hs vs i.1

  first_high : High b k → (vs : List ℕ) → Within n k (start ∷ []) vs → b ≤ get_or vs 0 0
  first_high h [] i = absurd i
  first_high h (p ∷ vs) i = omega (arith, h.floor, i.0)

  one_place : (vs : List ℕ) → Within n k (start ∷ []) vs → b ≤ get_or vs 0 0 → All b (places_in (cells (start ∷ [])) vs)
  unfolding cells places_in
  one_place [] i h = absurd i
  one_place (p ∷ []) i h = (h, tt)
  one_place (p ∷ q ∷ vs) i h = absurd i.2

placed : (r : Record) (w : Form) → form_of (mark_of r) ≡ some w → places r ≡ places_in (cells w.holds) (fields_of r)
unfolding places cells_of
placed r w e = rw e

one_high : (n b : ℕ) (k k' : Stack) → High b k → (r : Record) → checked n k r ≡ some k' → All b (places r) × High b k'
one_high n b k k' h r e =
    let q : Taken n k r k' = taken n k r e in
    let w : Form = q.described in
    let vs : List ℕ = fields_of r in
    let i : Within n k w.holds vs = fields_within r q in (
      rw (placed r w q.so) (within_high n b k h w.holds vs i),
      makes_high b h w.role vs (λ s. first_high n b k h vs (rw (starts (mark_of r) w q.so s) at i)) q.made,
    )

-- Of the records from the first statement on that begins at b or behind it.
abbrev AllHigh : ℕ → List Record → Type 0
AllHigh b rs = Each (λ r. Each (λ k. b ≤ k) (places r)) rs

all_high : (n b : ℕ) (k : Stack) (rs : List Record) {top : Stack} → High b k → checked_all n k rs ≡ some top → AllHigh b rs
unfolding checked_all
all_high n b k [] h e = tt
all_high n b k (r ∷ rs) {top} h e = go (checked n k r) refl e (λ k' i j. all_high n b k' rs i j)
  where
    go : (o : Option Stack) → checked n k r ≡ o → maybe o none (λ k'. checked_all n k' rs) ≡ some top → ((k' : Stack) → High b k' → checked_all n k' rs ≡ some top → AllHigh b rs) → AllHigh b (r ∷ rs)
    go none i j again = absurd (true≢false cc)
    go (some k') i j again = let (l, m) = one_high n b k k' h r i in (l, again k' m j)

begins_role : (b : ℕ) (r : Role) (vs : List ℕ) → begins_from b r vs ≡ true → (r ≡ a_statement) × (b ≤ get_or vs 0 0)
begins_role b a_statement vs h = (refl, leb-true b (get_or vs 0 0) h)
begins_role b a_times vs h = absurd (false≢true h)
begins_role b (an_expression m) vs h = absurd (false≢true h)
begins_role b (an_operand m) vs h = absurd (false≢true h)
begins_role b (a_line m o) vs h = absurd (false≢true h)

begun_high : (n b : ℕ) (k k' : Stack) (r : Record) → statement_from b r ≡ true → checked n k r ≡ some k' → All b (places r) × High b k'
unfolding statement_from
begun_high n b k k' r h e =
    let q : Taken n k r k' = taken n k r e in
    let w : Form = q.described in
    let vs : List ℕ = fields_of r in
    let (s, i) = begins_role b w.role vs (rw q.so at h) in
    let z : w.holds ≡ start ∷ [] = starts (mark_of r) w q.so s in
    (rw (placed r w q.so, z) (one_place n b k vs (rw z at (fields_within r q)) i), begins_high k vs i (rw s at q.made))

on_high : (n b : ℕ) (k : Stack) (rs : List Record) {top : Stack} → checked_all n k rs ≡ some top → AllHigh b (records_on b rs)
unfolding checked_all records_on
on_high n b k [] e = tt
on_high n b k (r ∷ rs) {top} e = go (checked n k r) refl e (λ k' i. on_high n b k' rs i)
  where
    go : (o : Option Stack) → checked n k r ≡ o → maybe o none (λ k'. checked_all n k' rs) ≡ some top → ((k' : Stack) → checked_all n k' rs ≡ some top → AllHigh b (records_on b rs))
        → AllHigh b (if statement_from b r then (r ∷ rs) else (records_on b rs))
    go none i j again = absurd (true≢false cc)
    go (some k') i j again = branch (AllHigh b) (statement_from b r) (r ∷ rs) (records_on b rs) (λ l. let (m, o) = begun_high n b k k' r l i in (m, all_high n b k' rs o j)) (λ l. again k' j)

behind : (n : ℕ) (rs : List Record) → well_formed n rs ≡ true → (b : ℕ) → AllHigh b (records_on b rs)
unfolding well_formed
behind n rs h b = go (checked_all n fresh rs) refl h
  where
    go : (o : Option Stack) → checked_all n fresh rs ≡ o → maybe o false complete ≡ true → AllHigh b (records_on b rs)
    go none e i = absurd (false≢true i)
    go (some top) e i = on_high n b fresh rs e

each : {A : Type 0} {P Q : A → Type 0} → ((x : A) → P x → Q x) → (xs : List A) → Each P xs → Each Q xs
each f [] h = tt
each f (x ∷ xs) h = (f x h.0, each f xs h.1)

places_moved : (m : ℕ → ℕ) (cs : List Cell) (vs : List ℕ) → places_in cs (move_cells m cs vs) ≡ map m (places_in cs vs)
unfolding places_in move_cells
places_moved m [] vs = refl
places_moved m (c ∷ cs) [] = refl
places_moved m (a_place ∷ cs) (v ∷ vs) = ap (λ (ps : List ℕ). m v ∷ ps) (places_moved m cs vs)
places_moved m (a_number ∷ cs) (v ∷ vs) = places_moved m cs vs
places_moved m (a_signed ∷ cs) (v ∷ vs) = places_moved m cs vs

moved_places : (m : ℕ → ℕ) (r : Record) → places (move_record m r) ≡ map m (places r)
unfolding places move_record
moved_places m (plain c vs) = places_moved m (cells_of c) vs
moved_places m (laden c vs d) = places_moved m (cells_of c) vs

-- THE PLACES MOVE EXACTLY.
pub moves_exactly : MovesExactly
moves_exactly = record {
  moved = moved_places;
  behind = behind;
  exact = λ n rs h a p q. each (λ r. each (λ k i. omega arith) (places r)) (records_on (a + p) rs) (behind n rs h (a + p));
}
