-- Well-formed listings (41), RULES 8.5: each field is within its bounds, each record finds its children before it, and each statement begins behind
-- the one before and is closed by a line record.
use Rattle.std.specs.Prelude.{Bool, true, false, not, ◌&&◌, List, [], ◌∷◌, ℕ, suc, ◌+◌, ◌-◌, eqb, leb, ltb, length, get_or, if◌then◌else◌}
use Rattle.std.proofs.Math.Option.{Option, none, some}
use Rattle.lexer.specs.Text.{maybe}
use Rattle.rules.specs.Records.{Field, start, span, value, below, Count, fixed, told, Role, a_statement, a_times, an_expression, an_operand, a_line, Form, form_of, Record, plain, laden, mark_of, fields_of}

-- What stands of a statement: expressions, operands above them, expressions above those; and whether a line record has closed it.
pub record Stack : Type 0 where
  pub place : ℕ  -- the statement's first token
  pub floor : ℕ  -- the least place of the next statement
  pub before : ℕ
  pub operands : ℕ
  pub above : ℕ
  pub closed : Bool

unfoldable pub stack : Stack → ℕ → ℕ → ℕ → Bool → Stack
stack k b o a c = record { place = k.place; floor = k.floor; before = b; operands = o; above = a; closed = c }

unfoldable pub allow : Bool → Stack → Option Stack
allow b k = if b then (some k) else none

-- The n expressions on top become one; they become an operand.
unfoldable pub to_expression : ℕ → Stack → Option Stack
to_expression n k =
    if eqb k.operands 0 then (allow (leb n k.before && not k.closed) (stack k (k.before - n + 1) 0 k.above false))
    else (allow (leb n k.above) (stack k k.before k.operands (k.above - n + 1) false))

unfoldable pub to_operand : ℕ → Stack → Option Stack
to_operand n k =
    if eqb k.operands 0 then (allow (leb n k.before && not k.closed) (stack k (k.before - n) 1 0 false))
    else (allow (eqb k.above n) (stack k k.before (k.operands + 1) 0 false))

-- A line record with n expressions and m operands.
unfoldable pub to_line : ℕ → ℕ → Stack → Option Stack
to_line n m k = allow (leb n k.before && eqb k.operands m && eqb k.above 0 && not k.closed) (stack k (k.before - n) 0 0 true)

-- A line record ends each statement, and nothing is left over.
unfoldable pub complete : Stack → Bool
complete k = k.closed && eqb k.before 0

-- place ≤ f ≤ t ≤ the source's length n
unfoldable pub spans : ℕ → Stack → ℕ → ℕ → Bool
spans n k f t = leb k.place f && leb f t && leb t n

unfoldable pub given : Bool → Option Stack → Option Stack
given b k = if b then k else none

-- Every field in range, if those before are (b), for a source of length n: places of statements rise.
unfoldable pub ranges : ℕ → Stack → Bool → List Field → List ℕ → Bool
ranges n k b [] [] = b
ranges n k b [] (v ∷ vs) = false
ranges n k b (start ∷ hs) [] = false
ranges n k b (start ∷ hs) (p ∷ vs) = ranges n k (b && (leb k.floor p && leb p n)) hs vs
ranges n k b (span ∷ hs) [] = false
ranges n k b (span ∷ hs) (f ∷ []) = false
ranges n k b (span ∷ hs) (f ∷ t ∷ vs) = ranges n k (b && spans n k f t) hs vs
ranges n k b (value ∷ hs) [] = false
ranges n k b (value ∷ hs) (v ∷ vs) = ranges n k b hs vs
ranges n k b (below m ∷ hs) [] = false
ranges n k b (below m ∷ hs) (v ∷ vs) = ranges n k (b && ltb v m) hs vs

-- The count of data is 1 or more.
unfoldable pub in_range : ℕ → Stack → Form → Record → Bool
unfolding ranges
in_range n k w (plain m vs) = ranges n k (not w.laden) w.holds vs
in_range n k w (laden m vs d) = ranges n k w.laden w.holds vs && ltb 0 (length d)

abbrev pub counted : Count → List ℕ → ℕ
counted (fixed n) vs = n
counted (told i) vs = get_or vs i 0

-- What a record with the fields vs makes of the stack; `times` stands behind its content's line record.
unfoldable pub makes : Stack → Role → List ℕ → Option Stack
makes k a_statement vs =
    allow (complete k) (record { place = get_or vs 0 0; floor = suc (get_or vs 0 0); before = 0; operands = 0; above = 0; closed = false })
makes k (an_expression m) vs = to_expression m k
makes k (an_operand m) vs = to_operand (counted m vs) k
makes k (a_line m o) vs = to_line m (counted o vs) k
makes k a_times vs = allow (k.closed && ltb 0 k.before) (stack k (k.before - 1) 0 0 true)

-- One record more, for a source of length n.
module _ (n : ℕ) where
  unfoldable pub checked : Stack → Record → Option Stack
  unfolding form_of in_range makes
  checked k r = maybe (form_of (mark_of r)) none λ w. given (in_range n k w r) (makes k w.role (fields_of r))

  unfoldable pub checked_all : Stack → List Record → Option Stack
  checked_all k [] = some k
  checked_all k (r ∷ rs) = maybe (checked k r) none λ k'. checked_all k' rs

-- Before the first statement.
unfoldable pub fresh : Stack
fresh = record { place = 0; floor = 0; before = 0; operands = 0; above = 0; closed = true }

unfoldable pub well_formed : ℕ → List Record → Bool
well_formed n w = maybe (checked_all n fresh w) false complete

unfoldable pub open_well_formed : Unit {0}
unfolding stack allow to_expression to_operand to_line complete spans given ranges in_range makes checked checked_all fresh well_formed
open_well_formed = tt
