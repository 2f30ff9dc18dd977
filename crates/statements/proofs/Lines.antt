-- The lines that the code's state stands in: every line has an end, each step leaves fewer tokens, and how the code comes from line to line.
-- Assumes nothing.
use Rattle.std.specs.Prelude.{if◌then◌else◌}
use Prim.Native.Nat.{ℕ, suc, ◌+◌, ◌≤◌, ◌<◌}
use mathlib.Core.Path.{◌≡◌, refl, sym, ap, subst, ◌∙◌}
use mathlib.Core.List.{List, [], ◌∷◌}
use mathlib.Core.Bool.{Bool, true, false, not, ◌||◌}
use Rattle.std.proofs.lemmas.Bool.{not-false, not-true}
use mathlib.Core.Option.{Option, none, some}
use native.Mathlib.Omega.{arith}
use borrow.Author.Tests.{eqb-true, eq-eqb, ne_eqb}
use Rattle.lexer.proofs.Branches.{or_split}
use Rattle.lexer.specs.declared.Kind.{Kind}
use Rattle.lexer.specs.contracts.Kind.{the_type}
use denote.Enum.Bare.{sameb, same_true, same_false}
use borrow.Author.Rules.{rules}
use Rattle.state.proofs.ByNumber.{number_tells}
use Rattle.state.proofs.Steps.{one_less}
use lib.Dec.{eqb}
use lib.ListN.{length, drop}
use Rattle.lexer.specs.Text.{maybe}
use Rattle.lexer.specs.Tokens.{token_at}
use Rattle.rules.specs.Lexemes.{Lexeme}
use Rattle.rules.specs.Reader.{Cause, at as at_span, Answer, done, refused, Reader, Line, thence, refused_as, arrive, next, kind, refuse_here, is_line_end, numbers_of, ◌>>=◌}
use Rattle.rules.specs.Statements.{Row, State, rows, over, in_line, first_of, enter, step_row, next_row, line_end, skip, skip_lines}
use Rattle.rules.proofs.Lexemes.{ended_cons, Ended as Finished}
use Rattle.rules.proofs.Rows.{rows_some}
use Rattle.rules.proofs.Progress.{AllEnded, total, size, Below}
use Rattle.rules.proofs.Cut.{tokens_finished, tokens_count, rows_total, rows_all}
use Rattle.state.specs.declared.Parser.{Parser}
use Rattle.std.specs.Prelude.{Result, Ok, Err}
use Rattle.lexer.specs.declared.Kind.TheVariants as kind_ahead
use Rattle.lexer.specs.Scanned.{number_of as kind_number}
use Rattle.refusals.specs.declared.Refusal.{Refusal}
use Rattle.refusals.specs.Refusals.{numbers}
use Rattle.state.specs.Views.{ends_line, text_of, here_of, behind, more_of, below_of, state_of, line_of, rows_of, line, whole, Comes, Passes, PassesAs}
use Rattle.statements.specs.Statements.{begin, Starts, StartsAs}
use Rattle.state.proofs.Chain.{after_nil, passes_by}
use Rattle.state.proofs.Flat.{line_end_is, kind_end, other_byte}
use Rattle.state.proofs.Stream.{From, rows_first}

-- the token ahead by its kind
pub is_of : {k n : Kind} → k ≡ n → eqb (kind_number k) (kind_number n) ≡ true
is_of e = eq-eqb _ _ (ap kind_number e)

pub is_other_than : {k n : Kind} → (k ≡ n → ⊥) → eqb (kind_number k) (kind_number n) ≡ false
is_other_than h = ne_eqb _ _ (λ e. h (number_tells e))

-- and by a derived comparison
pub same_kind : (n k : Kind) → true ≡ sameb the_type k n → kind_number k ≡ kind_number n
same_kind n k e = ap kind_number (same_true the_type (search rules) k n (sym e))

pub other_kind : (n k : Kind) → false ≡ sameb the_type k n → eqb (kind_number k) (kind_number n) ≡ false
other_kind n k e = ne_eqb _ _ (λ h. same_false the_type k n (sym e) (number_tells h))

-- by `!=`
pub same_by_ne : (n k : Kind) → false ≡ not (sameb the_type k n) → kind_number k ≡ kind_number n
same_by_ne n k e = same_kind n k (sym (not-false _ (sym e)))

pub other_by_ne : (n k : Kind) → true ≡ not (sameb the_type k n) → eqb (kind_number k) (kind_number n) ≡ false
other_by_ne n k e = other_kind n k (sym (not-true _ (sym e)))

-- within a line
pub inside_falls : {s : List ℕ} {p q : Parser} → ends_line p.kind ≡ false → Comes line s p next q tt → length (line_of s p).more ≡ suc (length (line_of s q).more)
inside_falls {s} {p} e h = let f = or_split _ _ e in one_less s p f.0 f.1 h

-- what arrived was not refused
arrived : {S : Type 0} (x : Lexeme) (p : Answer S (Unit {0})) {t : S} → arrive x p ≡ done [] tt t → p ≡ done [] tt t
unfolding arrive
arrived {S} x p {t} h = go (refused_as x.kind) h
  where
    go : (o : Option ℕ) → maybe o p (λ n. refused (at_span n x.from x.to)) ≡ done [] tt t → p ≡ done [] tt t
    go none e = e
    go (some n) e = cc

-- a reader that begins where a token arrives
pub arrive_then : {A : Type 0} (x : Lexeme) (t : State) (m : Reader State A) → arrive x (m t) ≡ thence {A = Unit {0}} (arrive x (done [] tt t)) (λ _. m)
unfolding arrive thence
arrive_then x t m = go (refused_as x.kind)
  where
    go : (o : Option ℕ) → maybe o (m t) (λ n. refused (at_span n x.from x.to)) ≡ thence {A = Unit {0}} (maybe o (done [] tt t) (λ n. refused (at_span n x.from x.to))) (λ _. m)
    go none = sym (after_nil _)
    go (some n) = refl

-- From a line's end with a line below it.
skip_row : (l : Line) (r : Row) (rs : List Row) → is_line_end l.here.kind ≡ true → skip l (r ∷ rs) ≡ thence {A = Unit {0}} (arrive r.first (done [] tt (enter r rs))) (λ _. skip_lines)
unfolding skip_lines skip enter
skip_row l r rs i = rw i (arrive_then r.first (enter r rs) skip_lines)

module _ (u : State) {r : Row} {rs : List Row} (e : u.below ≡ r ∷ rs) where
  row_is : next_row u ≡ arrive r.first (done [] tt (enter r rs))
  unfolding next_row step_row
  row_is = rw e

  skip_is : is_line_end u.line.here.kind ≡ true → skip_lines u ≡ thence (next_row u) (λ _. skip_lines)
  unfolding skip_lines
  skip_is i = ap (skip u.line) e ∙ skip_row u.line r rs i ∙ ap (λ (o : Answer State (Unit {0})). thence o (λ _. skip_lines)) (sym row_is)

  module _ {t : State} (h : next_row u ≡ done [] tt t) where
    entered : enter r rs ≡ t
    entered =
        let f : done [] tt (enter r rs) ≡ done [] tt t = arrived r.first (done [] tt (enter r rs)) (sym row_is ∙ h) in
        cc

    row_falls : size t < size u
    unfolding size enter first_of
    row_falls =
        let f : size (enter r rs) ≡ size t = ap size entered in
        let g : total u.below ≡ suc (length r.more) + total rs = ap total e in
        omega arith

    row_skips : is_line_end u.line.here.kind ≡ true → skip_lines u ≡ skip_lines t
    unfolding thence
    row_skips i = skip_is i ∙ ap (λ (o : Answer State (Unit {0})). thence o (λ _. skip_lines)) h ∙ after_nil (skip_lines t)

  row_denied : is_line_end u.line.here.kind ≡ true → {c : Cause} → next_row u ≡ refused c → skip_lines u ≡ refused c
  unfolding thence
  row_denied i h = skip_is i ∙ ap (λ (o : Answer State (Unit {0})). thence o (λ _. skip_lines)) h

-- past the end, and at a token, nothing is skipped
skips_none : (u : State) → u.below ≡ [] → skip_lines u ≡ done [] tt u
unfolding skip_lines skip
skips_none u e = rw e

skips_inside : (u : State) → is_line_end u.line.here.kind ≡ false → skip_lines u ≡ done [] tt u
unfolding skip_lines skip
skips_inside u e = go u.below
  where
    go : (rs : List Row) → skip u.line rs ≡ done [] tt (record { line = u.line; below = rs })
    go [] = refl
    go (r ∷ rs) = rw e

module _ (s : List ℕ) (p : Parser) where
  abbrev x : Lexeme
  x = here_of s p

  abbrev xs : List Lexeme
  xs = behind s (kind_number p.kind) p.pos

  pub end_is : is_line_end x.kind ≡ (eqb (kind_number p.kind) 10 || eqb (kind_number p.kind) 0)
  end_is = line_end_is (kind_number p.kind) p.value (text_of s p.token_start p.pos)

  at_feed : eqb (kind_number p.kind) 10 ≡ true → is_line_end x.kind ≡ true
  at_feed e = end_is ∙ rw e

  at_end : eqb (kind_number p.kind) 0 ≡ true → is_line_end x.kind ≡ true
  unfolding is_line_end
  at_end e = rw (eqb-true (kind_number p.kind) 0 e, kind_end)

  pub inside : eqb (kind_number p.kind) 10 ≡ false → eqb (kind_number p.kind) 0 ≡ false → is_line_end x.kind ≡ false
  inside e f = end_is ∙ rw (e, f)

  -- the tokens that are left end a line
  finished : Finished (x ∷ xs)
  unfolding behind
  finished = go (eqb (kind_number p.kind) 0) refl
    where
      go : (b : Bool) → eqb (kind_number p.kind) 0 ≡ b → Finished (x ∷ (if b then [] else From s p.pos))
      go true e = at_end e
      go false e = ended_cons x (From s p.pos) (tokens_finished token_at p.pos 0 (drop p.pos s))

  ended : AllEnded (record { first = x; more = more_of x xs } ∷ below_of x xs)
  ended = subst AllEnded (rows_first x xs) (rows_all (x ∷ xs) finished)

  pub tokens_left : size (state_of s p) ≡ length xs
  unfolding size
  tokens_left = omega (arith, ap total (rows_first x xs), rows_total (x ∷ xs))

  pub view_below : (n : ℕ) → size (state_of s p) ≤ n → Below n (state_of s p)
  view_below n h = record { few = h; ended = ended.0; others = ended.1 }

  -- behind a line feed there is a line
  module _ (e : eqb (kind_number p.kind) 10 ≡ true) where
    below_is : rows_of s p ≡ rows (From s p.pos)
    unfolding behind below_of rows
    below_is = rw (other_byte (kind_number p.kind) 10 0 e refl, at_feed e)

    below_some : (r : Row) × (rs : List Row) × (rows_of s p ≡ r ∷ rs)
    below_some =
        let (r, rs, f) = some (From s p.pos) (tokens_finished token_at p.pos 0 (drop p.pos s)) in
        (r, rs, below_is ∙ f)
      where
        some : (ys : List Lexeme) → Finished ys → (r : Row) × (rs : List Row) × (rows ys ≡ r ∷ rs)
        some [] h = absurd h
        some (y ∷ ys) h = rows_some y ys

    module _ {q : Parser} (h : Comes whole s p next_row q tt) where
      pub feed_falls : size (state_of s q) < size (state_of s p)
      feed_falls = row_falls (state_of s p) below_some.2 h.reads

      pub feed_skips : skip_lines (state_of s p) ≡ skip_lines (state_of s q)
      feed_skips = row_skips (state_of s p) below_some.2 h.reads (at_feed e)

    pub feed_denied : {c : Cause} → next_row (state_of s p) ≡ refused c → skip_lines (state_of s p) ≡ refused c
    feed_denied h = row_denied (state_of s p) below_some.2 (at_feed e) h

  none_below : eqb (kind_number p.kind) 0 ≡ true → rows_of s p ≡ []
  unfolding behind below_of rows
  none_below e = rw (e, at_end e)

  -- elsewhere nothing is skipped
  pub skip_stays : eqb (kind_number p.kind) 10 ≡ false → skip_lines (state_of s p) ≡ done [] tt (state_of s p)
  skip_stays e = go (eqb (kind_number p.kind) 0) refl
    where
      go : (b : Bool) → eqb (kind_number p.kind) 0 ≡ b → skip_lines (state_of s p) ≡ done [] tt (state_of s p)
      go true f = skips_none (state_of s p) (none_below f)
      go false f = skips_inside (state_of s p) (inside e f)

  -- the end of a line
  line_end_by : line_end (state_of s p) ≡ (if◌then◌else◌ {A = Reader State (Unit {0})} (is_line_end x.kind) next_row (in_line (refuse_here 10))) (state_of s p)
  unfolding line_end ◌>>=◌ in_line over kind thence
  line_end_by = after_nil _

  pub to_next : eqb (kind_number p.kind) 10 ≡ true → {r : Result Parser Refusal} → Passes whole s p next_row r → Passes whole s p line_end r
  to_next e h = passes_by (line_end_by ∙ rw (at_feed e)) h

  pub stays : eqb (kind_number p.kind) 0 ≡ true → Passes whole s p line_end (Ok p)
  unfolding next_row step_row
  stays e = record { so = record { reads = line_end_by ∙ rw (at_end e, none_below e); kept = tt } }

  pub not_ended : eqb (kind_number p.kind) 10 ≡ false → eqb (kind_number p.kind) 0 ≡ false → {r : Refusal} → numbers r ≡ numbers_of (at_span 10 p.token_start p.pos)
      → Passes whole s p line_end (Err r)
  unfolding in_line over refuse_here
  not_ended e f h = record { so = record { cause = at_span 10 p.token_start p.pos; reads = line_end_by ∙ rw (inside e f); by_numbers = h } }

-- THE START: from a line feed that stands before the place.
module _ (s : List ℕ) (place : ℕ) where
  abbrev before : Parser
  before = record { pos = place; token_start = place; last_token_end = place; kind = kind_ahead.NewLine; value = 0 }

  begin_is : next_row (state_of s before) ≡ begin (rows (From s place))
  unfolding begin
  begin_is =
      let (r, rs, e) = below_some s before refl in
      row_is (state_of s before) e ∙ sym (ap begin (sym (below_is s before refl) ∙ e))

  few_left : (q : Parser) → Comes whole s before next_row q tt → length (behind s (kind_number q.kind) q.pos) ≤ length (drop place s)
  unfolding behind
  few_left q h =
      let a : size (state_of s q) < size (state_of s before) = feed_falls s before refl h in
      let b = tokens_left s q in
      let c = tokens_left s before in
      let d : length (behind s 10 place) ≤ suc (length (drop place s)) = tokens_count token_at place 0 (drop place s) in
      omega arith

  pub begins : {r : Result Parser Refusal} → Passes whole s before next_row r → Starts s place r
  begins {r} h = record { so = go r h.so }
    where
      go : (r : Result Parser Refusal) → PassesAs whole s before next_row r → StartsAs s place r
      go (Ok q) h = record { reads = sym begin_is ∙ h.reads; few = few_left q h }
      go (Err r) h = record { cause = h.cause; reads = sym begin_is ∙ h.reads; by_numbers = h.by_numbers }
