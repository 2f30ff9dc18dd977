-- From a token to the next: within a line, and from a line's end to the next line.
-- Assumes nothing.
use Rattle.std.specs.Prelude.{if◌then◌else◌}
use Prim.Native.Nat.{ℕ, zero, suc, pred, ◌≤◌}
use mathlib.Core.Path.{◌≡◌, refl, sym, ap, ◌∙◌}
use mathlib.Core.List.{List, [], ◌∷◌}
use mathlib.Core.Bool.{true, false}
use mathlib.Core.Option.{Option, none, some}
use native.Mathlib.Omega.{arith}
use native.Mathlib.Nat.{le_refl, not-suc-le-zero}
use lib.Dec.{eqb}
use Prim.Native.Char.{Char, code}
use lib.ListN.{length, drop}
use Rattle.lexer.specs.Text.{maybe}
use Rattle.lexer.specs.Tokens.{token_at, size_of}
use Rattle.lexer.specs.declared.TokenRead.{TokenRead}
use Rattle.lexer.proofs.Branches.{either}
use Rattle.rules.specs.Lexemes.{Lexeme, is_gap, kind_of, lexeme, put, tokens_by, tokens_from}
use Rattle.rules.specs.Reader.{Answer, done, refused, Reader, Line, thence, arrive, step, next, kind, expect, refuse_here, is_line_end, refused_as, at as at_span, numbers_of, ◌>>=◌}
use Rattle.rules.specs.Statements.{first_of, enter, step_row, next_row}
use Rattle.state.specs.declared.Parser.{Parser}
use Rattle.std.specs.Prelude.{Result, Ok, Err}
use Rattle.lexer.specs.declared.Kind.{Kind}
use Rattle.lexer.specs.Scanned.{number_of as kind_number}
use Rattle.refusals.specs.declared.Refusal.{Refusal}
use Rattle.refusals.specs.Refusals.{numbers}
use Rattle.state.specs.Views.{kind_by, text_of, token_of, here_of, behind, more_of, below_of, line_from, state_from, state_of, line_of, rows_of, line, whole, Plain, Comes, Passes, PassesAs, Fetches}
use Rattle.state.proofs.Chain.{after_nil}
use Rattle.state.proofs.Flat.{mark_is, other_byte, line_end_is, not_refused}
use Rattle.state.proofs.Stream.{more_within, below_within, below_end}

-- a token that is refused, and one that is not
arrive_good : {S A : Type 0} (x : Lexeme) (o : Answer S A) → refused_as x.kind ≡ none → arrive x o ≡ o
unfolding arrive
arrive_good x o e = rw e

arrive_bad : {S A : Type 0} (x : Lexeme) (o : Answer S A) (n : ℕ) → refused_as x.kind ≡ some n → arrive x o ≡ refused (at_span n x.from x.to)
unfolding arrive
arrive_bad x o n e = rw e

-- where the parser stands, with the next token fetched
module _ (s : List ℕ) (p : Parser) {a e v : ℕ} {K : Kind} (f : Fetches s p.pos a e K v) where
  abbrev k : ℕ
  k = kind_number K

  abbrev x : Lexeme
  x = here_of s p

  abbrev y : Lexeme
  y = token_of s a e k v

  abbrev fetched : ℕ → Parser
  fetched l = record { pos = e; token_start = a; last_token_end = l; kind = K; value = v }

  behind_is : eqb (kind_number p.kind) 0 ≡ false → behind s (kind_number p.kind) p.pos ≡ y ∷ behind s k e
  unfolding behind
  behind_is z = rw z f.tokens

  module _ (n : eqb (kind_number p.kind) 10 ≡ false) (z : eqb (kind_number p.kind) 0 ≡ false) where
    within : is_line_end x.kind ≡ false
    within = line_end_is (kind_number p.kind) p.value (text_of s p.token_start p.pos) ∙ rw (n, z)

    next_is : next (line_of s p) ≡ arrive y (done [] tt (line_from p.pos y (behind s k e)))
    unfolding next step
    next_is = rw (behind_is z, more_within x y (behind s k e) within)

    rows_are : below_of y (behind s k e) ≡ rows_of s p
    rows_are = sym (rw (behind_is z, below_within x y (behind s k e) within))

    pub next_comes : eqb k 30 ≡ false → eqb k 31 ≡ false → Passes line s p next (Ok (fetched p.pos))
    next_comes g h = record { so = record { reads = next_is ∙ arrive_good y _ (not_refused k v _ g h); kept = rows_are } }

    pub next_denied : {r : Refusal} → numbers r ≡ numbers_of (at_span k a e) → refused_as (kind_by k v (text_of s a e)) ≡ some k → Passes line s p next (Err r)
    next_denied u g = record { so = record { cause = at_span k a e; reads = next_is ∙ arrive_bad y _ k g; by_numbers = u } }

  module _ (n : eqb (kind_number p.kind) 10 ≡ true) where
    not_over : eqb (kind_number p.kind) 0 ≡ false
    not_over = other_byte (kind_number p.kind) 10 0 n refl

    at_end : is_line_end x.kind ≡ true
    at_end = line_end_is (kind_number p.kind) p.value (text_of s p.token_start p.pos) ∙ rw n

    row_is : next_row (state_of s p) ≡ arrive y (done [] tt (state_from a y (behind s k e)))
    unfolding next_row step_row enter first_of
    row_is = rw (behind_is not_over, below_end x y (behind s k e) at_end)

    pub row_comes : eqb k 30 ≡ false → eqb k 31 ≡ false → Passes whole s p next_row (Ok (fetched a))
    row_comes g h = record { so = record { reads = row_is ∙ arrive_good y _ (not_refused k v _ g h); kept = tt } }

    pub row_denied : {r : Refusal} → numbers r ≡ numbers_of (at_span k a e) → refused_as (kind_by k v (text_of s a e)) ≡ some k → Passes whole s p next_row (Err r)
    row_denied u g = record { so = record { cause = at_span k a e; reads = row_is ∙ arrive_bad y _ k g; by_numbers = u } }

-- a mark that has to stand here
module _ (s : List ℕ) (p : Parser) (a : Char) (n : ℕ) (h : Plain a) where
  expect_is : expect a n (line_of s p) ≡ (if◌then◌else◌ {A = Reader Line (Unit {0})} (eqb (kind_number p.kind) (code a)) next (refuse_here n)) (line_of s p)
  unfolding expect ◌>>=◌ kind thence
  expect_is = after_nil _ ∙ rw (mark_is (kind_number p.kind) p.value (text_of s p.token_start p.pos) a h)

  pub expect_passes : eqb (kind_number p.kind) (code a) ≡ true → {r : Result Parser Refusal} → Passes line s p next r → Passes line s p (expect a n) r
  expect_passes e {r} k = record { so = go r k.so }
    where
      go : (r : Result Parser Refusal) → PassesAs line s p next r → PassesAs line s p (expect a n) r
      go (Ok q) k = record { reads = expect_is ∙ rw e k.reads; kept = k.kept }
      go (Err r) k = record { cause = k.cause; reads = expect_is ∙ rw e k.reads; by_numbers = k.by_numbers }

  pub expect_denied : eqb (kind_number p.kind) (code a) ≡ false → {r : Refusal} → numbers r ≡ numbers_of (at_span n p.token_start p.pos) → Passes line s p (expect a n) (Err r)
  unfolding refuse_here
  expect_denied e u = record { so = record { cause = at_span n p.token_start p.pos; reads = expect_is ∙ rw e; by_numbers = u } }

-- The end of the source stands among its tokens, so there are some from any place on.
put_some : (at : ℕ) (t : TokenRead) (u : List ℕ) (xs : List Lexeme) → 1 ≤ length xs → 1 ≤ length (put at t u xs)
unfolding put
put_some at t u xs h = either (λ (l : List Lexeme). 1 ≤ length l) (is_gap (kind_of t u)) xs (lexeme at t u ∷ xs) h (omega arith)

some_tokens : (at k : ℕ) (u : List ℕ) → 1 ≤ length (tokens_from at k u)
unfolding tokens_by
some_tokens at k [] = le_refl 1
some_tokens at zero (c ∷ cs) = put_some at (token_at (c ∷ cs)) (c ∷ cs) _ (some_tokens (suc at) (pred (size_of (token_at (c ∷ cs)))) cs)
some_tokens at (suc k) (c ∷ cs) = some_tokens (suc at) k cs

arrived : (x : Lexeme) (s t : Line) (o : Option ℕ) → ◌≡◌ {A = Answer Line (Unit {0})} (maybe o (done [] tt s) (λ n. refused (at_span n x.from x.to))) (done [] tt t) → s ≡ t
arrived x s t none e = cc
arrived x s t (some n) e = cc

stepped : (s t : Line) (xs : List Lexeme) → 1 ≤ length xs → step xs s ≡ done [] tt t → length xs ≡ suc (length t.more)
unfolding step arrive
stepped s t [] h e = absurd (not-suc-le-zero h)
stepped s t (x ∷ xs) h e = ap (λ (l : Line). suc (length l.more)) (arrived x (record { last = s.here.to; here = x; more = xs }) t (refused_as x.kind) e)

-- Behind a token within a line there is another, and passing it leaves one less.
module _ (s : List ℕ) (p : Parser) (n : eqb (kind_number p.kind) 10 ≡ false) (z : eqb (kind_number p.kind) 0 ≡ false) where
  pub has_more : 1 ≤ length (line_of s p).more
  unfolding behind
  has_more = rw z (go (tokens_from p.pos 0 (drop p.pos s)) (some_tokens p.pos 0 (drop p.pos s)))
    where
      go : (xs : List Lexeme) → 1 ≤ length xs → 1 ≤ length (more_of (here_of s p) xs)
      go [] h = absurd (not-suc-le-zero h)
      go (y ∷ ys) h = rw (more_within (here_of s p) y ys (line_end_is (kind_number p.kind) p.value (text_of s p.token_start p.pos) ∙ rw (n, z))) (omega arith)

  pub one_less : {q : Parser} → Comes line s p next q tt → length (line_of s p).more ≡ suc (length (line_of s q).more)
  unfolding next
  one_less {q} h = stepped (line_of s p) (line_of s q) (line_of s p).more has_more h.reads

pub one_passed : (s : List ℕ) (p q : Parser) → eqb (kind_number p.kind) 10 ≡ false → eqb (kind_number p.kind) 0 ≡ false → Passes line s p next (Ok q) → suc (length (line_of s q).more) ≡ length (line_of s p).more
one_passed s p q n z h = sym (one_less s p n z h.so)
