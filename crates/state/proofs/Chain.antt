-- The code follows a reader of the rules statement by statement: what it has read and written so far, and what is still to be read.
-- Assumes nothing.
use Prim.Native.Nat.{ℕ}
use mathlib.Core.Path.{◌≡◌, refl, sym, ap, ◌∙◌}
use mathlib.Core.List.{List, [], ◌∷◌, ◌++◌, append_assoc, append-nil}
use mathlib.Core.Option.{Option, none, some}
use lib.ListN.{length}
use Rattle.rules.specs.Records.{Record, encode, listing}
use Rattle.rules.specs.Reader.{Answer, done, refused, Reader, Line, after, thence, ◌>>=◌, return, write, refuse, or_back, attempt, ahead, kind, passed, left, refuse_here, Cause, at as at_span, numbers_of}
use Rattle.rules.specs.Statements.{over, in_line}
use Rattle.std.specs.Prelude.{Result, Ok, Err, IsErrAnd}
use Rattle.std.proofs.lemmas.Result.{err_from_is_err_and}
use Rattle.records.specs.declared.Writer.{Writer}
use Rattle.records.specs.Writers.{Puts, SameBuffer}
use Rattle.records.proofs.Writes.{follows, nothing}
use Rattle.records.proofs.Writers.{same_still, same_put, same_on}
use Rattle.state.specs.declared.Parser.{Parser}
use Rattle.refusals.specs.declared.Refusal.{Refusal}
use Rattle.refusals.specs.Refusals.{numbers}
use Rattle.state.specs.Views.{Comes, Denies, Gives, Kept, Level, Looks, On, Passes, PassesAs, Reads, ReadsAs, ReadsWith, here_of, line, line_of, rows_of, view, whole}

after_after : {S A : Type 0} (a b : List Record) (o : Answer S A) → after a (after b o) ≡ after (a ++ b) o
unfolding after
after_after a b (done c x s) = ap (λ (l : List Record). done l x s) (sym (append_assoc a b c))
after_after a b (refused r) = refl

pub after_nil : {S A : Type 0} (o : Answer S A) → after [] o ≡ o
unfolding after
after_nil (done c x s) = refl
after_nil (refused r) = refl

pub listing_append : (a b : List Record) → listing (a ++ b) ≡ listing a ++ listing b
unfolding listing
listing_append [] b = refl
listing_append (r ∷ a) b = ap (λ (l : List ℕ). encode r ++ l) (listing_append a b) ∙ sym (append_assoc (encode r) (listing a) (listing b))

-- records written behind others
then_records : (a b : List Record) {o n w : Writer} → Puts (listing a) o n → Puts (listing b) n w → Puts (listing (a ++ b)) o w
then_records a b x y = record { wrote = rw (listing_append a b) (follows (listing a) (listing b) x.wrote y.wrote); buffer = y.buffer ∙ x.buffer }

no_records : (o : Writer) → Puts (listing []) o o
unfolding listing
no_records o = record { wrote = nothing o.at o.out.now; buffer = refl }

kept_here : (L : Level) (s : List ℕ) (p : Parser) → Kept L s p p
kept_here line s p = refl
kept_here whole s p = tt

kept_on : (L : Level) (s : List ℕ) (p q r : Parser) → Kept L s p q → Kept L s q r → Kept L s p r
kept_on line s p q r h k = k ∙ h
kept_on whole s p q r h k = tt

-- The reader m, begun at p with the writer o, has come to q and n, and m₁ is still to be read there.
pub record Sofar (L : Level) (s : List ℕ) (p : Parser) {A : Type 0} (m : Reader (On L) A) (o : Writer) (q : Parser) (m₁ : Reader (On L) A) (n : Writer) : Type 0 where
  pub v : List Record
  pub reads : m (view L s p) ≡ after v (m₁ (view L s q))
  pub kept : Kept L s p q
  pub puts : Puts (listing v) o n

-- nothing is read yet
pub starts : (L : Level) (s : List ℕ) (p : Parser) {A : Type 0} (m : Reader (On L) A) (o : Writer) → Sofar L s p m o p m o
starts L s p m o = record { v = []; reads = sym (after_nil (m (view L s p))); kept = kept_here L s p; puts = no_records o }

-- what writes nothing writes no record
pub still : {L : Level} {s : List ℕ} {p q : Parser} {A : Type 0} {m : Reader (On L) A} {a : A} (o : Writer) → Comes L s p m q a → Gives L s p m o o q a
still o h = record { v = []; reads = h.reads; kept = h.kept; puts = no_records o }

module _ {L : Level} {s : List ℕ} {p q : Parser} {A : Type 0} {m : Reader (On L) A} {o n : Writer} where
  module _ {m₁ : Reader (On L) A} (so : Sofar L s p m o q m₁ n) where
    -- the reader is m₂ here
    pub becomes : {m₂ : Reader (On L) A} → m₁ (view L s q) ≡ m₂ (view L s q) → Sofar L s p m o q m₂ n
    becomes e = record { v = so.v; reads = so.reads ∙ ap (after so.v) e; kept = so.kept; puts = so.puts }

    -- what is left is read
    pub ends : {w : Writer} {q₂ : Parser} {a : A} → Gives L s q m₁ n w q₂ a → Gives L s p m o w q₂ a
    unfolding after
    ends {w} {q₂} on = record { v = so.v ++ on.v; reads = so.reads ∙ ap (after so.v) on.reads; kept = kept_on L s p q q₂ so.kept on.kept; puts = then_records so.v on.v so.puts on.puts }

    pub denied : {r : Refusal} → Denies L s q m₁ r → Denies L s p m r
    unfolding after
    denied on = record { cause = on.cause; reads = so.reads ∙ ap (after so.v) on.reads; by_numbers = on.by_numbers }

    -- and it writes nothing
    pub lands : {q₂ : Parser} {a : A} → Comes L s q m₁ q₂ a → Gives L s p m o n q₂ a
    lands h = ends (still n h)

  -- the next thing to read is m₁
  module _ {B : Type 0} (m₁ : Reader (On L) B) (k : B → Reader (On L) A) (so : Sofar L s p m o q (m₁ >>= k) n) where
    pub called : {w : Writer} {q₂ : Parser} {b : B} → Gives L s q m₁ n w q₂ b → Sofar L s p m o q₂ (k b) w
    unfolding ◌>>=◌ thence
    called {w} {q₂} {b} on = record {
      v = so.v ++ on.v;
      reads = so.reads ∙ ap (λ (z : Answer (On L) B). after so.v (thence z k)) on.reads ∙ after_after so.v on.v (k b (view L s q₂));
      kept = kept_on L s p q q₂ so.kept on.kept;
      puts = then_records so.v on.v so.puts on.puts;
    }

    pub called_denied : {r : Refusal} → Denies L s q m₁ r → Denies L s p m r
    unfolding ◌>>=◌ thence
    called_denied on = denied so (record { cause = on.cause; reads = ap (λ (o : Answer (On L) B). thence o k) on.reads; by_numbers = on.by_numbers })

    pub comes : {q₂ : Parser} {b : B} → Comes L s q m₁ q₂ b → Sofar L s p m o q₂ (k b) n
    comes h = called (still n h)

-- what the exit of a `?` returns
pub exits : {T E : Type 0} {x : E} {r : Result T E} → IsErrAnd r (λ y. y ≡ x) → r ≡ Err x
exits {r = r} h = let e = err_from_is_err_and r h in e.1 ∙ ap (λ y. Err y) e.2

-- The writer of a reader that has come so far has the same buffer.
pub lent_sofar : {L : Level} {s : List ℕ} {p q : Parser} {A : Type 0} {m m₁ : Reader (On L) A} {o n : Writer} → Sofar L s p m o q m₁ n → SameBuffer o n
lent_sofar so = same_put so.puts

-- the answers of the code
module _ {L : Level} {s : List ℕ} {p : Parser} {m : Reader (On L) (Unit {0})} {o : Writer} where
  pub reads_done : {n : Writer} {q : Parser} → Gives L s p m o n q tt → Reads L s p m o n (Ok q)
  reads_done h = record { so = h; lent = same_put h.puts }

  -- refused before anything is written, and behind it
  pub reads_refused : {r : Refusal} → Denies L s p m r → Reads L s p m o o (Err r)
  reads_refused h = record { so = h; lent = same_still o }

  pub reads_refused_on : {n : Writer} {r : Refusal} → SameBuffer o n → Denies L s p m r → Reads L s p m o n (Err r)
  reads_refused_on k h = record { so = h; lent = k }

module _ {L : Level} {s : List ℕ} {p : Parser} {A B : Type 0} {seen : B → A} {m : Reader (On L) A} where
  pub reads_with : {o n : Writer} {q : Parser} {b : B} → Gives L s p m o n q (seen b) → ReadsWith L s p seen m o n (Ok (q, b))
  reads_with h = record { so = h; lent = same_put h.puts }

  pub reads_denied : {o : Writer} {r : Refusal} → Denies L s p m r → ReadsWith L s p seen m o o (Err r)
  reads_denied {o} h = record { so = h; lent = same_still o }

  pub reads_denied_on : {o n : Writer} {r : Refusal} → SameBuffer o n → Denies L s p m r → ReadsWith L s p seen m o n (Err r)
  reads_denied_on k h = record { so = h; lent = k }

  pub looks_comes : {q : Parser} {b : B} → Comes L s p m q (seen b) → Looks L s p seen m (Ok (q, b))
  looks_comes h = record { so = h }

  pub looks_denied : {r : Refusal} → Denies L s p m r → Looks L s p seen m (Err r)
  looks_denied h = record { so = h }

-- The exit of a `?`: what was called next is refused, when the writer was n. It is w now, or n still.
module _ {L : Level} {s : List ℕ} {p q : Parser} {m : Reader (On L) (Unit {0})} {o n : Writer} {r : Result Parser Refusal} {x : Refusal} (e : IsErrAnd r (λ y. y ≡ x)) where
  module _ {A : Type 0} (m₁ : Reader (On L) A) (k : A → Reader (On L) (Unit {0})) (so : Sofar L s p m o q (m₁ >>= k) n) where
    pub stops_on : {w : Writer} → SameBuffer n w → Denies L s q m₁ x → Reads L s p m o w r
    stops_on h d = rw (exits e) (reads_refused_on (same_on (lent_sofar so) h) (called_denied m₁ k so d))

    pub stops : Denies L s q m₁ x → Reads L s p m o n r
    stops d = stops_on (same_still n) d

-- a record is written
pub writes : {L : Level} {s : List ℕ} {p : Parser} {o n : Writer} (r : Record) → Puts (encode r) o n → Gives L s p (write r) o n p tt
unfolding write listing
writes {L} {s} {p} r h = record { v = r ∷ []; reads = refl; kept = kept_here L s p; puts = rw (append-nil (encode r)) h }

-- nothing more is read
pub returns : {L : Level} {s : List ℕ} {p : Parser} {A : Type 0} (a : A) → Comes L s p (return a) p a
unfolding return
returns {L} {s} {p} a = record { reads = refl; kept = kept_here L s p }

-- refusals: with a cause, and on the token ahead
pub refuses : {L : Level} {s : List ℕ} {p : Parser} {A : Type 0} {r : Refusal} (c : Cause) → numbers r ≡ numbers_of c → Denies L s p {A = A} (refuse c) r
unfolding refuse
refuses c e = record { cause = c; reads = refl; by_numbers = e }

pub refuses_here : {s : List ℕ} {p : Parser} {A : Type 0} {r : Refusal} (n : ℕ) → numbers r ≡ numbers_of (at_span n p.token_start p.pos) → Denies line s p {A = A} (refuse_here n) r
unfolding refuse_here
refuses_here {p = p} n e = record { cause = at_span n p.token_start p.pos; reads = refl; by_numbers = e }

-- questions to the line
module _ {s : List ℕ} {p : Parser} where
  pub is_ahead : Comes line s p ahead p (here_of s p)
  unfolding ahead
  is_ahead = record { reads = refl; kept = refl }

  pub is_kind : Comes line s p kind p (here_of s p).kind
  unfolding kind
  is_kind = record { reads = refl; kept = refl }

  pub is_passed : Comes line s p passed p p.last_token_end
  unfolding passed
  is_passed = record { reads = refl; kept = refl }

  pub is_left : Comes line s p left p (length (line_of s p).more)
  unfolding left
  is_left = record { reads = refl; kept = refl }

-- what reads in a line, in the state
module _ {s : List ℕ} {p : Parser} {A : Type 0} {m : Reader Line A} where
  pub lifts : {o n : Writer} {q : Parser} {a : A} → Gives line s p m o n q a → Gives whole s p (in_line m) o n q a
  unfolding in_line over
  lifts h = record { v = h.v; reads = ap (over (rows_of s p)) h.reads ∙ rw h.kept; kept = tt; puts = h.puts }

  pub lifts_comes : {q : Parser} {a : A} → Comes line s p m q a → Comes whole s p (in_line m) q a
  unfolding in_line over
  lifts_comes h = record { reads = ap (over (rows_of s p)) h.reads ∙ rw h.kept; kept = tt }

  pub lifts_denied : {r : Refusal} → Denies line s p m r → Denies whole s p (in_line m) r
  unfolding in_line over
  lifts_denied h = record { cause = h.cause; reads = ap (over (rows_of s p)) h.reads; by_numbers = h.by_numbers }

-- what is left is another function's
pub hands_on : {L : Level} {s : List ℕ} {p q : Parser} {m m₁ : Reader (On L) (Unit {0})} {o n w : Writer} {r : Result Parser Refusal}
    → Sofar L s p m o q m₁ n → Reads L s q m₁ n w r → Reads L s p m o w r
hands_on {L} {s} {p} {q} {m} {m₁} {o} {n} {w} {r} so h = record { so = go r h.so; lent = same_on (lent_sofar so) h.lent }
  where
    go : (r : Result Parser Refusal) → ReadsAs L s q m₁ n w r → ReadsAs L s p m o w r
    go (Ok q₂) k = ends so k
    go (Err x) k = denied so k

-- readers that write nothing, one after the other
module _ {L : Level} {s : List ℕ} {p q : Parser} {A B : Type 0} {m : Reader (On L) B} (k : B → Reader (On L) A) {b : B} (h : Comes L s p m q b) where
  pub then_comes : {q₂ : Parser} {a : A} → Comes L s q (k b) q₂ a → Comes L s p (m >>= k) q₂ a
  unfolding ◌>>=◌ thence
  then_comes {q₂} g = record { reads = ap (λ (o : Answer (On L) B). thence o k) h.reads ∙ after_nil _ ∙ g.reads; kept = kept_on L s p q q₂ h.kept g.kept }

  pub then_denied : {r : Refusal} → Denies L s q (k b) r → Denies L s p (m >>= k) r
  unfolding ◌>>=◌ thence
  then_denied g = record { cause = g.cause; reads = ap (λ (o : Answer (On L) B). thence o k) h.reads ∙ after_nil _ ∙ g.reads; by_numbers = g.by_numbers }

pub first_denied : {L : Level} {s : List ℕ} {p : Parser} {A B : Type 0} {m : Reader (On L) B} (k : B → Reader (On L) A) {r : Refusal} → Denies L s p m r → Denies L s p (m >>= k) r
unfolding ◌>>=◌ thence
first_denied {L} {s} {p} {A} {B} k h = record { cause = h.cause; reads = ap (λ (z : Answer (On L) B). thence z k) h.reads; by_numbers = h.by_numbers }

-- a reader that may find nothing, and goes back then
module _ {L : Level} {s : List ℕ} {p : Parser} {A : Type 0} {m : Reader (On L) (Option A)} (a : A) where
  pub attempt_finds : {q : Parser} {b : A} → Comes L s p m q (some b) → Comes L s p (attempt m a) q b
  unfolding attempt or_back
  attempt_finds h = record { reads = ap (λ (o : Answer (On L) (Option A)). or_back o a (view L s p)) h.reads; kept = h.kept }

  pub attempt_back : {q : Parser} → Comes L s p m q none → Comes L s p (attempt m a) p a
  unfolding attempt or_back
  attempt_back h = record { reads = ap (λ (o : Answer (On L) (Option A)). or_back o a (view L s p)) h.reads; kept = kept_here L s p }

  pub attempt_denied : {r : Refusal} → Denies L s p m r → Denies L s p (attempt m a) r
  unfolding attempt or_back
  attempt_denied h = record { cause = h.cause; reads = ap (λ (o : Answer (On L) (Option A)). or_back o a (view L s p)) h.reads; by_numbers = h.by_numbers }

-- what a reader does where another does the same
module _ {L : Level} {s : List ℕ} {p : Parser} {m m₁ : Reader (On L) (Unit {0})} (e : m (view L s p) ≡ m₁ (view L s p)) where
  denied_by : {r : Refusal} → Denies L s p m₁ r → Denies L s p m r
  denied_by h = record { cause = h.cause; reads = e ∙ h.reads; by_numbers = h.by_numbers }

  pub passes_by : {r : Result Parser Refusal} → Passes L s p m₁ r → Passes L s p m r
  passes_by {r} h = record { so = go r h.so }
    where
      go : (r : Result Parser Refusal) → PassesAs L s p m₁ r → PassesAs L s p m r
      go (Ok q) h = record { reads = e ∙ h.reads; kept = h.kept }
      go (Err r) h = denied_by h

  pub reads_by : {o n : Writer} {r : Result Parser Refusal} → Reads L s p m₁ o n r → Reads L s p m o n r
  reads_by {o} {n} {r} h = record { so = go r h.so; lent = h.lent }
    where
      go : (r : Result Parser Refusal) → ReadsAs L s p m₁ o n r → ReadsAs L s p m o n r
      go (Ok q) h = record { v = h.v; reads = e ∙ h.reads; kept = h.kept; puts = h.puts }
      go (Err r) h = denied_by h
