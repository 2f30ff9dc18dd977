-- Moving: what a reader does with tokens whose places are moved is what it does with the tokens, moved, since no rule computes with a place.
-- `Moves` says so for a map of states, records and refusals. In the same walk through the readers rides that a property P of states is
-- kept, that each refusal is one of M, and that each record written is one of W. All four are closed under what readers are made of, so
-- each reader's proof follows its text.
use Rattle.std.specs.Prelude.{if◌then◌else◌}
use mathlib.Core.Path.{◌≡◌, refl, sym, ap, ◌∙◌}
use mathlib.Core.Bool.{Bool, true, false, ◌||◌}
use mathlib.Core.List.{List, [], ◌∷◌, ◌++◌, map}
use mathlib.Core.Option.{Option, none, some}
use Prim.Native.Nat.{ℕ, zero, suc}
use Prim.Native.Char.{Char}
use lib.Dec.{ltb, eqb}
use lib.ListN.{length-map}
use Rattle.lexer.specs.Text.{maybe, is}
use Rattle.rules.specs.Lexemes.{Kind, word, number, quoted, mark, newline, blank, comment, invalid, end, bad, Lexeme, name_in}
use Rattle.rules.specs.Records.{Record, plain, laden, move_record}
use Rattle.rules.specs.Reader.{Cause, at, nowhere, encoding, Answer, done, refused, Reader, Line, after, thence, ◌>>=◌, ◌>>◌, return, write, refuse, or_back, attempt, refused_as, arrive, step, next, ahead, kind, passed, left, refuse_here, is_mark, is_line_end, expect}
use Rattle.names.specs.Names.{registers, segments, sizes}
use Rattle.rules.specs.Operands.{immediate_or_far, alone, is_index, is_base, paired, plus_index, second, registers_ahead, displacement, close, override, is_word, is_number, memory, operand_sized, operand, Operands, operands}
use Rattle.rules.specs.Expressions.{operator_of, left_level, right_level, prefix_level, character, atom_of, atom, primary, infixes, expr, expression}
use Rattle.rules.specs.Claims.{Each}

map-append : {A B : Type 0} (f : A → B) (s t : List A) → map f (s ++ t) ≡ map f s ++ map f t
map-append f [] t = refl
map-append f (x ∷ s) t = ap (λ (r : List _). f x ∷ r) (map-append f s t)

abbrev pub same : {A : Type 0} → A → A
same a = a

abbrev Option-map : {A : Type 0} → (A → A) → Option A → Option A
Option-map g none = none
Option-map g (some a) = some (g a)

-- A refusal other than 34, which alone depends on the lines below; and no refusal's number is 0.
abbrev pub Mild : Cause → Type 0
Mild (at n f t) = (eqb n 34 || eqb n 0) ≡ false
Mild (nowhere n) = (eqb n 34 || eqb n 0) ≡ false
Mild (encoding f t a b) = Unit {0}

abbrev pub Any : Cause → Type 0
Any r = Unit {0}

-- Any record but the data's, which are read by lines; any record at all.
abbrev pub NotData : Record → Type 0
NotData (plain m ns) = Unit {0}
NotData (laden m ns d) = ⊥

abbrev pub AnyRecord : Record → Type 0
AnyRecord r = Unit {0}

pub bad_mild : (k : Kind) (n : ℕ) → refused_as k ≡ some n → (eqb n 34 || eqb n 0) ≡ false
unfolding refused_as
bad_mild (bad true) n h = let y : 31 ≡ n = cc in rw (← y)
bad_mild (bad false) n h = let y : 30 ≡ n = cc in rw (← y)
bad_mild (word w) n h = cc
bad_mild (number v) n h = cc
bad_mild (quoted b w) n h = cc
bad_mild (mark c) n h = cc
bad_mild newline n h = cc
bad_mild blank n h = cc
bad_mild comment n h = cc
bad_mild invalid n h = cc
bad_mild end n h = cc

-- An answer that leaves P of the state, or refuses with one of M.
abbrev pub Stays : {S A : Type 0} → (S → Type 0) → (Cause → Type 0) → Answer S A → Type 0
Stays P M (done w a s) = P s
Stays P M (refused r) = M r

pub after_stays : {S A : Type 0} (P : S → Type 0) (M : Cause → Type 0) (w : List Record) (p : Answer S A) → Stays P M p → Stays P M (after w p)
unfolding after
after_stays P M w (done v a s) h = h
after_stays P M w (refused r) h = h

pub thence_stays : {S A B : Type 0} (P : S → Type 0) (M : Cause → Type 0) (k : A → Reader S B) → ((a : A) (s : S) → P s → Stays P M (k a s)) → (p : Answer S A) → Stays P M p → Stays P M (thence p k)
unfolding thence
thence_stays P M k e (done w a s) h = after_stays P M w (k a s) (e a s h)
thence_stays P M k e (refused r) h = h

-- An answer each of whose records is one of W.
abbrev pub Wrote : {S A : Type 0} → (Record → Type 0) → Answer S A → Type 0
Wrote W (done w a s) = Each W w
Wrote W (refused r) = Unit {0}

pub each_append : {A : Type 0} (W : A → Type 0) (w v : List A) → Each W w → Each W v → Each W (w ++ v)
each_append W [] v h i = i
each_append W (r ∷ w) v h i = (h.0, each_append W w v h.1 i)

each_any : (w : List Record) → Each AnyRecord w
each_any [] = tt
each_any (r ∷ w) = (tt, each_any w)

pub wrote_any : {S A : Type 0} (p : Answer S A) → Wrote AnyRecord p
wrote_any (done w a s) = each_any w
wrote_any (refused r) = tt

after_wrote : {S A : Type 0} (W : Record → Type 0) (w : List Record) (p : Answer S A) → Each W w → Wrote W p → Wrote W (after w p)
unfolding after
after_wrote W w (done v a s) h i = each_append W w v h i
after_wrote W w (refused r) h i = tt

pub thence_wrote : {S A B : Type 0} (W : Record → Type 0) (k : A → Reader S B) → ((a : A) (s : S) → Wrote W (k a s)) → (p : Answer S A) → Wrote W p
    → Wrote W (thence p k)
unfolding thence
thence_wrote W k e (done w a s) h = after_wrote W w (k a s) h (e a s)
thence_wrote W k e (refused r) h = tt

or_back_wrote : {S A : Type 0} (W : Record → Type 0) (a : A) (s : S) (p : Answer S (Option A)) → Wrote W p → Wrote W (or_back p a s)
unfolding or_back
or_back_wrote W a s (done w none t) h = tt
or_back_wrote W a s (done w (some b) t) h = h
or_back_wrote W a s (refused r) h = tt

-- What holds of an answer and of the token's refusal holds where the token is arrived at.
pub arrived : {S A : Type 0} (T : Answer S A → Type 0) (x : Lexeme) {p : Answer S A} → ((n : ℕ) → refused_as x.kind ≡ some n → T (refused (at n x.from x.to))) → T p → T (arrive x p)
unfolding arrive
arrived T x {p} m h = go (refused_as x.kind) refl
  where
    go : (o : Option ℕ) → refused_as x.kind ≡ o → T (maybe o p (λ n. refused (at n x.from x.to)))
    go none e = h
    go (some n) e = m n e

or_back_stays : {S A : Type 0} (P : S → Type 0) (M : Cause → Type 0) (a : A) (s : S) → P s → (p : Answer S (Option A)) → Stays P M p → Stays P M (or_back p a s)
unfolding or_back
or_back_stays P M a s i (done w none t) h = i
or_back_stays P M a s i (done w (some b) t) h = h
or_back_stays P M a s i (refused r) h = h

module _ {S : Type 0} (σ : S → S) (ρ : Record → Record) (κ : Cause → Cause) where
  unfoldable pub carry : {A : Type 0} → (A → A) → Answer S A → Answer S A
  carry g (done w a s) = done (map ρ w) (g a) (σ s)
  carry g (refused r) = refused (κ r)

  pub record Moves (P : S → Type 0) (M : Cause → Type 0) (W : Record → Type 0) {A : Type 0} (g : A → A) (m m' : Reader S A) : Type 0 where
    pub law : (s : S) → m' (σ s) ≡ carry g (m s)
    pub keeps : (s : S) → P s → Stays P M (m s)
    pub wrote : (s : S) → Wrote W (m s)

-- what readers are made of
module _ {S : Type 0} (σ : S → S) (ρ : Record → Record) (κ : Cause → Cause) where
  pub after_carry : {A : Type 0} (g : A → A) (w : List Record) (p : Answer S A) → after (map ρ w) (carry σ ρ κ g p) ≡ carry σ ρ κ g (after w p)
  unfolding after carry
  after_carry g w (done v a s) = ap (λ (r : List Record). done r (g a) (σ s)) (sym (map-append ρ w v))
  after_carry g w (refused r) = refl

  thence_carry : {A B : Type 0} (P : S → Type 0) (M : Cause → Type 0) (W : Record → Type 0) (g : A → A) (h : B → B) (k k' : A → Reader S B)
      → ((a : A) → Moves σ ρ κ P M W h (k a) (k' (g a)))
      → (p : Answer S A) → thence (carry σ ρ κ g p) k' ≡ carry σ ρ κ h (thence p k)
  unfolding carry thence
  thence_carry P M W g h k k' e (done w a s) = ap (after (map ρ w)) ((e a).law s) ∙ after_carry h w (k a s)
  thence_carry P M W g h k k' e (refused r) = refl

  or_back_carry : {A : Type 0} (g : A → A) (a : A) (s : S) (p : Answer S (Option A))
      → or_back (carry σ ρ κ (Option-map g) p) (g a) (σ s) ≡ carry σ ρ κ g (or_back p a s)
  unfolding or_back carry
  or_back_carry g a s (done w none t) = refl
  or_back_carry g a s (done w (some b) t) = refl
  or_back_carry g a s (refused r) = refl

module _ {S : Type 0} {σ : S → S} {ρ : Record → Record} {κ : Cause → Cause} {P : S → Type 0} {M : Cause → Type 0} {W : Record → Type 0} where
  pub bind : {A B : Type 0} {g : A → A} {h : B → B} {m m' : Reader S A} {k : A → Reader S B} (k' : A → Reader S B)
      → Moves σ ρ κ P M W g m m' → ((a : A) → Moves σ ρ κ P M W h (k a) (k' (g a))) → Moves σ ρ κ P M W h (m >>= k) (m' >>= k')
  unfolding ◌>>=◌
  bind {g = g} {h} {m} {m'} {k} k' p e = record {
    law = λ s. ap (λ (q : Answer S _). thence q k') (p.law s) ∙ thence_carry σ ρ κ P M W g h k k' e (m s);
    keeps = λ s h. thence_stays P M k (λ a t i. (e a).keeps t i) (m s) (p.keeps s h);
    wrote = λ s. thence_wrote W k (λ a t. (e a).wrote t) (m s) (p.wrote s);
  }

  pub and_then : {A B : Type 0} {g : A → A} {h : B → B} {m m' : Reader S A} {k k' : Reader S B}
      → Moves σ ρ κ P M W g m m' → Moves σ ρ κ P M W h k k' → Moves σ ρ κ P M W h (m >> k) (m' >> k')
  unfolding ◌>>◌
  and_then {k' = k'} p e = bind (λ _. k') p (λ _. e)

  pub returns : {A : Type 0} (g : A → A) (a : A) → Moves σ ρ κ P M W g (return a) (return (g a))
  unfolding return carry
  returns g a = record { law = λ s. refl; keeps = λ s h. h; wrote = λ s. tt }

  pub writes : (r : Record) → W r → Moves σ ρ κ P M W same (write r) (write (ρ r))
  unfolding write carry
  writes r i = record { law = λ s. refl; keeps = λ s h. h; wrote = λ s. (i, tt) }

  pub refuses : {A : Type 0} (g : A → A) (r : Cause) → M r → Moves σ ρ κ P M W g (refuse r) (refuse (κ r))
  unfolding refuse carry
  refuses g r m = record { law = λ s. refl; keeps = λ s h. m; wrote = λ s. tt }

  pub whether : {A : Type 0} {g : A → A} {m m' n n' : Reader S A} (c : Bool)
      → Moves σ ρ κ P M W g m m' → Moves σ ρ κ P M W g n n' → Moves σ ρ κ P M W g (if c then m else n) (if c then m' else n')
  whether true p q = p
  whether false p q = q

  pub perhaps : {A B : Type 0} {g : A → A} {m m' : Reader S A} {k k' : B → Reader S A} (o : Option B)
      → Moves σ ρ κ P M W g m m' → ((b : B) → Moves σ ρ κ P M W g (k b) (k' b)) → Moves σ ρ κ P M W g (maybe o m k) (maybe o m' k')
  perhaps none p q = p
  perhaps (some b) p q = q b

  pub attempts : {A : Type 0} {g : A → A} {m m' : Reader S (Option A)} (a : A) → Moves σ ρ κ P M W (Option-map g) m m' → Moves σ ρ κ P M W g (attempt m a) (attempt m' (g a))
  unfolding attempt
  attempts {g = g} {m} a p = record {
    law = λ s. ap (λ (q : Answer S (Option _)). or_back q (g a) (σ s)) (p.law s) ∙ or_back_carry σ ρ κ g a s (m s);
    keeps = λ s h. or_back_stays P M a s h (m s) (p.keeps s h);
    wrote = λ s. or_back_wrote W a s (m s) (p.wrote s);
  }

-- places moved by f
module _ (f : ℕ → ℕ) where
  unfoldable pub move_token : Lexeme → Lexeme
  move_token x = record { from = f x.from; to = f x.to; kind = x.kind }

  unfoldable pub move_refusal : Cause → Cause
  move_refusal (at n p q) = at n (f p) (f q)
  move_refusal (nowhere n) = nowhere n
  move_refusal (encoding p q a b) = encoding (f p) (f q) a b

  unfoldable pub move_line : Line → Line
  move_line s = record { last = f s.last; here = move_token s.here; more = map move_token s.more }

  refused_moves : {S A : Type 0} (σ : S → S) (g : A → A) (x : Lexeme) (p q : Answer S A) (o : Option ℕ) → q ≡ carry σ (move_record f) move_refusal g p
      → maybe o q (λ n. refused (at n (f x.from) (f x.to))) ≡ carry σ (move_record f) move_refusal g (maybe o p (λ n. refused (at n x.from x.to)))
  unfolding carry move_refusal
  refused_moves σ g x p q none e = e
  refused_moves σ g x p q (some n) e = refl

  pub arrive_moves : {S A : Type 0} (σ : S → S) (g : A → A) (x : Lexeme) (p q : Answer S A) → q ≡ carry σ (move_record f) move_refusal g p
      → arrive (move_token x) q ≡ carry σ (move_record f) move_refusal g (arrive x p)
  unfolding arrive move_token
  arrive_moves σ g x p q e = refused_moves σ g x p q (refused_as x.kind) e

  step_shifts : (xs : List Lexeme) (s : Line) → step (map move_token xs) (move_line s) ≡ carry move_line (move_record f) move_refusal same (step xs s)
  unfolding step carry move_line move_token
  step_shifts [] s = refl
  step_shifts (x ∷ xs) s = arrive_moves move_line same x _ _ refl

  unfoldable pub move_operands : Operands → Operands
  move_operands o = record { count = o.count; from = f o.from; to = f o.to }

step_wrote : (xs : List Lexeme) (s : Line) → Wrote NotData (step xs s)
unfolding step
step_wrote [] s = tt
step_wrote (x ∷ xs) s = arrived (Wrote NotData) x (λ n e. tt) tt

module _ (f : ℕ → ℕ) (P : Line → Type 0) where
  abbrev pub Shifts : {A : Type 0} → (A → A) → Reader Line A → Reader Line A → Type 0
  Shifts g m m' = Moves (move_line f) (move_record f) (move_refusal f) P Mild NotData g m m'

-- The laws: f moves the places; P, which no step to the next token breaks, is kept; and what is read within a line is never refused with 34,
-- and writes no data.
module _ (f : ℕ → ℕ) (P : Line → Type 0) (closed : (s : Line) → P s → Stays P Mild (next s)) where
  pub next_shifts : Shifts f P same next next
  unfolding next move_line
  next_shifts = record { law = λ s. step_shifts f s.more s; keeps = closed; wrote = λ s. step_wrote s.more s }

  pub ahead_shifts : Shifts f P (move_token f) ahead ahead
  unfolding ahead carry move_line
  ahead_shifts = record { law = λ s. refl; keeps = λ s h. h; wrote = λ s. tt }

  pub kind_shifts : Shifts f P same kind kind
  unfolding kind carry move_line move_token
  kind_shifts = record { law = λ s. refl; keeps = λ s h. h; wrote = λ s. tt }

  pub passed_shifts : Shifts f P f passed passed
  unfolding passed carry move_line
  passed_shifts = record { law = λ s. refl; keeps = λ s h. h; wrote = λ s. tt }

  pub left_shifts : Shifts f P same left left
  unfolding left carry move_line
  left_shifts = record { law = λ s. ap (λ (n : ℕ). done [] n ((move_line f) s)) (length-map s.more (move_token f)); keeps = λ s h. h; wrote = λ s. tt }

  pub here_shifts : {A : Type 0} (g : A → A) (n : ℕ) → (eqb n 34 || eqb n 0) ≡ false → Shifts f P g (refuse_here n) (refuse_here n)
  unfolding refuse_here carry move_line move_token move_refusal
  here_shifts g n m = record { law = λ s. refl; keeps = λ s h. m; wrote = λ s. tt }

  pub expect_shifts : (a : Char) (n : ℕ) → (eqb n 34 || eqb n 0) ≡ false → Shifts f P same (expect a n) (expect a n)
  unfolding expect
  expect_shifts a n m = bind _ kind_shifts λ k. whether (is_mark a k) next_shifts (here_shifts same n m)

  -- Expressions.
  character_shifts : (c : Bool) (s : List ℕ) (x : Lexeme) → Shifts f P same (character c s x) (character c s ((move_token f) x))
  unfolding character move_token move_record
  character_shifts false s x = here_shifts same 16 refl
  character_shifts true [] x = here_shifts same 17 refl
  character_shifts true (c ∷ []) x = and_then next_shifts (writes _ tt)
  character_shifts true (c ∷ d ∷ s) x = here_shifts same 17 refl

  atom_of_shifts : (k : Kind) (x : Lexeme) → Shifts f P same (atom_of k x) (atom_of k ((move_token f) x))
  unfolding atom_of move_token move_record
  atom_of_shifts (number v) x = and_then next_shifts (writes _ tt)
  atom_of_shifts (quoted closed s) x = character_shifts closed s x
  atom_of_shifts (word w) x = and_then next_shifts (writes _ tt)
  atom_of_shifts (mark c) x = whether (is "$" c) (and_then next_shifts (bind _ kind_shifts λ k.
      whether (is_mark "$" k) (and_then next_shifts (writes _ tt)) (writes _ tt))) (here_shifts same 21 refl)
  atom_of_shifts newline x = here_shifts same 21 refl
  atom_of_shifts blank x = here_shifts same 21 refl
  atom_of_shifts comment x = here_shifts same 21 refl
  atom_of_shifts invalid x = here_shifts same 21 refl
  atom_of_shifts end x = here_shifts same 21 refl
  atom_of_shifts (bad n) x = here_shifts same 21 refl

  atom_shifts : Shifts f P same atom atom
  unfolding atom move_token
  atom_shifts = bind _ ahead_shifts λ x. atom_of_shifts x.kind x

  module _ {inner : ℕ → Reader Line (Unit {0})} (each : (level : ℕ) → Shifts f P same (inner level) (inner level)) where
    primary_shifts : Shifts f P same (primary inner) (primary inner)
    unfolding primary move_token move_record move_refusal
    primary_shifts = bind _ ahead_shifts λ x.
        whether (is_mark "(" x.kind) (and_then (and_then next_shifts (each 0)) (expect_shifts ")" 14 refl))
        (perhaps (operator_of x.kind) atom_shifts λ op. and_then next_shifts (and_then
        (whether (ltb op 2) (each prefix_level) (refuses same _ refl))
        (bind _ passed_shifts λ t. writes _ tt)))

    infixes_shifts : (n level p : ℕ) → Shifts f P same (infixes n inner level p) (infixes n inner level (f p))
    unfolding infixes move_record
    infixes_shifts zero level p = returns same tt
    infixes_shifts (suc n) level p = bind _ kind_shifts λ k. perhaps (operator_of k) (returns same tt) λ op.
        whether (ltb (left_level op) level) (returns same tt) (and_then next_shifts (and_then (each (right_level op))
        (bind _ passed_shifts λ t. and_then (writes _ tt) (infixes_shifts n level p))))

  pub expr_shifts : (d level : ℕ) → Shifts f P same (expr d level) (expr d level)
  unfolding expr move_token
  expr_shifts zero level = here_shifts same 3 refl
  expr_shifts (suc d) level = bind _ ahead_shifts λ x. and_then (primary_shifts (expr_shifts d)) (bind _ left_shifts λ n.
      infixes_shifts (expr_shifts d) n level x.from)

  pub expression_shifts : Shifts f P same expression expression
  unfolding expression
  expression_shifts = expr_shifts 32 0

  -- Operands.
  immediate_or_far_shifts : Shifts f P same immediate_or_far immediate_or_far
  unfolding immediate_or_far move_token move_record
  immediate_or_far_shifts = bind _ ahead_shifts λ x. and_then expression_shifts (bind _ kind_shifts λ k. whether (is_mark ":" k)
      (and_then next_shifts (and_then expression_shifts (bind _ passed_shifts λ t. writes _ tt)))
      (bind _ passed_shifts λ t. writes _ tt))

  plus_index_shifts : (p r : ℕ) → Shifts f P (Option-map same) (plus_index p r) (plus_index (f p) r)
  unfolding plus_index move_token move_refusal
  plus_index_shifts p r = and_then next_shifts (bind _ ahead_shifts λ x. perhaps (name_in registers x.kind) (returns (Option-map same) none) λ q.
      whether (is_index q)
      (and_then next_shifts (bind _ passed_shifts λ t. whether (is_index r) (refuses (Option-map same) _ refl) (returns (Option-map same) (some (paired r q)))))
      (refuses (Option-map same) _ tt))

  second_shifts : (p r : ℕ) → Shifts f P same (second p r) (second (f p) r)
  unfolding second
  second_shifts p r = bind _ kind_shifts λ k. whether (is_mark "+" k) (attempts (alone r) (plus_index_shifts p r)) (returns same (alone r))

  registers_ahead_shifts : Shifts f P same registers_ahead registers_ahead
  unfolding registers_ahead move_token move_refusal
  registers_ahead_shifts = bind _ ahead_shifts λ x. bind _ passed_shifts λ t. perhaps (name_in registers x.kind) (returns same none) λ r.
      whether (is_base r || is_index r) (and_then next_shifts (bind _ (second_shifts x.from r) λ e. returns same (some e)))
      (refuses same _ tt)

  displacement_shifts : Shifts f P same displacement displacement
  unfolding displacement
  displacement_shifts = bind _ kind_shifts λ k. whether (is_mark "]" k) (returns same 0) (and_then expression_shifts (returns same 1))

  close_shifts : (p size segment : ℕ) (e : Option ℕ) (has : ℕ) → Shifts f P same (close p size segment e has) (close (f p) size segment e has)
  unfolding close move_record move_refusal
  close_shifts p size segment e has = and_then (expect_shifts "]" 13 refl) (bind _ passed_shifts λ t. perhaps e
      (whether (eqb has 0) (refuses same _ refl) (writes _ tt))
      λ n. writes _ tt)

  override_shifts : Shifts f P same override override
  unfolding override
  override_shifts = bind _ kind_shifts λ k. perhaps (name_in segments k) (returns same 0) λ s. and_then next_shifts (and_then (expect_shifts ":" 12 refl) (returns same (suc s)))

  memory_shifts : (size : ℕ) → Shifts f P same (memory size) (memory size)
  unfolding memory move_token
  memory_shifts size = bind _ ahead_shifts λ x. and_then next_shifts (bind _ kind_shifts λ k. whether (is_word k)
      (bind _ override_shifts λ s. bind _ registers_ahead_shifts λ e. bind _ displacement_shifts λ has. close_shifts x.from size s e has)
      (whether (is_number k) (and_then expression_shifts (close_shifts x.from size 0 none 1)) (here_shifts same 24 refl)))

  operand_sized_shifts : (n size : ℕ) → Shifts f P same (operand_sized n size) (operand_sized n size)
  unfolding operand_sized move_token move_record
  operand_sized_shifts zero size = immediate_or_far_shifts
  operand_sized_shifts (suc n) size = bind _ ahead_shifts λ x. whether (is_mark "[" x.kind) (memory_shifts size)
      (perhaps (name_in registers x.kind) (perhaps (name_in segments x.kind) (perhaps (name_in sizes x.kind) immediate_or_far_shifts
      (λ z. and_then next_shifts (operand_sized_shifts n (suc z))))
      (λ s. and_then next_shifts (writes _ tt)))
      (λ r. and_then next_shifts (writes _ tt)))

  operand_shifts : Shifts f P same operand operand
  unfolding operand
  operand_shifts = bind _ left_shifts λ n. operand_sized_shifts (suc n) 0

  pub operands_shifts : Shifts f P (move_operands f) operands operands
  unfolding operands move_token move_operands
  operands_shifts = bind _ ahead_shifts λ x. bind _ passed_shifts λ l. whether (is_line_end x.kind) (returns (move_operands f) (record { count = 0; from = l; to = l }))
      (and_then operand_shifts (bind _ kind_shifts λ k. whether (is_line_end k)
      (bind _ passed_shifts λ t. returns (move_operands f) (record { count = 1; from = x.from; to = t }))
      (whether (is_mark "," k)
      (and_then next_shifts (and_then operand_shifts (bind _ passed_shifts λ t. returns (move_operands f) (record { count = 2; from = x.from; to = t }))))
      (here_shifts (move_operands f) 11 refl))))

-- No 34 within a line.
pub record Gentle {A : Type 0} (m : Reader Line A) : Type 0 where
  pub law : (s : Line) → Stays (λ _. Unit {0}) Mild (m s)

pub next_mild : Gentle next
unfolding next step
next_mild = record { law = λ s. go s.more s }
  where
    go : (xs : List Lexeme) (s : Line) → Stays (λ _. Unit {0}) Mild (step xs s)
    go [] s = tt
    go (x ∷ xs) s = arrived (Stays (λ _. Unit {0}) Mild) x (λ n e. bad_mild x.kind n e) tt

-- What moves is gentle: the walk says so for any P.
pub gentle : {A : Type 0} {g : A → A} {m m' : Reader Line A} → ((P : Line → Type 0) → ((s : Line) → P s → Stays P Mild (next s)) → Shifts same P g m m') → Gentle m
gentle p = record { law = λ s. (p (λ _. Unit {0}) (λ l h. next_mild.law l)).keeps s tt }
