-- Data lines. The reading that takes the numbers that fit their data word, beside the one that takes any: both give the same records, of which
-- each LD is a data line's with every number's bytes, or both refuse alike, or the first refuses, with 60, a number that is too wide.
use Rattle.std.specs.Prelude.{if◌then◌else◌}
use mathlib.Core.Path.{◌≡◌, refl, sym, ap, ◌∙◌}
use mathlib.Core.Bool.{Bool, true, false, not, ◌||◌, true≢false}
use mathlib.Core.List.{List, [], ◌∷◌, ◌++◌}
use mathlib.Core.Option.{Option, none, some}
use Prim.Native.Nat.{ℕ, zero, suc, ◌+◌, ◌*◌, ◌≤◌, ◌<◌}
use Prim.Native.Char.{code}
use native.Mathlib.Omega.{arith}
use lib.Dec.{eqb, ltb}
use lib.ListN.{length, take, drop}
use borrow.Author.Tests.{eqb-true, eqb-false, ltb-true, ltb-false, leb-true, leb-false}
use Rattle.lexer.specs.Text.{maybe, is, among}
use Rattle.lexer.specs.Tokens.{token_at}
use Rattle.lexer.proofs.Branches.{either, or_split}
use Rattle.rules.specs.Lexemes.{Kind, word, number, quoted, mark, newline, blank, comment, invalid, end, bad, Lexeme, tokens_from, tokens, name_in, operation_in}
use Rattle.names.specs.Names.{directives}
use Rattle.rules.specs.Records.{Record, ST, LD, LT, field}
use Rattle.rules.specs.Reader.{Cause, at, nowhere, encoding, numbers_of, Answer, done, refused, Reader, Line, after, thence, ◌>>=◌, ◌>>◌, return, write, refuse, refused_as, arrive, step, next, ahead, kind, passed, left, refuse_here, is_line_end}
use Rattle.rules.specs.Expressions.{expression}
use Rattle.rules.specs.Operands.{is_word}
use Rattle.rules.specs.Statements.{Profile, fitting, cutting, Row, State, largest, fits, over, in_line, first_of, enter, step_row, next_row, line_end, skip, skip_lines, passing, rep, repne, instruction, constant, literal_of, literals, some_data, data_of, line, content, times, begun, statement, statements, accepted, outcome, rows, read_rows, read_from, reading}
use Rattle.rules.specs.Calls.{Result, gives, refuses, unless, too_long, foreign, ascii, lent, lent_at, listed, full_read, enough, found, one_found, one_read, statement_call}
use Rattle.rules.specs.Decode.{decode}
use Rattle.rules.specs.WellFormed.{well_formed}
use Rattle.rules.specs.Patch.{begins_line, above, line_at, behind, edited, lines_from, nearest, leaves_open, open_line, Edit, reread, patched, patch}
use Rattle.rules.specs.Grammar.{end_of, left_of}
use Rattle.rules.specs.Claims.{Each}
use Rattle.rules.specs.Data.{worth, BytesOf, Says, ends, comma, string, count, Opens, OpensIn, OpensData, DataLine, TooWide, DataKept, Alike, apart, OnlyTooWide}
use Rattle.rules.proofs.TokenKinds.{name_inside}
use Rattle.rules.proofs.Move.{Mild, NotData, Any, bad_mild, Stays, after_stays, thence_stays, Wrote, each_append, thence_wrote, arrived, same, Shifts, next_mild, next_shifts, kind_shifts, passed_shifts, here_shifts, expression_shifts, operands_shifts}
use Rattle.rules.proofs.MoveState.{in_lines, skip_lines_shifts, label_shifts, literals_mild}
use Rattle.rules.proofs.Append.{after_nil, after_after, Ending, statement_ends}
use Rattle.rules.proofs.Progress.{Ended, AllEnded}
use Rattle.rules.proofs.Shape.{directive_small}
use Rattle.rules.proofs.Cut.{tokens_finished, rows_all}
use Rattle.rules.proofs.Calls.{lent_at_gives, room_gives, accepted_call}
use Rattle.rules.proofs.Alone.{open_in, listed_open, lent_open, nearest_among}
use Rattle.rules.proofs.OneRow.{Single, single_alone, Feedless, one_row, line_at_feedless, lines_feedless}

-- The bytes of a number that fits are worth it.
pub bytes_fit : (width v : ℕ) → 1 ≤ width → width ≤ 2 → fits width v ≡ true → BytesOf width v (take width (field v))
unfolding fits largest field worth
bytes_fit zero v h i e = absurd (omega arith)
bytes_fit (suc zero) v h i e =
    let k : v ≤ 255 = leb-true v 255 e in
    record { many = refl; each = (omega arith, tt); kept = omega arith }
bytes_fit (suc (suc zero)) v h i e =
    let k : v ≤ 65535 = leb-true v 65535 e in
    record { many = refl; each = (omega arith, (omega arith, tt)); kept = omega arith }
bytes_fit (suc (suc (suc n))) v h i e = absurd (omega arith)

-- A number above the largest has no bytes, as many as its word gives.
pub no_bytes_lem : (width v : ℕ) → 1 ≤ width → width ≤ 2 → largest width < v → (bs : List ℕ) → ¬ (BytesOf width v bs)
unfolding largest worth
no_bytes_lem zero v h i j bs b = omega arith
no_bytes_lem (suc zero) v h i j [] b = omega (arith, b.many)
no_bytes_lem (suc zero) v h i j (c ∷ []) b =
    let k : 255 < v = j in
    let l : c + 256 * 0 ≡ v = b.kept in
    omega (arith, b.each.0)
no_bytes_lem (suc zero) v h i j (c ∷ d ∷ bs) b = omega (arith, b.many)
no_bytes_lem (suc (suc zero)) v h i j [] b = omega (arith, b.many)
no_bytes_lem (suc (suc zero)) v h i j (c ∷ []) b = omega (arith, b.many)
no_bytes_lem (suc (suc zero)) v h i j (c ∷ d ∷ []) b =
    let k : 65535 < v = j in
    let l : c + 256 * (d + 256 * 0) ≡ v = b.kept in
    omega (arith, b.each.0, b.each.1.0)
no_bytes_lem (suc (suc zero)) v h i j (c ∷ d ∷ e ∷ bs) b = omega (arith, b.many)
no_bytes_lem (suc (suc (suc n))) v h i j bs b = omega arith

-- Any number is taken.
abbrev any : ℕ → ℕ → Bool
any width v = true

-- What the two readings of literals come to, from the line l on, where z is the token passed last: the same, past literals that say the data;
-- the same refusal; or 60 at the first number that is too wide.
data Literals (width : ℕ) (z : Lexeme) (l : Line) : Answer Line (List ℕ) → Answer Line (List ℕ) → Type 0 where
  both : (xs : List Lexeme) {ds : List ℕ} {t : Line} → left_of l ≡ xs ++ left_of t → Says width xs ds → t.last ≡ end_of (z ∷ xs)
      → Ended t.here t.more → Literals width z l (done [] ds t) (done [] ds t)
  neither : {r : Cause} → Literals width z l (refused r) (refused r)
  wide : (xs : List Lexeme) {ds : List ℕ} (y : Lexeme) (ys : List Lexeme) {v : ℕ} {q : Answer Line (List ℕ)} → left_of l ≡ xs ++ (y ∷ ys)
      → Says width xs ds → y.kind ≡ number v → largest width < v → Literals width z l (refused (at 60 y.from y.to)) q

module _ (width : ℕ) (z : Lexeme) (l : Line) where
  -- one more token before them, which says the bytes bs
  module _ {t : Line} (e : left_of t ≡ l.more) where
    after_comma : {p q : Answer Line (List ℕ)} → l.here.kind ≡ mark (code ",") → Literals width l.here t p q → Literals width z l p q
    unfolding end_of
    after_comma k (both xs s d f i) = both (l.here ∷ xs) (ap (λ (r : List Lexeme). l.here ∷ r) (sym e ∙ s)) (comma k d) f i
    after_comma k neither = neither
    after_comma k (wide xs y ys s d n w) = wide (l.here ∷ xs) y ys (ap (λ (r : List Lexeme). l.here ∷ r) (sym e ∙ s)) (comma k d) n w

    after_bytes : (bs : List ℕ) {p q : Answer Line (List ℕ)}
        → ((xs : List Lexeme) (ds : List ℕ) → Says width xs ds → Says width (l.here ∷ xs) (bs ++ ds))
        → Literals width l.here t p q → Literals width z l (thence p (λ ds. return (bs ++ ds))) (thence q (λ ds. return (bs ++ ds)))
    unfolding end_of thence return after
    after_bytes bs k (both xs {ds} s d f i) = both (l.here ∷ xs) (ap (λ (r : List Lexeme). l.here ∷ r) (sym e ∙ s)) (k xs ds d) f i
    after_bytes bs k neither = neither
    after_bytes bs k (wide xs {ds} y ys s d n w) = wide (l.here ∷ xs) y ys (ap (λ (r : List Lexeme). l.here ∷ r) (sym e ∙ s)) (k xs ds d) n w

  -- What two readers behind `next` say, where the token ahead ends no line.
  onward : (T : Answer Line (List ℕ) → Answer Line (List ℕ) → Type 0) (R R' : Reader Line (List ℕ)) → ((r : Cause) → T (refused r) (refused r))
      → is_line_end l.here.kind ≡ false → Ended l.here l.more
      → ((t : Line) → left_of t ≡ l.more → t.last ≡ l.here.to → Ended t.here t.more → T (R t) (R' t)) → T ((next >> R) l) ((next >> R') l)
  unfolding next step thence ◌>>◌ ◌>>=◌
  onward T R R' stop i e again = go l.more e again
    where
      go : (xs : List Lexeme) → Ended l.here xs → ((t : Line) → left_of t ≡ xs → t.last ≡ l.here.to → Ended t.here t.more → T (R t) (R' t))
          → T (thence (step xs l) (λ _. R)) (thence (step xs l) (λ _. R'))
      go [] f again = absurd (true≢false (sym f ∙ i))
      go (x ∷ xs) f again = arrived (λ (p : Answer Line (Unit {0})). T (thence p (λ _. R)) (thence p (λ _. R'))) x (λ n h. stop _)
          (rw (after_nil (R _), after_nil (R' _)) (again (record { last = l.here.to; here = x; more = xs }) refl refl f))

  module _ (least : 1 ≤ width) (most : width ≤ 2) (last : l.last ≡ z.to) (ended : Ended l.here l.more) where
    nothing : Literals width z l (done [] [] l) (done [] [] l)
    unfolding end_of
    nothing = both [] refl ends last ended

    number_law : (v : ℕ) (R R' : Reader Line (List ℕ)) → l.here.kind ≡ number v
        → ((t : Line) → t.last ≡ l.here.to → Ended t.here t.more → Literals width l.here t (R t) (R' t)) → (b : Bool) → fits width v ≡ b
        → Literals width z l (if◌then◌else◌ {A = Reader Line (List ℕ)} b (next >> R >>= λ ds. return (take width (field v) ++ ds)) (refuse_here 60) l)
        ((next >> R' >>= λ ds. return (take width (field v) ++ ds)) l)
    unfolding ◌>>=◌ thence refuse_here is_line_end fits
    number_law v R R' k again true f = onward
        (λ p q. Literals width z l (thence p (λ ds. return (take width (field v) ++ ds))) (thence q (λ ds. return (take width (field v) ++ ds))))
        R R' (λ r. neither) (rw k) ended
        (λ t e i j. after_bytes e (take width (field v)) (λ xs ds d. count k (bytes_fit width v least most f) d) (again t i j))
    number_law v R R' k again false f = wide [] l.here l.more refl ends k (leb-false v (largest width) f)

    literal_law : (k : Kind) (R R' : Reader Line (List ℕ)) → l.here.kind ≡ k
        → ((t : Line) → t.last ≡ l.here.to → Ended t.here t.more → Literals width l.here t (R t) (R' t))
        → Literals width z l (literal_of fits k width R l) (literal_of any k width R' l)
    unfolding literal_of ◌>>=◌ return refuse_here is_line_end is thence
    literal_law newline R R' k again = nothing
    literal_law end R R' k again = nothing
    literal_law (mark c) R R' k again = go (eqb c (code ",")) refl
      where
        go : (b : Bool) → eqb c (code ",") ≡ b
            → Literals width z l (if◌then◌else◌ {A = Reader Line (List ℕ)} b (next >> R) (refuse_here 15) l)
            (if◌then◌else◌ {A = Reader Line (List ℕ)} b (next >> R') (refuse_here 15) l)
        go true e = onward (Literals width z l) R R' (λ r. neither) (rw k) ended
            (λ t f i j. after_comma f (k ∙ ap mark (eqb-true c (code ",") e)) (again t i j))
        go false e = neither
    literal_law (quoted true s) R R' k again = onward
        (λ p q. Literals width z l (thence p (λ ds. return (s ++ ds))) (thence q (λ ds. return (s ++ ds)))) R R' (λ r. neither) (rw k) ended
        (λ t e i j. after_bytes e s (λ xs ds d. string k d) (again t i j))
    literal_law (quoted false s) R R' k again = neither
    literal_law (number v) R R' k again = number_law v R R' k again (fits width v) refl
    literal_law (word w) R R' k again = neither
    literal_law blank R R' k again = neither
    literal_law comment R R' k again = neither
    literal_law invalid R R' k again = neither
    literal_law (bad r) R R' k again = neither

literals_law : (width : ℕ) → 1 ≤ width → width ≤ 2 → (n : ℕ) (z : Lexeme) (l : Line) → l.last ≡ z.to → Ended l.here l.more
    → Literals width z l (literals fits n width l) (literals any n width l)
unfolding literals return kind ◌>>=◌ thence
literals_law width h i zero z l e f = nothing width z l h i e f
literals_law width h i (suc n) z l e f = rw (
  after_nil (literal_of fits l.here.kind width (literals fits n width) l),
  after_nil (literal_of any l.here.kind width (literals any n width) l),
)
    (literal_law width z l h i e f l.here.kind (literals fits n width) (literals any n width) refl (λ t j k. literals_law width h i n l.here t j k))

over_wrote : {A : Type 0} (rs : List Row) (p : Answer Line A) → Wrote NotData p → Wrote NotData (over rs p)
unfolding over
over_wrote rs (done w a l) h = h
over_wrote rs (refused r) h = tt

skip_wrote : (l : Line) (rs : List Row) → Wrote NotData (skip l rs)
unfolding skip
skip_wrote l [] = tt
skip_wrote l (r ∷ rs) = either (Wrote NotData) (is_line_end l.here.kind) (arrive r.first (skip (first_of r) rs)) _
    (arrived (Wrote NotData) r.first (λ n e. tt) (skip_wrote (first_of r) rs)) tt

-- A record that, if it is the data's, is a data line's.
abbrev Backed : Profile → List Lexeme → Record → Type 0
Backed F X r = (f t : ℕ) (ds : List ℕ) → r ≡ LD f t ds → DataLine F X f t ds

backed : (F : Profile) (X : List Lexeme) (w : List Record) → Each NotData w → Each (Backed F X) w
backed F X [] h = tt
backed F X (r ∷ w) h = ((λ f t ds e. absurd (rw e at h.0)), backed F X w h.1)

-- States whose rows end; where C holds, there is one row alone.
module _ (C : Type 0) where
  record On (s : State) : Type 0 where
    ended : Ended s.line.here s.line.more
    others : AllEnded s.below
    alone : C → s.below ≡ []

  on_next : (l : Line) (rs : List Row) → On (record { line = l; below = rs }) → Stays (λ t. On (record { line = t; below = rs })) Mild (next l)
  unfolding next step is_line_end
  on_next l rs h = stepped l.more h.ended
    where
      stepped : (ys : List Lexeme) → Ended l.here ys → Stays (λ t. On (record { line = t; below = rs })) Mild (step ys l)
      stepped [] e = record { ended = refl; others = h.others; alone = h.alone }
      stepped (y ∷ ys) e = arrived (Stays (λ (t : Line). On (record { line = t; below = rs })) Mild) y (λ n i. bad_mild y.kind n i)
          (record { ended = e; others = h.others; alone = h.alone })

  on_row : (l : Line) (r : Row) (rs : List Row) → On (record { line = l; below = r ∷ rs }) → On (enter r rs)
  unfolding enter first_of
  on_row l r rs h = record { ended = h.others.0; others = h.others.1; alone = λ c. absurd (none c) }
    where
      none : C → ⊥
      none c = let e : r ∷ rs ≡ [] = h.alone c in true≢false cc

  -- A reader that both readings have: its rows still end, and it writes no data.
  record Shared {A : Type 0} (m : Reader State A) : Type 0 where
    keeps : (s : State) → On s → Stays On Any (m s)
    wrote : (s : State) → Wrote NotData (m s)

-- The answers of the two readings: alike; or 60 at a number that is too wide, where the other one, on one row alone, comes to its end or is
-- refused, but not for want of a content. F is the first of the two.
module _ (F : Profile) (X : List Lexeme) (C : Type 0) where
  data Parted {A : Type 0} : Answer State A → Answer State A → Type 0 where
    alike : {w : List Record} {a : A} {s : State} → Each (Backed F X) w → On C s → Parted (done w a s) (done w a s)
    stop : {r : Cause} → Parted (refused r) (refused r)
    wide : {f t : ℕ} {q : Answer State A} → TooWide F X f t → (C → Stays Ending Mild q) → Parted (refused (at 60 f t)) q

  -- At one state.
  record PartsAt (s : State) {A : Type 0} (m m' : Reader State A) : Type 0 where
    law : Parted (m s) (m' s)

  after_parted : {A : Type 0} (w : List Record) → Each (Backed F X) w → {p q : Answer State A} → Parted p q → Parted (after w p) (after w q)
  unfolding after
  after_parted w h (alike {w = v} i j) = alike (each_append (Backed F X) w v h i) j
  after_parted w h stop = stop
  after_parted w h (wide {q = q} i j) = wide i (λ c. after_stays Ending Mild w q (j c))

  nil_parted : {A : Type 0} {p q : Answer State A} → Parted p q → Parted (after [] p) (after [] q)
  nil_parted h = after_parted [] tt h

  -- what readers are made of; what goes on is told what was read
  shared_parted : {A B : Type 0} (k k' : A → Reader State B) (p : Answer State A)
      → ((w : List Record) (a : A) (s : State) → p ≡ done w a s → On C s → PartsAt s (k a) (k' a)) → Stays (On C) Any p → Wrote NotData p
      → Parted (thence p k) (thence p k')
  unfolding thence
  shared_parted k k' (done w a s) e h i = after_parted w (backed F X w i) (e w a s refl h).law
  shared_parted k k' (refused r) e h i = stop

  parted_parted : {A B : Type 0} (k k' : A → Reader State B) {p q : Answer State A}
      → ((w : List Record) (a : A) (s : State) → p ≡ done w a s → On C s → PartsAt s (k a) (k' a))
      → ((a : A) (s : State) → Ending s → Stays Ending Mild (k' a s)) → Parted p q → Parted (thence p k) (thence q k')
  unfolding thence
  parted_parted k k' e f (alike {w} {a} {s} h i) = after_parted w h (e w a s refl i).law
  parted_parted k k' e f stop = stop
  parted_parted k k' e f (wide {q = q} h i) = wide h (λ c. thence_stays Ending Mild k' f q (i c))

  both_parted : {A : Type 0} (p : Answer State A) → Stays (On C) Any p → Wrote NotData p → Parted p p
  both_parted (done w a s) h i = alike (backed F X w i) h
  both_parted (refused r) h i = stop

module _ {F : Profile} {X : List Lexeme} {C : Type 0} where
  shared : {A : Type 0} {s : State} {m : Reader State A} → On C s → Shared C m → PartsAt F X C s m m
  shared {s = s} {m} h p = record { law = both_parted F X C (m s) (p.keeps s h) (p.wrote s) }

  bind : {A B : Type 0} {s : State} {m : Reader State A} {k k' : A → Reader State B} → On C s → Shared C m
      → ((w : List Record) (a : A) (t : State) → m s ≡ done w a t → On C t → PartsAt F X C t (k a) (k' a)) → PartsAt F X C s (m >>= k) (m >>= k')
  unfolding ◌>>=◌
  bind {s = s} {m} {k} {k'} h p e = record { law = shared_parted F X C k k' (m s) e (p.keeps s h) (p.wrote s) }

  -- behind a record
  written : {A : Type 0} {s : State} (r : Record) → NotData r → {k k' : Reader State A} → PartsAt F X C s k k' → PartsAt F X C s (write r >> k) (write r >> k')
  unfolding write ◌>>◌ ◌>>=◌ thence
  written r i p = record { law = after_parted F X C (r ∷ []) (backed F X (r ∷ []) (i, tt)) p.law }

  -- behind what may part: nothing but what is read at the end, too
  further : {A B : Type 0} {s : State} {m m' : Reader State A} (k k' : A → Reader State B) → PartsAt F X C s m m'
      → ((w : List Record) (a : A) (t : State) → m s ≡ done w a t → On C t → PartsAt F X C t (k a) (k' a))
      → ((a : A) (t : State) → Ending t → Stays Ending Mild (k' a t)) → PartsAt F X C s (m >>= k) (m' >>= k')
  unfolding ◌>>=◌
  further k k' p e f = record { law = parted_parted F X C k k' e f p.law }

  whether : {A : Type 0} {s : State} {m m' n n' : Reader State A} (c : Bool) → (c ≡ true → PartsAt F X C s m m') → (c ≡ false → PartsAt F X C s n n')
      → PartsAt F X C s (if c then m else n) (if c then m' else n')
  whether true p q = p refl
  whether false p q = q refl

  perhaps : {A B : Type 0} {s : State} {m m' : Reader State A} {k k' : B → Reader State A} (o : Option B) → (o ≡ none → PartsAt F X C s m m')
      → ((b : B) → o ≡ some b → PartsAt F X C s (k b) (k' b)) → PartsAt F X C s (maybe o m k) (maybe o m' k')
  perhaps none p q = p refl
  perhaps (some b) p q = q b refl

module _ {C : Type 0} where
  -- the readers that both readings have
  bind_shared : {A B : Type 0} {m : Reader State A} {k : A → Reader State B} → Shared C m → ((a : A) → Shared C (k a)) → Shared C (m >>= k)
  unfolding ◌>>=◌
  bind_shared {m = m} {k} p e = record {
    keeps = λ s h. thence_stays (On C) Any k (λ a t i. (e a).keeps t i) (m s) (p.keeps s h);
    wrote = λ s. thence_wrote NotData k (λ a t. (e a).wrote t) (m s) (p.wrote s);
  }

  then_shared : {A B : Type 0} {m : Reader State A} {k : Reader State B} → Shared C m → Shared C k → Shared C (m >> k)
  unfolding ◌>>◌
  then_shared p e = bind_shared p (λ _. e)

  whether_shared : {A : Type 0} {m n : Reader State A} (c : Bool) → Shared C m → Shared C n → Shared C (if c then m else n)
  whether_shared true p q = p
  whether_shared false p q = q

  returns : {A : Type 0} (a : A) → Shared C (return a)
  unfolding return
  returns a = record { keeps = λ s h. h; wrote = λ s. tt }

  writes : (r : Record) → NotData r → Shared C (write r)
  unfolding write
  writes r i = record { keeps = λ s h. h; wrote = λ s. (i, tt) }

  denies : {A : Type 0} (r : Cause) → Shared C {A = A} (refuse r)
  unfolding refuse
  denies r = record { keeps = λ s h. tt; wrote = λ s. tt }

  within : {A : Type 0} {g : A → A} {m m' : Reader Line A} → ((Q : Line → Type 0) → ((l : Line) → Q l → Stays Q Mild (next l)) → Shifts same Q g m m')
      → Shared C (in_line m)
  unfolding in_line
  within {m = m} p = record {
    keeps = λ s h. (in_lines same (On C) (on_next C) (on_row C) p).keeps s h;
    wrote = λ s. over_wrote s.below (m s.line) ((p (λ _. Unit {0}) (λ l h. next_mild.law l)).wrote s.line);
  }

  next_row_shared : Shared C next_row
  unfolding next_row step_row
  next_row_shared = record { keeps = λ s h. stepped s.line s.below h; wrote = λ s. wrote s.below s }
    where
      stepped : (l : Line) (rs : List Row) → On C (record { line = l; below = rs }) → Stays (On C) Any (step_row rs (record { line = l; below = rs }))
      stepped l [] h = h
      stepped l (r ∷ rs) h = arrived (Stays (On C) Any) r.first (λ n e. tt) (on_row C l r rs h)

      wrote : (rs : List Row) (s : State) → Wrote NotData (step_row rs s)
      wrote [] s = tt
      wrote (r ∷ rs) s = arrived (Wrote NotData) r.first (λ n e. tt) tt

  line_end_shared : Shared C line_end
  unfolding line_end
  line_end_shared = bind_shared (within (kind_shifts same)) λ k. whether_shared (is_line_end k) next_row_shared (within (λ Q c. here_shifts same Q c same 10 refl))

  instruction_shared : (x : Lexeme) (op : ℕ) → Shared C (instruction x op)
  unfolding instruction
  instruction_shared x op = whether_shared (eqb op rep || eqb op repne) (bind_shared (within (passed_shifts same)) λ t. writes _ tt)
      (bind_shared (within (operands_shifts same)) λ o. bind_shared (within (passed_shifts same)) λ t. then_shared line_end_shared (writes _ tt))

  constant_shared : (x : Lexeme) → Shared C (constant x)
  unfolding constant
  constant_shared x = then_shared (within (expression_shifts same)) (bind_shared (within (passed_shifts same)) λ t. then_shared line_end_shared (writes _ tt))

  skip_lines_shared : Shared C skip_lines
  unfolding skip_lines
  skip_lines_shared = record {
    keeps = λ s h. (skip_lines_shifts same (On C) (on_next C) (on_row C)).keeps s h;
    wrote = λ s. skip_wrote s.line s.below;
  }

  passing_shared : {m : Reader State (Unit {0})} → Shared C m → Shared C (passing m)
  unfolding passing
  passing_shared p = then_shared (within (next_shifts same)) p

-- Where no row is below, the data end the reading, or are refused.
data_ends : (x : Lexeme) (ds : List ℕ) (l : Line) → Stays Ending Mild (some_data x ds (record { line = l; below = [] }))
unfolding some_data line_end next_row step_row in_line over passed kind refuse_here refuse write after thence ◌>>=◌ ◌>>◌
data_ends x [] l = refl
data_ends x (b ∷ bs) l = go (is_line_end l.here.kind) refl
  where
    s : State
    s = record { line = l; below = [] }

    go : (e : Bool) → is_line_end l.here.kind ≡ e → Stays Ending Mild
        (after [] (thence (after [] (if◌then◌else◌ {A = Reader State (Unit {0})} e next_row (in_line (refuse_here 10)) s))
        (λ _. write (LD x.from l.last (b ∷ bs)))))
    go true i = record { over' = i; none' = refl }
    go false i = refl

literals_end : (x : Lexeme) (rs : List Row) → rs ≡ [] → (q : Answer Line (List ℕ)) → Stays (λ _. Unit {0}) Mild q
    → Stays Ending Mild (thence (over rs q) (some_data x))
unfolding over thence
literals_end x rs e (done w ds t) h = rw e (after_stays Ending Mild w _ (data_ends x ds t))
literals_end x rs e (refused r) h = h

-- A record that is backed where the line ends.
module _ (F : Profile) (X : List Lexeme) (C : Type 0) (r : Record) (s : State) (h : On C s)
    (b : is_line_end s.line.here.kind ≡ true → Backed F X r) where
  ended_parted : Parted F X C ((line_end >> write r) s) ((line_end >> write r) s)
  unfolding line_end in_line over kind refuse_here ◌>>=◌ ◌>>◌ thence after write
  ended_parted = go (is_line_end s.line.here.kind) refl
    where
      puts : (is_line_end s.line.here.kind ≡ true) → (t : State) → On C t → PartsAt F X C t (write r) (write r)
      puts i t j = record { law = alike {w = r ∷ []} (b i, tt) j }

      go : (e : Bool) → is_line_end s.line.here.kind ≡ e
          → Parted F X C (thence (after [] (if◌then◌else◌ {A = Reader State (Unit {0})} e next_row (in_line (refuse_here 10)) s)) (λ _. write r))
          (thence (after [] (if◌then◌else◌ {A = Reader State (Unit {0})} e next_row (in_line (refuse_here 10)) s)) (λ _. write r))
      go true i = rw (after_nil (next_row s)) (bind {k = λ _. write r} {k' = λ _. write r} h next_row_shared (λ w a t e j. puts i t j)).law
      go false i = stop

-- A data line of the tokens X, whose word was x: what is left of it, and the rows below.
module _ (F : Profile) (X : List Lexeme) (C : Type 0) (x : Lexeme) (n : ℕ) (is_data : OpensData F X x n) (l : Line) (rs : List Row)
    (all : is_data.state.line.more ≡ left_of l) (others : AllEnded rs) (alone : C → rs ≡ []) where
  on_data : (t : Line) → Ended t.here t.more → On C (record { line = t; below = rs })
  on_data t i = record { ended = i; others = others; alone = alone }

  data_backed : (xs : List Lexeme) (t : Line) (ds : List ℕ) → left_of l ≡ xs ++ left_of t → Says n xs ds → t.last ≡ end_of (x ∷ xs)
      → is_line_end t.here.kind ≡ true → Backed F X (LD x.from t.last ds)
  data_backed xs t ds e s i j f t' ds' k =
      let a : x.from ≡ f = cc in
      let b : t.last ≡ t' = cc in
      let c : ds ≡ ds' = cc in
      rw (← a, ← b, ← c) (record {
        word = x;
        width = n;
        is_data = is_data;
        literals = xs;
        ending = t.here;
        rest = t.more;
        line = all ∙ e;
        says = s;
        is_ending = j;
        from = refl;
        to = i;
      })

  some_parted : (xs : List Lexeme) (t : Line) (ds : List ℕ) → left_of l ≡ xs ++ left_of t → Says n xs ds → t.last ≡ end_of (x ∷ xs) → Ended t.here t.more
      → Parted F X C (some_data x ds (record { line = t; below = rs })) (some_data x ds (record { line = t; below = rs }))
  unfolding some_data refuse in_line over passed ◌>>=◌ thence
  some_parted xs t [] e s i j = stop
  some_parted xs t (b ∷ bs) e s i j = nil_parted F X C
      (ended_parted F X C (LD x.from t.last (b ∷ bs)) (record { line = t; below = rs }) (on_data t j) (data_backed xs t (b ∷ bs) e s i))

  literals_parted : {p q : Answer Line (List ℕ)} → Literals n x l p q → Stays (λ _. Unit {0}) Mild q
      → Parted F X C (thence (over rs p) (some_data x)) (thence (over rs q) (some_data x))
  unfolding over thence
  literals_parted (both xs {ds} {t} e s i j) h = nil_parted F X C (some_parted xs t ds e s i j)
  literals_parted neither h = stop
  literals_parted (wide xs {ds} y ys {v} {q} e s i j) h = Parted.wide (record {
    word = x;
    width = n;
    is_data = is_data;
    literals = xs;
    wide = y;
    rest = ys;
    line = all ∙ e;
    said = ds;
    says = s;
    value = v;
    is_number = i;
    no_bytes = no_bytes_lem n v is_data.least is_data.most j;
    from = refl;
    to = refl;
  }) (λ c. literals_end x rs (alone c) q h)

  data_of_parted : l.last ≡ x.to → Ended l.here l.more
      → Parted F X C (data_of fits x n (record { line = l; below = rs })) (data_of any x n (record { line = l; below = rs }))
  unfolding data_of in_line over left ◌>>=◌ thence
  data_of_parted e i = nil_parted F X C (literals_parted (literals_law n is_data.least is_data.most (suc (length l.more)) x l e i)
      ((literals_mild any (suc (length l.more)) n).law l))

-- From the word of a data line on.
module _ (F : Profile) (X : List Lexeme) (C : Type 0) (s : State) (h : On C s) (n : ℕ) (is_data : OpensData F X s.line.here n)
    (same-state : is_data.state ≡ s) where
  -- behind the word
  abbrev Behind : Answer Line (Unit {0}) → Type 0
  Behind p = Parted F X C (thence (over s.below p) (λ _. data_of fits s.line.here n)) (thence (over s.below p) (λ _. data_of any s.line.here n))

  data_parted : Parted F X C (passing (data_of fits s.line.here n) s) (passing (data_of any s.line.here n) s)
  unfolding passing in_line next step ◌>>◌ ◌>>=◌ over thence
  data_parted = go s.line.more (ap (λ (u : State). u.line.more) same-state) h.ended
    where
      inside : is_line_end s.line.here.kind ≡ false
      inside = name_inside directives s.line.here.kind n is_data.named

      go : (xs : List Lexeme) → is_data.state.line.more ≡ xs → Ended s.line.here xs → Behind (step xs s.line)
      go [] e i = absurd (true≢false (sym i ∙ inside))
      go (y ∷ ys) e i =
          let l : Line = record { last = s.line.here.to; here = y; more = ys } in
          arrived Behind y (λ k j. stop)
          (nil_parted F X C (data_of_parted F X C s.line.here n is_data l s.below e h.others h.alone refl i))

-- At the end nothing is read.
statements_end : (profile : Profile) (n : ℕ) (s : State) → Ending s → Stays Ending Mild (statements profile n s)
unfolding statements return ◌>>=◌ thence after
statements_end profile zero s h = h
statements_end profile (suc n) s h = rw (statement_ends profile s h) h

onward_end : (profile : Profile) (n : ℕ) (b : Bool) (s : State) → Ending s
    → Stays Ending Mild (if◌then◌else◌ {A = Reader State (Unit {0})} b (statements profile n) (return tt) s)
unfolding return
onward_end profile n true s h = statements_end profile n s h
onward_end profile n false s h = h

-- One reader after another, and a third.
after_thence : {S A B : Type 0} (w : List Record) (p : Answer S A) (k : A → Reader S B) → thence (after w p) k ≡ after w (thence p k)
unfolding after thence
after_thence w (done v a s) k = sym (after_after w v (k a s))
after_thence w (refused r) k = refl

thence_thence : {S A B D : Type 0} (p : Answer S A) (k : A → Reader S B) (l : B → Reader S D) → thence (thence p k) l ≡ thence p (λ a s. thence (k a s) l)
unfolding thence
thence_thence (done w a s) k l = after_thence w (k a s) l
thence_thence (refused r) k l = refl

pub passing_then : (m k c : Reader State (Unit {0})) (s : State) → passing (m >> (k >> c)) s ≡ thence (passing (m >> k) s) (λ _. c)
unfolding passing ◌>>◌ ◌>>=◌ thence after
passing_then m k c s = go (in_line next s)
  where
    go : (p : Answer State (Unit {0}))
        → thence p (λ _ t. thence (m t) (λ _ u. thence (k u) (λ _. c))) ≡ thence (thence p (λ _ t. thence (m t) (λ _. k))) (λ _. c)
    go (done w a t) = ap (after w) (sym (thence_thence (m t) (λ _. k) (λ _. c))) ∙ sym (after_thence w (thence (m t) (λ _. k)) (λ _. c))
    go (refused r) = refl

-- A directive that is none of the first three is the fourth.
fourth : (k : Kind) (n : ℕ) → name_in directives k ≡ some n → ltb n 3 ≡ false → name_in directives k ≡ some 3
fourth k n e j = let i : n ≡ 3 = omega (arith, directive_small k n e, ltb-false n 3 j) in e ∙ ap some i

-- The reading.
module _ (table : List ℕ) (X : List Lexeme) (C : Type 0) where
  -- Where a `times` is read.
  record OpensTimes (n : ℕ) (s : State) : Type 0 where
    opens : OpensIn (fitting table) X n s
    no_operation : operation_in table s.line.here.kind ≡ none
    named : name_in directives s.line.here.kind ≡ some 3

  record TimesParts (n : ℕ) (m m' : Reader State (Unit {0})) : Type 0 where
    law : (s : State) → On C s → OpensTimes n s → PartsAt (fitting table) X C s m m'

  line_parts : {k : ℕ} {m m' : Reader State (Unit {0})} → TimesParts k m m' → (s : State) → On C s → OpensIn (fitting table) X k s
      → PartsAt (fitting table) X C s (line (fitting table) m) (line (cutting table) m')
  unfolding line in_line over ahead ◌>>=◌ thence
  line_parts {k} p s h o = record {
    law = nil_parted (fitting table) X C (perhaps (operation_in table s.line.here.kind) (λ a. perhaps (name_in directives s.line.here.kind)
        (λ _. whether (is_word s.line.here.kind) (λ _. shared h (passing_shared (within (λ Q c. label_shifts same Q c s.line.here))))
        (λ _. shared h (within (λ Q c. here_shifts same Q c same 20 refl))))
        (λ n e. whether (eqb n 0) (λ _. shared h (passing_shared (constant_shared s.line.here)))
        (λ i. whether (ltb n 3)
        (λ j. record {
          law = data_parted (fitting table) X C s h n (record {
            state = s;
            left = k;
            opens = o;
            ahead = refl;
            no_operation = a;
            named = e;
            least = omega (arith, eqb-false n 0 i);
            most = omega (arith, ltb-true n 3 j);
          }) refl;
        })
        (λ j. p.law s h (record { opens = o; no_operation = a; named = fourth s.line.here.kind n e j })))))
        (λ op _. shared h (passing_shared (instruction_shared s.line.here op)))).law;
  }

  content_parts : {n : ℕ} {m m' : Reader State (Unit {0})} (x : Lexeme) → TimesParts n m m' → (s : State) → On C s → OpensIn (fitting table) X n s
      → PartsAt (fitting table) X C s (content (fitting table) m x) (content (cutting table) m' x)
  unfolding content in_line over kind ◌>>◌ ◌>>=◌ thence write
  content_parts x p s h o = record {
    law = nil_parted (fitting table) X C (further (λ _. write LT) (λ _. write LT)
        (whether (is_line_end s.line.here.kind) (λ _. shared h (denies (at 34 x.from x.to))) (λ _. line_parts p s h o))
        (λ w a t e i. shared i (writes LT tt)) (λ _ t i. i)).law;
  }

  -- behind the expression of a `times`
  behind_parts : {n : ℕ} {m m' : Reader State (Unit {0})} → TimesParts n m m' → (s : State) → On C s → OpensTimes (suc n) s → PartsAt (fitting table) X C s
      (passing (in_line expression >> (skip_lines >> content (fitting table) m s.line.here)))
      (passing (in_line expression >> (skip_lines >> content (cutting table) m' s.line.here)))
  behind_parts {m = m} {m'} p s h o = record {
    law = rw (
      passing_then (in_line expression) skip_lines (content (fitting table) m s.line.here) s,
      passing_then (in_line expression) skip_lines (content (cutting table) m' s.line.here) s,
    )
        (shared_parted (fitting table) X C (λ _. content (fitting table) m s.line.here) (λ _. content (cutting table) m' s.line.here) _
        (λ w a t e i. content_parts s.line.here p t i (OpensIn.content o.opens o.no_operation o.named e))
        (within_times.keeps s h) (within_times.wrote s));
  }
    where
      within_times : Shared C (passing (in_line expression >> skip_lines))
      within_times = passing_shared (then_shared (within (expression_shifts same)) skip_lines_shared)

  times_parts : (n : ℕ) → TimesParts n (times (fitting table) n) (times (cutting table) n)
  unfolding times in_line over ahead ◌>>=◌ thence
  times_parts zero = record { law = λ s h o. shared h (within (λ Q c. here_shifts same Q c same 5 refl)) }
  times_parts (suc n) = record { law = λ s h o. record { law = nil_parted (fitting table) X C (behind_parts (times_parts n) s h o).law } }

  begun_parts : (s : State) → On C s → Opens (fitting table) X s → PartsAt (fitting table) X C s (begun (fitting table)) (begun (cutting table))
  unfolding begun in_line over ahead ◌>>◌ ◌>>=◌ thence return
  begun_parts s h o = record {
    law = nil_parted (fitting table) X C (whether (is_line_end s.line.here.kind) (λ _. shared h (returns false))
        (λ _. further _ _ (written (ST s.line.here.from) tt (line_parts (times_parts 16) s h (OpensIn.statement o)))
        (λ w a t e i. shared i (returns true)) (λ _ t i. i))).law;
  }

  -- Past empty lines a statement opens.
  abbrev Before : State → Type 0
  Before s = (w : List Record) (u : State) → skip_lines s ≡ done w tt u → Opens (fitting table) X u

  statement_parts : (s : State) → On C s → Before s → PartsAt (fitting table) X C s (statement (fitting table)) (statement (cutting table))
  unfolding statement ◌>>◌
  statement_parts s h b = bind h skip_lines_shared (λ w a u e i. begun_parts u i (b w u e))

  onward_parts : (n : ℕ) → ((t : State) → On C t → Before t → PartsAt (fitting table) X C t (statements (fitting table) n) (statements (cutting table) n))
      → (u : State) → Opens (fitting table) X u → (w : List Record) (b : Bool) (t : State) → begun (fitting table) u ≡ done w b t → On C t
      → PartsAt (fitting table) X C t (if b then (statements (fitting table) n) else (return tt)) (if b then (statements (cutting table) n) else (return tt))
  onward_parts n again u o w true t e h = again t h (λ w' v f. Opens.next o e f)
  onward_parts n again u o w false t e h = shared h (returns tt)

  statements_parts : (n : ℕ) (s : State) → On C s → Before s → PartsAt (fitting table) X C s (statements (fitting table) n) (statements (cutting table) n)
  unfolding statements statement ◌>>◌ ◌>>=◌
  statements_parts zero s h b = shared h (returns tt)
  statements_parts (suc n) s h b = record {
    law = rw (
      thence_thence (skip_lines s) (λ _. begun (fitting table)) (λ more. if more then (statements (fitting table) n) else (return tt)),
      thence_thence (skip_lines s) (λ _. begun (cutting table)) (λ more. if more then (statements (cutting table) n) else (return tt)),
    ) (bind h skip_lines_shared (λ w a u e i. further _ _ (begun_parts u i (b w u e)) (onward_parts n (statements_parts n) u (b w u e))
        (λ more t j. onward_end (cutting table) n more t j))).law;
  }

-- The tokens of bytes, read from their first row on.
module _ (p : ℕ) (s : List ℕ) where
  abbrev Xs : List Lexeme
  Xs = tokens_from p 0 s

  abbrev One : Type 0
  One = Single (rows Xs)

  start_on : (r : Row) (rs : List Row) → rows Xs ≡ r ∷ rs → On One (enter r rs)
  unfolding enter first_of
  start_on r rs e =
      let all : AllEnded (r ∷ rs) = rw e at (rows_all Xs (tokens_finished token_at p 0 s)) in
      record {
        ended = all.0;
        others = all.1;
        alone = λ c. single_alone r rs (rw e at c);
      }

  -- The first token, which is refused or read.
  first_parted : {A : Type 0} (F : Profile) (r : Row) {p q : Answer State A} → (refused_as r.first.kind ≡ none → Parted F Xs One p q)
      → Parted F Xs One (arrive r.first p) (arrive r.first q)
  unfolding arrive
  first_parted F r {p} {q} h = go (refused_as r.first.kind) refl
    where
      go : (o : Option ℕ) → refused_as r.first.kind ≡ o → Parted F Xs One (maybe o p (λ n. refused (at n r.first.from r.first.to)))
          (maybe o q (λ n. refused (at n r.first.from r.first.to)))
      go none e = h e
      go (some n) e = stop

  module _ (table : List ℕ) where
    read_parted : (n : ℕ) → Parted (fitting table) Xs One (read_rows (fitting table) n (rows Xs)) (read_rows (cutting table) n (rows Xs))
    unfolding read_rows
    read_parted n = go (rows Xs) refl
      where
        go : (l : List Row) → rows Xs ≡ l → Parted (fitting table) Xs One (read_rows (fitting table) n l) (read_rows (cutting table) n l)
        go [] e = stop
        go (r ∷ rs) e = first_parted (fitting table) r (λ f. (statements_parts table Xs One n (enter r rs) (start_on r rs e) (λ w u i. Opens.first e f i)).law)

    one_parted : Parted (fitting table) Xs One (one_read (fitting table) (rows Xs)) (one_read (cutting table) (rows Xs))
    unfolding one_read
    one_parted = go (rows Xs) refl
      where
        go : (l : List Row) → rows Xs ≡ l → Parted (fitting table) Xs One (one_read (fitting table) l) (one_read (cutting table) l)
        go [] e = stop
        go (r ∷ rs) e = first_parted (fitting table) r (λ f. (statement_parts table Xs One (enter r rs) (start_on r rs e) (λ w u i. Opens.first e f i)).law)

-- The calls, around the readings.
module _ {F : Profile} {X : List Lexeme} where
  unless_alike : {A : Type 0} (b : Bool) (r : Cause) {x y : Result A} → Alike F X x y → Alike F X (unless b r x) (unless b r y)
  unfolding unless
  unless_alike true r h = Alike.same
  unless_alike false r h = h

  ascii_alike : {A : Type 0} (s : List ℕ) {x y : Result A} → Alike F X x y → Alike F X (ascii s x) (ascii s y)
  unfolding ascii
  ascii_alike s {x} {y} h = go (foreign 0 s)
    where
      go : (o : Option ℕ) → Alike F X (maybe o x (λ p. refuses (at 2 p (suc p)))) (maybe o y (λ p. refuses (at 2 p (suc p))))
      go none = h
      go (some p) = Alike.same

  lent_alike : {A : Type 0} (s : List ℕ) {x y : Result A} → Alike F X x y → Alike F X (lent s x) (lent s y)
  unfolding lent
  lent_alike s h = unless_alike (too_long s) (nowhere 1) (ascii_alike s h)

  lent_at_alike : {A : Type 0} (s : List ℕ) (p : ℕ) {x y : Result A} → Alike F X x y → Alike F X (lent_at s p x) (lent_at s p y)
  unfolding lent_at
  lent_at_alike s p h = unless_alike (ltb (length s) p) (nowhere 42) (lent_alike s h)

  module _ {C : Type 0} where
    listed_alike : (room : ℕ) {p q : Answer State (Unit {0})} → Parted F X C p q → Alike F X (listed room (outcome p)) (listed room (outcome q))
    unfolding outcome listed
    listed_alike room (alike h i) = Alike.same
    listed_alike room stop = Alike.same
    listed_alike room (wide h i) = apart h

    found_alike : (room : ℕ) {p q : Answer State Bool} → Parted F X C p q → Alike F X (one_found room p) (one_found room q)
    unfolding one_found
    found_alike room (alike h i) = Alike.same
    found_alike room stop = Alike.same
    found_alike room (wide h i) = apart h

    reread_alike : (old : List ℕ) (rs : List Record) (a : ℕ) (new : List ℕ) (room_s room_l : ℕ) {p q : Answer State (Unit {0})} → Parted F X C p q
        → Alike F X (reread old rs a new room_s room_l (outcome p)) (reread old rs a new room_s room_l (outcome q))
    unfolding outcome reread
    reread_alike old rs a new room_s room_l (alike h i) = Alike.same
    reread_alike old rs a new room_s room_l stop = Alike.same
    reread_alike old rs a new room_s room_l (wide h i) = apart h

    -- the records of what is accepted
    read_kept : {p q : Answer State (Unit {0})} → Parted F X C p q → (w : List Record) → outcome p ≡ accepted w → Each (Backed F X) w
    unfolding outcome
    read_kept (alike {w = v} h i) w e = let k : v ≡ w = cc in rw k at h
    read_kept stop w e = absurd (true≢false cc)
    read_kept (wide h i) w e = absurd (true≢false cc)

    found_kept : (room : ℕ) {p q : Answer State Bool} → Parted F X C p q → (w : List Record) (n : ℕ) → one_found room p ≡ gives (found w n) → Each (Backed F X) w
    unfolding one_found
    found_kept room (alike {w = v} {a = true} {s} h i) w n e =
        let f : found v s.line.here.from ≡ found w n = (room_gives room v (found v s.line.here.from) (found w n) e).1 in
        let k : v ≡ w = cc in
        rw k at h
    found_kept room (alike {a = false} h i) w n e = absurd (true≢false cc)
    found_kept room stop w n e = absurd (true≢false cc)
    found_kept room (wide h i) w n e = absurd (true≢false cc)

  picked : (before rest : List Record) (f t : ℕ) (ds : List ℕ) → Each (Backed F X) (before ++ (LD f t ds ∷ rest)) → DataLine F X f t ds
  picked [] rest f t ds h = h.0 f t ds refl
  picked (r ∷ rs) rest f t ds h = picked rs rest f t ds h.1

-- THE DATA ARE WHAT THE SOURCE SAYS.
pub data_kept : (table : List ℕ) → DataKept table
unfolding tokens reading read_from statement_call
data_kept table = record {
  of_full_read = λ source room before rest f t ds h. picked before rest f t ds
      (read_kept (read_parted 0 source table (suc (length source))) _ (accepted_call (fitting table) source room (before ++ (LD f t ds ∷ rest)) h).reads);
  of_statement = λ source p room ahead before rest f t ds h. picked before rest f t ds
      (found_kept room (one_parted p (drop p source) table) _ ahead (lent_at_gives source p _ _ h).1.given);
}

-- A line alone: both readings leave a `times` open, or neither does.
mild_closed : (r : Cause) → Mild r → eqb (numbers_of r).number 34 ≡ false
mild_closed (at n f t) h = (or_split (eqb n 34) (eqb n 0) h).0
mild_closed (nowhere n) h = (or_split (eqb n 34) (eqb n 0) h).0
mild_closed (encoding f t a b) h = refl

ending_closed : (q : Answer State (Unit {0})) → Stays Ending Mild q → open_in (outcome q) ≡ false
unfolding outcome open_in
ending_closed (done w a s) h = refl
ending_closed (refused r) h = mild_closed r h

open_parted : {F : Profile} {X : List Lexeme} {C : Type 0} {p q : Answer State (Unit {0})} → C → Parted F X C p q → open_in (outcome p) ≡ open_in (outcome q)
unfolding outcome open_in
open_parted c (alike h i) = refl
open_parted c stop = refl
open_parted c (wide {q = q} h i) = sym (ending_closed q (i c))

module _ (table : List ℕ) where
  open_alike : (l : List ℕ) → Feedless l → leaves_open (fitting table) l ≡ leaves_open (cutting table) l
  unfolding leaves_open full_read reading read_from
  open_alike l h = lent_open l _ _
      (listed_open (enough l) _ ∙ open_parted (one_row 0 0 l h) (read_parted 0 l table (suc (length l))) ∙ sym (listed_open (enough l) _))

  near_alike : (o : Option (List ℕ)) → ((l : List ℕ) → o ≡ some l → Feedless l)
      → maybe o false (leaves_open (fitting table)) ≡ maybe o false (leaves_open (cutting table))
  near_alike none h = refl
  near_alike (some l) h = open_alike l (h l refl)

  open_line_alike : (s : List ℕ) (a : ℕ) (new : List ℕ) → Feedless new → open_line (fitting table) s a new ≡ open_line (cutting table) s a new
  unfolding open_line among
  open_line_alike s a new h = rw (
    open_alike (line_at s a) (line_at_feedless s a),
    open_alike new h,
    near_alike (nearest (lines_from [] (above s a)))
        (λ l e. nearest_among Feedless (lines_from [] (above s a)) l (lines_feedless [] (above s a) refl) e),
  )

  patched_alike : (s : List ℕ) (o : Option (List Record)) (a : ℕ) (new : List ℕ) (room_s room_l : ℕ) → Feedless new
      → Alike (fitting table) (tokens_from a 0 (new ++ take 1 (behind s a)))
      (patched (fitting table) s o a new room_s room_l) (patched (cutting table) s o a new room_s room_l)
  unfolding patched read_from
  patched_alike s none a new room_s room_l h = Alike.same
  patched_alike s (some rs) a new room_s room_l h = rw (open_line_alike s a new h) (unless_alike (not (well_formed (length s) rs)) (nowhere 41)
      (unless_alike (open_line (cutting table) s a new) (nowhere 40)
      (reread_alike s rs a new room_s room_l (read_parted a (new ++ take 1 (behind s a)) table _))))

  feed_alike : {F : Profile} (X : List Lexeme) (new : List ℕ) {x y : Result Edit} → (Feedless new → Alike F X x y)
      → Alike F X (unless (among 10 new) (nowhere 43) x) (unless (among 10 new) (nowhere 43) y)
  unfolding unless
  feed_alike {F} X new {x} {y} h = go (among 10 new) refl
    where
      go : (b : Bool) → among 10 new ≡ b → Alike F X (unless b (nowhere 43) x) (unless b (nowhere 43) y)
      go true e = Alike.same
      go false e = h e

-- ONLY SOURCES WITH SUCH A NUMBER IN A DATA LINE CHANGE.
pub only_too_wide : (table : List ℕ) → OnlyTooWide table
unfolding tokens full_read reading read_from statement_call patch
only_too_wide table = record {
  of_full_read = λ source room. lent_alike source (listed_alike room (read_parted 0 source table (suc (length source))));
  of_statement = λ source p room. lent_at_alike source p (found_alike room (one_parted p (drop p source) table));
  of_patch = λ old bytes a new room_s room_l. unless_alike (not (begins_line old a)) (nowhere 42)
      (feed_alike table _ new (λ h. unless_alike (too_long old || too_long (edited old a new)) (nowhere 1)
      (ascii_alike (edited old a new) (patched_alike table old (decode bytes) a new room_s room_l h))));
}
