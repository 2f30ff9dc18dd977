-- A source of whole lines A and what follows. What A's reading and that of A ++ B say of one another.
use Rattle.std.specs.Prelude.{if◌then◌else◌}
use mathlib.Core.Path.{◌≡◌, refl, sym, ap, ap₂, ◌∙◌}
use mathlib.Core.Bool.{Bool, true, false, ◌&&◌, true≢false, false≢true}
use mathlib.Core.List.{List, [], ◌∷◌, ◌++◌, map, append-nil}
use mathlib.Core.Option.{Option, none, some}
use mathlib.Core.Logic.{◌⊎◌, inl, inr}
use Prim.Native.Nat.{ℕ, zero, suc, pred, ◌+◌, ◌≤◌, zero-le}
use native.Mathlib.Omega.{arith}
use lib.Dec.{eqb}
use lib.ListN.{length}
use Rattle.lexer.specs.Text.{maybe}
use Rattle.lexer.specs.Tokens.{token_at, size_of}
use Rattle.lexer.specs.declared.TokenRead.{TokenRead}
use Rattle.rules.specs.Lexemes.{newline, Lexeme, is_gap, kind_of, put, lexeme, tokens_by, tokens_from}
use Rattle.rules.specs.Records.{Record, ST, LT, move_record}
use Rattle.rules.specs.Reader.{Cause, at, nowhere, encoding, Answer, done, refused, Reader, Line, after, thence, ◌>>=◌, ◌>>◌, return, write, refused_as, arrive, ahead, kind, is_line_end}
use Rattle.rules.specs.Statements.{Profile, Row, State, over, in_line, first_of, enter, rows, push, skip, skip_lines, line, content, times, begun, statement, statements, read_rows, accepted, refusal, outcome, read_from}
use Rattle.rules.proofs.Move.{same, carry, after_carry, Mild, move_token, move_refusal, move_line}
use Rattle.rules.proofs.MoveState.{move_row, move_state, statement_shifts, unit_state, unit_row}
use Rattle.lexer.proofs.Branches.{and_split}
use Rattle.lexer.proofs.TokensLine.{Lines}
use Rattle.rules.proofs.Lexemes.{tokens_within, tokens_append, tokens_shift, lines_ended, put_ended, erase, end_token, tokens_end, Ended as Finished}
use Rattle.rules.proofs.Rows.{Some, rows_some, rows_append, rows_move}
use Rattle.rules.proofs.Depth.{Deep, equal, limit, line_deep, times_deep}
use Rattle.rules.proofs.Append.{after_nil, Reads, Continues, continues, Begins, fine, broken, bare, empty, Ending, end_fine, arrive_fine, begun_ends, statement_ends, enter_ends, closing, coming, Pending, Follows, follows}
use Rattle.rules.proofs.Progress.{AllEnded, total, size, Below, enough, only}

-- A reading that lacks the content of a `times`.
abbrev pub Lack : Cause → Type 0
Lack (at n f t) = eqb n 34 ≡ true
Lack (nowhere n) = ⊥
Lack (encoding f t a b) = ⊥

abbrev pub IsOpen : {S A : Type 0} → Answer S A → Type 0
IsOpen (done w a s) = ⊥
IsOpen (refused r) = Lack r

pub not_both : (r : Cause) → Mild r → Lack r → ⊥
not_both (at n f t) m l = true≢false (rw l at m)
not_both (nowhere n) m l = l
not_both (encoding f t a b) m l = l

pub open_after : {S A : Type 0} (w : List Record) (q : Answer S A) → IsOpen (after w q) → IsOpen q
unfolding after
open_after w (done v a s) h = h
open_after w (refused r) h = h

after_open : {S A : Type 0} (w : List Record) (q : Answer S A) → IsOpen q → IsOpen (after w q)
unfolding after
after_open w (done v a s) h = h
after_open w (refused r) h = h

-- rows without tokens but line ends
unfoldable pub blank_rows : List Row → Bool
blank_rows [] = true
blank_rows (r ∷ rs) = is_line_end r.first.kind && blank_rows rs

-- past empty lines one is at the end, with no row that has a token, or at a token
pub arrive_done : {A : Type 0} (x : Lexeme) (p : Answer State A) {w : List Record} {a : A} {t : State} → arrive x p ≡ done w a t → p ≡ done w a t
unfolding arrive
arrive_done x p {w} {a} {t} h = go (refused_as x.kind) h
  where
    go : (o : Option ℕ) → maybe o p (λ n. refused (at n x.from x.to)) ≡ done w a t → p ≡ done w a t
    go none e = e
    go (some n) e = absurd (true≢false cc)

pub skip_blank : (l : Line) (rs : List Row) {w : List Record} {t : State} → skip l rs ≡ done w tt t → is_line_end t.line.here.kind ≡ true → is_line_end l.here.kind && blank_rows rs ≡ true
unfolding skip blank_rows first_of
skip_blank l [] {w} {t} h e =
    let y : record { line = l; below = [] } ≡ t = cc in
    let z : is_line_end l.here.kind ≡ true = ap (λ (u : State). is_line_end u.line.here.kind) y ∙ e in
    rw z
skip_blank l (r ∷ rs) {w} {t} h e = go (is_line_end l.here.kind) refl h (λ j. skip_blank (first_of r) rs j e)
  where
    go : (b : Bool) → is_line_end l.here.kind ≡ b → ◌≡◌ {A = Answer State (Unit {0})} (if b then (arrive r.first (skip (first_of r) rs)) else (done [] tt (record { line = l; below = r ∷ rs }))) (done w tt t)
        → (skip (first_of r) rs ≡ done w tt t → is_line_end r.first.kind && blank_rows rs ≡ true) → b && (is_line_end r.first.kind && blank_rows rs) ≡ true
    go true i j again = again (arrive_done r.first (skip (first_of r) rs) j)
    go false i j again =
        let y : record { line = l; below = r ∷ rs } ≡ t = cc in
        sym i ∙ ap (λ (u : State). is_line_end u.line.here.kind) y ∙ e

-- The rows of the bytes from a place on, and what they give.
unfoldable pub rows_from : ℕ → List ℕ → List Row
rows_from p s = rows (tokens_from p 0 s)

-- whatever the rule of tokens
pub tokens_finished : (rule : List ℕ → TokenRead) (p k : ℕ) (s : List ℕ) → Finished (tokens_by rule p k s)
unfolding tokens_by is_line_end
tokens_finished rule p k [] = refl
tokens_finished rule p (suc k) (c ∷ cs) = tokens_finished rule (suc p) k cs
tokens_finished rule p zero (c ∷ cs) = put_ended p (rule (c ∷ cs)) (c ∷ cs) _ (tokens_finished rule (suc p) (pred (size_of (rule (c ∷ cs)))) cs)

put_count : (p : ℕ) (t : TokenRead) (s : List ℕ) (xs : List Lexeme) → length (put p t s xs) ≤ suc (length xs)
unfolding put
put_count p t s xs = go (is_gap (kind_of t s))
  where
    go : (b : Bool) → length (if b then xs else (lexeme p t s ∷ xs)) ≤ suc (length xs)
    go true = omega arith
    go false = omega arith

pub tokens_count : (rule : List ℕ → TokenRead) (p k : ℕ) (s : List ℕ) → length (tokens_by rule p k s) ≤ suc (length s)
unfolding tokens_by
tokens_count rule p k [] = omega arith
tokens_count rule p (suc k) (c ∷ cs) = omega (arith, tokens_count rule (suc p) k cs)
tokens_count rule p zero (c ∷ cs) =
    let k : ℕ = pred (size_of (rule (c ∷ cs))) in
    omega (arith, put_count p (rule (c ∷ cs)) (c ∷ cs) (tokens_by rule (suc p) k cs), tokens_count rule (suc p) k cs)

push_total : (x : Lexeme) (l : List Row) → total (push x l) ≡ suc (total l)
unfolding push
push_total x [] = omega arith
push_total x (r ∷ rs) = omega arith

pub rows_total : (xs : List Lexeme) → total (rows xs) ≡ length xs
unfolding rows
rows_total [] = refl
rows_total (x ∷ xs) = go (is_line_end x.kind) (rows_total xs)
  where
    go : (b : Bool) → total (rows xs) ≡ length xs → total (if b then (record { first = x; more = [] } ∷ rows xs) else push x (rows xs)) ≡ suc (length xs)
    go true h = omega arith
    go false h = omega (arith, push_total x (rows xs))

push_all : (x : Lexeme) (l : List Row) → Some l → AllEnded l → AllEnded (push x l)
unfolding push
push_all x [] (r, rs, e) h = absurd (true≢false cc)
push_all x (r ∷ rs) e h = h

pub rows_all : (xs : List Lexeme) → Finished xs → AllEnded (rows xs)
unfolding rows
rows_all [] h = absurd h
rows_all (x ∷ []) h = rw h (h, tt)
rows_all (x ∷ y ∷ zs) h = go (is_line_end x.kind) refl (rows_all (y ∷ zs) h)
  where
    go : (b : Bool) → is_line_end x.kind ≡ b → AllEnded (rows (y ∷ zs)) → AllEnded (if b then (record { first = x; more = [] } ∷ rows (y ∷ zs)) else push x (rows (y ∷ zs)))
    go true i j = (i, j)
    go false i j = push_all x (rows (y ∷ zs)) (rows_some y zs) j

finished_some : (xs : List Lexeme) → Finished xs → Some (rows xs)
finished_some [] h = absurd h
finished_some (x ∷ xs) h = rows_some x xs

pub some_row : (p : ℕ) (s : List ℕ) → Some (rows_from p s)
unfolding rows_from
some_row p s = finished_some (tokens_from p 0 s) (tokens_finished token_at p 0 s)

start_below : (n : ℕ) (r : Row) (rs : List Row) → AllEnded (r ∷ rs) → total (r ∷ rs) ≤ suc n → Below n (enter r rs)
unfolding enter first_of size
start_below n r rs a h = record { few = omega arith; ended = a.0; others = a.1 }

unfoldable pub end_row : ℕ → Row
end_row n = record { first = record { from = n; to = n; kind = newline }; more = [] }

end_end : (n : ℕ) → is_line_end (end_row n).first.kind ≡ true
unfolding end_row is_line_end
end_end n = refl

end_rows : (k : ℕ) → rows_from k [] ≡ end_row k ∷ []
unfolding rows_from tokens_by rows is_line_end end_row
end_rows k = refl

module _ (p c : ℕ) (cs : List ℕ) (whole : Lines (c ∷ cs)) where
  shown : Finished (tokens_within p 0 (c ∷ cs))
  shown = lines_ended p 0 c cs whole zero-le

  rows_before : (B : List ℕ) → rows_from p ((c ∷ cs) ++ B) ≡ rows (tokens_within p 0 (c ∷ cs)) ++ rows_from (p + length (c ∷ cs)) B
  unfolding rows_from
  rows_before B = ap rows (tokens_append p 0 (c ∷ cs) B whole zero-le) ∙ rows_append (tokens_within p 0 (c ∷ cs)) (tokens_from (p + length (c ∷ cs)) 0 B) shown

  rows_alone : rows_from p (c ∷ cs) ≡ rows (tokens_within p 0 (c ∷ cs)) ++ (end_row (p + length (c ∷ cs)) ∷ [])
  rows_alone = ap (rows_from p) (sym (append-nil (c ∷ cs))) ∙ rows_before [] ∙ ap (λ (l : List Row). rows (tokens_within p 0 (c ∷ cs)) ++ l) (end_rows (p + length (c ∷ cs)))

-- SHIFT.
module _ (f : ℕ → ℕ) where
  unfoldable pub moved : {A : Type 0} → Answer State A → Answer State A
  moved p = carry (move_state f) (move_record f) (move_refusal f) same p

  pub open_moved : {A : Type 0} (p : Answer State A) → IsOpen p → IsOpen (moved p)
  unfolding moved carry move_refusal
  open_moved (done w a s) h = h
  open_moved (refused (at n p q)) h = h
  open_moved (refused (nowhere n)) h = h
  open_moved (refused (encoding p q a b)) h = h

  pub moved_open : {A : Type 0} (p : Answer State A) → IsOpen (moved p) → IsOpen p
  unfolding moved carry move_refusal
  moved_open (done w a s) h = h
  moved_open (refused (at n p q)) h = h
  moved_open (refused (nowhere n)) h = h
  moved_open (refused (encoding p q a b)) h = h

  blank_moved : (l : List Row) → blank_rows (map (move_row f) l) ≡ blank_rows l
  unfolding blank_rows move_row move_token
  blank_moved [] = refl
  blank_moved (r ∷ rs) = ap (λ (b : Bool). is_line_end r.first.kind && b) (blank_moved rs)

  finished_moved : (xs : List Lexeme) → Finished xs → Finished (map (move_token f) xs)
  unfolding move_token
  finished_moved [] h = h
  finished_moved (x ∷ []) h = h
  finished_moved (x ∷ y ∷ zs) h = finished_moved (y ∷ zs) h

pub rows_shift : (q : ℕ) (s : List ℕ) → rows_from q s ≡ map (move_row (λ n. q + n)) (rows_from 0 s)
unfolding rows_from
rows_shift q s =
    let e : q + 0 ≡ q = omega arith in
    ap (λ (k : ℕ). rows (tokens_from k 0 s)) (sym e) ∙ ap rows (tokens_shift q 0 0 s) ∙ rows_move (λ n. q + n) (tokens_from 0 0 s)

-- A line with its line feed, and alone.
unfoldable pub line_feed : List ℕ
line_feed = 10 ∷ []

end_row_lem : rows (end_token ∷ []) ≡ end_row 0 ∷ []
unfolding rows is_line_end end_row
end_row_lem = refl

abbrev zeros : List Row → List Row
zeros l = map (move_row (λ _. 0)) l

rows_end : (p : ℕ) (s : List ℕ) → zeros (rows_from p (s ++ line_feed)) ≡ zeros (rows_from p s) ++ (end_row 0 ∷ [])
unfolding rows_from line_feed
rows_end p s = sym (rows_move (λ _. 0) (tokens_from p 0 (s ++ (10 ∷ [])))) ∙ ap rows (tokens_end p 0 s zero-le)
    ∙ rows_append (erase (tokens_from p 0 s)) (end_token ∷ []) (finished_moved (λ _. 0) (tokens_from p 0 s) (tokens_finished token_at p 0 s))
    ∙ ap₂ (λ (k k' : List Row). k ++ k') (rows_move (λ _. 0) (tokens_from p 0 s)) end_row_lem

blank_append : (l m : List Row) → blank_rows (l ++ m) ≡ blank_rows l && blank_rows m
unfolding blank_rows
blank_append [] m = refl
blank_append (r ∷ rs) m = go (is_line_end r.first.kind) (blank_append rs m)
  where
    go : (b : Bool) → blank_rows (rs ++ m) ≡ blank_rows rs && blank_rows m → b && blank_rows (rs ++ m) ≡ (b && blank_rows rs) && blank_rows m
    go true h = h
    go false h = refl

and-true : (b : Bool) → b && true ≡ b
and-true true = refl
and-true false = refl

blank_last : (n : ℕ) → blank_rows (end_row n ∷ []) ≡ true
unfolding blank_rows end_row is_line_end
blank_last n = refl

-- a line has only blanks and a comment
pub blank_end : (p : ℕ) (s : List ℕ) → blank_rows (rows_from p (s ++ line_feed)) ≡ blank_rows (rows_from 0 s)
blank_end p s = sym (blank_moved (λ _. 0) (rows_from p (s ++ line_feed))) ∙ ap blank_rows (rows_end p s) ∙ blank_append (zeros (rows_from p s)) (end_row 0 ∷ [])
    ∙ ap (λ (b : Bool). blank_rows (zeros (rows_from p s)) && b) (blank_last 0) ∙ and-true (blank_rows (zeros (rows_from p s))) ∙ blank_moved (λ _. 0) (rows_from p s)
    ∙ ap blank_rows (rows_shift p s) ∙ blank_moved (λ n. p + n) (rows_from 0 s)

skip_step : (l : Line) (r : Row) (rs : List Row) → is_line_end l.here.kind ≡ true → skip l (r ∷ rs) ≡ arrive r.first (skip (first_of r) rs)
unfolding skip
skip_step l r rs h = rw h

-- Where no row has a token, nothing is read.
pub skip_over : (l : Line) (rs : List Row) → is_line_end l.here.kind && blank_rows rs ≡ true → (u : State) × (skip l rs ≡ done [] tt u) × Ending u
unfolding skip blank_rows first_of
skip_over l [] h = (record { line = l; below = [] }, refl, record { over' = sym (and-true (is_line_end l.here.kind)) ∙ h; none' = refl })
skip_over l (r ∷ rs) h =
    let (i, j) = and_split (is_line_end l.here.kind) (is_line_end r.first.kind && blank_rows rs) h in
    let (k, _) = and_split (is_line_end r.first.kind) (blank_rows rs) j in
    let (u, e, n) = skip_over (first_of r) rs j in
    (u, skip_step l r rs i ∙ arrive_fine r.first (skip (first_of r) rs) (end_fine r.first.kind k) ∙ e, n)

-- whether whole lines and what follows have tokens
pub blank_split : (p : ℕ) (A B : List ℕ) → Lines A → blank_rows (rows_from p (A ++ B)) ≡ blank_rows (rows_from p A) && blank_rows (rows_from (p + length A) B)
blank_split p [] B l =
    let i : p + 0 ≡ p = omega arith in
    rw (end_rows p, blank_last p, i)
blank_split p (c ∷ cs) B l =
    let n : ℕ = p + length (c ∷ cs) in
    let u : List Row = rows (tokens_within p 0 (c ∷ cs)) in
    ap blank_rows (rows_before p c cs l B) ∙ blank_append u (rows_from n B)
    ∙ ap (λ (b : Bool). b && blank_rows (rows_from n B)) (sym (ap blank_rows (rows_alone p c cs l) ∙ blank_append u (end_row n ∷ []) ∙ ap (λ (b : Bool). blank_rows u && b) (blank_last n) ∙ and-true (blank_rows u)))

run_accepted : (a : Answer State (Unit {0})) (w : List Record) → outcome a ≡ accepted w → (u : State) × (a ≡ done w tt u)
unfolding outcome
run_accepted (done v x u) w e = let z : v ≡ w = cc in (u, ap (λ (l : List Record). done l tt u) z)
run_accepted (refused r) w e = absurd (true≢false cc)

run_refused : (a : Answer State (Unit {0})) (r : Cause) → outcome a ≡ refusal r → a ≡ refused r
unfolding outcome
run_refused (done v x u) r e = absurd (true≢false cc)
run_refused (refused q) r e = cc

module _ (profile : Profile) where
  -- what comes of equal answers
  refused_open : {r : Cause} {q : Answer State (Unit {0})} → Continues profile (refused r) q → IsOpen q → Lack r
  refused_open Continues.fail h = h

  open_refused : {r : Cause} {q : Answer State (Unit {0})} → Continues profile (refused r) q → Lack r → IsOpen q
  open_refused Continues.fail h = h

  true_open : {w v : List Record} {t : State} {q q' : Answer State (Unit {0})} → Continues profile (done w true t) q → Continues profile (done v true t) q' → IsOpen q → IsOpen q'
  true_open {w} {v} (Continues.go {p = p} g) (Continues.go {p = p'} g') h = after_open v p' (rw (only profile g g') at (open_after w p h))

  false_open : {w : List Record} {t : State} {q : Answer State (Unit {0})} → Continues profile (done w false t) q → IsOpen q → ⊥
  false_open Continues.stop h = h

  -- a statement as a content, and as a statement
  core : {P Q : Answer State (Unit {0})} → Deep P Q → (w w0 z : List Record) (v : Bool) (x : ℕ) {a c : Answer State Bool} → a ≡ closing w z v (after w0 (after [] (thence P (λ _. write LT))))
      → c ≡ after w0 (after [] (thence (after (ST x ∷ []) Q) (λ _. return true))) → {q q' : Answer State (Unit {0})} → Continues profile a q → Continues profile c q' → IsOpen q → IsOpen q'
  unfolding closing thence after write return
  core (limit {f} {t}) w w0 z v x e i k k' h = absurd (false≢true (refused_open (rw e at k) h))
  core (equal {p = refused r}) w w0 z v x e i k k' h = open_refused (rw i at k') (refused_open (rw e at k) h)
  core (equal {p = done g b t}) w w0 z true x e i k k' h = true_open (rw e at k) (rw i at k') h
  core (equal {p = done g b t}) w w0 z false x e i k k' h = absurd (false_open (rw e at k) h)

  pub content_at : (m : Reader State (Unit {0})) (x : Lexeme) (t : State) → is_line_end t.line.here.kind ≡ false → content profile m x t ≡ after [] (thence (line profile m t) (λ _. write LT))
  unfolding content ◌>>=◌ ◌>>◌ thence in_line over kind
  content_at m x t h = rw h

  pub begun_at : (t : State) → is_line_end t.line.here.kind ≡ false → begun profile t ≡ after [] (thence (after (ST t.line.here.from ∷ []) (line profile (times profile 16) t)) (λ _. return true))
  unfolding begun ◌>>=◌ ◌>>◌ thence in_line over ahead write
  begun_at t h = rw h

  pub statement_is : (s : State) → statement profile s ≡ thence (skip_lines s) (λ _. begun profile)
  unfolding statement ◌>>=◌ ◌>>◌
  statement_is s = refl

  module _ (b : Row) (bs : List Row) where
    coming_fine : refused_as b.first.kind ≡ none → coming b bs ≡ skip_lines (enter b bs)
    unfolding coming arrive
    coming_fine h = rw h

    coming_bad : (n : ℕ) → refused_as b.first.kind ≡ some n → coming b bs ≡ refused (at n b.first.from b.first.to)
    unfolding coming arrive
    coming_bad n h = rw h

    pending_refused : {a : Answer State Bool} (p : Pending profile b bs a) (r : Cause) → coming b bs ≡ refused r → a ≡ refused r
    unfolding closing thence after
    pending_refused p r h = p.form ∙ ap (λ (k : Answer State (Unit {0})). closing p.w p.z p.a (thence k (λ _. content profile (times profile p.n) p.x))) h

    pending_done : {a : Answer State Bool} (p : Pending profile b bs a) (w0 : List Record) (t : State) → coming b bs ≡ done w0 tt t → is_line_end t.line.here.kind ≡ false
        → a ≡ closing p.w p.z p.a (after w0 (after [] (thence (line profile (times profile p.n) t) (λ _. write LT))))
    unfolding thence
    pending_done p w0 t h i = p.form ∙ ap (λ (k : Answer State (Unit {0})). closing p.w p.z p.a (thence k (λ _. content profile (times profile p.n) p.x))) h
        ∙ ap (λ (k : Answer State (Unit {0})). closing p.w p.z p.a (after w0 k)) (content_at (times profile p.n) p.x t i)

    statement_done : (w0 : List Record) (t : State) → skip_lines (enter b bs) ≡ done w0 tt t → is_line_end t.line.here.kind ≡ false
        → statement profile (enter b bs) ≡ after w0 (after [] (thence (after (ST t.line.here.from ∷ []) (line profile (times profile 16) t)) (λ _. return true)))
    unfolding thence
    statement_done w0 t h i = statement_is (enter b bs) ∙ ap (λ (k : Answer State (Unit {0})). thence k (λ _. begun profile)) h ∙ ap (after w0) (begun_at t i)

    statement_refused : (r : Cause) → skip_lines (enter b bs) ≡ refused r → statement profile (enter b bs) ≡ refused r
    unfolding thence
    statement_refused r h = statement_is (enter b bs) ∙ ap (λ (k : Answer State (Unit {0})). thence k (λ _. begun profile)) h

    skipped_blank : (w0 : List Record) (t : State) → skip_lines (enter b bs) ≡ done w0 tt t → is_line_end t.line.here.kind ≡ true → blank_rows (b ∷ bs) ≡ true
    unfolding skip_lines enter blank_rows first_of
    skipped_blank w0 t h i = skip_blank (first_of b) bs h i

    -- a content from rows with a token lacks one of its own only where the rows do
    late_at : refused_as b.first.kind ≡ none → blank_rows (b ∷ bs) ≡ false → {a : Answer State Bool} (p : Pending profile b bs a) (k : Answer State (Unit {0})) → skip_lines (enter b bs) ≡ k
        → {q q' : Answer State (Unit {0})} → Continues profile a q → Reads profile (enter b bs) q' → IsOpen q → IsOpen q'
    late_at f n p (refused r) e c g h =
        let i : coming b bs ≡ refused r = coming_fine f ∙ e in
        open_refused (rw (statement_refused r e) at (continues profile g)) (refused_open (rw (pending_refused p r i) at c) h)
    late_at f n p (done w0 u t) e {q} {q'} c g h = go (is_line_end t.line.here.kind) refl
      where
        go : (o : Bool) → is_line_end t.line.here.kind ≡ o → IsOpen q'
        go true i = absurd (true≢false (sym (skipped_blank w0 t e i) ∙ n))
        go false i = core ((line_deep profile (times_deep profile p.n 16 p.few)).law t) p.w w0 p.z p.a t.line.here.from
            (pending_done p w0 t (coming_fine f ∙ e) i) (statement_done w0 t e i) c (continues profile g) h

    pub late_opens : blank_rows (b ∷ bs) ≡ false → {a : Answer State Bool} (p : Pending profile b bs a) {q q' : Answer State (Unit {0})} → Continues profile a q → Begins profile (b ∷ bs) q' → IsOpen q → IsOpen q'
    late_opens n p c (fine f g) h = late_at f n p (skip_lines (enter b bs)) refl c g h
    late_opens n p c (broken {n = m} f) h = refused_open (rw (pending_refused p _ (coming_bad m f)) at c) h

  -- A run from a row is the only one.
  pub begins_only : {l : List Row} {p q : Answer State (Unit {0})} → Begins profile l p → Begins profile l q → p ≡ q
  begins_only (fine f g) (fine f' g') = only profile g g'
  begins_only (fine f g) (broken {n = n} h) = let y : none ≡ some n = sym f ∙ h in absurd (true≢false cc)
  begins_only (broken {n = n} h) (fine f g) = let y : none ≡ some n = sym f ∙ h in absurd (true≢false cc)
  begins_only (broken {n = n} h) (broken {n = m} i) = let y : n ≡ m = cc in rw y

  abbrev pub Gives : ℕ → List ℕ → Answer State (Unit {0}) → Type 0
  Gives p s a = Begins profile (rows_from p s) a

  -- THE READING'S COUNTER IS ENOUGH: with it, or more, the reading is the run from its first row; of any tokens that a line end ends.
  pub begins_with : (xs : List Lexeme) (n : ℕ) → Finished xs → length xs ≤ suc n → Begins profile (rows xs) (read_rows profile (suc n) (rows xs))
  unfolding read_rows arrive
  begins_with xs n f h =
      let (r, rs, e) = finished_some xs f in
      rw e (go r rs (refused_as r.first.kind) refl (start_below n r rs (rw e at (rows_all xs f)) (omega (arith, ap total (sym e), rows_total xs))))
    where
      go : (r : Row) (rs : List Row) (o : Option ℕ) → refused_as r.first.kind ≡ o → Below n (enter r rs)
          → Begins profile (r ∷ rs) (maybe o (statements profile (suc n) (enter r rs)) (λ k. refused (at k r.first.from r.first.to)))
      go r rs none h b = fine h (enough profile n (enter r rs) b)
      go r rs (some k) h b = broken h

  pub gives_with : (p : ℕ) (s : List ℕ) (n : ℕ) → length s ≤ n → Gives p s (read_rows profile (suc n) (rows_from p s))
  unfolding rows_from
  gives_with p s n h = begins_with (tokens_from p 0 s) n (tokens_finished token_at p 0 s) (omega (arith, tokens_count token_at p 0 s))

  pub gives : (p : ℕ) (s : List ℕ) → Gives p s (read_rows profile (suc (length s)) (rows_from p s))
  gives p s = gives_with p s (length s) (omega arith)

  -- What B's reading, from place n on, has to do with that of A ++ B, where A's gives the first answer and that of A ++ B the second.
  pub data Then (n : ℕ) (B : List ℕ) : Answer State (Unit {0}) → Answer State (Unit {0}) → Type 0 where
    goes : {w : List Record} {u : State} {q : Answer State (Unit {0})} → Gives n B q → Then n B (done w tt u) (after w q)
    stands : {r : Cause} → Mild r → Then n B (refused r) (refused r)
    lacks : {r : Cause} {q : Answer State (Unit {0})} → Lack r → (blank_rows (rows_from n B) ≡ false → (q' : Answer State (Unit {0})) → Gives n B q' → IsOpen q → IsOpen q') → Then n B (refused r) q

  to_then : (n m : ℕ) (B : List ℕ) (b : Row) (bs : List Row) → rows_from n B ≡ b ∷ bs → {a q : Answer State (Unit {0})}
      → Follows profile (end_row m ∷ []) (empty (end_row m) (end_end m)) b bs a q → Then n B a q
  to_then n m B b bs e (Follows.on {q = q} g) = goes {q = q} (rw e g)
  to_then n m B b bs e (Follows.same g) = stands g
  to_then n m B b bs e (Follows.late w {q} p c) = lacks refl (λ h q' g o. late_opens b bs (rw e at h) p c (rw e at g) (open_after w q o))

  end_gives : (p : ℕ) {a : Answer State (Unit {0})} → Begins profile (end_row p ∷ []) a → a ≡ done [] tt (enter (end_row p) [])
  end_gives p g = begins_only g (fine (end_fine (end_row p).first.kind (end_end p)) (Reads.stop (statement_ends profile (enter (end_row p) []) (enter_ends (end_row p) (end_end p)))))

  pub nothing_gives : (p : ℕ) {a : Answer State (Unit {0})} → Gives p [] a → a ≡ done [] tt (enter (end_row p) [])
  nothing_gives p g = end_gives p (rw (end_rows p) at g)

  -- THE COMPOSITION.
  pub sequel : (p : ℕ) (A B : List ℕ) → Lines A → {a q : Answer State (Unit {0})} → Gives p A a → Gives p (A ++ B) q → Then (p + length A) B a q
  sequel p [] B l {a} {q} g h =
      let i : p + 0 ≡ p = omega arith in
      rw (nothing_gives p g, i, ← after_nil q) (goes h)
  sequel p (c ∷ cs) B l {a} {q} g h =
      let n : ℕ = p + length (c ∷ cs) in
      let (r, rs, e) = finished_some (tokens_within p 0 (c ∷ cs)) (shown p c cs l) in
      let (b, bs, f) = some_row n B in
      let i : rows_from p (c ∷ cs) ≡ r ∷ (rs ++ (end_row n ∷ [])) = rows_alone p c cs l ∙ ap (λ (k : List Row). k ++ (end_row n ∷ [])) e in
      let j : rows_from p ((c ∷ cs) ++ B) ≡ r ∷ (rs ++ (b ∷ bs)) = rows_before p c cs l B ∙ ap₂ (λ (k k' : List Row). k ++ k') e f in
      to_then n n B b bs f (follows profile (end_row n ∷ []) (empty (end_row n) (end_end n)) b bs rs (rw i at g) (rw j at h))

  module _ (f : ℕ → ℕ) where
    statement_moved : (s : State) → statement profile (move_state f s) ≡ moved f (statement profile s)
    unfolding moved
    statement_moved s = (statement_shifts f (λ _. Unit {0}) unit_state unit_row profile).law s

    reads_shift : {s : State} {p : Answer State (Unit {0})} → Reads profile s p → Reads profile (move_state f s) (moved f p)
    unfolding carry moved
    reads_shift (Reads.stop {s} z) = Reads.stop (statement_moved s ∙ ap (moved f) z)
    reads_shift (Reads.fail {s} z) = Reads.fail (statement_moved s ∙ ap (moved f) z)
    reads_shift (Reads.go {s} {w = w} {p} z r) = rw (← after_carry (move_state f) (move_record f) (move_refusal f) same w p)
        (Reads.go (statement_moved s ∙ ap (moved f) z) (reads_shift r))

    begins_shift : {l : List Row} {p : Answer State (Unit {0})} → Begins profile l p → Begins profile (map (move_row f) l) (moved f p)
    unfolding enter first_of move_state move_row move_line move_token moved carry move_refusal
    begins_shift (fine {r} {rs} h g) = fine {r = move_row f r} h (reads_shift g)
    begins_shift (broken {r} h) = broken {r = move_row f r} h

  pub gives_shift : (q : ℕ) (s : List ℕ) {a : Answer State (Unit {0})} → Gives 0 s a → Gives q s (moved (λ n. q + n) a)
  gives_shift q s g = rw (rows_shift q s) (begins_shift (λ n. q + n) g)

  bare_open : {a q : Answer State (Unit {0})} → Follows profile [] bare (end_row 0) [] a q → IsOpen q → IsOpen a
  bare_open (Follows.on {w} {q = q} g) h = rw (end_gives 0 g) at (open_after w q h)
  bare_open (Follows.same {r} m) h = absurd (not_both r m h)
  bare_open (Follows.late w p c) h = refl

  pub alone_open : (p : ℕ) (s : List ℕ) {q q' : Answer State (Unit {0})} → Gives p (s ++ line_feed) q → Gives p s q' → IsOpen q → IsOpen q'
  alone_open p s {q} {q'} g g' h =
      let (r, rs, e) = some_row p s in
      let z : ℕ → ℕ = λ _. 0 in
      let i : zeros (rows_from p s) ≡ move_row z r ∷ zeros rs = ap zeros e in
      let j : zeros (rows_from p s) ≡ move_row z r ∷ (zeros rs ++ []) = i ∙ ap (λ (k : List Row). move_row z r ∷ k) (sym (append-nil (zeros rs))) in
      let k : zeros (rows_from p (s ++ line_feed)) ≡ move_row z r ∷ (zeros rs ++ (end_row 0 ∷ [])) = rows_end p s ∙ ap (λ (l : List Row). l ++ (end_row 0 ∷ [])) i in
      moved_open z q' (bare_open (follows profile [] bare (end_row 0) [] (zeros rs) (rw j at (begins_shift z g')) (rw k at (begins_shift z g))) (open_moved z q h))

  -- What is refused is 34 only where a content is missing.
  bare_refused : {r : Cause} {a q : Answer State (Unit {0})} → Follows profile [] bare (end_row 0) [] a q → a ≡ refused r → Mild r ⊎ Lack r
  bare_refused (Follows.on g) e = absurd (true≢false cc)
  bare_refused {r} (Follows.same {r = r'} m) e = let y : r' ≡ r = cc in inl (rw y at m)
  bare_refused {r} (Follows.late {f} {t} w p c) e = let y : at 34 f t ≡ r = cc in rw (← y) (inr refl)

  mild_moved : (f : ℕ → ℕ) (r : Cause) → Mild (move_refusal f r) ⊎ Lack (move_refusal f r) → Mild r ⊎ Lack r
  unfolding move_refusal
  mild_moved f (at n p q) h = h
  mild_moved f (nowhere n) h = h
  mild_moved f (encoding p q a b) h = h

  pub mild_or_lacks : (p : ℕ) (s : List ℕ) (r : Cause) → Gives p s (refused r) → Mild r ⊎ Lack r
  unfolding moved carry
  mild_or_lacks p s r g =
      let (k, rs, e) = some_row p s in
      let z : ℕ → ℕ = λ _. 0 in
      let i : zeros (rows_from p s) ≡ move_row z k ∷ zeros rs = ap zeros e in
      let j : zeros (rows_from p s) ≡ move_row z k ∷ (zeros rs ++ []) = i ∙ ap (λ (l : List Row). move_row z k ∷ l) (sym (append-nil (zeros rs))) in
      let l : zeros (rows_from p (s ++ line_feed)) ≡ move_row z k ∷ (zeros rs ++ (end_row 0 ∷ [])) = rows_end p s ∙ ap (λ (m : List Row). m ++ (end_row 0 ∷ [])) i in
      mild_moved z r (bare_refused (follows profile [] bare (end_row 0) [] (zeros rs) (rw j at (begins_shift z g)) (rw l at (begins_shift z (gives p (s ++ line_feed))))) refl)

  pub blank_gives : (l : List Row) → Some l → blank_rows l ≡ true → {a : Answer State (Unit {0})} → Begins profile l a → (u : State) × (a ≡ done [] tt u)
  unfolding blank_rows enter first_of skip_lines thence after
  blank_gives l (r, rs, e) h {a} g =
      let i : is_line_end r.first.kind && blank_rows rs ≡ true = rw e at h in
      let (k, _) = and_split (is_line_end r.first.kind) (blank_rows rs) i in
      let (u, j, n) = skip_over (first_of r) rs i in
      let m : statement profile (enter r rs) ≡ done [] false u = statement_is (enter r rs) ∙ ap (λ (p : Answer State (Unit {0})). thence p (λ _. begun profile)) j ∙ ap (after []) (begun_ends profile u n) in
      (u, begins_only (rw e at g) (fine (end_fine r.first.kind k) (Reads.stop m)))

  -- read_from is the run's outcome
  pub from_run : (p : ℕ) (s : List ℕ) {a : Answer State (Unit {0})} → Gives p s a → read_from profile p s ≡ outcome a
  unfolding read_from rows_from
  from_run p s g = ap outcome (begins_only (gives p s) g)

  pub accepts_run : (p : ℕ) (s : List ℕ) (w : List Record) → read_from profile p s ≡ accepted w → (u : State) × Gives p s (done w tt u)
  unfolding read_from rows_from
  accepts_run p s w e =
      let (u, i) = run_accepted (read_rows profile (suc (length s)) (rows (tokens_from p 0 s))) w e in
      (u, rw i at (gives p s))

  pub refuses_run : (p : ℕ) (s : List ℕ) (r : Cause) → read_from profile p s ≡ refusal r → Gives p s (refused r)
  unfolding read_from rows_from
  refuses_run p s r e = rw (run_refused (read_rows profile (suc (length s)) (rows (tokens_from p 0 s))) r e) at (gives p s)
