-- A line exchanged: the parts of an accepted source are accepted, and what the edited source gives.
use Rattle.std.specs.Prelude.{if◌then◌else◌}
use mathlib.Core.Path.{◌≡◌, refl, sym, ap, ap₂, ◌∙◌, fun_ext}
use mathlib.Core.Bool.{Bool, true, false, ◌&&◌, true≢false}
use mathlib.Core.List.{List, [], ◌∷◌, ◌++◌, map, append_assoc, append-nil}
use mathlib.Core.Option.{none, some}
use Prim.Native.Nat.{ℕ, suc, ◌+◌, ◌-◌}
use native.Mathlib.Omega.{arith}
use lib.ListN.{length, take, drop, length-append}
use Rattle.rules.specs.Lexemes.{Lexeme, tokens_from}
use Rattle.rules.specs.Records.{Record, plain, laden, Cell, a_place, a_number, a_signed, cells_of, move_cells, move_record}
use Rattle.rules.specs.Reader.{Cause, Answer, done, refused, after, is_line_end}
use Rattle.rules.specs.Statements.{Profile, Row, State, enter, rows, push, read_rows}
use Rattle.rules.proofs.Move.{carry, move_refusal}
use Rattle.rules.proofs.MoveState.{move_state}
use Rattle.lexer.proofs.Branches.{and_split}
use Rattle.lexer.proofs.TokensLine.{Lines, lines_end}
use Rattle.rules.proofs.Cut.{IsOpen, Lack, not_both, open_after, blank_rows, rows_from, Gives, gives, begins_only, some_row, Then, goes, stands, lacks, sequel, moved, gives_shift, moved_open, line_feed, alone_open, blank_end, blank_gives, blank_split, nothing_gives, end_row}
use Rattle.rules.specs.Patch.{all_ends, bare_line, nearest}

-- lines, each with a line feed
unfoldable pub whole : List (List ℕ) → List ℕ
whole [] = []
whole (l ∷ ls) = (l ++ line_feed) ++ whole ls

push_blank : (x : Lexeme) (l : List Row) → is_line_end x.kind ≡ false → blank_rows (push x l) ≡ false
unfolding push blank_rows
push_blank x [] h = rw h
push_blank x (r ∷ rs) h = rw h

pub ends_rows : (xs : List Lexeme) → blank_rows (rows xs) ≡ all_ends xs
unfolding rows blank_rows all_ends
ends_rows [] = refl
ends_rows (x ∷ xs) = go (is_line_end x.kind) refl (ends_rows xs)
  where
    go : (b : Bool) → is_line_end x.kind ≡ b → blank_rows (rows xs) ≡ all_ends xs → blank_rows (if b then (record { first = x; more = [] } ∷ rows xs) else push x (rows xs)) ≡ b && all_ends xs
    go true h i = rw h i
    go false h i = push_blank x (rows xs) h

bare_blank : (l : List ℕ) → blank_rows (rows_from 0 l) ≡ bare_line l
unfolding rows_from bare_line
bare_blank l = ends_rows (tokens_from 0 0 l)

feed_lines : (l : List ℕ) → Lines (l ++ line_feed)
unfolding line_feed
feed_lines l = lines_end l

blank_nearest : (p : ℕ) (ls : List (List ℕ)) → blank_rows (rows_from p (whole ls)) ≡ true → nearest ls ≡ none
unfolding whole nearest
blank_nearest p [] h = refl
blank_nearest p (l ∷ ls) h =
    let (i, j) = and_split _ _ (sym (blank_split p (l ++ line_feed) (whole ls) (feed_lines l)) ∙ h) in
    let k : bare_line l ≡ true = sym (bare_blank l) ∙ sym (blank_end p l) ∙ i in
    rw (blank_nearest (p + length (l ++ line_feed)) ls j, k)

-- What stands behind a line: nothing, or a line feed and more.
pub data Behind : List ℕ → Type 0 where
  nothing : Behind []
  feed : (B : List ℕ) → Behind (10 ∷ B)

module _ (profile : Profile) where
  -- An open place in A's reading: the nearest line with tokens is open by itself.
  pub record Near (ls : List (List ℕ)) : Type 0 where
    pub M : List ℕ
    pub found : nearest ls ≡ some M
    pub opens : (b : Answer State (Unit {0})) → Gives profile 0 M b → IsOpen b

  open_zero : (p : ℕ) (s : List ℕ) → ((b : Answer State (Unit {0})) → Gives profile p s b → IsOpen b) → (b : Answer State (Unit {0})) → Gives profile 0 s b → IsOpen b
  open_zero p s h b g = moved_open (λ n. p + n) b (h (moved (λ n. p + n) b) (gives_shift profile p s g))

  not_bare : (p : ℕ) (l : List ℕ) {r : Cause} → Gives profile p (l ++ line_feed) (refused r) → bare_line l ≡ false
  not_bare p l {r} g = go (bare_line l) refl
    where
      go : (b : Bool) → bare_line l ≡ b → b ≡ false
      go false h = refl
      go true h =
          let (u, e) = blank_gives profile (rows_from p (l ++ line_feed)) (some_row p (l ++ line_feed)) (blank_end p l ∙ bare_blank l ∙ h) g in
          absurd (true≢false cc)

  near_step : (p : ℕ) (l : List ℕ) (ls : List (List ℕ)) {x q : Answer State (Unit {0})} → Then profile (p + length (l ++ line_feed)) (whole ls) x q → Gives profile p (l ++ line_feed) x → IsOpen q
      → ((a : Answer State (Unit {0})) → Gives profile (p + length (l ++ line_feed)) (whole ls) a → IsOpen a → Near ls) → Near (l ∷ ls)
  unfolding nearest
  near_step p l ls (goes {w} {q = q} g) k h again =
      let m : Near ls = again q g (open_after w q h) in
      record { M = m.M; found = rw m.found; opens = m.opens }
  near_step p l ls (stands {r} m) k h again = absurd (not_both r m h)
  near_step p l ls (lacks {r} {q} o i) k h again = go (blank_rows (rows_from n (whole ls))) refl
    where
      n : ℕ
      n = p + length (l ++ line_feed)

      go : (b : Bool) → blank_rows (rows_from n (whole ls)) ≡ b → Near (l ∷ ls)
      go true e = record { M = l; found = rw (blank_nearest n ls e, not_bare p l k); opens = open_zero p l (λ b g. alone_open profile p l k g o) }
      go false e =
          let m : Near ls = again _ (gives profile n (whole ls)) (i e _ (gives profile n (whole ls)) h) in
          record { M = m.M; found = rw m.found; opens = m.opens }

  pub near_open : (p : ℕ) (ls : List (List ℕ)) {a : Answer State (Unit {0})} → Gives profile p (whole ls) a → IsOpen a → Near ls
  unfolding whole
  near_open p [] {a} g h = absurd (rw (nothing_gives profile p g) at h)
  near_open p (l ∷ ls) g h = near_step p l ls (sequel profile p (l ++ line_feed) (whole ls) (feed_lines l) (gives profile p (l ++ line_feed)) g) (gives profile p (l ++ line_feed)) h
      (λ a g' h'. near_open (p + length (l ++ line_feed)) ls g' h')

  -- An accepted source of whole lines, none of which is left open, and what follows: both are accepted.
  pub record Parts (n m : ℕ) (A B : List ℕ) (w : List Record) : Type 0 where
    pub first : List Record
    pub then' : List Record
    pub end : State
    pub end' : State
    pub joined : w ≡ first ++ then'
    pub firstly : Gives profile n A (done first tt end)
    pub thereupon : Gives profile m B (done then' tt end')

  take_apart : {n m : ℕ} {A B : List ℕ} {w : List Record} {u : State} {x q : Answer State (Unit {0})} → Then profile m B x q → Gives profile n A x → q ≡ done w tt u → (IsOpen x → ⊥) → Parts n m A B w
  unfolding after
  take_apart {w = w} {u} (goes {w = v} {u = t} {q = done v' a t'} g) k e o = record { first = v; then' = v'; end = t; end' = t'; joined = cc; firstly = k; thereupon = g }
  take_apart (goes {q = refused r} g) k e o = absurd (true≢false cc)
  take_apart (stands {r} m) k e o = absurd (true≢false cc)
  take_apart (lacks {r} l i) k e o = absurd (o l)

  pub parts : (n : ℕ) (A B : List ℕ) {w : List Record} {u : State} → Lines A → Gives profile n (A ++ B) (done w tt u) → ((a : Answer State (Unit {0})) → Gives profile n A a → IsOpen a → ⊥) → Parts n (n + length A) A B w
  parts n A B l g o = take_apart (sequel profile n A B l (gives profile n A) g) (gives profile n A) refl (o _ (gives profile n A))

  -- What follows an accepted part; what is refused stays refused.
  pub compose : (n : ℕ) (A B : List ℕ) {w : List Record} {u : State} {a q : Answer State (Unit {0})} → Lines A → Gives profile n A (done w tt u) → Gives profile (n + length A) B a → Gives profile n (A ++ B) q → q ≡ after w a
  compose n A B {w} {u} {a} {q} l g h k = go (sequel profile n A B l g k) refl
    where
      go : {x y : Answer State (Unit {0})} → Then profile (n + length A) B x y → x ≡ done w tt u → y ≡ after w a
      go (goes {w = v} {q = q'} i) e =
          let z : v ≡ w = cc in
          let z' : q' ≡ a = begins_only profile i h in
          rw (z, z')
      go (stands m) e = absurd (true≢false cc)
      go (lacks m i) e = absurd (true≢false cc)

  pub refused_whole : (n : ℕ) (A B : List ℕ) {r : Cause} {q : Answer State (Unit {0})} → Lines A → Gives profile n A (refused r) → (Lack r → ⊥) → Gives profile n (A ++ B) q → q ≡ refused r
  refused_whole n A B {r} {q} l g o k = go (sequel profile n A B l g k) refl
    where
      go : {x y : Answer State (Unit {0})} → Then profile (n + length A) B x y → x ≡ refused r → y ≡ refused r
      go (goes i) e = absurd (true≢false cc)
      go (stands m) e = e
      go (lacks {r = r'} m i) e = let z : r' ≡ r = cc in absurd (o (rw z at m))

  -- Records moved twice.
  cells_moved : (f g : ℕ → ℕ) (cs : List Cell) (ns : List ℕ) → move_cells f cs (move_cells g cs ns) ≡ move_cells (λ k. f (g k)) cs ns
  unfolding move_cells
  cells_moved f g [] ns = refl
  cells_moved f g (c ∷ cs) [] = refl
  cells_moved f g (a_place ∷ cs) (n ∷ ns) = ap (λ (vs : List ℕ). f (g n) ∷ vs) (cells_moved f g cs ns)
  cells_moved f g (a_number ∷ cs) (n ∷ ns) = ap (λ (vs : List ℕ). n ∷ vs) (cells_moved f g cs ns)
  cells_moved f g (a_signed ∷ cs) (n ∷ ns) = ap (λ (vs : List ℕ). n ∷ vs) (cells_moved f g cs ns)

  move_move : (f g : ℕ → ℕ) (r : Record) → move_record f (move_record g r) ≡ move_record (λ k. f (g k)) r
  unfolding move_record
  move_move f g (plain m ns) = ap (plain m) (cells_moved f g (cells_of m) ns)
  move_move f g (laden m ns d) = ap (λ (vs : List ℕ). laden m vs d) (cells_moved f g (cells_of m) ns)

  moves : (f g h : ℕ → ℕ) → ((k : ℕ) → f (g k) ≡ h k) → (w : List Record) → map (move_record f) (map (move_record g) w) ≡ map (move_record h) w
  moves f g h e [] = refl
  moves f g h e (r ∷ rs) = ap₂ ◌∷◌ (move_move f g r ∙ ap (λ (k : ℕ → ℕ). move_record k r) (fun_ext e)) (moves f g h e rs)

  -- What stands behind the line is read as before, moved.
  rest_moves : (n m p q : ℕ) → ((k : ℕ) → n + k + q - p ≡ m + k) → (s : List ℕ) {w : List Record} {u : State} {a : Answer State (Unit {0})} → Gives profile n s (done w tt u) → Gives profile m s a
      → (u' : State) × (a ≡ done (map (move_record (λ k. k + q - p)) w) tt u')
  unfolding moved carry
  rest_moves n m p q e s {w} {u} {a} g h = go _ (gives profile 0 s)
    where
      go : (b : Answer State (Unit {0})) → Gives profile 0 s b → (u' : State) × (a ≡ done (map (move_record (λ k. k + q - p)) w) tt u')
      go (done w0 x u0) i =
          let y : done (map (move_record (λ k. n + k)) w0) x (move_state (λ k. n + k) u0) ≡ done w tt u = begins_only profile (gives_shift profile n s i) g in
          let z : a ≡ done (map (move_record (λ k. m + k)) w0) x (move_state (λ k. m + k) u0) = begins_only profile h (gives_shift profile m s i) in
          let c : w ≡ map (move_record (λ k. n + k)) w0 = cc in
          (move_state (λ k. m + k) u0, z ∙ ap (λ (l : List Record). done l tt (move_state (λ k. m + k) u0)) (sym (ap (map (move_record (λ k. k + q - p))) c ∙ moves (λ k. k + q - p) (λ k. n + k) (λ k. m + k) e w0)))
      go (refused r) i =
          let y : refused (move_refusal (λ k. n + k) r) ≡ done w tt u = begins_only profile (gives_shift profile n s i) g in
          absurd (true≢false cc)

  pub gives_same : (p : ℕ) {s t : List ℕ} {a : Answer State (Unit {0})} → s ≡ t → Gives profile p s a → Gives profile p t a
  gives_same p e g = rw e at g

  -- A ++ L ++ B is read as w, from place p on; N comes in L's place.
  pub record Exchange (p : ℕ) (A L N B : List ℕ) (w : List Record) : Type 0 where
    pub kept : List Record
    pub dropped : List Record
    pub rest : List Record
    pub u₀ : State
    pub u₁ : State
    pub u₂ : State
    pub joined : w ≡ kept ++ (dropped ++ rest)
    pub keeps : Gives profile p A (done kept tt u₀)
    pub drops : Gives profile (p + length A) (L ++ take 1 B) (done dropped tt u₁)
    pub rests : Gives profile (p + length A + length (L ++ take 1 B)) (drop 1 B) (done rest tt u₂)
    pub accepts : (wN : List Record) (u : State) (q : Answer State (Unit {0})) → Gives profile (p + length A) (N ++ take 1 B) (done wN tt u) → Gives profile p (A ++ (N ++ B)) q
        → (u' : State) × (q ≡ done (kept ++ (wN ++ map (move_record (λ k. k + length N - length L)) rest)) tt u')
    pub refuses : (r : Cause) (q : Answer State (Unit {0})) → Gives profile (p + length A) (N ++ take 1 B) (refused r) → Gives profile p (A ++ (N ++ B)) q → q ≡ refused r

  unfoldable pub Closed : ℕ → List ℕ → Type 0
  Closed p s = (a : Answer State (Unit {0})) → Gives profile p s a → IsOpen a → ⊥

  -- closed alone, closed with its line feed
  closed_feed : (p : ℕ) (l : List ℕ) → Closed 0 l → Closed p (l ++ line_feed)
  unfolding Closed
  closed_feed p l c a g o = c _ (gives profile 0 l) (moved_open (λ n. p + n) _ (alone_open profile p l g (gives_shift profile p l (gives profile 0 l)) o))

  module _ (p : ℕ) (A L N : List ℕ) {w : List Record} {u : State} (lines : Lines A) (closedA : Closed p A) (closedL : Closed 0 L) (closedN : Closed 0 N) where
    exchange_last : Gives profile p (A ++ (L ++ [])) (done w tt u) → Exchange p A L N [] w
    unfolding Closed after
    exchange_last g =
        let P : Parts p (p + length A) A (L ++ []) w = parts p A (L ++ []) lines g closedA in
        let n : ℕ = p + length A + length (L ++ []) in
        record {
          kept = P.first;
          dropped = P.then';
          rest = [];
          u₀ = P.end;
          u₁ = P.end';
          u₂ = enter (end_row n) [];
          joined = P.joined ∙ ap (λ (l : List Record). P.first ++ l) (sym (append-nil P.then'));
          keeps = P.firstly;
          drops = P.thereupon;
          rests = rw (nothing_gives profile n (gives profile n [])) at (gives profile n []);
          accepts = λ wN v q i k. (v, compose p A (N ++ []) lines P.firstly i k ∙ ap (λ (l : List Record). done (P.first ++ l) tt v) (sym (append-nil wN)));
          refuses = λ r q i k. compose p A (N ++ []) lines P.firstly i k;
        }

    exchange_feed : (B : List ℕ) → Gives profile p (A ++ (L ++ (10 ∷ B))) (done w tt u) → Exchange p A L N (10 ∷ B) w
    unfolding Closed after line_feed
    exchange_feed B g =
        let m : ℕ = p + length A in
        let P : Parts p m A (L ++ (10 ∷ B)) w = parts p A (L ++ (10 ∷ B)) lines g closedA in
        let Q : Parts m (m + length (L ++ line_feed)) (L ++ line_feed) B P.then' =
        parts m (L ++ line_feed) B (feed_lines L) (gives_same m (sym (append_assoc L (10 ∷ []) B)) P.thereupon) (closed_feed m L closedL) in
        let b : Answer State (Unit {0}) = read_rows profile (suc (length B)) (rows_from (m + length (N ++ line_feed)) B) in
        let c : Answer State (Unit {0}) = read_rows profile (suc (length (N ++ (10 ∷ B)))) (rows_from m (N ++ (10 ∷ B))) in
        let c-gives : Gives profile m ((N ++ line_feed) ++ B) c = gives_same m (sym (append_assoc N (10 ∷ []) B)) (gives profile m (N ++ (10 ∷ B))) in
        record {
          kept = P.first;
          dropped = Q.first;
          rest = Q.then';
          u₀ = P.end;
          u₁ = Q.end;
          u₂ = Q.end';
          joined = P.joined ∙ ap (λ (l : List Record). P.first ++ l) Q.joined;
          keeps = P.firstly;
          drops = Q.firstly;
          rests = Q.thereupon;
          accepts = λ wN v q i k.
              let (v', e) = rest_moves (m + length (L ++ line_feed)) (m + length (N ++ line_feed)) (length L) (length N)
              (λ k. omega (arith, length-append L (10 ∷ []), length-append N (10 ∷ []))) B Q.thereupon (gives profile (m + length (N ++ line_feed)) B) in (
                v',
                compose p A (N ++ (10 ∷ B)) lines P.firstly (gives profile m (N ++ (10 ∷ B))) k
                    ∙ ap (after P.first) (compose m (N ++ line_feed) B (feed_lines N) i (gives profile (m + length (N ++ line_feed)) B) c-gives ∙ ap (after wN) e),
              );
          refuses = λ r q i k. compose p A (N ++ (10 ∷ B)) lines P.firstly (gives profile m (N ++ (10 ∷ B))) k
              ∙ ap (after P.first) (refused_whole m (N ++ line_feed) B (feed_lines N) i (closed_feed m N closedN (refused r) i) c-gives);
        }

    pub exchange : {B : List ℕ} → Behind B → Gives profile p (A ++ (L ++ B)) (done w tt u) → Exchange p A L N B w
    exchange nothing g = exchange_last g
    exchange (feed B) g = exchange_feed B g
