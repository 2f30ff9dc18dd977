-- The bound for statements and sources.
use Rattle.std.specs.Prelude.{if◌then◌else◌}
use mathlib.Core.Path.{◌≡◌, refl, sym, subst}
use mathlib.Core.Bool.{Bool, true, false, ◌&&◌, ◌||◌, true≢false}
use mathlib.Core.List.{List, [], ◌∷◌, ◌++◌, map}
use mathlib.Core.Option.{Option, none, some}
use Prim.Native.Nat.{ℕ, zero, suc, ◌+◌, ◌*◌, ◌≤◌, zero-le}
use Prim.Native.String.{String}
use native.Mathlib.Omega.{arith}
use native.Mathlib.Nat.{le_refl}
use lib.Dec.{eqb, leb, ltb}
use lib.ListN.{length, length-map}
use borrow.Author.Tests.{leb-true}
use Rattle.lexer.specs.Text.{maybe, bytes, lower, same, open_text}
use Rattle.lexer.proofs.Branches.{and_split}
use Rattle.rules.specs.Lexemes.{Kind, Lexeme, text_of, name_in, operation_in}
use Rattle.names.specs.Names.{directives, named, operation_named, place_from}
use Rattle.rules.specs.Records.{Record, LT, field, fields, encode}
use Rattle.rules.specs.Reader.{done, Reader, Line, thence, ◌>>=◌, write, arrive, ahead, kind, passed, is_line_end}
use Rattle.rules.specs.Operands.{is_word}
use Rattle.rules.specs.Statements.{Profile, Row, State, over, in_line, first_of, enter, step_row, next_row, line_end, skip, skip_lines, passing, rep, repne, instruction, constant, some_data, data_of, line, content, times, begun, statement}
use Rattle.rules.proofs.TokenKinds.{word_inside, asked}
use Rattle.rules.proofs.Table.{Proper, same_length}
use Rattle.rules.proofs.Shape.{Holds, Sound, chain_low}
use Rattle.rules.proofs.ShapeState.{flat, chain_drop}
use Rattle.rules.proofs.Hoare.{nil, Post, Triple, now, after_post, bind, and_then, whether, perhaps, returns, refuses, writes, before, behind, arrive_post, in_lines, ask_ahead_s, ask_kind_s, ask_passed_s, ask_left_s, here_fails_s}
use Rattle.rules.proofs.Cost.{Writes, Spaced, On, Here, Wide, on_less, wide_nexts, expression_on, operands_on, label_on, literals_on}

spaced_drop : (xs ys : List Lexeme) → Spaced (xs ++ ys) → Spaced ys
spaced_drop [] ys h = h
spaced_drop (x ∷ []) [] h = tt
spaced_drop (x ∷ []) (y ∷ ys) h = h.1
spaced_drop (x ∷ z ∷ xs) ys h = spaced_drop (z ∷ xs) ys h.1

-- Every directive has two letters or more.
unfoldable all_long : List String → Bool
all_long [] = true
all_long (name ∷ names) = leb 2 (length (bytes name)) && all_long names

place_long : (m : ℕ) (w : List ℕ) (t : List String) (r : ℕ) → all_long t ≡ true → place_from m w t ≡ some r → 2 ≤ length w
unfolding place_from all_long
place_long m w [] r l h = absurd (true≢false cc)
place_long m w (name ∷ t) r l h =
    let (a, b) = and_split (leb 2 (length (bytes name))) (all_long t) l in
    go a (same w (bytes name)) refl h (λ e. place_long (suc m) w t r b e)
  where
    go : leb 2 (length (bytes name)) ≡ true → (o : Bool) → same w (bytes name) ≡ o → ◌≡◌ {A = Option ℕ} (if o then (some m) else (place_from (suc m) w t)) (some r)
        → (place_from (suc m) w t ≡ some r → 2 ≤ length w) → 2 ≤ length w
    go a true e i again = omega (arith, leb-true 2 (length (bytes name)) a, same_length w (bytes name) e)
    go a false e i again = again i

long_directives : all_long directives ≡ true
unfolding open_text all_long directives
long_directives = refl

directive_long : (w : List ℕ) (r : ℕ) → named directives w ≡ some r → 2 ≤ length w
unfolding named
directive_long w r h = omega (arith, place_long 0 (map lower w) directives r long_directives h, length-map w lower)

-- A name's token has its letters.
asked_long : (k : Kind) (ask : List ℕ → Option ℕ) (r f u : ℕ) → ((w : List ℕ) (r : ℕ) → ask w ≡ some r → 2 ≤ length w) → maybe (text_of k) none ask ≡ some r → Holds k f u → 2 + f ≤ u
asked_long k ask r f u l h o =
    let (w, e, i) = asked k ask r h in
    let n : length w + f ≤ u = rw e at o in
    omega (arith, l w r i)

operation_word : (table : List ℕ) (k : Kind) (r : ℕ) → operation_in table k ≡ some r → is_word k ≡ true
unfolding operation_in is_word text_of
operation_word table k r h = let (w, e, i) = asked k (operation_named table) r h in rw e

module _ (n hi D : ℕ) where
  abbrev pub OnS : ℕ → ℕ → State → Type 0
  OnS m d s = On n hi D (flat s.below) m d s.line

  in_on : {A : Type 0} {k : Reader Line A} (m m' : ℕ) → ((rest : List Lexeme) → Triple Writes (On n hi D rest m) k (λ _. On n hi D rest m')) → Triple Writes (OnS m) (in_line k) (λ _. OnS m')
  in_on m m' e = in_lines (λ rs. On n hi D (flat rs) m) (λ rs _. On n hi D (flat rs) m') (λ rs. e (flat rs))

  less : {m m' d : ℕ} (s : State) → m' ≤ m → OnS m d s → OnS m' d s
  less s i h = on_less n hi D (flat s.below) i h

  at_token : {A : Type 0} {m : ℕ} {f : Reader State A} {R : A → ℕ → State → Type 0} (x : Lexeme) → (Sound hi x → Triple Writes (λ d s. (s.line.here ≡ x) × OnS m d s) f R)
      → Triple Writes (λ d s. (s.line.here ≡ x) × OnS m d s) f R
  at_token x e = record { law = λ d s h. (e (rw h.0 at h.1.chain.1)).law d s h }

  ahead_s : {B : Type 0} {m : ℕ} {f : Lexeme → Reader State B} {R : B → ℕ → State → Type 0} → ((x : Lexeme) → Sound hi x → Triple Writes (λ d s. (s.line.here ≡ x) × OnS m d s) (f x) R) → Triple Writes (OnS m) (in_line ahead >>= f) R
  ahead_s e = ask_ahead_s λ x. at_token x (e x)

  kind_s : {B : Type 0} {m : ℕ} (f : Kind → Reader State B) {R : B → ℕ → State → Type 0} → ((x : Lexeme) → Sound hi x → Triple Writes (OnS m) (f x.kind) R) → Triple Writes (OnS m) (in_line kind >>= f) R
  kind_s f e = ask_kind_s f λ x. at_token x λ q. before (λ d s h. h.1) (e x q)

  passed_s : {B : Type 0} {f : ℕ → Reader State B} {P : ℕ → State → Type 0} {R : B → ℕ → State → Type 0} → ((t : ℕ) → Triple Writes P (f t) R) → Triple Writes P (in_line passed >>= f) R
  passed_s e = ask_passed_s λ t. before (λ d s h. h.1) (e t)

  pays_s : {m : ℕ} (r : Record) (k : ℕ) → length (encode r) ≤ k → Triple Writes (OnS (m + k)) (write r) (λ _. OnS m)
  pays_s r k i = writes r λ d s h. (d + length (encode r), record { sum = refl }, record { paid = omega (arith, h.paid); chain = h.chain; spaced = h.spaced })

  row_on : {m d : ℕ} (l : Line) (r : Row) (rs : List Row) → On n hi D (flat (r ∷ rs)) m d l → On n hi D (flat rs) m d (first_of r)
  unfolding first_of
  row_on l r rs h =
      let (lo, i, j) = chain_drop n hi l.here.to l.more (flat (r ∷ rs)) h.chain.2 in
      let q : lo ≤ r.first.from = j.0 in
      record { paid = omega (arith, h.paid, h.chain.1.ordered); chain = chain_low n hi lo 0 (flat (r ∷ rs)) zero-le j; spaced = spaced_drop (l.here ∷ l.more) (flat (r ∷ rs)) h.spaced }

  step_row_on : {m d : ℕ} (l : Line) (rs : List Row) → On n hi D (flat rs) m d l → Post Writes (λ _. OnS m) d (step_row rs (record { line = l; below = rs }))
  unfolding step_row enter
  step_row_on l [] h = now h
  step_row_on l (r ∷ rs) h = arrive_post r.first (now (row_on l r rs h))

  line_end_on : (m : ℕ) → Triple Writes (OnS m) line_end (λ _. OnS m)
  unfolding line_end next_row
  line_end_on m = kind_s _ λ x f. whether (is_line_end x.kind) (λ _. record { law = λ d s h. step_row_on s.line s.below h }) (λ _. here_fails_s 10)

  skip_on : {m d : ℕ} (l : Line) (rs : List Row) → On n hi D (flat rs) m d l → Post Writes (λ _. OnS m) d (skip l rs)
  unfolding skip
  skip_on l [] h = now h
  skip_on {m} {d} l (r ∷ rs) h = go (is_line_end l.here.kind) (skip_on (first_of r) rs (row_on l r rs h))
    where
      go : (o : Bool) → Post Writes (λ _. OnS m) d (skip (first_of r) rs) → Post Writes (λ _. OnS m) d (if o then (arrive r.first (skip (first_of r) rs)) else (done [] tt (record { line = l; below = r ∷ rs })))
      go true p = arrive_post r.first p
      go false p = now h

  skip_lines_on : (m : ℕ) → Triple Writes (OnS m) skip_lines (λ _. OnS m)
  unfolding skip_lines
  skip_lines_on m = record { law = λ d s h. skip_on s.line s.below h }

  instruction_on : (m : ℕ) (x : Lexeme) (op : ℕ) → is_word x.kind ≡ true → Triple Writes (λ d s. Wide n hi D (flat s.below) x.kind (m + 36) d s.line) (instruction x op) (λ _. OnS (m + 6))
  unfolding instruction encode fields field bytes
  instruction_on m x op w = whether (eqb op rep || eqb op repne)
      (λ _. passed_s λ t. before (λ d s h. less s (omega arith) h.0) (pays_s {m = m + 6} _ 26 (le_refl 26)))
      (λ _. bind (in_lines (λ rs. Wide n hi D (flat rs) x.kind (m + 36)) (λ rs _. On n hi D (flat rs) (m + 32)) (λ rs. operands_on n hi D (flat rs) m x.kind w)) λ o.
      passed_s λ t. and_then (line_end_on (m + 32)) (λ _. before (λ d s h. less s (omega arith) h) (pays_s {m = m + 6} _ 26 (le_refl 26))))

  constant_on : (m : ℕ) (x : Lexeme) → Triple Writes (OnS (m + 36)) (constant x) (λ _. OnS (m + 6))
  unfolding constant encode fields field bytes
  constant_on m x = and_then (in_on (m + 36) (m + 36 + 4) (λ rest. expression_on n hi D rest (m + 36))) (λ _. passed_s λ t. and_then (line_end_on (m + 36 + 4))
      (λ _. before (λ d s h. less s (omega arith) h) (pays_s {m = m + 6} _ 10 (le_refl 10))))

  some_data_on : (m : ℕ) (x : Lexeme) (ds : List ℕ) → Triple Writes (OnS (m + 36 + length ds)) (some_data x ds) (λ _. OnS (m + 6))
  unfolding some_data encode fields field bytes
  some_data_on m x [] = refuses _
  some_data_on m x (b ∷ bs) = passed_s λ t. and_then (line_end_on _) (λ _. before (λ d s h. less s (omega arith) h) (pays_s {m = m + 6} _ (14 + length (b ∷ bs)) (omega arith)))

  data_of_on : (takes : ℕ → ℕ → Bool) (m : ℕ) (x : Lexeme) (width : ℕ) → Triple Writes (OnS (m + 36)) (data_of takes x width) (λ _. OnS (m + 6))
  unfolding data_of
  data_of_on takes m x width = ask_left_s λ k. bind (in_lines (λ rs. On n hi D (flat rs) (m + 36)) (λ rs ds. On n hi D (flat rs) (m + 36 + length ds)) (λ rs. literals_on n hi D (flat rs) takes (suc k) (m + 36) width)) λ ds. some_data_on m x ds

  two : (x : Lexeme) (r : ℕ) → Sound hi x → name_in directives x.kind ≡ some r → 2 + x.from ≤ x.to
  unfolding name_in
  two x r f e = asked_long x.kind (named directives) r x.from x.to directive_long e f.holds

  module _ (profile : Profile) (proper : Proper profile.table) where
    two_operation : (x : Lexeme) (r : ℕ) → Sound hi x → operation_in profile.table x.kind ≡ some r → 2 + x.from ≤ x.to
    unfolding operation_in
    two_operation x r f e = asked_long x.kind (operation_named profile.table) r x.from x.to (λ w r h. proper.long w r h) e f.holds

    passing_on : (m k : ℕ) (x : Lexeme) → k + x.from ≤ x.to → {f : Reader State (Unit {0})} {R : Unit {0} → ℕ → State → Type 0} → Triple Writes (λ d s. Wide n hi D (flat s.below) x.kind (m + 18 * k) d s.line) f R
        → Triple Writes (λ d s. (s.line.here ≡ x) × OnS m d s) (passing f) R
    unfolding passing
    passing_on m k x i p = and_then (in_lines (λ rs. Here n hi D (flat rs) x m) (λ rs _. Wide n hi D (flat rs) x.kind (m + 18 * k)) (λ rs. wide_nexts n hi D (flat rs) x k i)) (λ _. p)

    module _ {times' : Reader State (Unit {0})} (nested : (m : ℕ) (x : Lexeme) → Sound hi x → 2 + x.from ≤ x.to → Triple Writes (λ d s. (s.line.here ≡ x) × OnS m d s) times' (λ _. OnS (m + 6))) where
      line_on : (m : ℕ) → Triple Writes (OnS m) (line profile times') (λ _. OnS (m + 6))
      unfolding line
      line_on m = ahead_s λ x f. perhaps (operation_in profile.table x.kind)
          (perhaps (name_in directives x.kind)
          (whether (is_word x.kind) (λ w. passing_on m 1 x (omega (arith, (f.strict (word_inside x.kind w)).0)) (before (λ d s h. less s (omega arith) h.0) (in_on (m + 6 + 10) (m + 6) (λ rest. label_on n hi D rest (m + 6) x)))) (λ _. here_fails_s 20))
          λ r e. whether (eqb r 0) (λ _. passing_on m 2 x (two x r f e) (before (λ d s h. less s (omega arith) h.0) (constant_on m x)))
          (λ _. whether (ltb r 3) (λ _. passing_on m 2 x (two x r f e) (before (λ d s h. less s (omega arith) h.0) (data_of_on profile.takes m x r))) (λ _. nested m x f (two x r f e))))
          λ op e. passing_on m 2 x (two_operation x op f e) (instruction_on m x op (operation_word profile.table x.kind op e))

      content_on : (m : ℕ) (x : Lexeme) → Triple Writes (OnS (m + 4)) (content profile times' x) (λ _. OnS m)
      unfolding content encode fields field bytes
      content_on m x = kind_s _ λ y f. and_then (whether (is_line_end y.kind) (λ _. refuses _) (λ _. line_on (m + 4)))
          (λ _. before (λ d s h. less s (omega arith) h) (pays_s {m = m} LT 10 (le_refl 10)))

    ahead_here_s : {B : Type 0} {m : ℕ} (f : Lexeme → Reader State B) {R : B → ℕ → State → Type 0} (x : Lexeme) → Triple Writes (λ d s. (s.line.here ≡ x) × OnS m d s) (f x) R → Triple Writes (λ d s. (s.line.here ≡ x) × OnS m d s) (in_line ahead >>= f) R
    unfolding ahead ◌>>=◌ thence in_line over
    ahead_here_s f {R} x e = record { law = λ d s h. after_post nil (subst (λ (y : Lexeme). Post Writes R d (f y s)) (sym h.0) (e.law d s h)) }

    times_on : (k m : ℕ) (x : Lexeme) → Sound hi x → 2 + x.from ≤ x.to → Triple Writes (λ d s. (s.line.here ≡ x) × OnS m d s) (times profile k) (λ _. OnS (m + 6))
    unfolding times
    times_on zero m x f i = here_fails_s 5
    times_on (suc k) m x f i = ahead_here_s _ x (passing_on m 2 x i (before (λ d s h. h.0) (and_then (in_on (m + 36) (m + 36 + 4) (λ rest. expression_on n hi D rest (m + 36)))
        (λ _. and_then (skip_lines_on (m + 36 + 4)) (λ _. behind (λ _ d s h. less s (omega arith) h) (content_on (times_on k) (m + 36) x))))))

-- Between statements: what is written is paid for by the bytes before the token ahead.
module _ (profile : Profile) (proper : Proper profile.table) (n hi : ℕ) where
  begun_on : Triple Writes (OnS n hi 6 6) (begun profile) (λ _. OnS n hi 6 6)
  unfolding begun encode fields field bytes
  begun_on = ahead_s n hi 6 λ x f. before (λ d s h. h.1) (whether (is_line_end x.kind) (λ _. returns false (λ d s h. h))
      (λ _. and_then (and_then (before (λ d s h. less n hi 6 s (omega arith) h) (pays_s n hi 6 {m = 0} _ 6 (le_refl 6))) (λ _. line_on n hi 6 profile proper (times_on n hi 6 profile proper 16) 0))
      (λ _. returns true (λ d s h. less n hi 6 s (omega arith) h))))

  pub statement_on : Triple Writes (OnS n hi 6 6) (statement profile) (λ _. OnS n hi 6 6)
  unfolding statement
  statement_on = and_then (skip_lines_on n hi 6 6) (λ _. begun_on)
