-- The listing's shape, for statements and runs of them.
use Rattle.std.specs.Prelude.{if◌then◌else◌}
use mathlib.Core.Path.{◌≡◌, refl, ap, ◌∙◌}
use mathlib.Core.Bool.{Bool, true, false, ◌&&◌, ◌||◌}
use mathlib.Core.List.{List, [], ◌∷◌, ◌++◌, append-nil}
use mathlib.Core.Option.{some}
use Prim.Native.Nat.{ℕ, zero, suc, ◌+◌, ◌*◌, ◌-◌, ◌≤◌, ◌<◌, zero-le}
use native.Mathlib.Omega.{arith}
use native.Mathlib.Nat.{le_refl, le_trans}
use lib.Dec.{eqb, ltb}
use lib.ListN.{length}
use borrow.Author.Tests.{le-leb, lt-ltb}
use Rattle.rules.specs.Lexemes.{Kind, Lexeme, name_in, operation_in}
use Rattle.names.specs.Names.{directives}
use Rattle.rules.specs.Records.{Record, ST, LT}
use Rattle.rules.specs.Reader.{Cause, Answer, done, refused, Reader, Line, after, thence, ◌>>=◌, ◌>>◌, return, write, arrive, ahead, kind, passed, is_line_end}
use Rattle.rules.specs.Operands.{is_word}
use Rattle.rules.specs.Statements.{Profile, Row, State, over, in_line, first_of, enter, step_row, next_row, line_end, skip, skip_lines, passing, rep, repne, instruction, constant, some_data, data_of, line, content, times, begun, statement}
use Rattle.rules.proofs.Append.{after_nil}
use Rattle.rules.specs.WellFormed.{Stack, stack, allow, to_line, complete, spans, given, checked}
use Rattle.rules.specs.Patch.{statement_from}
use Rattle.rules.proofs.Table.{Proper}
use Rattle.rules.proofs.Move.{arrived}
use Rattle.rules.proofs.Hoare.{Run, nil, Post, holds, fails, Triple, bind, and_then, whether, perhaps, refuses, writes, before, behind, known, derive, arrive_post, in_lines, ask_ahead_s, ask_kind_s, ask_passed_s, ask_left_s, here_fails_s}
use Rattle.rules.proofs.Shape.{Extra, Chain, chain_low, Checks, taken, On, Facts, facts, between, on_less, on_soon, nexts, span_true, open', shut, to_line_lem, first_context, place_open, expression_on, operands_on, Counted, Data, literals_on, label_on, operation_small}

abbrev pub flat : List Row → List Lexeme
flat [] = []
flat (r ∷ rs) = r.first ∷ (r.more ++ flat rs)

pub chain_drop : (n hi lo : ℕ) (xs ys : List Lexeme) → Chain n hi lo (xs ++ ys) → (lo' : ℕ) × (lo ≤ lo') × Chain n hi lo' ys
chain_drop n hi lo [] ys h = (lo, le_refl lo, h)
chain_drop n hi lo (x ∷ xs) ys h =
    let (lo', i, j) = chain_drop n hi x.to xs ys h.2 in
    (lo', le_trans h.0 (le_trans h.1.ordered i), j)

closes_eq : (n p0 e : ℕ) → allow ((shut p0 (suc e)).closed && ltb 0 (shut p0 (suc e)).before) (stack (shut p0 (suc e)) ((shut p0 (suc e)).before - 1) 0 0 true) ≡ some (shut p0 e)
unfolding shut allow stack
closes_eq n p0 e =
    let i : suc e - 1 ≡ e = omega arith in
    rw (lt-ltb 0 (suc e) (omega arith), i)

module _ (n hi p0 : ℕ) where
  abbrev pub OnS : ℕ → ℕ → Stack → Stack → State → Type 0
  OnS b c κ k s = On n hi p0 (flat s.below) b c κ k s.line

  -- in a line, to a bound and a stack
  in_on : {A : Type 0} {b c b' : ℕ} {κ κ' : Stack} {m : Reader Line A} → ((rest : List Lexeme) → Triple (Checks n) (On n hi p0 rest b c κ) m (λ _. On n hi p0 rest b' 0 κ')) → Triple (Checks n) (OnS b c κ) (in_line m) (λ _. OnS b' 0 κ')
  in_on {b = b} {c} {b'} {κ} {κ'} e = in_lines (λ rs. On n hi p0 (flat rs) b c κ) (λ rs _. On n hi p0 (flat rs) b' 0 κ') (λ rs. e (flat rs))

  module _ {b c : ℕ} {κ : Stack} where
    at_token : {A : Type 0} {m : Reader State A} {R : A → Stack → State → Type 0} (x : Lexeme) → (Facts n hi p0 b c x → Triple (Checks n) (OnS b x.to κ) m R)
        → Triple (Checks n) (λ k s. (s.line.here ≡ x) × OnS b c κ k s) m R
    at_token x e = record {
      law = λ k s h.
          let i : x.to ≤ s.line.here.to = rw h.0 (le_refl x.to) in
          (e (rw h.0 at (facts n hi p0 (flat s.below) b c κ k s.line h.1))).law k s (record { same = h.1.same; low = h.1.low; gap = h.1.gap; soon = i; chain = h.1.chain });
    }

    ahead_s : {B : Type 0} {f : Lexeme → Reader State B} {R : B → Stack → State → Type 0} → ((x : Lexeme) → Facts n hi p0 b c x → Triple (Checks n) (OnS b x.to κ) (f x) R) → Triple (Checks n) (OnS b c κ) (in_line ahead >>= f) R
    ahead_s e = ask_ahead_s λ x. at_token x (e x)

    kind_s : {B : Type 0} (f : Kind → Reader State B) {R : B → Stack → State → Type 0} → ((x : Lexeme) → Facts n hi p0 b c x → Triple (Checks n) (OnS b x.to κ) (f x.kind) R) → Triple (Checks n) (OnS b c κ) (in_line kind >>= f) R
    kind_s f e = ask_kind_s f λ x. at_token x (e x)

    checks_s : {κ' : Stack} (r : Record) → statement_from 0 r ≡ false → Extra r → checked n κ r ≡ some κ' → Triple (Checks n) (OnS b c κ) (write r) (λ _. OnS b c κ')
    checks_s {κ'} r a x e = writes r λ k s h. (κ', record { inner = a; extra = x; checks = rw h.same e }, record { same = refl; low = h.low; gap = h.gap; soon = h.soon; chain = h.chain })

    -- to the first token of a row below
    row_on : (k : Stack) (l : Line) (r : Row) (rs : List Row) → On n hi p0 (flat (r ∷ rs)) b c κ k l → On n hi p0 (flat rs) b 0 κ k (first_of r)
    unfolding first_of
    row_on k l r rs h =
        let (lo, i, j) = chain_drop n hi l.here.to l.more (flat (r ∷ rs)) h.chain.2 in
        record {
          same = h.same;
          low = le_trans h.low (le_trans h.gap (le_trans h.chain.1.ordered (le_trans i j.0)));
          gap = le_refl r.first.from;
          soon = zero-le;
          chain = chain_low n hi lo p0 (flat (r ∷ rs)) (le_trans h.chain.0 (le_trans h.chain.1.ordered i)) j;
        }

    step_row_on : (k : Stack) (l : Line) (rs : List Row) → On n hi p0 (flat rs) b c κ k l → Post (Checks n) (λ _. OnS b 0 κ) k (step_row rs (record { line = l; below = rs }))
    unfolding step_row enter
    step_row_on k l [] h = holds nil (on_less n hi p0 [] (le_refl b) zero-le h)
    step_row_on k l (r ∷ rs) h = arrive_post r.first (holds nil (row_on k l r rs h))

    next_row_on : Triple (Checks n) (OnS b c κ) next_row (λ _. OnS b 0 κ)
    unfolding next_row
    next_row_on = record { law = λ k s h. step_row_on k s.line s.below h }

  skip_on : {b c : ℕ} {κ : Stack} (k : Stack) (l : Line) (rs : List Row) → On n hi p0 (flat rs) b c κ k l → Post (Checks n) (λ _. OnS b 0 κ) k (skip l rs)
  unfolding skip
  skip_on {b} k l [] h = holds nil (on_less n hi p0 [] (le_refl b) zero-le h)
  skip_on {b} {c} {κ} k l (r ∷ rs) h = go (is_line_end l.here.kind) (skip_on k (first_of r) rs (row_on k l r rs h))
    where
      go : (o : Bool) → Post (Checks n) (λ _. OnS b 0 κ) k (skip (first_of r) rs) → Post (Checks n) (λ _. OnS b 0 κ) k (if o then (arrive r.first (skip (first_of r) rs)) else (done [] tt (record { line = l; below = r ∷ rs })))
      go true p = arrive_post r.first p
      go false p = holds nil (on_less n hi p0 (flat (r ∷ rs)) (le_refl b) zero-le h)

  skip_lines_on : {b c : ℕ} {κ : Stack} → Triple (Checks n) (OnS b c κ) skip_lines (λ _. OnS b 0 κ)
  unfolding skip_lines
  skip_lines_on = record { law = λ k s h. skip_on k s.line s.below h }

  line_end_on : {b c : ℕ} {κ : Stack} → Triple (Checks n) (OnS b c κ) line_end (λ _. OnS b 0 κ)
  unfolding line_end
  line_end_on {b} = kind_s _ λ x f. whether (is_line_end x.kind) (λ _. next_row_on) (λ _. here_fails_s 10)

  passed_on : {B : Type 0} {b c : ℕ} {κ : Stack} {f : ℕ → Reader State B} {R : B → Stack → State → Type 0} → ((t : ℕ) → b ≤ t → t ≤ n → Triple (Checks n) (OnS b c κ) (f t) R) → Triple (Checks n) (OnS b c κ) (in_line passed >>= f) R
  passed_on e = ask_passed_s λ t. derive (λ k s h. between n hi p0 (flat s.below) k s.line h) (λ g. before (λ k s h. h.1) (e t g.0 g.1))

  -- a line record of x, up to t
  lined : (κ : Stack) {κ' : Stack} (f t m o : ℕ) → κ.place ≡ p0 → p0 ≤ f → f ≤ t → t ≤ n → to_line m o κ ≡ some κ' → given (spans n κ f t) (to_line m o κ) ≡ some κ'
  lined κ f t m o h u v l e = ap (λ (q : Bool). given q (to_line m o κ)) (span_true n hi p0 [] κ f t h u v l) ∙ taken (to_line m o κ) ∙ e

  place_any : (e o : ℕ) → (open' p0 e o 0).place ≡ p0
  unfolding open'
  place_any e o = refl

  module _ (x : Lexeme) (u : p0 ≤ x.from) (v : x.from ≤ x.to) (i : x.to ≤ n) where
    instruction_on : {c : ℕ} (e op : ℕ) → op < 99 → Triple (Checks n) (OnS x.to c (open' p0 e 0 0)) (instruction x op) (λ _. OnS x.to 0 (shut p0 e))
    unfolding instruction checked statement_from given
    instruction_on e op h = whether (eqb op rep || eqb op repne)
        (λ _. behind (λ _ k s q. on_less n hi p0 (flat s.below) (le_refl x.to) zero-le q) (passed_on λ t j l. checks_s {κ' = shut p0 e} _ refl tt
        (rw (span_true n hi p0 [] (open' p0 e 0 0) x.from t (place_open p0 e) u (le_trans v j) l, span_true n hi p0 [] (open' p0 e 0 0) t t (place_open p0 e) (le_trans u (le_trans v j)) (le_refl t) l, lt-ltb op 99 h) (to_line_lem p0 0 0 e e zero-le (omega arith)))))
        (λ _. bind (in_lines (λ rs. On n hi p0 (flat rs) x.to _ (open' p0 e 0 0)) (λ rs o k s. Counted n p0 o × On n hi p0 (flat rs) x.to 0 (open' p0 e o.count 0) k s) (λ rs. operands_on n hi p0 (flat rs) e (le_trans u v))) λ o. known λ q. passed_on λ t j l. and_then line_end_on (λ _.
        checks_s {κ' = shut p0 e} _ refl tt
        (rw (
          span_true n hi p0 [] (open' p0 e o.count 0) x.from t (place_any e o.count) u (le_trans v j) l,
          span_true n hi p0 [] (open' p0 e o.count 0) o.from o.to (place_any e o.count) q.start q.ordered q.inside,
          lt-ltb op 99 h,
          lt-ltb o.count 3 (omega (arith, q.few)),
        ) (to_line_lem p0 0 o.count e e zero-le (omega arith)))))

    constant_on : {c : ℕ} (e : ℕ) → Triple (Checks n) (OnS x.to c (open' p0 e 0 0)) (constant x) (λ _. OnS x.to 0 (shut p0 e))
    unfolding constant checked statement_from
    constant_on e = and_then (in_on (λ rest. before (λ k s h. on_soon n hi p0 rest h) (expression_on n hi p0 rest (first_context p0 e) 0)))
        (λ _. passed_on λ t j l. and_then line_end_on (λ _. checks_s _ refl tt (lined (open' p0 (suc e) 0 0) x.from t 1 0 (place_open p0 (suc e)) u (le_trans v j) l (to_line_lem p0 1 0 (suc e) e (omega arith) (omega arith)))))

    some_data_on : (e : ℕ) (ds : List ℕ) → Triple (Checks n) (λ k s. Data n hi p0 (flat s.below) x.to (open' p0 e 0 0) ds k s.line) (some_data x ds) (λ _. OnS x.to 0 (shut p0 e))
    unfolding some_data checked statement_from given
    some_data_on e [] = refuses _
    some_data_on e (d ∷ ds) = ask_passed_s λ t. derive {F = (x.to ≤ t) × (t ≤ n) × (length (d ∷ ds) ≤ 4 * t)} (λ k s h.
        let (a, b) = between n hi p0 (flat s.below) k s.line (h.0, h.1.1) in
        let m : length (d ∷ ds) + 4 * x.to ≤ 4 * s.line.last = h.1.0 in
        let l : s.line.last ≡ t = h.0 in
        (a, b, omega arith))
        (λ g. before (λ k s h. h.1.1) (and_then line_end_on (λ _. checks_s {κ' = shut p0 e} _ refl g.2
        (rw (span_true n hi p0 [] (open' p0 e 0 0) x.from t (place_open p0 e) u (le_trans v g.0) g.1, lt-ltb 0 (suc (length ds)) (omega arith)) (to_line_lem p0 0 0 e e zero-le (omega arith))))))

    data_of_on : (takes : ℕ → ℕ → Bool) {c : ℕ} (e width : ℕ) → Triple (Checks n) (OnS x.to c (open' p0 e 0 0)) (data_of takes x width) (λ _. OnS x.to 0 (shut p0 e))
    unfolding data_of
    data_of_on takes e width = ask_left_s λ m. bind (in_lines (λ rs. On n hi p0 (flat rs) x.to _ (open' p0 e 0 0)) (λ rs ds. Data n hi p0 (flat rs) x.to (open' p0 e 0 0) ds) (λ rs. literals_on n hi p0 (flat rs) takes (suc m) width)) λ ds. some_data_on e ds

  passing_on : {b c : ℕ} {κ κ' : Stack} {m : Reader State (Unit {0})} → Triple (Checks n) (OnS c 0 κ) m (λ _. OnS c 0 κ') → Triple (Checks n) (OnS b c κ) (passing m) (λ _. OnS c 0 κ')
  unfolding passing
  passing_on p = and_then (in_on (λ rest. nexts n hi p0 rest)) (λ _. p)

  module _ (profile : Profile) (proper : Proper profile.table) where
    -- A statement, and a content, with e expressions below.
    module _ {times' : Reader State (Unit {0})} (nested : (b c e : ℕ) → Triple (Checks n) (OnS b c (open' p0 e 0 0)) times' (λ _. OnS c 0 (shut p0 e))) where
      line_on : {b c : ℕ} (e : ℕ) → Triple (Checks n) (OnS b c (open' p0 e 0 0)) (line profile times') (λ _. OnS c 0 (shut p0 e))
      unfolding line
      line_on e = ahead_s λ x f. behind (λ _ k s h. on_less n hi p0 (flat s.below) f.soon (le_refl 0) h) (perhaps (operation_in profile.table x.kind)
          (perhaps (name_in directives x.kind)
          (whether (is_word x.kind) (λ _. passing_on (in_on (λ rest. label_on n hi p0 rest e x f.start f.sound.ordered f.inside))) (λ _. here_fails_s 20))
          λ d _. whether (eqb d 0) (λ _. passing_on (constant_on x f.start f.sound.ordered f.inside e))
          (λ _. whether (ltb d 3) (λ _. passing_on (data_of_on x f.start f.sound.ordered f.inside profile.takes e d)) (λ _. nested _ _ e)))
          λ op h. passing_on (instruction_on x f.start f.sound.ordered f.inside e op (operation_small profile.table proper x.kind op h)))

      content_on : {b : ℕ} (e : ℕ) (x : Lexeme) → Triple (Checks n) (OnS b 0 (open' p0 (suc e) 0 0)) (content profile times' x) (λ _. OnS b 0 (shut p0 e))
      unfolding content checked statement_from given
      content_on {b} e x = kind_s _ λ y f. behind (λ _ k s h. on_less n hi p0 (flat s.below) (le_trans f.later f.sound.ordered) (le_refl 0) h)
          (and_then (whether (is_line_end y.kind) (λ _. refuses _) (λ _. line_on (suc e))) (λ _. checks_s LT refl tt (closes_eq n p0 e)))

    times_on : (m b c e : ℕ) → Triple (Checks n) (OnS b c (open' p0 e 0 0)) (times profile m) (λ _. OnS c 0 (shut p0 e))
    unfolding times
    times_on zero b c e = here_fails_s 5
    times_on (suc m) b c e = ahead_s λ x f. behind (λ _ k s h. on_less n hi p0 (flat s.below) f.soon (le_refl 0) h) (passing_on (and_then
        (in_on (λ rest. before (λ k s h. on_soon n hi p0 rest h) (expression_on n hi p0 rest (first_context p0 e) 0))) (λ _. and_then skip_lines_on (λ _. content_on (times_on m) e x))))

ready_shut : (q : ℕ) (k : Stack) → k ≡ shut q 0 → complete k ≡ true
unfolding complete shut
ready_shut q k h = ap complete h

floor_shut : (q : ℕ) (k : Stack) → k ≡ shut q 0 → k.floor ≡ suc q
unfolding shut
floor_shut q k h = ap (λ (k : Stack). k.floor) h

-- Between statements: the stack is complete, and the next statement is from lo on.
pub record Ready (lo : ℕ) (κ : Stack) : Type 0 where
  pub done' : complete κ ≡ true
  pub from' : κ.floor ≤ lo

module _ (n hi : ℕ) where
  pub data Stated (lo : ℕ) (κ : Stack) : Answer State Bool → Type 0 where
    began : {q lo' : ℕ} {v : List Record} {s : State} {κ₁ κ' : Stack} → lo ≤ q → q < hi → q < lo' → checked n κ (ST q) ≡ some κ₁ → Run (Checks n) κ₁ v κ' → Ready lo' κ' → OnS n hi 0 lo' 0 κ' κ' s → Stated lo κ (done (ST q ∷ v) true s)
    ended : {s : State} → Stated lo κ (done [] false s)
    failed : {r : Cause} → Stated lo κ (refused r)

  pub data Skips (lo : ℕ) (κ : Stack) : Answer State (Unit {0}) → Type 0 where
    skips : {s : State} → OnS n hi 0 lo 0 κ κ s → Skips lo κ (done [] tt s)
    broke : {r : Cause} → Skips lo κ (refused r)

  skip_skips : (lo : ℕ) (κ : Stack) (l : Line) (rs : List Row) → On n hi 0 (flat rs) lo 0 κ κ l → Skips lo κ (skip l rs)
  unfolding skip
  skip_skips lo κ l [] h = skips h
  skip_skips lo κ l (r ∷ rs) h = go (is_line_end l.here.kind) (skip_skips lo κ (first_of r) rs (row_on n hi 0 κ l r rs h))
    where
      go : (o : Bool) → Skips lo κ (skip (first_of r) rs) → Skips lo κ (if o then (arrive r.first (skip (first_of r) rs)) else (done [] tt (record { line = l; below = r ∷ rs })))
      go true p = arrived (Skips lo κ) r.first (λ n e. broke) p
      go false p = skips h

  -- the records of a statement behind its first
  started : (lo q t : ℕ) (κ κ₁ : Stack) → lo ≤ q → q < hi → suc q ≤ t → checked n κ (ST q) ≡ some κ₁ → {p : Answer State (Unit {0})} → Post (Checks n) (λ _. OnS n hi q t 0 (shut q 0)) κ₁ p
      → Stated lo κ (thence (after (ST q ∷ []) p) (λ _. return true))
  unfolding thence after return
  started lo q t κ κ₁ i j l e (holds {w = w} {s = s} {g' = k'} r o) = rw (append-nil w) (began i j l e r (record { done' = ready_shut q k' o.same; from' = rw (floor_shut q k' o.same) l }) (record { same = refl; low = o.low; gap = o.gap; soon = zero-le; chain = chain_low n hi q 0 (s.line.here ∷ (s.line.more ++ flat s.below)) zero-le o.chain }))
  started lo q t κ κ₁ i j l e fails = failed

  starts : (κ : Stack) (q : ℕ) → complete κ ≡ true → κ.floor ≤ q → q ≤ n → checked n κ (ST q) ≡ some (open' q 0 0 0)
  unfolding checked given allow open'
  starts κ q h i j = rw (h, le-leb κ.floor q i, le-leb q n j)

  stated_plain : {lo : ℕ} {κ : Stack} {p : Answer State Bool} → Stated lo κ p → Stated lo κ (after [] p)
  stated_plain {p = p} h = rw (after_nil p) h

  module _ (profile : Profile) (proper : Proper profile.table) where
    begun_stated : (lo : ℕ) (κ : Stack) (s : State) → Ready lo κ → OnS n hi 0 lo 0 κ κ s → Stated lo κ (begun profile s)
    unfolding begun in_line over ahead write return ◌>>=◌ ◌>>◌ thence
    begun_stated lo κ s y h = stated_plain (go (is_line_end s.line.here.kind) refl)
      where
        go : (o : Bool) → is_line_end s.line.here.kind ≡ o → Stated lo κ (if◌then◌else◌ {A = Reader State Bool} o (return false) (write (ST s.line.here.from) >> line profile (times profile 16) >> return true) s)
        go true e = ended
        go false e =
            let x : Lexeme = s.line.here in
            let f : Facts n hi 0 lo 0 x = facts n hi 0 (flat s.below) lo 0 κ κ s.line h in
            let (i, j) = f.sound.strict e in
            started lo x.from x.to κ (open' x.from 0 0 0) f.later (le_trans i j) i
            (starts κ x.from y.done' (le_trans y.from' f.later) (le_trans f.sound.ordered f.inside))
            ((line_on n hi x.from profile proper (times_on n hi x.from profile proper 16) {b = 0} {c = x.to} 0).law (open' x.from 0 0 0) s
            (record { same = refl; low = zero-le; gap = h.gap; soon = le_refl x.to; chain = (le_refl x.from, h.chain.1, h.chain.2) }))

    skips_stated : (lo : ℕ) (κ : Stack) → Ready lo κ → {p : Answer State (Unit {0})} → Skips lo κ p → Stated lo κ (thence p (λ _. begun profile))
    unfolding thence
    skips_stated lo κ y (skips {s} h) = stated_plain (begun_stated lo κ s y h)
    skips_stated lo κ y broke = failed

    pub statement_stated : (lo : ℕ) (κ : Stack) (s : State) → Ready lo κ → OnS n hi 0 lo 0 κ κ s → Stated lo κ (statement profile s)
    unfolding statement skip_lines ◌>>=◌ ◌>>◌
    statement_stated lo κ s y h = skips_stated lo κ y (skip_skips lo κ s.line s.below h)
