-- APPEND. Rows read alone, beside the same rows with further rows `b ∷ bs` behind them. Where the first reading lacks a content (34), the second has it from the further rows.
use Rattle.std.specs.Prelude.{if◌then◌else◌}
use mathlib.Core.Path.{◌≡◌, refl, sym, ap, ◌∙◌}
use mathlib.Core.Bool.{Bool, true, false, ◌||◌, true≢false, false≢true}
use mathlib.Core.List.{List, [], ◌∷◌, ◌++◌, append_assoc, append-nil}
use mathlib.Core.Option.{Option, none, some}
use Prim.Native.Nat.{ℕ, zero, suc, ◌≤◌}
use native.Mathlib.Omega.{arith}
use lib.Dec.{ltb, eqb}
use Rattle.lexer.specs.Text.{maybe}
use Rattle.rules.specs.Lexemes.{Kind, word, number, quoted, mark, newline, blank, comment, invalid, end, bad, Lexeme, name_in, operation_in}
use Rattle.names.specs.Names.{directives}
use Rattle.rules.specs.Records.{Record, ST, LT}
use Rattle.rules.specs.Reader.{Cause, at, Answer, done, refused, Reader, Line, after, thence, ◌>>=◌, ◌>>◌, return, write, refuse, refused_as, arrive, ahead, kind, refuse_here, is_line_end}
use Rattle.rules.specs.Operands.{is_word}
use Rattle.rules.proofs.Move.{Mild, Stays, Gentle, bad_mild, next_mild}
use Rattle.rules.proofs.MoveState.{ahead_mild, passed_mild, left_mild, here_mild, expression_mild, operands_mild, label_mild, literals_mild}
use Rattle.rules.specs.Statements.{Profile, Row, State, over, in_line, first_of, enter, step_row, next_row, line_end, skip, skip_lines, passing, rep, repne, instruction, constant, some_data, data_of, line, content, times, begun, statement}

pub after_nil : {S A : Type 0} (p : Answer S A) → after [] p ≡ p
unfolding after
after_nil (done w a s) = refl
after_nil (refused r) = refl

pub after_after : {S A : Type 0} (w v : List Record) (p : Answer S A) → after w (after v p) ≡ after (w ++ v) p
unfolding after
after_after w v (done u a s) = rw (append_assoc w v u)
after_after w v (refused r) = refl

-- what may stand behind rows that are read alone: nothing, or a row without tokens
pub data Tail : List Row → Type 0 where
  bare : Tail []
  empty : (e : Row) → is_line_end e.first.kind ≡ true → Tail (e ∷ [])

pub record Ending (u : State) : Type 0 where
  pub over' : is_line_end u.line.here.kind ≡ true
  pub none' : u.below ≡ []

pub end_fine : (k : Kind) → is_line_end k ≡ true → refused_as k ≡ none
unfolding is_line_end refused_as
end_fine newline h = refl
end_fine end h = refl
end_fine (mark c) h = refl
end_fine (word w) h = refl
end_fine (number v) h = refl
end_fine (quoted b w) h = refl
end_fine blank h = refl
end_fine comment h = refl
end_fine invalid h = refl
end_fine (bad n) h = absurd (false≢true h)

-- at the end
pub skip_ends : (u : State) → Ending u → skip_lines u ≡ done [] tt u
unfolding skip_lines skip
skip_ends u e = rw e.none'

pub arrive_fine : {A : Type 0} (x : Lexeme) (p : Answer State A) → refused_as x.kind ≡ none → arrive x p ≡ p
unfolding arrive
arrive_fine x p h = rw h

arrive_bad : {A : Type 0} (x : Lexeme) (p : Answer State A) (n : ℕ) → refused_as x.kind ≡ some n → arrive x p ≡ refused (at n x.from x.to)
unfolding arrive
arrive_bad x p n h = rw h

pub enter_ends : (e : Row) → is_line_end e.first.kind ≡ true → Ending (enter e [])
unfolding enter first_of
enter_ends e h = record { over' = h; none' = refl }

-- an answer p with records before and behind it
unfoldable pub closing : {A B : Type 0} → List Record → List Record → B → Answer State A → Answer State B
closing w z b p = after w (thence p (λ _ s. done z b s))

closing_after : {A B : Type 0} (v w z : List Record) (b : B) (p : Answer State A) → after v (closing w z b p) ≡ closing (v ++ w) z b p
unfolding closing
closing_after v w z b p = after_after v w _

closing_then : {A B C : Type 0} (w z g : List Record) (b : B) (c : C) (p : Answer State A) → thence (closing w z b p) (λ _ s. done g c s) ≡ closing w (z ++ g) c p
unfolding closing thence after
closing_then w z g b c (done v a s) = rw (append_assoc w (v ++ z) g, append_assoc v z g)
closing_then w z g b c (refused r) = refl

closing_plain : (p : Answer State (Unit {0})) → closing [] [] (tt {0}) p ≡ p
unfolding closing thence after
closing_plain (done w a s) = rw (append-nil w)
closing_plain (refused r) = refl

-- What holds of two answers and of the token's refusal holds where the token is arrived at.
arrived_both : {A : Type 0} (T : Answer State A → Answer State A → Type 0) (x : Lexeme) {p q : Answer State A}
    → ((n : ℕ) → refused_as x.kind ≡ some n → T (refused (at n x.from x.to)) (refused (at n x.from x.to))) → T p q → T (arrive x p) (arrive x q)
unfolding arrive
arrived_both T x {p} {q} m h = go (refused_as x.kind) refl
  where
    go : (o : Option ℕ) → refused_as x.kind ≡ o → T (maybe o p (λ n. refused (at n x.from x.to))) (maybe o q (λ n. refused (at n x.from x.to)))
    go none e = h
    go (some n) e = m n e

-- What a second reading comes to at further rows, past empty lines.
unfoldable pub coming : Row → List Row → Answer State (Unit {0})
coming b bs = arrive b.first (skip_lines (enter b bs))

abbrev pub Late : Bool → Type 0
Late true = Unit {0}
Late false = ⊥

module _ (profile : Profile) where
  -- Runs of statements, with what the last one gives.
  pub data Reads : State → Answer State (Unit {0}) → Type 0 where
    stop : {s t : State} {w : List Record} → statement profile s ≡ done w false t → Reads s (done w tt t)
    fail : {s : State} {r : Cause} → statement profile s ≡ refused r → Reads s (refused r)
    go : {s t : State} {w : List Record} {p : Answer State (Unit {0})} → statement profile s ≡ done w true t → Reads t p → Reads s (after w p)

  -- what comes of a statement's answer
  pub data Continues : Answer State Bool → Answer State (Unit {0}) → Type 0 where
    stop : {t : State} {w : List Record} → Continues (done w false t) (done w tt t)
    fail : {r : Cause} → Continues (refused r) (refused r)
    go : {t : State} {w : List Record} {p : Answer State (Unit {0})} → Reads t p → Continues (done w true t) (after w p)

  pub continues : {s : State} {p : Answer State (Unit {0})} → Reads s p → Continues (statement profile s) p
  continues (stop z) = rw z Continues.stop
  continues (fail z) = rw z Continues.fail
  continues (go z r) = rw z (Continues.go r)

  pub reads : {s : State} {a : Answer State Bool} {p : Answer State (Unit {0})} → statement profile s ≡ a → Continues a p → Reads s p
  reads h Continues.stop = Reads.stop h
  reads h Continues.fail = Reads.fail h
  reads h (Continues.go r) = Reads.go h r

  -- A run from a row's first token.
  pub data Begins : List Row → Answer State (Unit {0}) → Type 0 where
    fine : {r : Row} {rs : List Row} {p : Answer State (Unit {0})} → refused_as r.first.kind ≡ none → Reads (enter r rs) p → Begins (r ∷ rs) p
    broken : {r : Row} {rs : List Row} {n : ℕ} → refused_as r.first.kind ≡ some n → Begins (r ∷ rs) (refused (at n r.first.from r.first.to))

  pub begun_ends : (u : State) → Ending u → begun profile u ≡ done [] false u
  unfolding begun ◌>>=◌ thence after in_line over ahead return
  begun_ends u e = rw e.over'

  pub statement_ends : (u : State) → Ending u → statement profile u ≡ done [] false u
  unfolding statement ◌>>◌ ◌>>=◌ thence after
  statement_ends u e = rw (skip_ends u e, begun_ends u e)

  content_lacks : (m : Reader State (Unit {0})) (x : Lexeme) (u : State) → Ending u → content profile m x u ≡ refused (at 34 x.from x.to)
  unfolding content ◌>>=◌ ◌>>◌ thence after in_line over kind refuse
  content_lacks m x u e = rw e.over'

  module _ (b : Row) (bs : List Row) where
    -- a reading that takes the content of a `times` from the further rows
    pub record Pending {A : Type 0} (q : Answer State A) : Type 0 where
      pub n : ℕ
      pub x : Lexeme
      pub w : List Record
      pub z : List Record
      pub a : A
      pub few : n ≤ 16
      pub form : q ≡ closing w z a (thence (coming b bs) (λ _. content profile (times profile n) x))

    -- Two answers agree: the same records and value, in states that R relates; the same refusal. Late ones may also lack a content, or end before a bad token.
    pub data Agree (c : Bool) (R : State → State → Type 0) {A : Type 0} : Answer State A → Answer State A → Type 0 where
      both : {w : List Record} {a : A} {s t : State} → R s t → Agree c R (done w a s) (done w a t)
      neither : {r : Cause} → Mild r → Agree c R (refused r) (refused r)
      lacking : {f t : ℕ} {q : Answer State A} → Late c → Pending q → Agree c R (refused (at 34 f t)) q
      halted : {w : List Record} {a : A} {u : State} {n : ℕ} → Late c → Ending u → refused_as b.first.kind ≡ some n → Agree c R (done w a u) (refused (at n b.first.from b.first.to))

    pub record Keeps (c : Bool) (R R' : State → State → Type 0) {A : Type 0} (m : Reader State A) : Type 0 where
      pub law : {s t : State} → R s t → Agree c R' (m s) (m t)

  module _ {b : Row} {bs : List Row} where
    after_agree : {c : Bool} {R : State → State → Type 0} {A : Type 0} (w : List Record) {p q : Answer State A} → Agree b bs c R p q → Agree b bs c R (after w p) (after w q)
    unfolding after
    after_agree w (both h) = both h
    after_agree w (neither m) = neither m
    after_agree w (lacking {q = q} l p) = lacking l (record { n = p.n; x = p.x; w = w ++ p.w; z = p.z; a = p.a; few = p.few; form = ap (after w) p.form ∙ closing_after w p.w p.z p.a _ })
    after_agree w (halted l e h) = halted l e h

    returns : {c : Bool} {R : State → State → Type 0} {A : Type 0} (a : A) → Keeps b bs c R R (return a)
    unfolding return
    returns a = record { law = λ h. both h }

    writes : {c : Bool} {R : State → State → Type 0} (r : Record) → Keeps b bs c R R (write r)
    unfolding write
    writes r = record { law = λ h. both h }

    refuses : {c : Bool} {R R' : State → State → Type 0} {A : Type 0} (r : Cause) → Mild r → Keeps b bs c R R' {A = A} (refuse r)
    unfolding refuse
    refuses r m = record { law = λ h. neither m }

    whether : {c : Bool} {R R' : State → State → Type 0} {A : Type 0} {m n : Reader State A} (o : Bool) → Keeps b bs c R R' m → Keeps b bs c R R' n → Keeps b bs c R R' (if o then m else n)
    whether true p q = p
    whether false p q = q

    perhaps : {c : Bool} {R R' : State → State → Type 0} {A B : Type 0} {m : Reader State A} {k : B → Reader State A} (o : Option B)
        → Keeps b bs c R R' m → ((d : B) → Keeps b bs c R R' (k d)) → Keeps b bs c R R' (maybe o m k)
    perhaps none p q = p
    perhaps (some d) p q = q d

    thence_agree : {c : Bool} {R' R'' : State → State → Type 0} {A B : Type 0} (k : A → Reader State B) → ((a : A) → Keeps b bs c R' R'' (k a)) → {p q : Answer State A} → Agree b bs false R' p q → Agree b bs c R'' (thence p k) (thence q k)
    unfolding thence
    thence_agree k e (both {w} {a} h) = after_agree w ((e a).law h)
    thence_agree k e (neither m) = neither m
    thence_agree k e (lacking l p) = absurd l
    thence_agree k e (halted l i h) = absurd l

    bind : {c : Bool} {R R' R'' : State → State → Type 0} {A B : Type 0} {m : Reader State A} {k : A → Reader State B} → Keeps b bs false R R' m → ((a : A) → Keeps b bs c R' R'' (k a)) → Keeps b bs c R R'' (m >>= k)
    unfolding ◌>>=◌
    bind {k = k} p e = record { law = λ h. thence_agree k e (p.law h) }

    and_then : {c : Bool} {R R' R'' : State → State → Type 0} {A B : Type 0} {m : Reader State A} {k : Reader State B} → Keeps b bs false R R' m → Keeps b bs c R' R'' k → Keeps b bs c R R'' (m >> k)
    unfolding ◌>>◌ ◌>>=◌
    and_then {k = k} p e = record { law = λ h. thence_agree (λ _. k) (λ _. e) (p.law h) }

    -- with a record behind
    then_agree : {R : State → State → Type 0} {A B : Type 0} (g : List Record) (c : B) {p q : Answer State A} → Agree b bs true R p q → Agree b bs true R (thence p (λ _ s. done g c s)) (thence q (λ _ s. done g c s))
    unfolding thence after
    then_agree g c (both h) = both h
    then_agree g c (neither m) = neither m
    then_agree g c (lacking {q = q} l p) = lacking tt (record {
      n = p.n;
      x = p.x;
      w = p.w;
      z = p.z ++ g;
      a = c;
      few = p.few;
      form = ap (λ (r : Answer State _). thence r (λ _ s. done g c s)) p.form ∙ closing_then p.w p.z g p.a c _;
    })
    then_agree g c (halted l e h) = halted tt e h

    then_writes : {R R' : State → State → Type 0} {m : Reader State (Unit {0})} (r : Record) → Keeps b bs true R R' m → Keeps b bs true R R' (m >> write r)
    unfolding ◌>>◌ ◌>>=◌ write
    then_writes r p = record { law = λ h. then_agree (r ∷ []) tt (p.law h) }

  module _ (es : List Row) (b : Row) (bs : List Row) where
    pub data In : State → State → Type 0 where
      inside : (l : Line) (rs : List Row) → In (record { line = l; below = rs ++ es }) (record { line = l; below = rs ++ (b ∷ bs) })

    pub data Open : State → State → Type 0 where
      within : {s t : State} → In s t → Open s t
      ended : (u : State) → Ending u → refused_as b.first.kind ≡ none → Open u (enter b bs)

    -- Past empty lines: still among the rows; or at the end, where the second reading is past the empty lines of the further rows.
    pub data Skipped : Answer State (Unit {0}) → Answer State (Unit {0}) → Type 0 where
      still : {s t : State} → In s t → is_line_end s.line.here.kind ≡ false → Skipped (done [] tt s) (done [] tt t)
      stopped : {r : Cause} → Mild r → Skipped (refused r) (refused r)
      reached : (u : State) → Ending u → Skipped (done [] tt u) (coming b bs)

    -- the first reading is at its end, the second goes to the further rows
    come : (u : State) → Ending u → (o : Option ℕ) → refused_as b.first.kind ≡ o → Agree b bs true Open (done [] (tt {0}) u) (maybe o (done [] tt (enter b bs)) (λ n. refused (at n b.first.from b.first.to)))
    come u e none h = both (ended u e h)
    come u e (some n) h = halted tt e h

  step_bare : (es : List Row) → Tail es → (b : Row) (bs : List Row) (l : Line) → is_line_end l.here.kind ≡ true
      → Agree b bs true (Open es b bs) (step_row es (record { line = l; below = es })) (step_row (b ∷ bs) (record { line = l; below = b ∷ bs }))
  unfolding step_row arrive
  step_bare es bare b bs l h = come es b bs (record { line = l; below = [] }) (record { over' = h; none' = refl }) (refused_as b.first.kind) refl
  step_bare es (empty e i) b bs l h = rw (end_fine e.first.kind i) (come es b bs (enter e []) (enter_ends e i) (refused_as b.first.kind) refl)

  skip_last : (es : List Row) → Tail es → (b : Row) (bs : List Row) (l : Line) (o : Bool) → is_line_end l.here.kind ≡ o
      → Skipped es b bs (skip l es) (if o then (arrive b.first (skip (first_of b) bs)) else (done [] tt (record { line = l; below = b ∷ bs })))
  unfolding skip coming skip_lines enter
  skip_last es bare b bs l true h = reached (record { line = l; below = [] }) (record { over' = h; none' = refl })
  skip_last es bare b bs l false h = still (inside l []) h
  skip_last es (empty e i) b bs l true h = rw (h, arrive_fine e.first (done [] (tt {0}) (enter e [])) (end_fine e.first.kind i)) (reached (enter e []) (enter_ends e i))
  skip_last es (empty e i) b bs l false h = rw h (still (inside l []) h)

  module _ (es : List Row) (tail : Tail es) (b : Row) (bs : List Row) where
    over_agree : {c : Bool} {A : Type 0} (rs : List Row) (p : Answer Line A) → Stays (λ _. Unit {0}) Mild p → Agree b bs c (In es b bs) (over (rs ++ es) p) (over (rs ++ (b ∷ bs)) p)
    unfolding over
    over_agree rs (done w a l) m = both (inside l rs)
    over_agree rs (refused r) m = neither m

    in_line_in : {c : Bool} {A : Type 0} {m : Reader Line A} → Gentle m → {s t : State} → (In es b bs) s t → Agree b bs c (In es b bs) (in_line m s) (in_line m t)
    unfolding in_line
    in_line_in {m = m} g (inside l rs) = over_agree rs (m l) (g.law l)

    in_lines : {c : Bool} {A : Type 0} {m : Reader Line A} → Gentle m → Keeps b bs c (In es b bs) (In es b bs) (in_line m)
    in_lines g = record { law = λ h. in_line_in g h }

    weaken : {A : Type 0} {p q : Answer State A} → Agree b bs true (In es b bs) p q → Agree b bs true (Open es b bs) p q
    weaken (both h) = both (within h)
    weaken (neither m) = neither m
    weaken (lacking l p) = lacking l p
    weaken (halted l e h) = halted l e h

    opened : {A : Type 0} {R : State → State → Type 0} {m : Reader State A} → Keeps b bs true R (In es b bs) m → Keeps b bs true R (Open es b bs) m
    opened p = record { law = λ h. weaken (p.law h) }

    step_row_open : (l : Line) (rs : List Row) → is_line_end l.here.kind ≡ true → Agree b bs true (Open es b bs) (step_row (rs ++ es) (record { line = l; below = rs ++ es })) (step_row (rs ++ (b ∷ bs)) (record { line = l; below = rs ++ (b ∷ bs) }))
    unfolding step_row enter
    step_row_open l [] h = step_bare es tail b bs l h
    step_row_open l (r ∷ rs) h = arrived_both (Agree b bs true (Open es b bs)) r.first (λ n e. neither (bad_mild r.first.kind n e)) (both (within (inside (first_of r) rs)))

    line_end_in : (l : Line) (rs : List Row) → Agree b bs true (Open es b bs) (line_end (record { line = l; below = rs ++ es })) (line_end (record { line = l; below = rs ++ (b ∷ bs) }))
    unfolding line_end next_row ◌>>=◌ thence in_line over kind refuse_here
    line_end_in l rs = after_agree [] (go' (is_line_end l.here.kind) refl)
      where
        go' : (o : Bool) → is_line_end l.here.kind ≡ o → Agree b bs true (Open es b bs) (if◌then◌else◌ {A = Reader State (Unit {0})} o next_row (in_line (refuse_here 10)) (record { line = l; below = rs ++ es }))
            (if◌then◌else◌ {A = Reader State (Unit {0})} o next_row (in_line (refuse_here 10)) (record { line = l; below = rs ++ (b ∷ bs) }))
        go' true h = step_row_open l rs h
        go' false h = neither refl

    line_end_open : Keeps b bs true (In es b bs) (Open es b bs) line_end
    line_end_open = record { law = λ h. at_in h }
      where
        at_in : {s t : State} → (In es b bs) s t → Agree b bs true (Open es b bs) (line_end s) (line_end t)
        at_in (inside l rs) = line_end_in l rs

    passing_open : {m : Reader State (Unit {0})} → Keeps b bs true (In es b bs) (Open es b bs) m → Keeps b bs true (In es b bs) (Open es b bs) (passing m)
    unfolding passing
    passing_open p = and_then (in_lines next_mild) p

    instruction_open : (x : Lexeme) (op : ℕ) → Keeps b bs true (In es b bs) (Open es b bs) (instruction x op)
    unfolding instruction
    instruction_open x op = whether (eqb op rep || eqb op repne)
        (opened (bind (in_lines passed_mild) λ t. writes _))
        (bind (in_lines operands_mild) λ o. bind (in_lines passed_mild) λ t. then_writes _ line_end_open)

    constant_open : (x : Lexeme) → Keeps b bs true (In es b bs) (Open es b bs) (constant x)
    unfolding constant
    constant_open x = and_then (in_lines expression_mild) (bind (in_lines passed_mild) λ t. then_writes _ line_end_open)

    some_data_open : (x : Lexeme) (ds : List ℕ) → Keeps b bs true (In es b bs) (Open es b bs) (some_data x ds)
    unfolding some_data
    some_data_open x [] = refuses _ refl
    some_data_open x (d ∷ ds) = bind (in_lines passed_mild) λ t. then_writes _ line_end_open

    data_of_open : (x : Lexeme) (width : ℕ) → Keeps b bs true (In es b bs) (Open es b bs) (data_of profile.takes x width)
    unfolding data_of
    data_of_open x width = bind (in_lines left_mild) λ n. bind (in_lines (literals_mild profile.takes (suc n) width)) λ ds. some_data_open x ds

    line_open : {m : Reader State (Unit {0})} → Keeps b bs true (In es b bs) (Open es b bs) m → Keeps b bs true (In es b bs) (Open es b bs) (line profile m)
    unfolding line
    line_open p = bind (in_lines ahead_mild) λ x. perhaps (operation_in profile.table x.kind) (perhaps (name_in directives x.kind)
        (whether (is_word x.kind) (passing_open (opened (in_lines (label_mild x)))) (opened (in_lines (here_mild 20 refl))))
        λ n. whether (eqb n 0) (passing_open (constant_open x)) (whether (ltb n 3) (passing_open (data_of_open x n)) p)) λ op. passing_open (instruction_open x op)

    skip_skipped : (l : Line) (rs : List Row) → (Skipped es b bs) (skip l (rs ++ es)) (skip l (rs ++ (b ∷ bs)))
    unfolding skip
    skip_skipped l [] = skip_last es tail b bs l (is_line_end l.here.kind) refl
    skip_skipped l (r ∷ rs) = go' (is_line_end l.here.kind) refl (skip_skipped (first_of r) rs)
      where
        go' : (o : Bool) → is_line_end l.here.kind ≡ o → (Skipped es b bs) (skip (first_of r) (rs ++ es)) (skip (first_of r) (rs ++ (b ∷ bs)))
            → (Skipped es b bs) (if o then (arrive r.first (skip (first_of r) (rs ++ es))) else (done [] tt (record { line = l; below = r ∷ (rs ++ es) })))
            (if o then (arrive r.first (skip (first_of r) (rs ++ (b ∷ bs)))) else (done [] tt (record { line = l; below = r ∷ (rs ++ (b ∷ bs)) })))
        go' true h i = arrived_both (Skipped es b bs) r.first (λ n e. stopped (bad_mild r.first.kind n e)) i
        go' false h i = still (inside l (r ∷ rs)) h

    pub skip_lines_skipped : {s t : State} → (In es b bs) s t → (Skipped es b bs) (skip_lines s) (skip_lines t)
    unfolding skip_lines
    skip_lines_skipped (inside l rs) = skip_skipped l rs

    -- the content of a `times`
    content_open : {m : Reader State (Unit {0})} (x : Lexeme) → Keeps b bs true (In es b bs) (Open es b bs) m → {s t : State} → In es b bs s t → is_line_end s.line.here.kind ≡ false
        → Agree b bs true (Open es b bs) (content profile m x s) (content profile m x t)
    unfolding content ◌>>=◌ thence in_line over kind
    content_open {m} x h (inside l rs) f = after_agree [] (rw f ((then_writes LT (line_open h)).law (inside l rs)))

    then_skipped : (n : ℕ) → n ≤ 16 → (x : Lexeme) → Keeps b bs true (In es b bs) (Open es b bs) (times profile n)
        → {p q : Answer State (Unit {0})} → Skipped es b bs p q → Agree b bs true (Open es b bs) (thence p (λ _. content profile (times profile n) x)) (thence q (λ _. content profile (times profile n) x))
    unfolding thence
    then_skipped n i x h (still j f) = after_agree [] (content_open x h j f)
    then_skipped n i x h (stopped m) = neither m
    then_skipped n i x h (reached u e) = rw (after_nil (content profile (times profile n) x u), content_lacks (times profile n) x u e)
        (lacking tt (record { n = n; x = x; w = []; z = []; a = tt; few = i; form = sym (closing_plain (thence (coming b bs) (λ _. content profile (times profile n) x))) }))

    times_open : (n : ℕ) → n ≤ 16 → Keeps b bs true (In es b bs) (Open es b bs) (times profile n)
    unfolding times ◌>>◌ ◌>>=◌
    times_open zero i = opened (in_lines (here_mild 5 refl))
    times_open (suc n) i = bind (in_lines ahead_mild) λ x. passing_open (and_then (in_lines expression_mild)
        (record { law = λ h. then_skipped n (omega arith) x (times_open n (omega arith)) (skip_lines_skipped h) }))

    -- A statement.
    pub data Next : Answer State Bool → Answer State Bool → Type 0 where
      went : {w : List Record} {s t : State} → (Open es b bs) s t → Next (done w true s) (done w true t)
      stopped : {r : Cause} → Mild r → Next (refused r) (refused r)
      lacks : {f t : ℕ} {q : Answer State Bool} → Pending b bs q → Next (refused (at 34 f t)) q
      halts : {w : List Record} {u : State} {n : ℕ} → Ending u → refused_as b.first.kind ≡ some n → Next (done w true u) (refused (at n b.first.from b.first.to))
      none_left : (u : State) → Ending u → Next (done [] false u) (thence (coming b bs) (λ _. begun profile))

    went_on : {p q : Answer State (Unit {0})} → Agree b bs true (Open es b bs) p q → Next (thence p (λ _. return true)) (thence q (λ _. return true))
    unfolding return thence after
    went_on (both h) = went h
    went_on (neither m) = stopped m
    went_on (lacking {q = q} l p) = lacks (record {
      n = p.n;
      x = p.x;
      w = p.w;
      z = p.z ++ [];
      a = true;
      few = p.few;
      form = ap (λ (r : Answer State _). thence r (λ _ s. done [] true s)) p.form ∙ closing_then p.w p.z [] p.a true _;
    })
    went_on (halted l e h) = halts e h

    read_next : (x : Lexeme) {s t : State} → (In es b bs) s t → Next ((write (ST x.from) >> line profile (times profile 16) >> return true) s) ((write (ST x.from) >> line profile (times profile 16) >> return true) t)
    unfolding ◌>>◌ ◌>>=◌
    read_next x h = went_on (thence_agree (λ _. line profile (times profile 16)) (λ _. line_open (times_open 16 (omega arith))) ((writes _).law h))

    plain_next : {p q : Answer State Bool} → Next p q → Next (after [] p) (after [] q)
    plain_next {p} {q} h = rw (after_nil p, after_nil q) h

    begun_next : {s t : State} → (In es b bs) s t → is_line_end s.line.here.kind ≡ false → Next (begun profile s) (begun profile t)
    unfolding begun ◌>>=◌ thence in_line over ahead
    begun_next (inside l rs) h = plain_next (rw h (read_next l.here (inside l rs)))

    next_skipped : {p q : Answer State (Unit {0})} → (Skipped es b bs) p q → Next (thence p (λ _. begun profile)) (thence q (λ _. begun profile))
    unfolding thence
    next_skipped (still i h) = plain_next (begun_next i h)
    next_skipped (Skipped.stopped m) = Next.stopped m
    next_skipped (reached u e) = rw (after_nil (begun profile u), begun_ends u e) (none_left u e)

    thence_coming : thence (coming b bs) (λ _. begun profile) ≡ arrive b.first (statement profile (enter b bs))
    unfolding coming arrive statement ◌>>◌ ◌>>=◌ thence
    thence_coming = go' (refused_as b.first.kind)
      where
        go' : (o : Option ℕ) → thence (maybe o (skip_lines (enter b bs)) (λ n. refused (at n b.first.from b.first.to))) (λ _. begun profile)
            ≡ maybe o (thence (skip_lines (enter b bs)) (λ _. begun profile)) (λ n. refused (at n b.first.from b.first.to))
        go' none = refl
        go' (some n) = refl

    pub statement_next : {s t : State} → Open es b bs s t → Next (statement profile s) (statement profile t)
    unfolding statement ◌>>◌ ◌>>=◌ coming
    statement_next (within h) = next_skipped (skip_lines_skipped h)
    statement_next (ended u e h) = rw (statement_ends u e, ← arrive_fine b.first (statement profile (enter b bs)) h, ← thence_coming) (none_left u e)

    -- What the second reading does where the first gives p.
    pub data Follows : Answer State (Unit {0}) → Answer State (Unit {0}) → Type 0 where
      on : {w : List Record} {u : State} {q : Answer State (Unit {0})} → Begins (b ∷ bs) q → Follows (done w tt u) (after w q)
      same : {r : Cause} → Mild r → Follows (refused r) (refused r)
      late : {f t : ℕ} {a : Answer State Bool} (w : List Record) {q : Answer State (Unit {0})} → Pending b bs a → Continues a q → Follows (refused (at 34 f t)) (after w q)

    follows_after : (v : List Record) {p q : Answer State (Unit {0})} → Follows p q → Follows (after v p) (after v q)
    unfolding after
    follows_after v (on {w} {u} {q} h) = rw (after_after v w q) (on h)
    follows_after v (same m) = same m
    follows_after v (late w {q} p c) = rw (after_after v w q) (late (v ++ w) p c)

    halt : (n : ℕ) {q : Answer State (Unit {0})} → refused_as b.first.kind ≡ some n → Continues (refused (at n b.first.from b.first.to)) q → Begins (b ∷ bs) q
    halt n h Continues.fail = broken h

    -- the run at the further rows
    begins : {q : Answer State (Unit {0})} → Continues (thence (coming b bs) (λ _. begun profile)) q → Begins (b ∷ bs) q
    begins {q} c = go' (refused_as b.first.kind) refl (rw thence_coming at c)
      where
        go' : (o : Option ℕ) → refused_as b.first.kind ≡ o → Continues (arrive b.first (statement profile (enter b bs))) q → Begins (b ∷ bs) q
        go' none h d = fine h (reads refl (rw (arrive_fine b.first (statement profile (enter b bs)) h) at d))
        go' (some n) h d = halt n h (rw (arrive_bad b.first (statement profile (enter b bs)) n h) at d)

    plainly : {w : List Record} {u : State} {q : Answer State (Unit {0})} → w ≡ [] → Begins (b ∷ bs) q → Follows (done w tt u) q
    plainly {w} {u} {q} h g = rw (h, ← after_nil q) (on g)

    stop_case : {pa qa : Answer State Bool} {w : List Record} {u : State} {q : Answer State (Unit {0})} → Next pa qa → pa ≡ done w false u → Continues qa q → Follows (done w tt u) q
    stop_case (went h) z c = absurd (true≢false cc)
    stop_case (Next.stopped m) z c = absurd (true≢false cc)
    stop_case (lacks p) z c = absurd (true≢false cc)
    stop_case (halts e h) z c = absurd (true≢false cc)
    stop_case {w = w} (none_left u e) z c = let y : w ≡ [] = cc in plainly y (begins c)

    fail_case : {pa qa : Answer State Bool} {r : Cause} {q : Answer State (Unit {0})} → Next pa qa → pa ≡ refused r → Continues qa q → Follows (refused r) q
    fail_case (went h) z c = absurd (true≢false cc)
    fail_case {r = r} (Next.stopped {r = r'} m) z Continues.fail = let y : r ≡ r' = cc in rw y (same m)
    fail_case {r = r} {q} (lacks {f} {t} p) z c = let y : r ≡ at 34 f t = cc in rw (y, ← after_nil q) (late [] p c)
    fail_case (halts e h) z c = absurd (true≢false cc)
    fail_case (none_left u e) z c = absurd (true≢false cc)

    -- a run at the end
    ends : {u : State} {p : Answer State (Unit {0})} → Ending u → Reads u p → p ≡ done [] tt u
    ends {u} e r = go' (rw (statement_ends u e) at (continues r))
      where
        go' : {p : Answer State (Unit {0})} → Continues (done [] false u) p → p ≡ done [] tt u
        go' Continues.stop = refl

    go_case : {pa qa : Answer State Bool} {w : List Record} {u : State} {p q : Answer State (Unit {0})} → Next pa qa → pa ≡ done w true u → Reads u p
        → ((t : State) (q : Answer State (Unit {0})) → Open es b bs u t → Reads t q → Follows p q) → Continues qa q → Follows (after w p) q
    unfolding after
    go_case {w = w} {u} (went {w = w'} {s = s} h) z r i (Continues.go g) =
        let y : s ≡ u = cc in
        let y' : w' ≡ w = cc in
        rw y' (follows_after w (i _ _ (rw y at h) g))
    go_case (Next.stopped m) z r i c = absurd (true≢false cc)
    go_case (lacks p) z r i c = absurd (true≢false cc)
    go_case {w = w} {u} {p} (halts {u = u'} e h) z r i Continues.fail =
        let y : u' ≡ u = cc in
        let y' : p ≡ done [] tt u = ends (rw y at e) r in
        rw y' (follows_after w (on {w = []} {u = u} (broken h)))
    go_case (none_left u' e) z r i c = absurd (true≢false cc)

    -- THE APPEND LAW of runs.
    pub lockstep : {s t : State} {p q : Answer State (Unit {0})} → Reads s p → Open es b bs s t → Reads t q → Follows p q
    lockstep (Reads.stop z) o r = stop_case (statement_next o) z (continues r)
    lockstep (Reads.fail z) o r = fail_case (statement_next o) z (continues r)
    lockstep (Reads.go z g) o r = go_case (statement_next o) z g (λ t q o' r'. lockstep g o' r') (continues r)

    none_some : (n : ℕ) → ◌≡◌ {A = Option ℕ} none (some n) → ⊥
    none_some n h = true≢false cc

    pub follows : {r : Row} (rs : List Row) {p q : Answer State (Unit {0})} → Begins (r ∷ (rs ++ es)) p → Begins (r ∷ (rs ++ (b ∷ bs))) q → Follows p q
    unfolding enter
    follows {r} rs (fine h g) (fine h' g') = lockstep g (within (inside (first_of r) rs)) g'
    follows rs (fine h g) (broken {n = n} h') = absurd (none_some n (sym h ∙ h'))
    follows rs (broken {n = n} h) (fine h' g') = absurd (none_some n (sym h' ∙ h))
    follows {r} rs (broken {n = n} h) (broken {n = n'} h') = let y : n ≡ n' = cc in rw y (same (bad_mild r.first.kind n' h'))
