-- A number that is too wide for its data word is refused, with 60, by the full read of the source it stands in.
use mathlib.Core.Path.{◌≡◌, refl, sym, ap, ◌∙◌}
use mathlib.Core.Bool.{Bool, true, false}
use mathlib.Core.List.{List, [], ◌∷◌, ◌++◌}
use mathlib.Core.Option.{none, some}
use Prim.Native.Nat.{ℕ, zero, suc, ◌≤◌}
use Prim.Native.Char.{code}
use native.Mathlib.Omega.{arith}
use lib.Dec.{eqb, ltb}
use lib.ListN.{length, take}
use borrow.Author.Tests.{leb-false}
use Rattle.lexer.specs.Text.{is}
use Rattle.rules.specs.Lexemes.{Kind, number, quoted, mark, Lexeme, tokens, name_in, operation_in}
use Rattle.names.specs.Names.{directives}
use Rattle.rules.specs.Records.{Record, field}
use Rattle.rules.specs.Reader.{Cause, at, Answer, done, refused, Reader, Line, after, thence, ◌>>=◌, ◌>>◌, return, refused_as, arrive, step, next, ahead, left, kind, refuse_here, is_line_end}
use Rattle.rules.specs.Expressions.{expression}
use Rattle.rules.specs.Statements.{Profile, fitting, State, largest, fits, over, in_line, skip_lines, passing, literal_of, literals, data_of, line, content, times, begun, rows, reading, outcome}
use Rattle.rules.specs.Calls.{listed, full_read}
use Rattle.rules.specs.Grammar.{left_of}
use Rattle.rules.specs.Data.{BytesOf, Says, ends, comma, string, count, Opens, OpensIn, TooWide, TooWideRefused}
use Rattle.rules.proofs.TokenKinds.{name_inside}
use Rattle.rules.proofs.Append.{after_nil, after_after, Reads, Continues, reads, Begins, fine}
use Rattle.rules.proofs.Cut.{rows_from, content_at, begun_at, statement_is, from_run}
use Rattle.rules.proofs.Data.{bytes_fit, no_bytes_lem, passing_then}

-- A number that has bytes fits, and one that has none does not.
fitted : (width v : ℕ) → 1 ≤ width → width ≤ 2 → (bs : List ℕ) → BytesOf width v bs → fits width v ≡ true
unfolding fits
fitted width v h i bs b = go (fits width v) refl
  where
    go : (o : Bool) → fits width v ≡ o → o ≡ true
    go true e = refl
    go false e = absurd (no_bytes_lem width v h i (leb-false v (largest width) e) bs b)

unfit : (width v : ℕ) → 1 ≤ width → width ≤ 2 → ((bs : List ℕ) → ¬ (BytesOf width v bs)) → fits width v ≡ false
unfit width v h i b = go (fits width v) refl
  where
    go : (o : Bool) → fits width v ≡ o → o ≡ false
    go true e = absurd (b (take width (field v)) (bytes_fit width v h i e))
    go false e = refl

-- Tokens that begin with one that is not refused.
record Head (xs : List Lexeme) : Type 0 where
  first : Lexeme
  others : List Lexeme
  form : xs ≡ first ∷ others
  sound : refused_as first.kind ≡ none

next_head : (l : Line) → (h : Head l.more) → next l ≡ done [] tt (record { last = l.here.to; here = h.first; more = h.others })
unfolding next step arrive
next_head l h = ap (λ (q : List Lexeme). step q l) h.form ∙ rw h.sound refl

-- Literals, behind which the number stands.
module _ (width value : ℕ) (least : 1 ≤ width) (most : width ≤ 2) (wide : Lexeme) (rest : List Lexeme) (is_number : wide.kind ≡ number value)
    (no_bytes : (bs : List ℕ) → ¬ (BytesOf width value bs)) where
  abbrev Wide : Cause
  Wide = at 60 wide.from wide.to

  head : {xs : List Lexeme} {ds : List ℕ} → Says width xs ds → Head (xs ++ (wide ∷ rest))
  unfolding refused_as
  head ends = record { first = wide; others = rest; form = refl; sound = ap refused_as is_number }
  head (comma {x} {xs} k s) = record { first = x; others = xs ++ (wide ∷ rest); form = refl; sound = ap refused_as k }
  head (string {x} {xs = xs} k s) = record { first = x; others = xs ++ (wide ∷ rest); form = refl; sound = ap refused_as k }
  head (count {x} {xs = xs} k b s) = record { first = x; others = xs ++ (wide ∷ rest); form = refl; sound = ap refused_as k }

  within : {xs : List Lexeme} {ds : List ℕ} → Says width xs ds → suc (length xs) ≤ length (xs ++ (wide ∷ rest))
  within ends = omega arith
  within (comma k s) = omega (arith, within s)
  within (string k s) = omega (arith, within s)
  within (count k b s) = omega (arith, within s)

  onward : {xs : List Lexeme} {ds : List ℕ} → Says width xs ds → (R : Reader Line (List ℕ)) (l : Line) → l.more ≡ xs ++ (wide ∷ rest)
      → ((t : Line) → left_of t ≡ xs ++ (wide ∷ rest) → R t ≡ refused Wide) → (next >> R) l ≡ refused Wide
  unfolding ◌>>◌ ◌>>=◌ thence after
  onward {xs} s R l e again =
      let h : Head (xs ++ (wide ∷ rest)) = head s in
      let g : Head l.more = record { first = h.first; others = h.others; form = e ∙ h.form; sound = h.sound } in
      ap (λ (p : Answer Line (Unit {0})). thence p (λ _. R)) (next_head l g)
      ∙ ap (after []) (again (record { last = l.here.to; here = h.first; more = h.others }) (sym h.form))

  -- behind a token that says bytes
  onward_bytes : {xs : List Lexeme} {ds : List ℕ} (bs : List ℕ) → Says width xs ds → (R : Reader Line (List ℕ)) (l : Line) → l.more ≡ xs ++ (wide ∷ rest)
      → ((t : Line) → left_of t ≡ xs ++ (wide ∷ rest) → R t ≡ refused Wide) → (next >> R >>= λ ds. return (bs ++ ds)) l ≡ refused Wide
  unfolding ◌>>=◌ thence
  onward_bytes bs s R l e again = ap (λ (p : Answer Line (List ℕ)). thence p (λ ds. return (bs ++ ds))) (onward s R l e again)

  -- the token ahead, by its kind
  literals_at : (n : ℕ) (l : Line) (k : Kind) → l.here.kind ≡ k → literals fits (suc n) width l ≡ literal_of fits k width (literals fits n width) l
  unfolding literals kind ◌>>=◌ thence
  literals_at n l k e = after_nil (literal_of fits l.here.kind width (literals fits n width) l)
      ∙ ap (λ (q : Kind). literal_of fits q width (literals fits n width) l) e

  literals_wide : {xs : List Lexeme} {ds : List ℕ} → Says width xs ds → (n : ℕ) → length xs ≤ n → (l : Line) → left_of l ≡ xs ++ (wide ∷ rest)
      → literals fits (suc n) width l ≡ refused Wide
  unfolding literal_of refuse_here is
  literals_wide ends n i l e =
      let a : l.here ≡ wide = cc in
      literals_at n l (number value) (ap (λ (x : Lexeme). x.kind) a ∙ is_number) ∙ rw (unfit width value least most no_bytes, a) refl
  literals_wide (comma k s) zero i l e = absurd (omega arith)
  literals_wide (string k s) zero i l e = absurd (omega arith)
  literals_wide (count k b s) zero i l e = absurd (omega arith)
  literals_wide (comma {x} {xs} k s) (suc n) i l e =
      let a : l.here ≡ x = cc in
      let f : l.more ≡ xs ++ (wide ∷ rest) = cc in
      literals_at (suc n) l (mark (code ",")) (ap (λ (x : Lexeme). x.kind) a ∙ k)
      ∙ onward s (literals fits (suc n) width) l f (λ t j. literals_wide s n (omega arith) t j)
  literals_wide (string {x} {s = c} {xs = xs} k s) (suc n) i l e =
      let a : l.here ≡ x = cc in
      let f : l.more ≡ xs ++ (wide ∷ rest) = cc in
      literals_at (suc n) l (quoted true c) (ap (λ (x : Lexeme). x.kind) a ∙ k)
      ∙ onward_bytes c s (literals fits (suc n) width) l f (λ t j. literals_wide s n (omega arith) t j)
  literals_wide (count {x} {value = v} {bs} {xs = xs} k b s) (suc n) i l e =
      let a : l.here ≡ x = cc in
      let f : l.more ≡ xs ++ (wide ∷ rest) = cc in
      literals_at (suc n) l (number v) (ap (λ (x : Lexeme). x.kind) a ∙ k) ∙ rw (fitted width v least most bs b)
      (onward_bytes (take width (field v)) s (literals fits (suc n) width) l f (λ t j. literals_wide s n (omega arith) t j))

  data_of_wide : {xs : List Lexeme} {ds : List ℕ} → Says width xs ds → (x : Lexeme) (s : State) → left_of s.line ≡ xs ++ (wide ∷ rest)
      → data_of fits x width s ≡ refused Wide
  unfolding data_of in_line over left ◌>>=◌ thence after
  data_of_wide {xs} d x s e =
      let i : length xs ≤ length s.line.more = omega (arith, within d, ap length e) in
      rw (literals_wide d (length s.line.more) i s.line e) refl

  passing_wide : {xs : List Lexeme} {ds : List ℕ} → Says width xs ds → (x : Lexeme) (s : State) → s.line.more ≡ xs ++ (wide ∷ rest)
      → passing (data_of fits x width) s ≡ refused Wide
  unfolding passing in_line over ◌>>◌ ◌>>=◌ thence after
  passing_wide {xs} d x s e =
      let h : Head (xs ++ (wide ∷ rest)) = head d in
      let g : Head s.line.more = record { first = h.first; others = h.others; form = e ∙ h.form; sound = h.sound } in
      let l : Line = record { last = s.line.here.to; here = h.first; more = h.others } in
      ap (λ (p : Answer Line (Unit {0})). thence (over s.below p) (λ _. data_of fits x width)) (next_head s.line g)
      ∙ ap (after []) (data_of_wide d x (record { line = l; below = s.below }) (sym h.form))

-- The directives of data are between the first and the fourth.
between : (n : ℕ) → 1 ≤ n → n ≤ 2 → (eqb n 0 ≡ false) × (ltb n 3 ≡ true)
between zero h i = absurd (omega arith)
between (suc zero) h i = (refl, refl)
between (suc (suc zero)) h i = (refl, refl)
between (suc (suc (suc n))) h i = absurd (omega arith)

module _ (F : Profile) where
  line_data : (m : Reader State (Unit {0})) (s : State) (n : ℕ) → operation_in F.table s.line.here.kind ≡ none
      → name_in directives s.line.here.kind ≡ some n → 1 ≤ n → n ≤ 2 → line F m s ≡ passing (data_of F.takes s.line.here n) s
  unfolding line in_line over ahead ◌>>=◌ thence
  line_data m s n a b h i = rw (a, b, (between n h i).0, (between n h i).1) (after_nil (passing (data_of F.takes s.line.here n) s))

  line_times : (m : Reader State (Unit {0})) (s : State) → operation_in F.table s.line.here.kind ≡ none
      → name_in directives s.line.here.kind ≡ some 3 → line F m s ≡ m s
  unfolding line in_line over ahead ◌>>=◌ thence
  line_times m s a b = rw (a, b) (after_nil (m s))

  times_at : (n : ℕ) (s : State)
      → times F (suc n) s ≡ thence (passing (in_line expression >> skip_lines) s) (λ _. content F (times F n) s.line.here)
  unfolding times in_line over ahead ◌>>=◌ thence
  times_at n s = after_nil (passing (in_line expression >> (skip_lines >> content F (times F n) s.line.here)) s)
      ∙ passing_then (in_line expression) skip_lines (content F (times F n) s.line.here) s

  module _ (X : List Lexeme) (c : Cause) where
    -- a content that is refused, and the statement that it stands in
    record Stopped : Type 0 where
      state : State
      opens : Opens F X state
      stops : begun F state ≡ refused c

    stopped : {n : ℕ} {v : State} → OpensIn F X n v → is_line_end v.line.here.kind ≡ false → line F (times F n) v ≡ refused c → Stopped
    unfolding thence after
    stopped {v = v} (OpensIn.statement o) i e = record { state = v; opens = o; stops = begun_at F v i ∙ rw e refl }
    stopped {n} {v} (OpensIn.content {u = u} {w = w} o a b p) i e =
        let k : content F (times F n) u.line.here v ≡ refused c = content_at F (times F n) u.line.here v i ∙ rw e refl in
        stopped o (name_inside directives u.line.here.kind 3 b) (line_times (times F (suc n)) u a b ∙ times_at n u ∙ rw (p, k) refl)

    -- A run that is refused behind a statement is refused from before it.
    continues_after : (w : List Record) {a : Answer State Bool} {p : Answer State (Unit {0})} → Continues F a p → Continues F (after w a) (after w p)
    unfolding after
    continues_after w Continues.stop = Continues.stop
    continues_after w Continues.fail = Continues.fail
    continues_after w (Continues.go {w = v} {p} r) = rw (after_after w v p) (Continues.go r)

    reads_behind : {s v : State} {w : List Record} → skip_lines s ≡ done w tt v → Continues F (begun F v) (refused c) → Reads F s (refused c)
    unfolding thence after
    reads_behind {s} {v} {w} e k =
        reads F (statement_is F s ∙ ap (λ (p : Answer State (Unit {0})). thence p (λ _. begun F)) e) (continues_after w k)

    begins_behind : {u : State} → Opens F X u → Continues F (begun F u) (refused c) → Begins F (rows X) (refused c)
    unfolding after
    begins_behind (Opens.first e f g) k = rw e (fine f (reads_behind g k))
    begins_behind (Opens.next {w = w} o e g) k = begins_behind o (rw e (Continues.go {w = w} (reads_behind g k)))

    begins_stopped : Stopped → Begins F (rows X) (refused c)
    begins_stopped h = begins_behind h.opens (rw h.stops Continues.fail)

-- From the word of the number's line on.
module _ (table : List ℕ) {X : List Lexeme} {f t : ℕ} (h : TooWide (fitting table) X f t) where
  abbrev opening : State
  opening = h.is_data.state

  word_ahead : opening.line.here.kind ≡ h.word.kind
  word_ahead = ap (λ (x : Lexeme). x.kind) h.is_data.ahead

  named : name_in directives opening.line.here.kind ≡ some h.width
  named = ap (name_in directives) word_ahead ∙ h.is_data.named

  line_wide : (m : Reader State (Unit {0})) → line (fitting table) m opening ≡ refused (at 60 f t)
  line_wide m = line_data (fitting table) m opening h.width (ap (operation_in table) word_ahead ∙ h.is_data.no_operation) named
      h.is_data.least h.is_data.most
      ∙ passing_wide h.width h.value h.is_data.least h.is_data.most h.wide h.rest h.is_number h.no_bytes h.says
      opening.line.here opening h.line
      ∙ rw (h.from, h.to) refl

  begins_wide : Begins (fitting table) (rows X) (refused (at 60 f t))
  begins_wide = begins_stopped (fitting table) X (at 60 f t) (stopped (fitting table) X (at 60 f t) h.is_data.opens
      (name_inside directives opening.line.here.kind h.width named) (line_wide (times (fitting table) h.is_data.left)))

-- SUCH A NUMBER IS REFUSED.
pub too_wide_refused : (table : List ℕ) → TooWideRefused table
unfolding full_read reading listed outcome tokens rows_from
too_wide_refused table = record { of_full_read = λ source room f t h. rw (from_run (fitting table) 0 source (begins_wide table h)) refl }
