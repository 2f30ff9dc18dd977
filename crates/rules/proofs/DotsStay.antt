-- A dot that is a token of its own is accepted nowhere: where one stands ahead, in the line or in a row below, one still does behind whatever is
-- read. So a reading that comes to its end has met none.
use Rattle.std.specs.Prelude.{if◌then◌else◌}
use mathlib.Core.Path.{◌≡◌, refl, sym, ap, subst, ◌∙◌}
use mathlib.Core.Bool.{Bool, true, false, ◌||◌, true≢false, false≢true}
use mathlib.Core.List.{List, [], ◌∷◌, ◌++◌}
use mathlib.Core.Option.{Option, none, some}
use Prim.Native.Nat.{ℕ, zero, suc}
use Prim.Native.Char.{Char, code}
use Prim.Native.String.{String}
use lib.Dec.{eqb, ltb}
use lib.ListN.{take}
use borrow.Author.Tests.{eqb-true}
use Rattle.lexer.specs.Text.{is}
use Rattle.rules.specs.Lexemes.{Kind, word, number, quoted, mark, newline, blank, comment, invalid, end, bad, Lexeme, text_of, name_in, operation_in}
use Rattle.names.specs.Names.{registers, segments, sizes, directives}
use Rattle.rules.specs.Records.{Record, ST, LT, field}
use Rattle.rules.specs.Reader.{Cause, Answer, done, refused, Reader, Line, after, thence, ◌>>=◌, write, arrive, step, next, ahead, passed, is_mark, is_line_end, expect}
use Rattle.rules.specs.Expressions.{operator_of, left_level, right_level, prefix_level, character, atom_of, atom, primary, infixes, expr, expression}
use Rattle.rules.specs.Operands.{immediate_or_far, alone, is_index, is_base, paired, plus_index, second, registers_ahead, displacement, close, override, is_word, is_number, memory, operand_sized, operand, operands}
use Rattle.rules.specs.Statements.{Profile, Row, State, over, in_line, first_of, enter, step_row, next_row, line_end, skip, skip_lines, passing, label, rep, repne, instruction, constant, literal_of, literals, some_data, data_of, line, content, times, begun, statement}
use Rattle.rules.proofs.TokenKinds.{mark_inside}
use Rattle.rules.proofs.Append.{Reads, Begins, fine, broken}
use Rattle.rules.proofs.Hoare.{nil, Post, holds, Triple, now, after_post, bind, and_then, whether, perhaps, returns, refuses, writes, before, arrive_post, attempts, ask_ahead, ask_kind, ask_passed, ask_left, here_fails, in_lines, ask_ahead_s, ask_kind_s, ask_passed_s, ask_left_s, here_fails_s}

-- What passes a test that a dot fails is no dot.
apart : (T : Kind → Type 0) → (T (mark (code ".")) → ⊥) → (k : Kind) → T k → is_mark "." k ≡ false
unfolding is_mark is
apart T f (mark c) h = go (eqb c (code ".")) refl
  where
    go : (b : Bool) → eqb c (code ".") ≡ b → b ≡ false
    go true e = absurd (f (rw (eqb-true c (code ".") e) at h))
    go false e = refl
apart T f (word w) h = refl
apart T f (number v) h = refl
apart T f (quoted s w) h = refl
apart T f newline h = refl
apart T f blank h = refl
apart T f comment h = refl
apart T f invalid h = refl
apart T f end h = refl
apart T f (bad n) h = refl

mark_apart : (a : Char) → eqb (code ".") (code a) ≡ false → (k : Kind) → is_mark a k ≡ true → is_mark "." k ≡ false
unfolding is_mark is
mark_apart a d = apart (λ (k : Kind). is_mark a k ≡ true) (λ h. true≢false (sym h ∙ d))

operator_apart : (k : Kind) (op : ℕ) → operator_of k ≡ some op → is_mark "." k ≡ false
unfolding operator_of is_mark is
operator_apart k op = apart (λ (k : Kind). operator_of k ≡ some op) (λ h. true≢false cc) k

word_apart : (k : Kind) → is_word k ≡ true → is_mark "." k ≡ false
unfolding is_word text_of
word_apart = apart (λ (k : Kind). is_word k ≡ true) (λ h. false≢true h)

name_apart : (names : List String) (k : Kind) (n : ℕ) → name_in names k ≡ some n → is_mark "." k ≡ false
unfolding name_in text_of
name_apart names k n = apart (λ (k : Kind). name_in names k ≡ some n) (λ h. true≢false cc) k

operation_apart : (table : List ℕ) (k : Kind) (n : ℕ) → operation_in table k ≡ some n → is_mark "." k ≡ false
unfolding operation_in text_of
operation_apart table k n = apart (λ (k : Kind). operation_in table k ≡ some n) (λ h. true≢false cc) k

-- A dot stands among tokens before the first line end; in one of some rows.
pub data Dotted : List Lexeme → Type 0 where
  here : {x : Lexeme} {xs : List Lexeme} → is_mark "." x.kind ≡ true → Dotted (x ∷ xs)
  further : {x : Lexeme} {xs : List Lexeme} → is_line_end x.kind ≡ false → Dotted xs → Dotted (x ∷ xs)

pub data Beneath : List Row → Type 0 where
  first : {r : Row} {rs : List Row} → Dotted (r.first ∷ r.more) → Beneath (r ∷ rs)
  later : {r : Row} {rs : List Row} → Beneath rs → Beneath (r ∷ rs)

-- Of a line, B being what holds where one stands below it.
data Ahead (B : Type 0) : Line → Type 0 where
  inside : {l : Line} → Dotted (l.here ∷ l.more) → Ahead B l
  below : {l : Line} → B → Ahead B l

-- Nothing is asked of the records.
data Free : Unit {0} → Record → Unit {0} → Type 0 where
  free : {g g' : Unit {0}} {r : Record} → Free g r g'

puts : {S : Type 0} {P : Unit {0} → S → Type 0} (r : Record) → Triple Free P (write r) (λ _. P)
puts r = writes r λ g s h. (tt, free, h)

module _ (B : Type 0) where
  abbrev On : Unit {0} → Line → Type 0
  On g l = Ahead B l

  abbrev Here : Lexeme → Unit {0} → Line → Type 0
  Here x g l = (l.here ≡ x) × Ahead B l

  passed_then : {A : Type 0} {f : ℕ → Reader Line A} {P : Unit {0} → Line → Type 0} {R : A → Unit {0} → Line → Type 0} → ((t : ℕ) → Triple Free P (f t) R) → Triple Free P (passed >>= f) R
  passed_then e = ask_passed λ t. before (λ g l h. h.1) (e t)

  ahead_here : {A : Type 0} (f : Lexeme → Reader Line A) {R : A → Unit {0} → Line → Type 0} (x : Lexeme) → Triple Free (Here x) (f x) R → Triple Free (Here x) (ahead >>= f) R
  unfolding ahead ◌>>=◌ thence
  ahead_here f {R} x e = record { law = λ g l h. after_post nil (subst (λ (y : Lexeme). Post Free R g (f y l)) (sym h.0) (e.law g l h)) }

  -- Past a token that is no dot.
  stepped : (g : Unit {0}) (l : Line) (xs : List Lexeme) → B → Post Free (λ _. On) g (step xs l)
  unfolding step
  stepped g l [] b = now (below b)
  stepped g l (x ∷ xs) b = arrive_post x (now (below b))

  dotted_step : (g : Unit {0}) (l : Line) {xs : List Lexeme} → Dotted xs → Post Free (λ _. On) g (step xs l)
  unfolding step
  dotted_step g l (here {x} h) = arrive_post x (now (inside (here h)))
  dotted_step g l (further {x} e d) = arrive_post x (now (inside (further e d)))

  next_on : (g : Unit {0}) (l : Line) → is_mark "." l.here.kind ≡ false → Ahead B l → Post Free (λ _. On) g (next l)
  unfolding next
  next_on g l e (inside (here h)) = absurd (true≢false (sym h ∙ e))
  next_on g l e (inside (further i d)) = dotted_step g l d
  next_on g l e (below b) = stepped g l l.more b

  past : (x : Lexeme) → is_mark "." x.kind ≡ false → Triple Free (Here x) next (λ _. On)
  past x e = record { law = λ g l h. next_on g l (ap (λ (y : Lexeme). is_mark "." y.kind) h.0 ∙ e) h.1 }

  expects : (a : Char) (n : ℕ) → eqb (code ".") (code a) ≡ false → Triple Free On (expect a n) (λ _. On)
  unfolding expect
  expects a n d = ask_kind _ λ x. whether (is_mark a x.kind) (λ e. past x (mark_apart a d x.kind e)) (λ _. here_fails n)

  -- Expressions.
  atom_of_on : (k : Kind) (x : Lexeme) → x.kind ≡ k → Triple Free (Here x) (atom_of k x) (λ _. On)
  unfolding atom_of character is_mark
  atom_of_on (number v) x e = and_then (past x (ap (is_mark ".") e)) (λ _. puts _)
  atom_of_on (quoted false s) x e = here_fails 16
  atom_of_on (quoted true []) x e = here_fails 17
  atom_of_on (quoted true (c ∷ [])) x e = and_then (past x (ap (is_mark ".") e)) (λ _. puts _)
  atom_of_on (quoted true (c ∷ d ∷ s)) x e = here_fails 17
  atom_of_on (word w) x e = and_then (past x (ap (is_mark ".") e)) (λ _. puts _)
  atom_of_on (mark c) x e = whether (is "$" c) (λ i. and_then (past x (mark_apart "$" refl x.kind (ap (is_mark "$") e ∙ i))) (λ _. ask_kind _ λ y. whether (is_mark "$" y.kind)
      (λ j. and_then (past y (mark_apart "$" refl y.kind j)) (λ _. puts _)) (λ _. before (λ g l h. h.1) (puts _)))) (λ _. here_fails 21)
  atom_of_on newline x e = here_fails 21
  atom_of_on blank x e = here_fails 21
  atom_of_on comment x e = here_fails 21
  atom_of_on invalid x e = here_fails 21
  atom_of_on end x e = here_fails 21
  atom_of_on (bad b) x e = here_fails 21

  module _ {inner : ℕ → Reader Line (Unit {0})} (each : (level : ℕ) → Triple Free On (inner level) (λ _. On)) where
    primary_on : Triple Free On (primary inner) (λ _. On)
    unfolding primary atom
    primary_on = ask_ahead λ x. whether (is_mark "(" x.kind)
        (λ e. and_then (and_then (past x (mark_apart "(" refl x.kind e)) (λ _. each 0)) (λ _. expects ")" 14 refl))
        (λ _. perhaps (operator_of x.kind) (ahead_here _ x (atom_of_on x.kind x refl))
        λ op e. and_then (past x (operator_apart x.kind op e)) (λ _. and_then (whether (ltb op 2) (λ _. each prefix_level) (λ _. refuses _)) (λ _. passed_then λ t. puts _)))

    infixes_on : (n level f : ℕ) → Triple Free On (infixes n inner level f) (λ _. On)
    unfolding infixes
    infixes_on zero level f = returns tt (λ g l h. h)
    infixes_on (suc n) level f = ask_kind _ λ x. perhaps (operator_of x.kind) (returns tt (λ g l h. h.1)) λ op e.
        whether (ltb (left_level op) level) (λ _. returns tt (λ g l h. h.1)) (λ _. and_then (past x (operator_apart x.kind op e)) (λ _. and_then (each (right_level op))
        (λ _. passed_then λ t. and_then (puts _) (λ _. infixes_on n level f))))

  expr_on : (d level : ℕ) → Triple Free On (expr d level) (λ _. On)
  unfolding expr
  expr_on zero level = here_fails 3
  expr_on (suc d) level = ask_ahead λ x. before (λ g l h. h.1) (and_then (primary_on (expr_on d)) (λ _. ask_left λ n. infixes_on (expr_on d) n level x.from))

  expression_on : Triple Free On expression (λ _. On)
  unfolding expression
  expression_on = expr_on 32 0

  -- Operands.
  immediate_on : Triple Free On immediate_or_far (λ _. On)
  unfolding immediate_or_far
  immediate_on = ask_ahead λ x. before (λ g l h. h.1) (and_then expression_on (λ _. ask_kind _ λ y. whether (is_mark ":" y.kind)
      (λ e. and_then (past y (mark_apart ":" refl y.kind e)) (λ _. and_then expression_on (λ _. passed_then λ t. puts _)))
      (λ _. before (λ g l h. h.1) (passed_then λ t. puts _))))

  plus_index_on : (f r : ℕ) (x : Lexeme) → is_mark "." x.kind ≡ false → Triple Free (Here x) (plus_index f r) (λ _. On)
  unfolding plus_index
  plus_index_on f r x e = and_then (past x e) (λ _. ask_ahead λ y. perhaps (name_in registers y.kind) (returns none (λ g l h. h.1)) λ q i.
      whether (is_index q) (λ _. and_then (past y (name_apart registers y.kind q i)) (λ _. passed_then λ t. whether (is_index r) (λ _. refuses _) (λ _. returns (some (paired r q)) (λ g l h. h))))
      (λ _. refuses _))

  second_on : (f r : ℕ) → Triple Free On (second f r) (λ _. On)
  unfolding second
  second_on f r = ask_kind _ λ x. whether (is_mark "+" x.kind)
      (λ e. attempts (alone r) (λ b g t h. h) (λ g l h. h.1) (plus_index_on f r x (mark_apart "+" refl x.kind e))) (λ _. returns (alone r) (λ g l h. h.1))

  registers_ahead_on : Triple Free On registers_ahead (λ _. On)
  unfolding registers_ahead
  registers_ahead_on = ask_ahead λ x. passed_then λ t. perhaps (name_in registers x.kind) (returns none (λ g l h. h.1)) λ r e.
      whether (is_base r || is_index r) (λ _. and_then (past x (name_apart registers x.kind r e)) (λ _. bind (second_on x.from r) λ q. returns (some q) (λ g l h. h))) (λ _. refuses _)

  displacement_on : Triple Free On displacement (λ _. On)
  unfolding displacement
  displacement_on = ask_kind _ λ x. before (λ g l h. h.1) (whether (is_mark "]" x.kind) (λ _. returns 0 (λ g l h. h)) (λ _. and_then expression_on (λ _. returns 1 (λ g l h. h))))

  close_on : (f size segment : ℕ) (e : Option ℕ) (has : ℕ) → Triple Free On (close f size segment e has) (λ _. On)
  unfolding close
  close_on f size segment e has = and_then (expects "]" 13 refl) (λ _. passed_then λ t. perhaps e (whether (eqb has 0) (λ _. refuses _) (λ _. puts _)) (λ n _. puts _))

  override_on : Triple Free On override (λ _. On)
  unfolding override
  override_on = ask_kind _ λ x. perhaps (name_in segments x.kind) (returns 0 (λ g l h. h.1)) λ z e.
      and_then (past x (name_apart segments x.kind z e)) (λ _. and_then (expects ":" 12 refl) (λ _. returns (suc z) (λ g l h. h)))

  memory_on : (size : ℕ) (x : Lexeme) → is_mark "." x.kind ≡ false → Triple Free (Here x) (memory size) (λ _. On)
  unfolding memory
  memory_on size x e = ahead_here _ x (and_then (past x e) (λ _. ask_kind _ λ y. before (λ g l h. h.1) (whether (is_word y.kind)
      (λ _. bind override_on λ z. bind registers_ahead_on λ q. bind displacement_on λ has. close_on x.from size z q has)
      (λ _. whether (is_number y.kind) (λ _. and_then expression_on (λ _. close_on x.from size 0 none 1)) (λ _. here_fails 24)))))

  operand_sized_on : (n size : ℕ) → Triple Free On (operand_sized n size) (λ _. On)
  unfolding operand_sized
  operand_sized_on zero size = immediate_on
  operand_sized_on (suc n) size = ask_ahead λ x. whether (is_mark "[" x.kind) (λ e. memory_on size x (mark_apart "[" refl x.kind e))
      (λ _. perhaps (name_in registers x.kind) (perhaps (name_in segments x.kind) (perhaps (name_in sizes x.kind) (before (λ g l h. h.1) immediate_on)
      (λ q e. and_then (past x (name_apart sizes x.kind q e)) (λ _. operand_sized_on n (suc q))))
      (λ q e. and_then (past x (name_apart segments x.kind q e)) (λ _. puts _)))
      (λ q e. and_then (past x (name_apart registers x.kind q e)) (λ _. puts _)))

  operand_on : Triple Free On operand (λ _. On)
  unfolding operand
  operand_on = ask_left λ n. operand_sized_on (suc n) 0

  operands_on : Triple Free On operands (λ _. On)
  unfolding operands
  operands_on = ask_ahead λ x. before (λ g l h. h.1) (passed_then λ l. whether (is_line_end x.kind) (λ _. returns _ (λ g l h. h))
      (λ _. and_then operand_on (λ _. ask_kind _ λ y. whether (is_line_end y.kind) (λ _. before (λ g l h. h.1) (passed_then λ t. returns _ (λ g l h. h)))
      (λ _. whether (is_mark "," y.kind) (λ e. and_then (past y (mark_apart "," refl y.kind e)) (λ _. and_then operand_on (λ _. passed_then λ t. returns _ (λ g l h. h)))) (λ _. here_fails 11)))))

  -- What statements read of a line.
  label_on : (x : Lexeme) → Triple Free On (label x) (λ _. On)
  unfolding label
  label_on x = ask_kind _ λ y. and_then (whether (is_mark ":" y.kind) (λ e. past y (mark_apart ":" refl y.kind e)) (λ _. returns tt (λ g l h. h.1))) (λ _. puts _)

  module _ (takes : ℕ → ℕ → Bool) where
    literal_of_on : (k : Kind) (x : Lexeme) (width : ℕ) {others : Reader Line (List ℕ)} → x.kind ≡ k → Triple Free On others (λ _. On) → Triple Free (Here x) (literal_of takes k width others) (λ _. On)
    unfolding literal_of is_mark
    literal_of_on newline x width e again = returns [] (λ g l h. h.1)
    literal_of_on end x width e again = returns [] (λ g l h. h.1)
    literal_of_on (mark c) x width e again = whether (is "," c) (λ i. and_then (past x (mark_apart "," refl x.kind (ap (is_mark ",") e ∙ i))) (λ _. again)) (λ _. here_fails 15)
    literal_of_on (quoted shut s) x width e again = whether shut (λ _. bind (and_then (past x (ap (is_mark ".") e)) (λ _. again)) λ ds. returns (s ++ ds) (λ g l h. h)) (λ _. here_fails 26)
    literal_of_on (number v) x width e again = whether (takes width v)
        (λ _. bind (and_then (past x (ap (is_mark ".") e)) (λ _. again)) λ ds. returns (take width (field v) ++ ds) (λ g l h. h)) (λ _. here_fails 60)
    literal_of_on (word w) x width e again = here_fails 15
    literal_of_on blank x width e again = here_fails 15
    literal_of_on comment x width e again = here_fails 15
    literal_of_on invalid x width e again = here_fails 15
    literal_of_on (bad b) x width e again = here_fails 15

    literals_on : (n width : ℕ) → Triple Free On (literals takes n width) (λ _. On)
    unfolding literals
    literals_on zero width = returns [] (λ g l h. h)
    literals_on (suc n) width = ask_kind _ λ x. literal_of_on x.kind x width refl (literals_on n width)

-- Statements.
abbrev OnS : Unit {0} → State → Type 0
OnS g s = Ahead (Beneath s.below) s.line

in_on : {A : Type 0} {m : Reader Line A} → ((B : Type 0) → Triple Free (On B) m (λ _. On B)) → Triple Free OnS (in_line m) (λ _. OnS)
in_on e = in_lines (λ rs. On (Beneath rs)) (λ rs _. On (Beneath rs)) (λ rs. e (Beneath rs))

passed_s : {A : Type 0} {f : ℕ → Reader State A} {P : Unit {0} → State → Type 0} {R : A → Unit {0} → State → Type 0} → ((t : ℕ) → Triple Free P (f t) R) → Triple Free P (in_line passed >>= f) R
passed_s e = ask_passed_s λ t. before (λ g s h. h.1) (e t)

-- At a line's end a dot ahead stands below, and a dot in the line is not there.
dot_no_end : {x : Lexeme} {xs : List Lexeme} → Dotted (x ∷ xs) → is_line_end x.kind ≡ false
dot_no_end (here {x} h) = mark_inside "." x.kind h
dot_no_end (further e d) = e

at_end : {B : Type 0} {l : Line} → is_line_end l.here.kind ≡ true → Ahead B l → B
at_end e (inside d) = absurd (true≢false (sym e ∙ dot_no_end d))
at_end e (below b) = b

row_on : {r : Row} {rs : List Row} → Beneath (r ∷ rs) → Ahead (Beneath rs) (first_of r)
unfolding first_of
row_on (first d) = inside d
row_on (later b) = below b

step_row_on : (g : Unit {0}) (s : State) (rs : List Row) → Beneath rs → Post Free (λ _. OnS) g (step_row rs s)
unfolding step_row enter
step_row_on g s [] b = elim b [ ]
step_row_on g s (r ∷ rs) b = arrive_post r.first (now (row_on b))

line_end_on : Triple Free OnS line_end (λ _. OnS)
unfolding line_end next_row
line_end_on = ask_kind_s _ λ x. whether (is_line_end x.kind)
    (λ e. record { law = λ g s h. step_row_on g s s.below (at_end (ap (λ (y : Lexeme). is_line_end y.kind) h.0 ∙ e) h.1) }) (λ _. here_fails_s 10)

-- Behind empty lines a token is ahead.
abbrev Inside : Unit {0} → State → Type 0
Inside g s = (is_line_end s.line.here.kind ≡ false) × OnS g s

skip_on : (g : Unit {0}) (l : Line) (rs : List Row) → Ahead (Beneath rs) l → Post Free (λ _. Inside) g (skip l rs)
unfolding skip
skip_on g l [] (inside d) = now (dot_no_end d, inside d)
skip_on g l [] (below b) = elim b [ ]
skip_on g l (r ∷ rs) h = go (is_line_end l.here.kind) refl (λ b. skip_on g (first_of r) rs (row_on b))
  where
    go : (b : Bool) → is_line_end l.here.kind ≡ b → (Beneath (r ∷ rs) → Post Free (λ _. Inside) g (skip (first_of r) rs))
        → Post Free (λ _. Inside) g (if b then (arrive r.first (skip (first_of r) rs)) else (done [] tt (record { line = l; below = r ∷ rs })))
    go true e again = arrive_post r.first (again (at_end e h))
    go false e again = now (e, h)

skip_lines_on : Triple Free OnS skip_lines (λ _. Inside)
unfolding skip_lines
skip_lines_on = record { law = λ g s h. skip_on g s.line s.below h }

instruction_on : (x : Lexeme) (op : ℕ) → Triple Free OnS (instruction x op) (λ _. OnS)
unfolding instruction
instruction_on x op = whether (eqb op rep || eqb op repne) (λ _. passed_s λ t. puts _)
    (λ _. bind (in_on operands_on) λ o. passed_s λ t. and_then line_end_on (λ _. puts _))

constant_on : (x : Lexeme) → Triple Free OnS (constant x) (λ _. OnS)
unfolding constant
constant_on x = and_then (in_on expression_on) (λ _. passed_s λ t. and_then line_end_on (λ _. puts _))

some_data_on : (x : Lexeme) (ds : List ℕ) → Triple Free OnS (some_data x ds) (λ _. OnS)
unfolding some_data
some_data_on x [] = refuses _
some_data_on x (b ∷ bs) = passed_s λ t. and_then line_end_on (λ _. puts _)

data_of_on : (takes : ℕ → ℕ → Bool) (x : Lexeme) (width : ℕ) → Triple Free OnS (data_of takes x width) (λ _. OnS)
unfolding data_of
data_of_on takes x width = ask_left_s λ n. bind (in_on (λ B. literals_on B takes (suc n) width)) λ ds. some_data_on x ds

abbrev HereS : Lexeme → Unit {0} → State → Type 0
HereS x g s = (s.line.here ≡ x) × OnS g s

passing_on : (x : Lexeme) → is_mark "." x.kind ≡ false → {m : Reader State (Unit {0})} → Triple Free OnS m (λ _. OnS) → Triple Free (HereS x) (passing m) (λ _. OnS)
unfolding passing
passing_on x e p = and_then (in_lines (λ rs. Here (Beneath rs) x) (λ rs _. On (Beneath rs)) (λ rs. past (Beneath rs) x e)) (λ _. p)

ahead_here_s : {A : Type 0} (f : Lexeme → Reader State A) {R : A → Unit {0} → State → Type 0} (x : Lexeme) → Triple Free (HereS x) (f x) R → Triple Free (HereS x) (in_line ahead >>= f) R
unfolding ahead ◌>>=◌ thence in_line over
ahead_here_s f {R} x e = record { law = λ g s h. after_post nil (subst (λ (y : Lexeme). Post Free R g (f y s)) (sym h.0) (e.law g s h)) }

module _ (profile : Profile) where
  module _ {nested : Reader State (Unit {0})} (each : (x : Lexeme) → is_mark "." x.kind ≡ false → Triple Free (HereS x) nested (λ _. OnS)) where
    line_on : Triple Free OnS (line profile nested) (λ _. OnS)
    unfolding line
    line_on = ask_ahead_s λ x. perhaps (operation_in profile.table x.kind)
        (perhaps (name_in directives x.kind)
        (whether (is_word x.kind) (λ e. passing_on x (word_apart x.kind e) (in_on (λ B. label_on B x))) (λ _. here_fails_s 20))
        λ n e. whether (eqb n 0) (λ _. passing_on x (name_apart directives x.kind n e) (constant_on x))
        (λ _. whether (ltb n 3) (λ _. passing_on x (name_apart directives x.kind n e) (data_of_on profile.takes x n)) (λ _. each x (name_apart directives x.kind n e))))
        λ op e. passing_on x (operation_apart profile.table x.kind op e) (instruction_on x op)

    content_on : (x : Lexeme) → Triple Free OnS (content profile nested x) (λ _. OnS)
    unfolding content
    content_on x = ask_kind_s _ λ y. before (λ g s h. h.1) (and_then (whether (is_line_end y.kind) (λ _. refuses _) (λ _. line_on)) (λ _. puts LT))

  times_on : (n : ℕ) (x : Lexeme) → is_mark "." x.kind ≡ false → Triple Free (HereS x) (times profile n) (λ _. OnS)
  unfolding times
  times_on zero x e = here_fails_s 5
  times_on (suc n) x e = ahead_here_s _ x (passing_on x e (and_then (in_on expression_on) (λ _. and_then skip_lines_on (λ _. before (λ g s h. h.1) (content_on (times_on n) x)))))

  -- A statement is there, and a dot behind it.
  abbrev More : Bool → Unit {0} → State → Type 0
  More b g s = (b ≡ true) × OnS g s

  begun_on : Triple Free Inside (begun profile) More
  unfolding begun
  begun_on = ask_ahead_s λ x. whether (is_line_end x.kind)
      (λ e. record { law = λ g s h. absurd (true≢false (sym e ∙ ap (λ (y : Lexeme). is_line_end y.kind) (sym h.0) ∙ h.1.0)) })
      (λ _. before (λ g s h. h.1.1) (and_then (and_then (puts (ST x.from)) (λ _. line_on (times_on 16))) (λ _. returns true (λ g s h. (refl, h)))))

  statement_on : Triple Free OnS (statement profile) More
  unfolding statement
  statement_on = and_then skip_lines_on (λ _. begun_on)

  -- So no reading of a dot comes to its end.
  abbrev pub Denied : Answer State (Unit {0}) → Type 0
  Denied p = (r : Cause) × (p ≡ refused r)

  more_after : {w : List Record} {b : Bool} {t : State} → Post Free More tt (done w b t) → (b ≡ true) × OnS tt t
  more_after (holds {g' = tt} r q) = q

  reads_denied : {s : State} {p : Answer State (Unit {0})} → Reads profile s p → OnS tt s → Denied p
  unfolding after
  reads_denied (Reads.stop {s} z) h = absurd (true≢false (sym (more_after (rw z at (statement_on.law tt s h))).0))
  reads_denied (Reads.fail {r = r} z) h = (r, refl)
  reads_denied (Reads.go {s} {w = w} z i) h =
      let (r, e) = reads_denied i (more_after (rw z at (statement_on.law tt s h))).1 in
      (r, ap (after w) e)

  pub begins_denied : {l : List Row} {p : Answer State (Unit {0})} → Begins profile l p → Beneath l → Denied p
  unfolding enter
  begins_denied (fine f i) b = reads_denied i (row_on b)
  begins_denied (broken f) b = (_, refl)
