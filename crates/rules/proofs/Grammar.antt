-- The reader of expressions passes what the grammar derives, and nothing else, and no tokens have two trees: `one_reading`.
use Rattle.std.specs.Prelude.{if◌then◌else◌}
use mathlib.Core.Path.{◌≡◌, refl, sym, ap, ap₂, subst₂, ◌∙◌}
use mathlib.Core.Bool.{Bool, true, false, true≢false, false≢true}
use mathlib.Core.List.{List, [], ◌∷◌, ◌++◌, append_assoc, append-nil}
use mathlib.Core.Option.{Option, none, some}
use Prim.Native.Nat.{ℕ, zero, suc, ◌+◌, ◌≤◌, ◌<◌}
use Prim.Native.Char.{Char, code}
use Prim.Native.String.{String}
use native.Mathlib.Omega.{arith}
use native.Mathlib.Nat.{le_refl, le_trans, not-suc-le-zero, add-suc, add-zero, add_comm}
use lib.Dec.{ltb, eqb}
use lib.ListN.{length, get_or, length-append}
use borrow.Author.Tests.{lt-ltb, le-ltb, eqb-true, ltb-true, ltb-false}
use Rattle.lexer.specs.Text.{maybe, is, bytes, same, open_text}
use Rattle.lexer.specs.Tokens.{token_at}
use Rattle.rules.specs.Lexemes.{Kind, word, number, quoted, mark, newline, blank, comment, invalid, end, bad, Lexeme, tokens_from, tokens, open_lexemes}
use Rattle.rules.specs.Records.{Record, mark_of, fields_of, VC, VL, VI, VS, PF, IN}
use Rattle.rules.specs.Reader.{Cause, at, nowhere, Answer, done, refused, Reader, Line, after, thence, ◌>>=◌, ◌>>◌, return, write, refuse, refused_as, arrive, step, next, ahead, kind, passed, left, refuse_here, is_mark, is_line_end, expect}
use Rattle.rules.specs.Expressions.{operator_of, left_level, right_level, prefix_level, character, atom_of, atom as atom_reader, primary, infixes, expr, expression}
use Rattle.rules.specs.Statements.{Row}
use Rattle.rules.specs.Grammar.{Tree, constant, name, dollar, dollars, signed, joined, records_of, start_of, end_of, Mark, PlusMinus, plus, minus, TimesOver, times, over, Atom, a_number, a_character, a_name, a_dollar, two_dollars, Level, sum, product, operand, Derives, atom, parentheses, prefix, multiplied, added, one_operand, one_product, lone_dollar, Ends, left_of, Begins, LineOf, OneReading}
use Rattle.rules.proofs.TokenKinds.{mark_inside, operator_inside}
use Rattle.rules.proofs.Append.{after_nil, after_after}
use Rattle.rules.proofs.Progress.{Ended, AllEnded}
use Rattle.rules.proofs.Cut.{rows_all, tokens_finished}

abbrev tok : Lexeme → Kind → Lexeme
tok x k = record { from = x.from; to = x.to; kind = k }

abbrev on : ℕ → Lexeme → List Lexeme → Line
on l x xs = record { last = l; here = x; more = xs }

abbrev end_at : ℕ → Line
end_at p = on p (record { from = p; to = p; kind = newline }) []

-- the line that has these tokens left
abbrev line_at : ℕ → List Lexeme → Line
line_at l [] = end_at l
line_at l (x ∷ xs) = on l x xs

-- there is a first token, and it is not refused when it is read
abbrev Fine : List Lexeme → Type 0
Fine [] = ⊥
Fine (x ∷ xs) = refused_as x.kind ≡ none

-- what may stand behind xs, operators too
record Next (xs : List Lexeme) (z : Lexeme) : Type 0 where
  fine : refused_as z.kind ≡ none
  no_dollar_lem : lone_dollar false xs ≡ true → is_mark "$" z.kind ≡ false

-- what the reader asks of an infix operator with the left level p
record Operator (p op : ℕ) (o : Lexeme) : Type 0 where
  found : operator_of o.kind ≡ some op
  lefts : left_level op ≡ p
  rights : right_level op ≡ suc p
  fine : refused_as o.kind ≡ none
  no_dollar_lem : is_mark "$" o.kind ≡ false
  no_open : is_mark "(" o.kind ≡ false

plus_minus : {o : Lexeme} {op : ℕ} → PlusMinus o op → Operator 1 op o × (op < 2)
unfolding open_text operator_of is_mark left_level right_level refused_as
plus_minus (plus m) = (rw m.marked (record { found = refl; lefts = refl; rights = refl; fine = refl; no_dollar_lem = refl; no_open = refl }), omega arith)
plus_minus (minus m) = (rw m.marked (record { found = refl; lefts = refl; rights = refl; fine = refl; no_dollar_lem = refl; no_open = refl }), omega arith)

times_over : {o : Lexeme} {op : ℕ} → TimesOver o op → Operator 3 op o
unfolding open_text operator_of is_mark left_level right_level refused_as
times_over (times m) = rw m.marked (record { found = refl; lefts = refl; rights = refl; fine = refl; no_dollar_lem = refl; no_open = refl })
times_over (over m) = rw m.marked (record { found = refl; lefts = refl; rights = refl; fine = refl; no_dollar_lem = refl; no_open = refl })

-- LISTS OF TOKENS: where they begin and end.
fine_append : (xs ys : List Lexeme) → Fine xs → Fine (xs ++ ys)
fine_append [] ys h = absurd h
fine_append (x ∷ xs) ys h = h

start_append : (xs ys : List Lexeme) → Fine xs → start_of (xs ++ ys) ≡ start_of xs
unfolding start_of
start_append [] ys h = absurd h
start_append (x ∷ xs) ys h = refl

start_here : (l : ℕ) (xs ys : List Lexeme) → Fine xs → (line_at l (xs ++ ys)).here.from ≡ start_of xs
unfolding start_of
start_here l [] ys h = absurd h
start_here l (x ∷ xs) ys h = refl

end_behind : (xs : List Lexeme) (o : Lexeme) (ys : List Lexeme) → Fine ys → end_of (xs ++ (o ∷ ys)) ≡ end_of ys
unfolding end_of
end_behind xs o [] h = absurd h
end_behind [] o (y ∷ ys) h = refl
end_behind (x ∷ []) o (y ∷ ys) h = refl
end_behind (x ∷ x' ∷ xs) o (y ∷ ys) h = end_behind (x' ∷ xs) o (y ∷ ys) h

end_last : (xs : List Lexeme) (y : Lexeme) → end_of (xs ++ (y ∷ [])) ≡ y.to
unfolding end_of
end_last [] y = refl
end_last (x ∷ []) y = refl
end_last (x ∷ x' ∷ xs) y = end_last (x' ∷ xs) y

lone_behind : (b : Bool) (xs : List Lexeme) (o : Lexeme) (ys : List Lexeme) → is_mark "$" o.kind ≡ false → lone_dollar b (xs ++ (o ∷ ys)) ≡ lone_dollar false ys
unfolding lone_dollar
lone_behind true [] o ys h = refl
lone_behind false [] o ys h = ap (λ (b : Bool). lone_dollar b ys) h
lone_behind b (x ∷ xs) o ys h = lone_behind (if b then false else is_mark "$" x.kind) xs o ys h

next_behind : (xs : List Lexeme) (o : Lexeme) (ys : List Lexeme) (z : Lexeme) → is_mark "$" o.kind ≡ false → Next (xs ++ (o ∷ ys)) z → Next ys z
next_behind xs o ys z h n = record { fine = n.fine; no_dollar_lem = λ i. n.no_dollar_lem (lone_behind false xs o ys h ∙ i) }

behind_next : (xs : List Lexeme) (o : Lexeme) (ys : List Lexeme) (z : Lexeme) → is_mark "$" o.kind ≡ false → Next ys z → Next (xs ++ (o ∷ ys)) z
behind_next xs o ys z h n = record { fine = n.fine; no_dollar_lem = λ i. n.no_dollar_lem (sym (lone_behind false xs o ys h) ∙ i) }

close_dollar : (y : Lexeme) → Mark ")" y → is_mark "$" y.kind ≡ false
unfolding open_text is_mark
close_dollar y m = rw m.marked

close_next : (xs : List Lexeme) (y : Lexeme) → Mark ")" y → Next xs y
unfolding refused_as
close_next xs y m = record { fine = rw m.marked; no_dollar_lem = λ _. close_dollar y m }

operator_next : {p op : ℕ} {o : Lexeme} (xs : List Lexeme) → Operator p op o → Next xs o
operator_next xs o = record { fine = o.fine; no_dollar_lem = λ _. o.no_dollar_lem }

atom_fine : {xs : List Lexeme} {a : Tree} → Atom xs a → Fine xs
unfolding refused_as
atom_fine (a_number h) = rw h
atom_fine (a_character h) = rw h
atom_fine (a_name h) = rw h
atom_fine (a_dollar m) = rw m.marked
atom_fine (two_dollars m n) = rw m.marked

first_fine : {d : ℕ} {l : Level} {xs : List Lexeme} {a : Tree} → Derives d l xs a → Fine xs
unfolding refused_as
first_fine (atom h) = atom_fine h
first_fine (parentheses m g n) = rw m.marked
first_fine (prefix o g) = (plus_minus o).0.fine
first_fine (multiplied {xs = xs} g o g') = fine_append xs _ (first_fine g)
first_fine (added {xs = xs} g o g') = fine_append xs _ (first_fine g)
first_fine (one_operand g) = first_fine g
first_fine (one_product g) = first_fine g

-- COMPLETENESS.
next_step : (l : ℕ) (x : Lexeme) (ys : List Lexeme) → Fine ys → next (on l x ys) ≡ done [] tt (line_at x.to ys)
unfolding next step arrive
next_step l x [] h = absurd h
next_step l x (y ∷ ys) h = rw h

after_done : (w : List Record) (s : Line) → ◌≡◌ {A = Answer Line (Unit {0})} (after w (done [] tt s)) (done w tt s)
unfolding after
after_done w s = rw (append-nil w)

abbrev Body : ℕ → ℕ → ℕ → Reader Line (Unit {0})
Body d level f = primary (expr d) >> (left >>= λ n. infixes n (expr d) level f)

-- After the tokens of an expression the loop over infix operators goes on at the token behind.
abbrev Goes : ℕ → ℕ → List Lexeme → List Record → Type 0
Goes zero p xs w = ⊥
Goes (suc d) p xs w = (level l : ℕ) (z : Lexeme) (rest : List Lexeme) → level ≤ p → Next xs z → ((op : ℕ) → operator_of z.kind ≡ some op → left_level op ≤ p)
    → (n : ℕ) × (length rest ≤ n) × (Body d level (start_of xs) (line_at l (xs ++ (z ∷ rest))) ≡ after w (infixes n (expr d) level (start_of xs) (on (end_of xs) z rest)))

-- The reader reads the tokens of an expression, and no more, where what is behind is no operator of its level.
abbrev Done : ℕ → ℕ → List Lexeme → List Record → Type 0
Done d p xs w = (l : ℕ) (z : Lexeme) (rest : List Lexeme) → Next xs z → ((op : ℕ) → operator_of z.kind ≡ some op → left_level op < p)
    → expr d p (line_at l (xs ++ (z ∷ rest))) ≡ done w tt (on (end_of xs) z rest)

-- the loop stops
stops : (n : ℕ) (inner : ℕ → Reader Line (Unit {0})) (p f : ℕ) (s : Line) → ((op : ℕ) → operator_of s.here.kind ≡ some op → left_level op < p)
    → infixes n inner p f s ≡ done [] tt s
unfolding infixes ◌>>=◌ thence after kind return
stops zero inner p f s h = refl
stops (suc n) inner p f s h = go (operator_of s.here.kind) h
  where
    go : (o : Option ℕ) → ((op : ℕ) → o ≡ some op → left_level op < p) → after [] (maybe o (return tt) (λ op. if ltb (left_level op) p then (return tt) else
        (next >> (inner (right_level op) >> (passed >>= λ t. (write (IN f t op) >> infixes n inner p f))))) s) ≡ done [] tt s
    go none i = refl
    go (some op) i = rw (lt-ltb (left_level op) p (i op refl))

-- the loop takes an operator and its right side
turn : (n : ℕ) (inner : ℕ → Reader Line (Unit {0})) (level f op : ℕ) (o : Lexeme) (l : ℕ) (ys : List Lexeme) (v : List Record) (s : Line)
    → operator_of o.kind ≡ some op → level ≤ left_level op → Fine ys → inner (right_level op) (line_at o.to ys) ≡ done v tt s
    → infixes (suc n) inner level f (on l o ys) ≡ after (v ++ (IN f s.last op ∷ [])) (infixes n inner level f s)
unfolding infixes ◌>>=◌ ◌>>◌ thence kind passed write
turn n inner level f op o l ys v s h i j k = rw (h, le-ltb (left_level op) level i, next_step l o ys j, k) (simp (after_nil, after_after))

-- what begins an expression is read whole: the loop begins
unit : (d p : ℕ) (xs : List Lexeme) (w : List Record)
    → ((l : ℕ) (z : Lexeme) (rest : List Lexeme) → Next xs z → primary (expr d) (line_at l (xs ++ (z ∷ rest))) ≡ done w tt (on (end_of xs) z rest)) → Goes (suc d) p xs w
unfolding ◌>>=◌ ◌>>◌ thence left
unit d p xs w h level l z rest i b c = (length rest, le_refl (length rest), rw (h l z rest b, after_nil (infixes (length rest) (expr d) level (start_of xs) (on (end_of xs) z rest))))

-- at a lower level too
lower : (d p q : ℕ) (xs : List Lexeme) (w : List Record) → q ≤ p → Goes d p xs w → Goes d q xs w
lower zero p q xs w h g = g
lower (suc d) p q xs w h g = λ level l z rest i b c. g level l z rest (le_trans i h) b (λ op j. le_trans (c op j) h)

finish_one : (d p : ℕ) (xs : List Lexeme) (w : List Record) → Fine xs → Goes (suc d) p xs w → Done (suc d) p xs w
unfolding expr ahead ◌>>=◌ thence
finish_one d p xs w f g l z rest b c =
    let (n, i, h) = g p l z rest (le_refl p) b (λ op j. let k : left_level op < p = c op j in omega arith) in
    rw (start_here l xs (z ∷ rest) f, after_nil (Body d p (start_of xs) (line_at l (xs ++ (z ∷ rest)))), h, stops n (expr d) p (start_of xs) (on (end_of xs) z rest) c) (after_done w (on (end_of xs) z rest))

finish : (d p : ℕ) (xs : List Lexeme) (w : List Record) → Fine xs → Goes d p xs w → Done d p xs w
finish zero p xs w f g = absurd g
finish (suc d) p xs w f g = finish_one d p xs w f g

no_operator_lem : (op : ℕ) → ◌≡◌ {A = Option ℕ} none (some op) → ⊥
no_operator_lem op h = true≢false cc

some_inj : {a b : ℕ} → ◌≡◌ {A = Option ℕ} (some a) (some b) → a ≡ b
some_inj h = cc

close_none : (y : Lexeme) → Mark ")" y → operator_of y.kind ≡ none
unfolding open_text operator_of is_mark
close_none y m = rw m.marked

-- no operator binds as tight as a prefix
loose : (op : ℕ) → left_level op < prefix_level
unfolding left_level prefix_level
loose op = go (ltb op 2)
  where
    go : (c : Bool) → (if c then 1 else 3) < 5
    go true = omega arith
    go false = omega arith

prefix_level_lem : prefix_level ≡ 5
unfolding prefix_level
prefix_level_lem = refl

module _ (d l : ℕ) (z : Lexeme) (rest : List Lexeme) where
  atom_read : {xs : List Lexeme} {a : Tree} → Atom xs a → Next xs z → primary (expr d) (line_at l (xs ++ (z ∷ rest))) ≡ done (records_of a) tt (on (end_of xs) z rest)
  unfolding open_text primary atom_reader atom_of character operator_of is_mark refused_as ahead kind ◌>>=◌ ◌>>◌ thence after write end_of records_of lone_dollar next step
  atom_read (a_number {x} h) b = rw (h, next_step l x (z ∷ rest) b.fine)
  atom_read (a_character {x} h) b = rw (h, next_step l x (z ∷ rest) b.fine)
  atom_read (a_name {x} h) b = rw (h, next_step l x (z ∷ rest) b.fine)
  atom_read (a_dollar {x} m) b = rw (m.marked, next_step l x (z ∷ rest) b.fine) (rw (b.no_dollar_lem (rw m.marked)))
  atom_read (two_dollars {x} {y} m n) b = rw (m.marked, next_step l x (y ∷ z ∷ rest) (rw n.marked)) (rw (n.marked, next_step x.to y (z ∷ rest) b.fine))

  parens_read : (x y : Lexeme) (xs : List Lexeme) (w : List Record) → Mark "(" x → Mark ")" y → refused_as z.kind ≡ none → Fine xs → Done d 0 xs w
      → primary (expr d) (on l x (xs ++ (y ∷ z ∷ rest))) ≡ done w tt (on y.to z rest)
  unfolding open_text primary is_mark ahead kind expect ◌>>=◌ ◌>>◌ thence after
  parens_read x y xs w m n b f g = rw (
    m.marked,
    next_step l (tok x (mark 40)) (xs ++ (y ∷ z ∷ rest)) (fine_append xs _ f),
    g x.to y (z ∷ rest) (close_next xs y n) (λ op j. absurd (no_operator_lem op (sym (close_none y n) ∙ j))),
  )
      (rw (n.marked, next_step (end_of xs) (tok y (mark 41)) (z ∷ rest) b, append-nil w))

  prefix_read : (x : Lexeme) (op : ℕ) (xs : List Lexeme) (w : List Record) → Operator 1 op x → op < 2 → Next (x ∷ xs) z → Fine xs → Done d prefix_level xs w
      → primary (expr d) (on l x (xs ++ (z ∷ rest))) ≡ done (w ++ (PF x.from (end_of xs) op ∷ [])) tt (on (end_of xs) z rest)
  unfolding primary ahead passed write ◌>>=◌ ◌>>◌ thence after
  prefix_read x op xs w o i b f g = rw (
    o.no_open,
    o.found,
    next_step l x (xs ++ (z ∷ rest)) (fine_append xs _ f),
    lt-ltb op 2 i,
    g x.to z rest (next_behind [] x xs z o.no_dollar_lem b) (λ q _. loose q),
  )

-- the loop after a left operand, an operator and a right operand
join : (d level l op : ℕ) (o z : Lexeme) (xs ys rest : List Lexeme) (w v : List Record) (n : ℕ)
    → operator_of o.kind ≡ some op → level ≤ left_level op → Fine xs → Fine ys
    → length (ys ++ (z ∷ rest)) ≤ n
    → Body d level (start_of xs) (line_at l (xs ++ (o ∷ (ys ++ (z ∷ rest))))) ≡ after w (infixes n (expr d) level (start_of xs) (on (end_of xs) o (ys ++ (z ∷ rest))))
    → expr d (right_level op) (line_at o.to (ys ++ (z ∷ rest))) ≡ done v tt (on (end_of ys) z rest)
    → (n : ℕ) × (length rest ≤ n) × (Body d level (start_of (xs ++ (o ∷ ys))) (line_at l ((xs ++ (o ∷ ys)) ++ (z ∷ rest)))
    ≡ after (w ++ (v ++ (IN (start_of xs) (end_of ys) op ∷ []))) (infixes n (expr d) level (start_of (xs ++ (o ∷ ys))) (on (end_of (xs ++ (o ∷ ys))) z rest)))
join d level l op o z xs ys rest w v zero h i f j k e r = absurd (omega (arith, length-append ys (z ∷ rest)))
join d level l op o z xs ys rest w v (suc n) h i f j k e r = (
  n,
  omega (arith, length-append ys (z ∷ rest)),
  rw (
    append_assoc xs (o ∷ ys) (z ∷ rest),
    start_append xs (o ∷ ys) f,
    end_behind xs o ys j,
    e,
    turn n (expr d) level (start_of xs) op o (end_of xs) (ys ++ (z ∷ rest)) v (on (end_of ys) z rest) h i (fine_append ys _ j) r,
  )
      (after_after w (v ++ (IN (start_of xs) (end_of ys) op ∷ [])) _),
)

-- an infix operator between two sides
infix_goes : (d p q op : ℕ) (o : Lexeme) (xs ys : List Lexeme) (w v : List Record) → Operator p op o → suc p ≤ q → Fine xs → Fine ys → Goes (suc d) p xs w → Goes d q ys v
    → Goes (suc d) p (xs ++ (o ∷ ys)) (w ++ (v ++ (IN (start_of xs) (end_of ys) op ∷ [])))
infix_goes d p q op o xs ys w v a h f f' g g' = λ level l z rest j b e.
    let i : level ≤ left_level op = omega (arith, a.lefts) in
    let (n, k, r) = g level l o (ys ++ (z ∷ rest)) j (operator_next xs a) (λ op' u. omega (arith, ap left_level (some_inj (sym u ∙ a.found)), a.lefts)) in
    let right : right_level op ≤ q = omega (arith, a.rights) in
    join d level l op o z xs ys rest w v n a.found i f f' k r
    (finish d (right_level op) ys v f' (lower d q (right_level op) ys v right g') o.to z rest (next_behind xs o ys z a.no_dollar_lem b) (λ op' u. omega (arith, e op' u, a.rights)))

-- the left level of a level's loosest operator; prefix operators are above those of every infix operator
abbrev floor : Level → ℕ
floor sum = 1
floor product = 3
floor operand = 5

-- the level that a rule of the grammar asks for
abbrev level_of : {d : ℕ} {l : Level} {xs : List Lexeme} {a : Tree} → Derives d l xs a → Level
level_of {l = l} g = l

complete : {d : ℕ} {l : Level} {xs : List Lexeme} {a : Tree} → Derives d l xs a → Goes d (floor l) xs (records_of a)
unfolding records_of
complete (atom {d} {xs} {a} h) = unit d 5 xs (records_of a) (λ l z rest b. atom_read d l z rest h b)
complete (parentheses {d} {x} {y} {xs} {a} m g n) = unit d 5 (x ∷ (xs ++ (y ∷ []))) (records_of a)
    (λ l z rest b. rw (append_assoc xs (y ∷ []) (z ∷ rest), end_last (x ∷ xs) y)
    (parens_read d l z rest x y xs (records_of a) m n b.fine (first_fine g) (finish d 0 xs (records_of a) (first_fine g) (lower d 1 0 xs (records_of a) (omega arith) (complete g)))))
complete (prefix {d} {op} {x} {xs} {a} o g) = unit d 5 (x ∷ xs) (records_of a ++ (PF x.from (end_of xs) op ∷ []))
    (λ l z rest b. rw (end_behind [] x xs (first_fine g))
    (prefix_read d l z rest x op xs (records_of a) (plus_minus o).0 (plus_minus o).1 b (first_fine g) (finish d prefix_level xs (records_of a) (first_fine g) (rw prefix_level_lem (complete g)))))
complete (multiplied {d} {op} {x} {xs} {ys} {a} {b} g o g') = infix_goes d 3 (floor (level_of g')) op x xs ys (records_of a) (records_of b) (times_over o) (omega arith) (first_fine g) (first_fine g') (complete g) (complete g')
complete (added {d} {op} {x} {xs} {ys} {a} {b} g o g') = infix_goes d 1 (floor (level_of g')) op x xs ys (records_of a) (records_of b) (plus_minus o).0 (omega arith) (first_fine g) (first_fine g') (complete g) (complete g')
complete (one_operand {d} {xs} {a} g) = lower d 5 3 xs (records_of a) (omega arith) (complete g)
complete (one_product {d} {xs} {a} g) = lower d 3 1 xs (records_of a) (omega arith) (complete g)

-- what the grammar derives the reader passes, where no operator is behind
reader_complete : {d : ℕ} {xs : List Lexeme} {a : Tree} → Derives d sum xs a → (l : ℕ) (z : Lexeme) (rest : List Lexeme) → Ends xs z
    → expr d 0 (line_at l (xs ++ (z ∷ rest))) ≡ done (records_of a) tt (on (end_of xs) z rest)
reader_complete {d} {xs} {a} g l z rest e =
    finish d 0 xs (records_of a) (first_fine g) (lower d 1 0 xs (records_of a) (omega arith) (complete g)) l z rest
    (record { fine = e.arrives; no_dollar_lem = e.no_dollar }) (λ op j. absurd (no_operator_lem op (sym e.no_operator ∙ j)))

-- SOUNDNESS. The tokens xs are an expression whose operators, outside parentheses, have a left level of at least p; it is listed as w.
record Gram (d p : ℕ) (xs : List Lexeme) (w : List Record) : Type 0 where
  tree : Tree
  listed : w ≡ records_of tree
  derived : (l : Level) → floor l ≤ suc p → Derives d l xs tree

-- what the reader has passed behind x, and where it stands
record Passed (d p : ℕ) (x : Lexeme) (ys : List Lexeme) (w : List Record) (s : Line) : Type 0 where
  xs : List Lexeme
  split : ys ≡ xs ++ left_of s
  lasts : s.last ≡ end_of (x ∷ xs)
  reads : Gram d p (x ∷ xs) w
  follows : Next (x ∷ xs) s.here
  stop : (op : ℕ) → operator_of s.here.kind ≡ some op → left_level op < p

record Began (d : ℕ) (x : Lexeme) (ys : List Lexeme) (w : List Record) (s : Line) : Type 0 where
  xs : List Lexeme
  split : ys ≡ xs ++ left_of s
  lasts : s.last ≡ end_of (x ∷ xs)
  tree : Tree
  listed : w ≡ records_of tree
  reads : Derives (suc d) operand (x ∷ xs) tree
  follows : Next (x ∷ xs) s.here

-- an operand is of every level
as_level : {d : ℕ} {xs : List Lexeme} {a : Tree} (l : Level) → Derives d operand xs a → Derives d l xs a
as_level sum g = one_product (one_operand g)
as_level product g = one_operand g
as_level operand g = g

began_gram : {d : ℕ} {x : Lexeme} {ys : List Lexeme} {w : List Record} {s : Line} (q : Began d x ys w s) (p : ℕ) → Gram (suc d) p (x ∷ q.xs) w
began_gram q p = record { tree = q.tree; listed = q.listed; derived = λ l _. as_level l q.reads }

-- an answer that, if it is no refusal, has Q
data Post {A : Type 0} (Q : List Record → A → Line → Type 0) : Answer Line A → Type 0 where
  holds : {w : List Record} {a : A} {s : Line} → Q w a s → Post Q (done w a s)
  fails : {r : Cause} → Post Q (refused r)

after_post : {A : Type 0} {Q : List Record → A → Line → Type 0} (w : List Record) {p : Answer Line A} → Post (λ v a s. Q (w ++ v) a s) p → Post Q (after w p)
unfolding after
after_post w (holds h) = holds h
after_post w fails = fails

thence_post : {A B : Type 0} {R : List Record → A → Line → Type 0} {Q : List Record → B → Line → Type 0} {k : A → Reader Line B} {p : Answer Line A}
    → Post R p → ((w : List Record) (a : A) (s : Line) → R w a s → Post (λ v b t. Q (w ++ v) b t) (k a s)) → Post Q (thence p k)
unfolding thence
thence_post (holds {w} {a} {s} h) e = after_post w (e w a s h)
thence_post fails e = fails

post_map : {A : Type 0} {R Q : List Record → A → Line → Type 0} {p : Answer Line A} → ((w : List Record) (a : A) (s : Line) → R w a s → Q w a s) → Post R p → Post Q p
post_map f (holds {w} {a} {s} h) = holds (f w a s h)
post_map f fails = fails

post_done : {A : Type 0} {Q : List Record → A → Line → Type 0} {w : List Record} {a : A} {s : Line} → Post Q (done w a s) → Q w a s
post_done (holds h) = h

strip : {A : Type 0} {Q : List Record → A → Line → Type 0} {p : Answer Line A} → Post Q p → Post Q (after [] p)
unfolding after
strip (holds h) = holds h
strip fails = fails

arrive_post : {B : Type 0} {Q : List Record → B → Line → Type 0} (k : Reader Line B) (y : Lexeme) (s : Line)
    → (refused_as y.kind ≡ none → Post Q (k s)) → Post Q (thence (arrive y (done [] (tt {0}) s)) (λ _. k))
unfolding arrive thence
arrive_post {Q = Q} k y s h = go (refused_as y.kind) h
  where
    go : (o : Option ℕ) → (o ≡ none → Post Q (k s)) → Post Q (thence (maybe o (done [] (tt {0}) s) (λ n. refused (at n y.from y.to))) (λ _. k))
    go none h = strip (h refl)
    go (some n) h = fails

next_then : {B : Type 0} {Q : List Record → B → Line → Type 0} (k : Reader Line B) (l : ℕ) (x : Lexeme) (ys : List Lexeme) → is_line_end x.kind ≡ false → Ended x ys
    → ((y : Lexeme) (zs : List Lexeme) → ys ≡ y ∷ zs → Ended y zs → refused_as y.kind ≡ none → Post Q (k (on x.to y zs))) → Post Q ((next >> k) (on l x ys))
unfolding ◌>>◌ ◌>>=◌ next step
next_then k l x [] h e g = absurd (true≢false (sym e ∙ h))
next_then k l x (y ∷ zs) h e g = arrive_post k y (on x.to y zs) (g y zs refl e)

next_only : {Q : List Record → Unit {0} → Line → Type 0} (l : ℕ) (x : Lexeme) (ys : List Lexeme) → is_line_end x.kind ≡ false → Ended x ys
    → ((y : Lexeme) (zs : List Lexeme) → ys ≡ y ∷ zs → Ended y zs → refused_as y.kind ≡ none → Q [] tt (on x.to y zs)) → Post Q (next (on l x ys))
unfolding next step arrive
next_only l x [] h e g = absurd (true≢false (sym e ∙ h))
next_only {Q} l x (y ∷ zs) h e g = go (refused_as y.kind) (g y zs refl e)
  where
    go : (o : Option ℕ) → (o ≡ none → Q [] tt (on x.to y zs)) → Post Q (maybe o (done [] tt (on x.to y zs)) (λ n. refused (at n y.from y.to)))
    go none h = holds (h refl)
    go (some n) h = fails

ExprSound : ℕ → Type 0
ExprSound d = (p l : ℕ) (x : Lexeme) (ys : List Lexeme) → Ended x ys → Post (λ w _ s. Passed d p x ys w s) (expr d p (on l x ys))

-- a token by its mark
marked_kind : (a : Char) (k : Kind) → is_mark a k ≡ true → k ≡ mark (code a)
unfolding is_mark is
marked_kind a (mark c) h = ap mark (eqb-true c (code a) h)
marked_kind a (word w) h = absurd (false≢true h)
marked_kind a (number v) h = absurd (false≢true h)
marked_kind a (quoted b w) h = absurd (false≢true h)
marked_kind a newline h = absurd (false≢true h)
marked_kind a blank h = absurd (false≢true h)
marked_kind a comment h = absurd (false≢true h)
marked_kind a invalid h = absurd (false≢true h)
marked_kind a end h = absurd (false≢true h)
marked_kind a (bad n) h = absurd (false≢true h)

as_mark : (a : Char) (x : Lexeme) → is_mark a x.kind ≡ true → Mark a x
as_mark a x h = record { marked = marked_kind a x.kind h }

-- an infix operator by its token
data Which (o : Lexeme) (op : ℕ) : Type 0 where
  looser : PlusMinus o op → Which o op
  tighter : TimesOver o op → Which o op

which : (o : Lexeme) (op : ℕ) → operator_of o.kind ≡ some op → Which o op
unfolding operator_of
which o op h = go (is_mark "+" o.kind) (is_mark "-" o.kind) (is_mark "*" o.kind) (is_mark "/" o.kind) refl refl refl refl h
  where
    go : (a b c d : Bool) → is_mark "+" o.kind ≡ a → is_mark "-" o.kind ≡ b → is_mark "*" o.kind ≡ c → is_mark "/" o.kind ≡ d
        → ◌≡◌ {A = Option ℕ} (if a then some 0 else if b then some 1 else if c then some 2 else if d then some 3 else none) (some op) → Which o op
    go true b c d i j k l h = rw (← some_inj h) (looser (plus (as_mark "+" o i)))
    go false true c d i j k l h = rw (← some_inj h) (looser (minus (as_mark "-" o j)))
    go false false true d i j k l h = rw (← some_inj h) (tighter (times (as_mark "*" o k)))
    go false false false true i j k l h = rw (← some_inj h) (tighter (over (as_mark "/" o l)))
    go false false false false i j k l h = absurd (no_operator_lem op h)

which_operator : {o : Lexeme} {op : ℕ} → Which o op → (p : ℕ) × Operator p op o
which_operator (looser o) = (1, (plus_minus o).0)
which_operator (tighter o) = (3, times_over o)

sign : (o : Lexeme) (op : ℕ) → operator_of o.kind ≡ some op → op < 2 → PlusMinus o op
sign o op h i = go (which o op h) i
  where
    go : {op : ℕ} → Which o op → op < 2 → PlusMinus o op
    go (looser m) i = m
    go (tighter (times m)) i = absurd (omega arith)
    go (tighter (over m)) i = absurd (omega arith)

-- two sides of an infix operator, at each level that the operator may stand at
joined_gram : {d : ℕ} {xs ys : List Lexeme} {w v : List Record} (o : Lexeme) (op q : ℕ) → operator_of o.kind ≡ some op → q ≤ left_level op
    → Gram (suc d) (left_level op) xs w → Gram d (right_level op) ys v → Gram (suc d) q (xs ++ (o ∷ ys)) (w ++ (v ++ (IN (start_of xs) (end_of ys) op ∷ [])))
unfolding records_of
joined_gram {d} {xs} {ys} {w} {v} o op q h i g u = record {
  tree = joined (start_of xs) (end_of ys) op g.tree u.tree;
  listed = ap₂ (λ (x y : List Record). x ++ (y ++ (IN (start_of xs) (end_of ys) op ∷ []))) g.listed u.listed;
  derived = go (which o op h);
}
  where
    go : Which o op → (l : Level) → floor l ≤ suc q → Derives (suc d) l (xs ++ (o ∷ ys)) (joined (start_of xs) (end_of ys) op g.tree u.tree)
    go (looser m) sum j = added (g.derived _ (omega arith)) m (u.derived _ (omega (arith, (plus_minus m).0.rights)))
    go (looser m) product j = absurd (omega (arith, (plus_minus m).0.lefts))
    go (looser m) operand j = absurd (omega (arith, (plus_minus m).0.lefts))
    go (tighter m) sum j =
        one_product (multiplied (g.derived _ (omega (arith, (times_over m).lefts))) m (u.derived _ (omega (arith, (times_over m).rights))))
    go (tighter m) product j = multiplied (g.derived _ (omega (arith, (times_over m).lefts))) m (u.derived _ (omega (arith, (times_over m).rights)))
    go (tighter m) operand j = absurd (omega (arith, (times_over m).lefts))

ended_suffix : (x : Lexeme) (xs : List Lexeme) (z : Lexeme) (zs : List Lexeme) → Ended x (xs ++ (z ∷ zs)) → Ended z zs
ended_suffix x [] z zs h = h
ended_suffix x (y ∷ xs) z zs h = ended_suffix y xs z zs h

-- behind tokens that end in no lone `$`
follows_any : (xs : List Lexeme) (z : Lexeme) → lone_dollar false xs ≡ false → refused_as z.kind ≡ none → Next xs z
follows_any xs z h i = record { fine = i; no_dollar_lem = λ j. absurd (true≢false (sym j ∙ h)) }

module _ (d l : ℕ) (x : Lexeme) where
  atom_began : {a : Tree} {w : List Record} (y : Lexeme) (ys zs : List Lexeme) → ys ≡ y ∷ zs → refused_as y.kind ≡ none → w ≡ records_of a → Atom (x ∷ []) a
      → is_mark "$" x.kind ≡ false → Began d x ys w (on x.to y zs)
  unfolding end_of lone_dollar
  atom_began {a} y ys zs i f h m n = record { xs = []; split = i; lasts = refl; tree = a; listed = h; reads = atom m; follows = follows_any (x ∷ []) y n f }

  second_dollar : Mark "$" x → (ys : List Lexeme) (y : Lexeme) (zs : List Lexeme) → ys ≡ y ∷ zs → Ended y zs → refused_as y.kind ≡ none → (b : Bool) → is_mark "$" y.kind ≡ b
      → Post (λ w _ s. Began d x ys w s) (if◌then◌else◌ {A = Reader Line (Unit {0})} b (next >> write (VS x.from x.to)) (write (VI x.from x.to)) (on x.to y zs))
  unfolding write end_of records_of lone_dollar open_text is_mark
  second_dollar m ys y zs i j f true k =
      let n : Mark "$" y = as_mark "$" y k in
      next_then (write (VS x.from x.to)) x.to y zs (mark_inside "$" y.kind k) j (λ y' zs' i' j' f'. holds {w = VS x.from x.to ∷ []} (record {
        xs = y ∷ [];
        split = i ∙ ap (λ (r : List Lexeme). y ∷ r) i';
        lasts = refl;
        tree = dollars x.from x.to;
        listed = refl;
        reads = atom (two_dollars m n);
        follows = follows_any (x ∷ y ∷ []) y' (rw m.marked) f';
      }))
  second_dollar m ys y zs i j f false k = holds {w = VI x.from x.to ∷ []} (record {
    xs = [];
    split = i;
    lasts = refl;
    tree = dollar x.from x.to;
    listed = refl;
    reads = atom (a_dollar m);
    follows = record { fine = f; no_dollar_lem = λ _. k };
  })

  dollar_sound : (c : ℕ) (ys : List Lexeme) → x.kind ≡ mark c → Ended x ys → (b : Bool) → eqb c 36 ≡ b
      → Post (λ w _ s. Began d x ys w s) (if◌then◌else◌ {A = Reader Line (Unit {0})} b (next >> (kind >>= λ k. if is_mark "$" k then (next >> write (VS x.from x.to)) else (write (VI x.from x.to)))) (refuse_here 21) (on l x ys))
  unfolding is_line_end refuse_here kind ◌>>=◌ thence open_text
  dollar_sound c ys q e true h = next_then _ l x ys (rw q) e (λ y zs i j f.
      strip (second_dollar (record { marked = q ∙ ap mark (eqb-true c 36 h) }) ys y zs i j f (is_mark "$" y.kind) refl))
  dollar_sound c ys q e false h = fails

  atom_sound : (k : Kind) (ys : List Lexeme) → x.kind ≡ k → Ended x ys → Post (λ w _ s. Began d x ys w s) (atom_of k x (on l x ys))
  unfolding atom_of character refuse_here write is_line_end open_text is_mark records_of
  atom_sound (number v) ys q e = next_then (write (VC x.from x.to v)) l x ys (rw q) e (λ y zs i j f. holds (atom_began y ys zs i f refl (a_number q) (rw q)))
  atom_sound (quoted false s) ys q e = fails
  atom_sound (quoted true []) ys q e = fails
  atom_sound (quoted true (c ∷ [])) ys q e = next_then (write (VC x.from x.to c)) l x ys (rw q) e (λ y zs i j f. holds (atom_began y ys zs i f refl (a_character q) (rw q)))
  atom_sound (quoted true (c ∷ c' ∷ s)) ys q e = fails
  atom_sound (word s) ys q e = next_then (write (VL x.from x.to)) l x ys (rw q) e (λ y zs i j f. holds (atom_began y ys zs i f refl (a_name q) (rw q)))
  atom_sound (mark c) ys q e = dollar_sound c ys q e (eqb c 36) refl
  atom_sound newline ys q e = fails
  atom_sound blank ys q e = fails
  atom_sound comment ys q e = fails
  atom_sound invalid ys q e = fails
  atom_sound end ys q e = fails
  atom_sound (bad n) ys q e = fails

-- what a reader one level deeper has passed, behind a token
record Deeper (d p : ℕ) (ys : List Lexeme) (w : List Record) (s : Line) : Type 0 where
  y : Lexeme
  zs : List Lexeme
  behind : ys ≡ y ∷ zs
  ended : Ended y zs
  inner : Passed d p y zs w s

deeper : (d p l : ℕ) (x : Lexeme) (ys : List Lexeme) → ExprSound d → is_line_end x.kind ≡ false → Ended x ys → Post (λ w _ s. Deeper d p ys w s) ((next >> expr d p) (on l x ys))
unfolding ExprSound
deeper d p l x ys g h e = next_then (expr d p) l x ys h e (λ y zs i j f. post_map (λ w a s q. record { y = y; zs = zs; behind = i; ended = j; inner = q }) (g p x.to y zs j))

deeper_ended : (d p : ℕ) (ys : List Lexeme) (w : List Record) (s : Line) → Deeper d p ys w s → Ended s.here s.more
deeper_ended d p ys w s q = ended_suffix q.y q.inner.xs s.here s.more (rw q.inner.split at q.ended)

passed_fine : {d p : ℕ} {x : Lexeme} {ys : List Lexeme} {w : List Record} {s : Line} (q : Passed d p x ys w s) → Fine (x ∷ q.xs)
passed_fine q = first_fine (q.reads.derived sum (omega arith))

module _ (d l : ℕ) (x : Lexeme) (ys : List Lexeme) where
  close_sound : Mark "(" x → (w : List Record) (s : Line) → Deeper d 0 ys w s → (b : Bool) → is_mark ")" s.here.kind ≡ b
      → Post (λ v _ r. Began d x ys (w ++ v) r) (if◌then◌else◌ {A = Reader Line (Unit {0})} b next (refuse_here 14) s)
  unfolding refuse_here lone_dollar
  close_sound h w s q false k = fails
  close_sound h w s q true k =
      let m : Mark ")" s.here = as_mark ")" s.here k in
      let xs : List Lexeme = q.inner.xs in
      next_only s.last s.here s.more (mark_inside ")" s.here.kind k) (deeper_ended d 0 ys w s q) (λ z zs i j f. record {
        xs = q.y ∷ (xs ++ (s.here ∷ []));
        split = q.behind ∙ ap (λ (r : List Lexeme). q.y ∷ r) (q.inner.split ∙ ap (λ (r : List Lexeme). xs ++ (s.here ∷ r)) i ∙ sym (append_assoc xs (s.here ∷ []) (z ∷ zs)));
        lasts = sym (end_last (x ∷ q.y ∷ xs) s.here);
        tree = q.inner.reads.tree;
        listed = append-nil w ∙ q.inner.reads.listed;
        reads = parentheses h (q.inner.reads.derived sum (omega arith)) m;
        follows = follows_any _ z (lone_behind false (x ∷ q.y ∷ xs) s.here [] (close_dollar s.here m)) f;
      })

  parens_sound : Mark "(" x → ExprSound d → Ended x ys → Post (λ w _ s. Began d x ys w s) ((next >> expr d 0 >> expect ")" 14) (on l x ys))
  unfolding ◌>>◌ ◌>>=◌ expect kind thence is_line_end
  parens_sound h g e = thence_post (deeper d 0 l x ys g (rw h.marked) e) (λ w a s q. strip (close_sound h w s q (is_mark ")" s.here.kind) refl))

  prefix_sound : (op : ℕ) → operator_of x.kind ≡ some op → ExprSound d → Ended x ys → (b : Bool) → ltb op 2 ≡ b
      → Post (λ w _ s. Began d x ys w s)
      ((next >> ((if b then (expr d prefix_level) else (refuse (nowhere 22))) >> (passed >>= λ r. write (PF x.from r op)))) (on l x ys))
  unfolding ExprSound ◌>>◌ ◌>>=◌ thence passed write after refuse records_of
  prefix_sound op h g e false k = next_then _ l x ys (operator_inside x.kind op h) e (λ y zs i j f. fails)
  prefix_sound op h g e true k =
      let m : PlusMinus x op = sign x op h (ltb-true op 2 k) in
      next_then _ l x ys (operator_inside x.kind op h) e (λ y zs i j f. thence_post (g prefix_level x.to y zs j) (λ w a s q.
      let here : end_of (x ∷ y ∷ q.xs) ≡ end_of (y ∷ q.xs) = end_behind [] x (y ∷ q.xs) (passed_fine q) in
      holds {w = PF x.from s.last op ∷ []} (record {
        xs = y ∷ q.xs;
        split = i ∙ ap (λ (r : List Lexeme). y ∷ r) q.split;
        lasts = q.lasts ∙ sym here;
        tree = signed x.from (end_of (y ∷ q.xs)) op q.reads.tree;
        listed = ap₂ (λ (r : List Record) (t : ℕ). r ++ (PF x.from t op ∷ [])) q.reads.listed q.lasts;
        reads = prefix m (q.reads.derived operand (rw prefix_level_lem (omega arith)));
        follows = behind_next [] x (y ∷ q.xs) s.here (plus_minus m).0.no_dollar_lem q.follows;
      })))

  operator_sound : ExprSound d → Ended x ys → (o : Option ℕ) → operator_of x.kind ≡ o
      → Post (λ w _ s. Began d x ys w s) (maybe o atom_reader (λ op. (next >> ((if ltb op 2 then (expr d prefix_level) else (refuse (nowhere 22))) >> (passed >>= λ r. write (PF x.from r op))))) (on l x ys))
  unfolding atom_reader ahead ◌>>=◌ thence
  operator_sound g e none h = strip (atom_sound d l x x.kind ys refl e)
  operator_sound g e (some op) h = prefix_sound op h g e (ltb op 2) refl

  open_sound : ExprSound d → Ended x ys → (b : Bool) → is_mark "(" x.kind ≡ b
      → Post (λ w _ s. Began d x ys w s) (if◌then◌else◌ {A = Reader Line (Unit {0})} b (next >> expr d 0 >> expect ")" 14)
      (maybe (operator_of x.kind) atom_reader (λ op. (next >> ((if ltb op 2 then (expr d prefix_level) else (refuse (nowhere 22))) >> (passed >>= λ r. write (PF x.from r op)))))) (on l x ys))
  open_sound g e true h = parens_sound (as_mark "(" x h) g e
  open_sound g e false h = operator_sound g e (operator_of x.kind) refl

  primary_sound : ExprSound d → Ended x ys → Post (λ w _ s. Began d x ys w s) (primary (expr d) (on l x ys))
  unfolding primary ahead ◌>>=◌ thence
  primary_sound g e = strip (open_sound g e (is_mark "(" x.kind) refl)

-- The loop. So far x ∷ xs is read as w, and may be the left side of the operator ahead.
record Looped (d p : ℕ) (x : Lexeme) (xs : List Lexeme) (w : List Record) (r s : Line) : Type 0 where
  zs : List Lexeme
  split : left_of r ≡ zs ++ left_of s
  lasts : s.last ≡ end_of (x ∷ (xs ++ zs))
  reads : Gram (suc d) p (x ∷ (xs ++ zs)) w
  follows : Next (x ∷ (xs ++ zs)) s.here
  stop : (op : ℕ) → operator_of s.here.kind ≡ some op → left_level op < p

LoopSound : ℕ → ℕ → ℕ → Type 0
LoopSound n d p = (x : Lexeme) (xs : List Lexeme) (w : List Record) (r : Line) → length r.more ≤ n → Ended r.here r.more → r.last ≡ end_of (x ∷ xs) → Next (x ∷ xs) r.here
    → Gram (suc d) p (x ∷ xs) w → ((op : ℕ) → operator_of r.here.kind ≡ some op → Gram (suc d) (left_level op) (x ∷ xs) w)
    → Post (λ v _ s. Looped d p x xs (w ++ v) r s) (infixes n (expr d) p x.from r)

-- the loop ends here
looped_here : (d p : ℕ) (x : Lexeme) (xs : List Lexeme) (w : List Record) (r : Line) → r.last ≡ end_of (x ∷ xs) → Next (x ∷ xs) r.here → Gram (suc d) p (x ∷ xs) w
    → ((op : ℕ) → operator_of r.here.kind ≡ some op → left_level op < p) → Looped d p x xs (w ++ []) r r
looped_here d p x xs w r h f g i = record { zs = []; split = refl; lasts = rw (append-nil xs) h; reads = rw (append-nil xs, append-nil w) g; follows = rw (append-nil xs) f; stop = i }

last_one : (x : Lexeme) (ys : List Lexeme) → length ys ≤ 0 → Ended x ys → is_line_end x.kind ≡ true
last_one x [] h e = e
last_one x (y ∷ ys) h e = absurd (not-suc-le-zero h)

module _ (n d p : ℕ) (again : LoopSound n d p) (x : Lexeme) (xs : List Lexeme) (w : List Record) (r : Line)
    (i : length r.more ≤ suc n) (op : ℕ) (a : operator_of r.here.kind ≡ some op) (b : p ≤ left_level op) (o : Gram (suc d) (left_level op) (x ∷ xs) w) where
  both : (y : Lexeme) (v : List Record) (ys : List Lexeme) (m q : ℕ) → q ≤ left_level op → m ≡ end_of (y ∷ ys) → Gram d (right_level op) (y ∷ ys) v
      → Gram (suc d) q (x ∷ (xs ++ (r.here ∷ y ∷ ys))) (w ++ (v ++ (IN x.from m op ∷ [])))
  unfolding start_of
  both y v ys m q h k u = rw k (joined_gram r.here op q a h o u)

  widened : (y : Lexeme) (zs : List Lexeme) → r.more ≡ y ∷ zs → (v : List Record) (s : Line) (q : Passed d (right_level op) y zs v s) (v' : List Record) (t : Line)
      → Looped d p x (xs ++ (r.here ∷ y ∷ q.xs)) ((w ++ (v ++ (IN x.from s.last op ∷ []))) ++ v') s t → Looped d p x xs (w ++ (v ++ (IN x.from s.last op ∷ v'))) r t
  widened y zs h v s q v' t k =
      let A : List Lexeme = r.here ∷ y ∷ q.xs in
      record {
        zs = A ++ k.zs;
        split = ap (λ (l : List Lexeme). r.here ∷ l) (h ∙ ap (λ (l : List Lexeme). y ∷ l) (q.split ∙ ap (λ (l : List Lexeme). q.xs ++ l) k.split ∙ sym (append_assoc q.xs k.zs (left_of t))));
        lasts = rw (append_assoc xs A k.zs) at k.lasts;
        reads = rw (append_assoc xs A k.zs, append_assoc w (v ++ (IN x.from s.last op ∷ [])) v', append_assoc v (IN x.from s.last op ∷ []) v') at k.reads;
        follows = rw (append_assoc xs A k.zs) at k.follows;
        stop = k.stop;
      }

  round : (y : Lexeme) (zs : List Lexeme) → r.more ≡ y ∷ zs → Ended y zs → (v : List Record) (s : Line) → Passed d (right_level op) y zs v s
      → Post (λ v' _ t. Looped d p x xs (w ++ (v ++ v')) r t) ((passed >>= λ t. (write (IN x.from t op) >> infixes n (expr d) p x.from)) s)
  unfolding LoopSound passed write ◌>>=◌ ◌>>◌ thence
  round y zs h j v s q =
      let ys : List Lexeme = q.xs in
      let (F, f) = which_operator (which r.here op a) in
      let long : length r.more ≡ suc (length ys + suc (length s.more)) = ap length h ∙ ap suc (ap length q.split ∙ length-append ys (left_of s)) in
      strip (after_post (IN x.from s.last op ∷ []) (post_map (λ v' _ t k. widened y zs h v s q v' t k)
      (again x (xs ++ (r.here ∷ y ∷ ys)) (w ++ (v ++ (IN x.from s.last op ∷ []))) s (omega arith) (ended_suffix y ys s.here s.more (rw q.split at j))
      (q.lasts ∙ sym (end_behind (x ∷ xs) r.here (y ∷ ys) (passed_fine q)))
      (behind_next (x ∷ xs) r.here (y ∷ ys) s.here f.no_dollar_lem q.follows)
      (both y v ys s.last p b q.lasts q.reads)
      (λ op' u. both y v ys s.last (left_level op') (omega (arith, q.stop op' u, f.lefts, f.rights)) q.lasts q.reads))))

Turn : ℕ → ℕ → ℕ → ℕ → ℕ → Reader Line (Unit {0})
Turn n d p f op = next >> (expr d (right_level op) >> (passed >>= λ t. (write (IN f t op) >> infixes n (expr d) p f)))

module _ (n d p : ℕ) (g : ExprSound d) (again : LoopSound n d p) (x : Lexeme) (xs : List Lexeme) (w : List Record) (r : Line)
    (i : length r.more ≤ suc n) (e : Ended r.here r.more) (l : r.last ≡ end_of (x ∷ xs)) (f : Next (x ∷ xs) r.here) (m : Gram (suc d) p (x ∷ xs) w)
    (o : (op : ℕ) → operator_of r.here.kind ≡ some op → Gram (suc d) (left_level op) (x ∷ xs) w) where
  turned : (op : ℕ) → operator_of r.here.kind ≡ some op → (c : Bool) → ltb (left_level op) p ≡ c
      → Post (λ v _ t. Looped d p x xs (w ++ v) r t) (if◌then◌else◌ {A = Reader Line (Unit {0})} c (return tt) (Turn n d p x.from op) r)
  unfolding return Turn ExprSound ◌>>◌ ◌>>=◌
  turned op a true h = holds (looped_here d p x xs w r l f m (λ op' u. rw (some_inj (sym u ∙ a)) (ltb-true (left_level op) p h)))
  turned op a false h =
      next_then _ r.last r.here r.more (operator_inside r.here.kind op a) e (λ y zs j k _. thence_post (g (right_level op) r.here.to y zs k)
      (λ v _ s q. round n d p again x xs w r i op a (ltb-false (left_level op) p h) (o op a) y zs j k v s q))

  looked : (q : Option ℕ) → operator_of r.here.kind ≡ q
      → Post (λ v _ s. Looped d p x xs (w ++ v) r s) (maybe q (return tt) (λ op. if ltb (left_level op) p then (return tt) else (Turn n d p x.from op)) r)
  unfolding return
  looked none u = holds (looped_here d p x xs w r l f m (λ op u'. absurd (no_operator_lem op (sym u ∙ u'))))
  looked (some op) u = turned op u (ltb (left_level op) p) refl

loop_sound : (n d p : ℕ) → ExprSound d → LoopSound n d p
unfolding LoopSound infixes return kind ◌>>=◌ thence Turn
loop_sound zero d p g x xs w r i e h f m o =
    holds (looped_here d p x xs w r h f m (λ op u. absurd (true≢false (sym (last_one r.here r.more i e) ∙ operator_inside r.here.kind op u))))
loop_sound (suc n) d p g x xs w r i e h f m o = strip (looked n d p g (loop_sound n d p g) x xs w r i e h f m o (operator_of r.here.kind) refl)

-- what the reader passes is an expression of its level, listed as the reader wrote it, and no operator of its level is behind
expr_sound : (d : ℕ) → ExprSound d
unfolding ExprSound expr refuse_here ahead left ◌>>=◌ ◌>>◌ thence LoopSound
expr_sound zero p l x ys e = fails
expr_sound (suc d) p l x ys e = strip (thence_post (primary_sound d l x ys (expr_sound d) e)
    (λ w _ s q. strip (post_map (λ v _ t k. record {
      xs = q.xs ++ k.zs;
      split = q.split ∙ ap (λ (l : List Lexeme). q.xs ++ l) k.split ∙ sym (append_assoc q.xs k.zs (left_of t));
      lasts = k.lasts;
      reads = k.reads;
      follows = k.follows;
      stop = k.stop;
    }) (loop_sound (length s.more) d p (expr_sound d) x q.xs w s (le_refl (length s.more)) (ended_suffix x q.xs s.here s.more (rw q.split at e)) q.lasts q.follows (began_gram q p) (λ op u. began_gram q (left_level op))))))

-- ONE TREE. A listing is its tree in reverse Polish: with a stack of trees it gives the tree back.
one_on : (f t op : ℕ) → List Tree → List Tree
one_on f t op [] = []
one_on f t op (a ∷ l) = signed f t op a ∷ l

two_on : (f t op : ℕ) → List Tree → List Tree
two_on f t op [] = []
two_on f t op (b ∷ []) = []
two_on f t op (b ∷ a ∷ l) = joined f t op a b ∷ l

onto : Record → List Tree → List Tree
unfolding same bytes one_on two_on
onto r l =
    let m : List ℕ = mark_of r in
    let f : ℕ = get_or (fields_of r) 0 0 in
    let t : ℕ = get_or (fields_of r) 1 0 in
    let v : ℕ = get_or (fields_of r) 2 0 in
    if same m (bytes "VC") then (constant f t v ∷ l)
    else if same m (bytes "VL") then (name f t ∷ l)
    else if same m (bytes "VI") then (dollar f t ∷ l)
    else if same m (bytes "VS") then (dollars f t ∷ l)
    else if same m (bytes "PF") then (one_on f t v l)
    else if same m (bytes "IN") then (two_on f t v l)
    else l

stack : List Record → List Tree → List Tree
stack [] l = l
stack (r ∷ w) l = stack w (onto r l)

stack_append : (w v : List Record) (l : List Tree) → stack (w ++ v) l ≡ stack v (stack w l)
unfolding stack
stack_append [] v l = refl
stack_append (r ∷ w) v l = stack_append w v (onto r l)

stack_tree : (a : Tree) (l : List Tree) → stack (records_of a) l ≡ a ∷ l
unfolding records_of stack onto
stack_tree (constant f t v) l = refl
stack_tree (name f t) l = refl
stack_tree (dollar f t) l = refl
stack_tree (dollars f t) l = refl
stack_tree (signed f t op a) l = rw (stack_append (records_of a) (PF f t op ∷ []) l, stack_tree a l)
stack_tree (joined f t op a b) l = rw (
  stack_append (records_of a) (records_of b ++ (IN f t op ∷ [])) l,
  stack_append (records_of b) (IN f t op ∷ []) (stack (records_of a) l),
  stack_tree a l,
  stack_tree b (a ∷ l),
)

same_tree : (a b : Tree) → records_of a ≡ records_of b → a ≡ b
same_tree a b h =
    let i : a ∷ [] ≡ b ∷ [] = sym (stack_tree a []) ∙ ap (λ (w : List Record). stack w []) h ∙ stack_tree b [] in
    cc

-- a derivation goes through at any greater depth, and as a sum
nested : {d : ℕ} {l : Level} {xs : List Lexeme} {a : Tree} → Derives d l xs a → Derives (suc d) l xs a
nested (atom h) = atom h
nested (parentheses m g n) = parentheses m (nested g) n
nested (prefix o g) = prefix o (nested g)
nested (multiplied g o g') = multiplied (nested g) o (nested g')
nested (added g o g') = added (nested g) o (nested g')
nested (one_operand g) = one_operand (nested g)
nested (one_product g) = one_product (nested g)

as_sum : {d : ℕ} {xs : List Lexeme} {a : Tree} (k : ℕ) (l : Level) → Derives d l xs a → Derives (d + k) sum xs a
as_sum {d} zero sum g = rw (add-zero d) g
as_sum {d} zero product g = rw (add-zero d) (one_product g)
as_sum {d} zero operand g = rw (add-zero d) (one_product (one_operand g))
as_sum {d} (suc k) l g = rw (add-suc d k) (nested (as_sum k l g))

line_ends : (p : ℕ) (xs : List Lexeme) → Ends xs (end_at p).here
unfolding refused_as operator_of is_mark
line_ends p xs = record { arrives = refl; no_operator = refl; no_dollar = λ _. refl }

-- the reader gives one listing
unique : (d e : ℕ) (l m : Level) (xs : List Lexeme) (a b : Tree) → Derives d l xs a → Derives e m xs b → a ≡ b
unique d e l m xs a b g h =
    let g' : Derives (d + e) sum xs a = as_sum e l g in
    let h' : Derives (d + e) sum xs b = rw (add_comm d e) (as_sum d m h) in
    let i = reader_complete g' 0 (end_at 0).here [] (line_ends 0 xs) in
    let j = reader_complete h' 0 (end_at 0).here [] (line_ends 0 xs) in
    same_tree a b (cc (i, j))

-- ON LINES OF A SOURCE: their last token ends the line.
all_at : (above : List Row) (row : Row) (below : List Row) → AllEnded (above ++ (row ∷ below)) → Ended row.first row.more
all_at [] row below h = h.0
all_at (r ∷ above) row below h = all_at above row below h.1

left_ended : (passed : List Lexeme) (x : Lexeme) (xs : List Lexeme) (z : Lexeme) (zs : List Lexeme) → x ∷ xs ≡ passed ++ (z ∷ zs) → Ended x xs → Ended z zs
left_ended [] x xs z zs h e =
    let i : x ≡ z = cc in
    let j : xs ≡ zs = cc in
    subst₂ Ended i j e
left_ended (y ∷ passed) x xs z zs h e =
    let j : xs ≡ passed ++ (z ∷ zs) = cc in
    ended_suffix x passed z zs (rw j at e)

pub line_ended : {p : ℕ} {s : List ℕ} {line : Line} → LineOf p s line → Ended line.here line.more
line_ended {p} {s} {line} o = left_ended o.passed o.row.first o.row.more line.here line.more o.split
    (all_at o.above o.row o.below (rw o.among at (rows_all (tokens_from p 0 s) (tokens_finished token_at p 0 s))))

none_at : (k : Kind) → ((op : ℕ) → operator_of k ≡ some op → left_level op < 0) → operator_of k ≡ none
none_at k h = go (operator_of k) h
  where
    go : (o : Option ℕ) → ((op : ℕ) → o ≡ some op → left_level op < 0) → o ≡ none
    go none h = refl
    go (some op) h = absurd (not-suc-le-zero (h op refl))

passes : (line line' : Line) (a : Tree) → Begins line a line' → expression line ≡ done (records_of a) tt line'
unfolding expression
passes line line' a b =
    ap (λ (xs : List Lexeme). expr 32 0 (line_at line.last xs)) b.split
    ∙ reader_complete b.derived line.last line'.here line'.more b.ends
    ∙ ap (λ (t : ℕ). done (records_of a) tt (on t line'.here line'.more)) (sym b.last)

derives : (p : ℕ) (s : List ℕ) (line line' : Line) (w : List Record) → LineOf p s line → expression line ≡ done w tt line' → (a : Tree) × (w ≡ records_of a) × Begins line a line'
unfolding expression ExprSound
derives p s line line' w o h =
    let q : Passed 32 0 line.here line.more w line' = post_done (rw h at (expr_sound 32 0 line.last line.here line.more (line_ended o))) in (
      q.reads.tree,
      q.reads.listed,
      record {
        taken = line.here ∷ q.xs;
        split = ap (λ (l : List Lexeme). line.here ∷ l) q.split;
        derived = q.reads.derived sum (omega arith);
        last = q.lasts;
        ends = record { arrives = q.follows.fine; no_operator = none_at line'.here.kind q.stop; no_dollar = q.follows.no_dollar_lem };
      },
    )

-- THE CLAIM
pub one_reading : OneReading
one_reading = record { passes = passes; derives = derives; unique = λ d e l m xs a b g h. let i : a ≡ b = unique d e l m xs a b g h in (i, ap records_of i) }

-- SAMPLES, on the tokens of a source: `8/4/2` groups to the left, `(1)+2` begins at its parenthesis, and of `5 $` the 5 is passed.
abbrev from0 : String → Line
from0 s = line_at 0 (tokens (bytes s))

abbrev byte_at : ℕ → Kind → Lexeme
byte_at p k = record { from = p; to = suc p; kind = k }

digit : {d : ℕ} (p v : ℕ) → Derives (suc d) operand (byte_at p (number v) ∷ []) (constant p (suc p) v)
digit p v = atom (a_number refl)

pub left_grouped : Begins (from0 "8/4/2") (joined 0 5 3 (joined 0 3 3 (constant 0 1 8) (constant 2 3 4)) (constant 4 5 2)) (end_at 5)
unfolding open_lexemes start_of end_of
left_grouped = record {
  taken = byte_at 0 (number 8) ∷ byte_at 1 (mark 47) ∷ byte_at 2 (number 4) ∷ byte_at 3 (mark 47) ∷ byte_at 4 (number 2) ∷ [];
  split = refl;
  derived = one_product (multiplied {x = byte_at 3 (mark 47)} (multiplied {x = byte_at 1 (mark 47)} (one_operand (digit 0 8)) (over (record { marked = refl })) (as_level _ (digit 2 4)))
      (over (record { marked = refl })) (as_level _ (digit 4 2)));
  last = refl;
  ends = line_ends 5 _;
}

pub from_parenthesis : Begins (from0 "(1)+2") (joined 0 5 0 (constant 1 2 1) (constant 4 5 2)) (end_at 5)
unfolding open_lexemes start_of end_of
from_parenthesis = record {
  taken = byte_at 0 (mark 40) ∷ byte_at 1 (number 1) ∷ byte_at 2 (mark 41) ∷ byte_at 3 (mark 43) ∷ byte_at 4 (number 2) ∷ [];
  split = refl;
  derived = added {x = byte_at 3 (mark 43)}
      (one_product (one_operand (parentheses {x = byte_at 0 (mark 40)} {y = byte_at 2 (mark 41)} (record { marked = refl }) (one_product (one_operand (digit 1 1))) (record { marked = refl }))))
      (plus (record { marked = refl })) (one_operand (digit 4 2));
  last = refl;
  ends = line_ends 5 _;
}

pub before_dollar : Begins (from0 "5 $") (constant 0 1 5) (on 1 (byte_at 2 (mark 36)) ((end_at 3).here ∷ []))
unfolding open_lexemes open_text refused_as operator_of is_mark lone_dollar end_of
before_dollar = record {
  taken = byte_at 0 (number 5) ∷ [];
  split = refl;
  derived = one_product (one_operand (digit 0 5));
  last = refl;
  ends = record { arrives = refl; no_operator = refl; no_dollar = λ h. absurd (false≢true h) };
}
