-- Expressions: what there is to read where the code stands, by the byte of the token ahead.
-- Assumes nothing.
use Rattle.std.specs.Prelude.{if◌then◌else◌}
use Prim.Native.Nat.{ℕ, zero, suc, ◌+◌, ◌-◌, ◌≤◌, ◌<◌}
use Prim.Native.Char.{Char, code}
use mathlib.Core.Path.{◌≡◌, refl, sym, ap, subst, ◌∙◌}
use mathlib.Core.List.{List, [], ◌∷◌}
use mathlib.Core.Bool.{true, false}
use mathlib.Core.Option.{Option, none, some}
use native.Mathlib.Omega.{arith}
use native.Mathlib.Nat.{not-suc-le-zero}
use borrow.Author.Tests.{ne_eqb, le-ltb}
use lib.Dec.{eqb, ltb}
use lib.ListN.{length, get_or, take, drop}
use Rattle.lexer.specs.Text.{maybe, is}
use Rattle.rules.specs.Lexemes.{Kind, word, number, quoted, mark, Lexeme}
use Rattle.rules.specs.Records.{VL, VS, VI, PF, IN}
use Rattle.rules.specs.Reader.{Reader, Line, nowhere, ◌>>=◌, ◌>>◌, return, write, refuse, next, ahead, kind, passed, left, refuse_here, is_mark, expect}
use Rattle.rules.specs.Expressions.{operator_of, left_level, right_level, prefix_level, character, atom_of, atom, primary, infixes, expr}
use Rattle.std.specs.Prelude.{Some, None, Result, Ok, Err}
use Rattle.lexer.specs.Scanned.{number_of as kind_number}
use Rattle.lexer.specs.declared.Kind.{Kind as TokenKind}
use Rattle.lexer.specs.declared.Kind.TheVariants as token
use Rattle.records.specs.declared.Writer.{Writer}
use Rattle.state.specs.declared.Parser.{Parser}
use Rattle.refusals.specs.declared.Refusal.{Refusal}
use Rattle.operators.specs.declared.Operator.{Operator}
use Rattle.operators.specs.declared.Operator.TheVariants.{Add, Subtract, Multiply, Divide}
use Rattle.state.specs.Views.{Plain, ends_line, kind_by, text_of, here_of, line_of, line, Level, On, Passes, PassesAs, Reads, ReadsAs}
use Rattle.operators.specs.Operators.{operator_number, prefix_level_of}
use Rattle.state.proofs.Chain.{Sofar, starts, becomes, comes, still, is_ahead, is_kind}
use Rattle.records.proofs.Writers.{same_still}
use Rattle.state.proofs.Steps.{has_more}
use Rattle.state.proofs.Flat.{by_kind, mark_is, plain}
use Rattle.state.proofs.ByNumber.{number_tells}

-- kinds by their bytes
module _ {k : ℕ} (v : ℕ) (w : List ℕ) where
  pub word_is : k ≡ 97 → kind_by k v w ≡ word w
  unfolding kind_by
  word_is e = rw e

  pub number_is : k ≡ 48 → kind_by k v w ≡ number v
  unfolding kind_by
  number_is e = rw e

  pub closed_is : k ≡ 39 → kind_by k v w ≡ quoted true (take (length w - 2) (drop 1 w))
  unfolding kind_by
  closed_is e = rw e

  pub open_is : k ≡ 34 → kind_by k v w ≡ quoted false (drop 1 w)
  unfolding kind_by
  open_is e = rw e

  pub dollar_is : k ≡ 36 → kind_by k v w ≡ mark 36
  unfolding kind_by
  dollar_is e = rw e

-- no operator is the mark of another token
pub operator_is : (k v : ℕ) (w : List ℕ) → operator_of (kind_by k v w) ≡ operator_of (mark k)
unfolding operator_of is_mark is
operator_is k v w = by_kind (λ n x. operator_of x ≡ operator_of (mark n)) k v w refl refl refl refl refl refl refl refl refl (λ _ _ _ _. refl)

-- a byte that is no operator
pub none_of : (k : ℕ) → (k ≡ 43 → ⊥) → (k ≡ 45 → ⊥) → (k ≡ 42 → ⊥) → (k ≡ 47 → ⊥) → operator_of (mark k) ≡ none
unfolding operator_of is_mark is
none_of k a b c d = rw (ne_eqb k 43 a, ne_eqb k 45 b, ne_eqb k 42 c, ne_eqb k 47 d)

-- the byte of an operator is no other byte
pub operator_other : (k n : ℕ) {op : ℕ} → operator_of (mark n) ≡ none → operator_of (mark k) ≡ some op → eqb k n ≡ false
operator_other k n {op} f e = ne_eqb k n λ h. let z : ◌≡◌ {A = Option ℕ} none (some op) = sym f ∙ ap (λ (m : ℕ). operator_of (mark m)) (sym h) ∙ e in absurd (none_some z)
  where
    none_some : {a : ℕ} → ◌≡◌ {A = Option ℕ} none (some a) → ⊥
    none_some z = let y : ◌≡◌ {A = ℕ} 0 1 = cc in omega arith

-- so it stands within a line
pub operator_inside : (k : ℕ) {op : ℕ} → operator_of (mark k) ≡ some op → (eqb k 10 ≡ false) × (eqb k 0 ≡ false)
unfolding operator_of is_mark is
operator_inside k e = (operator_other k 10 refl e, operator_other k 0 refl e)

pub operator_in_line : (k : TokenKind) {op : ℕ} → operator_of (mark (kind_number k)) ≡ some op → ends_line k ≡ false
operator_in_line k e = let i = operator_inside (kind_number k) e in rw (i.0, i.1)

-- Levels.
pub right_level_lem : (op : Operator) → left_level (operator_number op) + 1 ≡ right_level (operator_number op)
unfolding left_level right_level
right_level_lem Add = refl
right_level_lem Subtract = refl
right_level_lem Multiply = refl
right_level_lem Divide = refl

pub level_small : (op : Operator) → left_level (operator_number op) < 255
unfolding left_level
level_small Add = omega arith
level_small Subtract = omega arith
level_small Multiply = omega arith
level_small Divide = omega arith

sign_level : (op : Operator) (n : ℕ) → prefix_level_of op ≡ Some n → (ltb (operator_number op) 2 ≡ true) × (prefix_level ≡ n)
sign_level Add n e = (refl, cc)
sign_level Subtract n e = (refl, cc)
sign_level Multiply n e = (cc, cc)
sign_level Divide n e = (cc, cc)

no_sign : (op : Operator) → prefix_level_of op ≡ None → ltb (operator_number op) 2 ≡ false
no_sign Add e = cc
no_sign Subtract e = cc
no_sign Multiply e = refl
no_sign Divide e = refl

-- what writes nothing
pub reads_passed : {L : Level} {s : List ℕ} {p : Parser} {m : Reader (On L) (Unit {0})} {o : Writer} {r : Result Parser Refusal} → Passes L s p m r → Reads L s p m o o r
reads_passed {L} {s} {p} {m} {o} {r} h = record { so = go r h.so; lent = same_still o }
  where
    go : (r : Result Parser Refusal) → PassesAs L s p m r → ReadsAs L s p m o o r
    go (Ok q) k = still o k
    go (Err x) k = k

-- the token ahead is a mark, or it is not
module _ {s : List ℕ} {p q : Parser} {m : Reader Line (Unit {0})} {o w : Writer} (a : Char) (h : Plain a) (m₁ m₂ : Reader Line (Unit {0}))
    (so : Sofar line s p m o q (kind >>= λ k. if is_mark a k then m₁ else m₂) w) where
  by_mark : Sofar line s p m o q (if eqb (kind_number q.kind) (code a) then m₁ else m₂) w
  by_mark = rw (mark_is (kind_number q.kind) q.value (text_of s q.token_start q.pos) a h) at (comes kind (λ k. if is_mark a k then m₁ else m₂) so is_kind)

  pub mark_here : eqb (kind_number q.kind) (code a) ≡ true → Sofar line s p m o q m₁ w
  mark_here e = becomes by_mark (rw e)

  pub mark_other : eqb (kind_number q.kind) (code a) ≡ false → Sofar line s p m o q m₂ w
  mark_other e = becomes by_mark (rw e)

-- The text of a closed string of one character, and of any other.
one_character : (w : List ℕ) → length w ≡ 3 → take (length w - 2) (drop 1 w) ≡ get_or w 1 0 ∷ []
one_character [] e = absurd (omega arith)
one_character (a ∷ []) e = absurd (omega arith)
one_character (a ∷ b ∷ []) e = absurd (omega arith)
one_character (a ∷ b ∷ c ∷ []) e = refl
one_character (a ∷ b ∷ c ∷ d ∷ w) e = absurd (omega arith)

no_character : (w : List ℕ) (x : Lexeme) (y : Line) → (length w ≡ 3 → ⊥) → character true (take (length w - 2) (drop 1 w)) x y ≡ refuse_here 17 y
unfolding character
no_character [] x y h = refl
no_character (a ∷ []) x y h = refl
no_character (a ∷ b ∷ []) x y h = refl
no_character (a ∷ b ∷ c ∷ []) x y h = absurd (h refl)
no_character (a ∷ b ∷ c ∷ d ∷ w) x y h = let e : suc (suc (suc (suc (length w)))) - 2 ≡ suc (suc (length w)) = omega arith in rw e

-- a token that begins no atom
no_atom : (k v : ℕ) (w : List ℕ) (x : Lexeme) (y : Line) → (k ≡ 48 → ⊥) → (k ≡ 97 → ⊥) → (k ≡ 36 → ⊥) → (k ≡ 39 → ⊥) → (k ≡ 34 → ⊥) → atom_of (kind_by k v w) x y ≡ refuse_here 21 y
unfolding atom_of is
no_atom k v w x y = by_kind (λ n z. (n ≡ 48 → ⊥) → (n ≡ 97 → ⊥) → (n ≡ 36 → ⊥) → (n ≡ 39 → ⊥) → (n ≡ 34 → ⊥) → atom_of z x y ≡ refuse_here 21 y) k v w
    (λ _ b _ _ _. absurd (b refl)) (λ a _ _ _ _. absurd (a refl)) (λ _ _ _ d _. absurd (d refl)) (λ _ _ _ _ e. absurd (e refl))
    (λ _ _ _ _ _. refl) (λ _ _ _ _ _. refl) (λ _ _ _ _ _. refl) (λ _ _ _ _ _. refl) (λ _ _ _ _ _. refl) (λ _ _ _ _ _ _ c _ _. rw (ne_eqb k 36 c))

module _ (s : List ℕ) (p : Parser) (o : Writer) where
  abbrev here : Lexeme
  here = here_of s p

  abbrev text : List ℕ
  text = text_of s p.token_start p.pos

  -- an atom, by the kind of its token
  pub atom_by : {k : Kind} → here.kind ≡ k → Sofar line s p atom o p (atom_of k here) o
  unfolding atom
  atom_by e = subst (λ (k : Kind). Sofar line s p atom o p (atom_of k here) o) e (comes ahead (λ x. atom_of x.kind x) (starts line s p atom o) is_ahead)

  pub atom_character : p.kind ≡ token.ClosedString → length text ≡ 3 → Sofar line s p atom o p (atom_of (number (get_or text 1 0)) here) o
  unfolding atom_of character
  atom_character e h = atom_by (closed_is p.value _ (ap kind_number e) ∙ ap (quoted true) (one_character text h))

  pub atom_text : p.kind ≡ token.ClosedString → (length text ≡ 3 → ⊥) → Sofar line s p atom o p (refuse_here 17) o
  unfolding atom_of
  atom_text e h = becomes (atom_by (closed_is p.value text (ap kind_number e))) (no_character text here (line_of s p) h)

  pub atom_open : p.kind ≡ token.UnclosedString → Sofar line s p atom o p (refuse_here 16) o
  unfolding atom_of character
  atom_open e = atom_by (open_is p.value text (ap kind_number e))

  pub atom_none : (p.kind ≡ token.Number → ⊥) → (p.kind ≡ token.Identifier → ⊥) → (p.kind ≡ token.Dollar → ⊥) → (p.kind ≡ token.ClosedString → ⊥) → (p.kind ≡ token.UnclosedString → ⊥) → Sofar line s p atom o p (refuse_here 21) o
  atom_none a b c d e = becomes (atom_by refl) (no_atom (kind_number p.kind) p.value text here (line_of s p) (λ h. a (number_tells {b = token.Number} h)) (λ h. b (number_tells {b = token.Identifier} h))
      (λ h. c (number_tells {b = token.Dollar} h)) (λ h. d (number_tells {b = token.ClosedString} h)) (λ h. e (number_tells {b = token.UnclosedString} h)))

  pub atom_name : p.kind ≡ token.Identifier → Sofar line s p atom o p (next >> write (VL p.token_start p.pos)) o
  unfolding atom_of
  atom_name e = atom_by (word_is p.value text (ap kind_number e))

  pub atom_dollar : p.kind ≡ token.Dollar → Sofar line s p atom o p (next >> (kind >>= λ k. if is_mark "$" k then (next >> write (VS p.token_start p.pos)) else (write (VI p.token_start p.pos)))) o
  unfolding atom_of is
  atom_dollar e = atom_by (dollar_is p.value text (ap kind_number e))

  -- what an expression begins with
  module _ (inner : ℕ → Reader Line (Unit {0})) where
    abbrev opened : Reader Line (Unit {0})
    opened = next >> inner 0 >> expect ")" 14

    abbrev signed : Reader Line (Unit {0}) → ℕ → Reader Line (Unit {0})
    signed operand op = next >> (operand >> (passed >>= λ t. write (PF p.token_start t op)))

    abbrev operand : ℕ → Reader Line (Unit {0})
    operand op = if ltb op 2 then (inner prefix_level) else (refuse (nowhere 22))

    by_byte : Sofar line s p (primary inner) o p (if eqb (kind_number p.kind) 40 then opened else maybe (operator_of (mark (kind_number p.kind))) atom λ op. signed (operand op) op) o
    unfolding primary
    by_byte = rw (mark_is (kind_number p.kind) p.value text "(" (plain "(" refl), operator_is (kind_number p.kind) p.value text) at (comes ahead _ (starts line s p (primary inner) o) is_ahead)

    pub primary_opens : p.kind ≡ token.OpenParenthesis → Sofar line s p (primary inner) o p opened o
    primary_opens e = becomes by_byte (rw (ap kind_number e))

    module _ (op : Operator) (e : operator_of (mark (kind_number p.kind)) ≡ some (operator_number op)) where
      pub primary_signed : Sofar line s p (primary inner) o p (signed (operand (operator_number op)) (operator_number op)) o
      unfolding operator_of is_mark is
      primary_signed = becomes by_byte (rw (operator_other (kind_number p.kind) 40 refl e, e))

      pub primary_operand : {n : ℕ} → prefix_level_of op ≡ Some n → Sofar line s p (primary inner) o p (signed (inner n) (operator_number op)) o
      primary_operand f = let (a, b) = sign_level op _ f in becomes primary_signed (rw (a, b))

      pub primary_no_operand : prefix_level_of op ≡ None → Sofar line s p (primary inner) o p (signed (refuse (nowhere 22)) (operator_number op)) o
      primary_no_operand f = becomes primary_signed (rw (no_sign op f))

    pub primary_atom : eqb (kind_number p.kind) 40 ≡ false → operator_of (mark (kind_number p.kind)) ≡ none → Sofar line s p (primary inner) o p atom o
    primary_atom f e = becomes by_byte (rw (f, e))

  -- an expression where no more may begin, and where one may
  pub expr_over : (level : ℕ) {depth : ℕ} → depth ≡ 0 → Sofar line s p (expr depth level) o p (refuse_here 3) o
  unfolding expr
  expr_over level e = rw e (starts line s p (expr 0 level) o)

  pub expr_begins : (level : ℕ) {depth d : ℕ} → depth ≡ suc d → Sofar line s p (expr depth level) o p (primary (expr d) >> (left >>= λ n. infixes n (expr d) level p.token_start)) o
  unfolding expr
  expr_begins level {depth} {d} e = rw e (comes ahead _ (starts line s p (expr (suc d) level) o) is_ahead)

-- the fuel of one turn more
pub positive : (n : ℕ) → 1 ≤ n → (m : ℕ) × (n ≡ suc m)
positive zero h = absurd (not-suc-le-zero h)
positive (suc m) h = (m, refl)

-- the operators behind it
module _ (s : List ℕ) (q : Parser) (inner : ℕ → Reader Line (Unit {0})) (level f : ℕ) where
  -- one of them, with its right operand at a level, and n at most behind it
  abbrev pub turn : ℕ → ℕ → ℕ → Reader Line (Unit {0})
  turn n op right = next >> (inner right >> (passed >>= λ t. write (IN f t op) >> infixes n inner level f))

  module _ {p : Parser} {m : Reader Line (Unit {0})} {o w : Writer} where
    by_operator : (n : ℕ) → Sofar line s p m o q (infixes (suc n) inner level f) w →
        Sofar line s p m o q (maybe (operator_of (mark (kind_number q.kind))) (return tt) λ op. if ltb (left_level op) level then (return tt) else (turn n op (right_level op))) w
    unfolding infixes
    by_operator n so = rw (operator_is (kind_number q.kind) q.value (text_of s q.token_start q.pos)) at (comes kind _ so is_kind)

    pub none_left : (n : ℕ) → operator_of (mark (kind_number q.kind)) ≡ none → Sofar line s p m o q (infixes n inner level f) w → Sofar line s p m o q (return tt) w
    unfolding infixes
    none_left zero e so = so
    none_left (suc n) e so = becomes (by_operator n so) (rw e)

    module _ {op : ℕ} (e : operator_of (mark (kind_number q.kind)) ≡ some op) where
      pub too_loose : (n : ℕ) → ltb (left_level op) level ≡ true → Sofar line s p m o q (infixes n inner level f) w → Sofar line s p m o q (return tt) w
      unfolding infixes
      too_loose zero t so = so
      too_loose (suc n) t so = becomes (by_operator n so) (rw (e, t))

      turns : {n k right : ℕ} → n ≡ suc k → ltb (left_level op) level ≡ false → right_level op ≡ right → Sofar line s p m o q (infixes n inner level f) w → Sofar line s p m o q (turn k op right) w
      turns {n} {k} {right} a t b so = becomes (by_operator k (rw a at so)) (rw (e, t, b))

    -- one that binds tightly enough is read
    pub takes : (op : Operator) → operator_of (mark (kind_number q.kind)) ≡ some (operator_number op) → {n binds : ℕ} → length (line_of s q).more ≤ n → binds ≡ left_level (operator_number op) → level ≤ binds
        → Sofar line s p m o q (infixes n inner level f) w → (k : ℕ) × (n ≡ suc k) × Sofar line s p m o q (turn k (operator_number op) (binds + 1)) w
    takes op e {n} {binds} h b l so =
        let i = operator_inside (kind_number q.kind) e in
        let (k, x) = positive n (omega (arith, has_more s q i.0 i.1, h)) in
        (k, x, turns e x (rw (← b) (le-ltb _ _ l)) (sym (ap (λ (n : ℕ). n + 1) b ∙ right_level_lem op)) so)
