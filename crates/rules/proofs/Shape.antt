-- The listing that is read is well-formed: its records, one by one, take the stack of the listing's check on, and the tokens' places rise, so
-- that every span is in range.
use Rattle.std.specs.Prelude.{if◌then◌else◌}
use mathlib.Core.Path.{◌≡◌, refl, sym, ap, ◌∙◌}
use mathlib.Core.Bool.{Bool, true, false, ◌||◌, true≢false}
use mathlib.Core.List.{List, [], ◌∷◌, ◌++◌}
use mathlib.Core.Option.{Option, none, some}
use Prim.Native.Nat.{ℕ, zero, suc, ◌+◌, ◌*◌, ◌-◌, ◌≤◌, ◌<◌, zero-le}
use Prim.Native.Char.{Char}
use Prim.Native.String.{String}
use native.Mathlib.Omega.{arith}
use native.Mathlib.Nat.{le_refl, le_trans}
use lib.Dec.{eqb, ltb}
use lib.ListN.{length, get_or, take, drop, length-append, length-take, take-append-drop}
use borrow.Author.Tests.{le-leb, lt-ltb, eq-eqb}
use Rattle.lexer.specs.Text.{maybe, is, bytes, same}
use Rattle.rules.specs.Lexemes.{Kind, word, number, quoted, mark, newline, blank, comment, invalid, end, bad, Lexeme, name_in, operation_in}
use Rattle.names.specs.Names.{registers, segments, sizes, directives, named, operation_named, place_from}
use Rattle.rules.specs.Records.{Field, start, span, value, below, form_of, Record, plain, laden, VC, VL, OD, OX, field}
use Rattle.rules.specs.Reader.{at, Reader, Line, ◌>>=◌, ◌>>◌, return, write, refuse, step, next, ahead, kind, passed, is_mark, is_line_end, expect}
use Rattle.rules.specs.Expressions.{operator_of, left_level, right_level, prefix_level, character, atom_of, atom, primary, infixes, expr, expression}
use Rattle.rules.specs.Operands.{immediate_or_far, alone, is_index, is_base, paired, plus_index, second, registers_ahead, displacement, close, override, is_word, is_number, memory, operand_sized, operand, Operands, operands}
use Rattle.rules.specs.Statements.{label, literal_of, literals}
use Rattle.rules.specs.WellFormed.{Stack, stack, allow, to_expression, to_operand, to_line, spans, given, checked}
use Rattle.rules.specs.Patch.{statement_from}
use Rattle.rules.proofs.Table.{Proper}
use Rattle.rules.proofs.TokenKinds.{asked}
use Rattle.rules.proofs.Hoare.{nil, Post, holds, Triple, bind, and_then, whether, perhaps, returns, refuses, writes, before, behind, known, derive, arrive_post, attempts, ask_ahead, ask_kind, ask_passed, ask_left, here_fails}

-- A value fits the 31 bits of one that is not negative.
abbrev pub Values : List Field → List ℕ → Type 0
Values [] vs = Unit {0}
Values (start ∷ hs) [] = Unit {0}
Values (start ∷ hs) (p ∷ vs) = Values hs vs
Values (span ∷ hs) [] = Unit {0}
Values (span ∷ hs) (f ∷ []) = Unit {0}
Values (span ∷ hs) (f ∷ t ∷ vs) = Values hs vs
Values (value ∷ hs) [] = Unit {0}
Values (value ∷ hs) (v ∷ vs) = (v ≤ 2147483647) × Values hs vs
Values (below b ∷ hs) [] = Unit {0}
Values (below b ∷ hs) (v ∷ vs) = Values hs vs

-- What a record holds besides what the check tests: its values fit, and its data are no more than four to a byte of the source.
abbrev pub Extra : Record → Type 0
Extra (plain m vs) = maybe {B = Type 0} (form_of m) (Unit {0}) (λ w. Values w.holds vs)
Extra (laden m vs d) = length d ≤ 4 * get_or vs 1 0

-- No number of a list is above m.
abbrev pub UpTo : ℕ → List ℕ → Type 0
UpTo m [] = Unit {0}
UpTo m (c ∷ cs) = (c ≤ m) × UpTo m cs

module _ (m : ℕ) where
  pub up_to_split : (a b : List ℕ) → UpTo m (a ++ b) → UpTo m a × UpTo m b
  up_to_split [] b h = (tt, h)
  up_to_split (c ∷ a) b h = let (i, j) = up_to_split a b h.1 in ((h.0, i), j)

  pub up_to_append : (a b : List ℕ) → UpTo m a → UpTo m b → UpTo m (a ++ b)
  up_to_append [] b h i = i
  up_to_append (c ∷ a) b h i = (h.0, up_to_append a b h.1 i)

  pub up_to_more : {n : ℕ} → m ≤ n → (s : List ℕ) → UpTo m s → UpTo n s
  up_to_more k [] h = tt
  up_to_more k (c ∷ cs) h = (le_trans h.0 k, up_to_more k cs h.1)

-- Bytes, as any numbers that a field's 32 bits can hold as signed ones.
abbrev pub Small : List ℕ → Type 0
Small s = UpTo 2147483647 s

pub small_split : (a b : List ℕ) → Small (a ++ b) → Small a × Small b
small_split a b h = up_to_split 2147483647 a b h

pub small_append : (a b : List ℕ) → Small a → Small b → Small (a ++ b)
small_append a b h i = up_to_append 2147483647 a b h i

pub small_parts : (n : ℕ) (s : List ℕ) → Small s → Small (take n s) × Small (drop n s)
small_parts n s h = small_split (take n s) (drop n s) (rw (take-append-drop n s) h)

abbrev pub Holds : Kind → ℕ → ℕ → Type 0
Holds (number v) f t = v ≤ 2147483647
Holds (quoted b w) f t = (suc (length w) + f ≤ t) × Small w
Holds (word w) f t = length w + f ≤ t
Holds (mark c) f t = Unit {0}
Holds newline f t = Unit {0}
Holds blank f t = Unit {0}
Holds comment f t = Unit {0}
Holds invalid f t = Unit {0}
Holds end f t = Unit {0}
Holds (bad b) f t = Unit {0}

pub record Sound (hi : ℕ) (x : Lexeme) : Type 0 where
  pub ordered : x.from ≤ x.to
  pub strict : is_line_end x.kind ≡ false → (x.from < x.to) × (x.to ≤ hi)
  pub holds : Holds x.kind x.from x.to

-- Tokens in order, from lo to n; a token that ends no line has a byte and ends by hi.
abbrev pub Chain : ℕ → ℕ → ℕ → List Lexeme → Type 0
Chain n hi lo [] = lo ≤ n
Chain n hi lo (x ∷ xs) = (lo ≤ x.from) × Sound hi x × Chain n hi x.to xs

pub chain_le : (n hi lo : ℕ) (xs : List Lexeme) → Chain n hi lo xs → lo ≤ n
chain_le n hi lo [] h = h
chain_le n hi lo (x ∷ xs) h =
    let i : x.to ≤ n = chain_le n hi x.to xs h.2 in
    let j : x.from ≤ x.to = h.1.ordered in
    let k : lo ≤ x.from = h.0 in
    omega arith

pub chain_low : (n hi lo lo' : ℕ) (xs : List Lexeme) → lo' ≤ lo → Chain n hi lo xs → Chain n hi lo' xs
chain_low n hi lo lo' [] i h = le_trans i h
chain_low n hi lo lo' (x ∷ xs) i h = (le_trans i h.0, h.1, h.2)

-- One record of a statement: it begins no other, and the check takes it.
pub record Checks (n : ℕ) (k : Stack) (r : Record) (k' : Stack) : Type 0 where
  pub inner : statement_from 0 r ≡ false
  pub extra : Extra r
  pub checks : checked n k r ≡ some k'

pub taken : (o : Option Stack) → given true o ≡ o
unfolding given
taken o = refl

operator_small : (k : Kind) (op : ℕ) → operator_of k ≡ some op → op < 4
unfolding operator_of
operator_small k op h = go (is_mark "+" k) (is_mark "-" k) (is_mark "*" k) (is_mark "/" k) h
  where
    go : (a b c d : Bool) → ◌≡◌ {A = Option ℕ} (if a then (some 0) else if b then (some 1) else if c then (some 2) else if d then (some 3) else none) (some op) → op < 4
    go true b c d e = let z : 0 ≡ op = cc in omega arith
    go false true c d e = let z : 1 ≡ op = cc in omega arith
    go false false true d e = let z : 2 ≡ op = cc in omega arith
    go false false false true e = let z : 3 ≡ op = cc in omega arith
    go false false false false e = absurd (true≢false cc)

-- The numbers of names.
place_small : (m : ℕ) (w : List ℕ) (t : List String) (r : ℕ) → place_from m w t ≡ some r → r < m + length t
unfolding place_from
place_small m w [] r h = absurd (true≢false cc)
place_small m w (row ∷ t) r h = go (same w (bytes row)) h (λ e. place_small (suc m) w t r e)
  where
    go : (b : Bool) → ◌≡◌ {A = Option ℕ} (if b then (some m) else (place_from (suc m) w t)) (some r) → (place_from (suc m) w t ≡ some r → r < suc m + length t) → r < m + suc (length t)
    go true e again = let z : m ≡ r = cc in omega arith
    go false e again = omega (arith, again e)

name_small : (t : List String) (k : Kind) (r : ℕ) → name_in t k ≡ some r → r < length t
unfolding name_in named
name_small t k r h = let (w, e, i) = asked k (named t) r h in omega (arith, place_small 0 _ t r i)

register_small : (k : Kind) (r : ℕ) → name_in registers k ≡ some r → r < 16
unfolding registers
register_small k r h = name_small registers k r h

pub segment_small : (k : Kind) (r : ℕ) → name_in segments k ≡ some r → r < 4
unfolding segments
segment_small k r h = name_small segments k r h

pub size_small : (k : Kind) (r : ℕ) → name_in sizes k ≡ some r → r < 2
unfolding sizes
size_small k r h = name_small sizes k r h

pub directive_small : (k : Kind) (r : ℕ) → name_in directives k ≡ some r → r < 4
unfolding directives
directive_small k r h = name_small directives k r h

-- A table that numbers operations.
pub operation_small : (table : List ℕ) → Proper table → (k : Kind) (r : ℕ) → operation_in table k ≡ some r → r < 99
unfolding operation_in
operation_small table p k r h = let (w, e, i) = asked k (operation_named table) r h in p.small w r i

alone_small : (r : ℕ) → alone r < 8
unfolding alone
alone_small r = go (eqb r 14) (eqb r 15) (eqb r 13)
  where
    go : (a b c : Bool) → (if a then 4 else if b then 5 else if c then 6 else 7) < 8
    go true b c = omega arith
    go false true c = omega arith
    go false false true = omega arith
    go false false false = omega arith

paired_small : (r q : ℕ) → paired r q < 8
unfolding paired
paired_small r q = go (eqb r 11) (eqb q 14)
  where
    go : (a b : Bool) → (if a then 0 else 2) + (if b then 0 else 1) < 8
    go true true = omega arith
    go true false = omega arith
    go false true = omega arith
    go false false = omega arith

one_has : (m : ℕ) → m ≤ 1 → eqb m 0 ≡ false → m ≡ 1
one_has zero h o = absurd (true≢false (sym (eq-eqb 0 0 refl) ∙ o))
one_has (suc zero) h o = refl
one_has (suc (suc m)) h o = absurd (omega arith)

-- an encoding, if there is one
abbrev Coded : Option ℕ → Type 0
Coded none = Unit {0}
Coded (some e) = e < 8

-- A token ahead, of a statement that begins at p0, where b is passed.
pub record Facts (n hi p0 b c : ℕ) (x : Lexeme) : Type 0 where
  pub start : p0 ≤ x.from
  pub later : b ≤ x.from
  pub soon : c ≤ x.to
  pub inside : x.to ≤ n
  pub sound : Sound hi x

-- A context in which i expressions stand on top.
pub record Context (p0 : ℕ) (C : ℕ → Stack) : Type 0 where
  pub places : (i : ℕ) → (C i).place ≡ p0
  pub push : (i : ℕ) → to_expression 0 (C i) ≡ some (C (suc i))
  pub turn : (i : ℕ) → to_expression 1 (C (suc i)) ≡ some (C (suc i))
  pub join : (i : ℕ) → to_expression 2 (C (suc (suc i))) ≡ some (C (suc i))

-- The stacks of a statement with e expressions below.
unfoldable pub open' : ℕ → ℕ → ℕ → ℕ → Stack
open' p0 e o a = record { place = p0; floor = suc p0; before = e; operands = o; above = a; closed = false }

unfoldable pub shut : ℕ → ℕ → Stack
shut p0 e = record { place = p0; floor = suc p0; before = e; operands = 0; above = 0; closed = true }

abbrev pub up : ℕ → ℕ → ℕ
up e zero = e
up e (suc i) = suc (up e i)

module _ (p0 : ℕ) where
  expression_first : (m u v : ℕ) → m ≤ u → u - m + 1 ≡ v → to_expression m (open' p0 u 0 0) ≡ some (open' p0 v 0 0)
  unfolding open' to_expression allow stack
  expression_first m u v h e = rw (le-leb m u h, e)

  expression_second : (m e u v : ℕ) → m ≤ u → u - m + 1 ≡ v → to_expression m (open' p0 e 1 u) ≡ some (open' p0 e 1 v)
  unfolding open' to_expression allow stack
  expression_second m e u v h i = rw (le-leb m u h, i)

  pub operand_first : (m u v : ℕ) → m ≤ u → u - m ≡ v → to_operand m (open' p0 u 0 0) ≡ some (open' p0 v 1 0)
  unfolding open' to_operand allow stack
  operand_first m u v h e = rw (le-leb m u h, e)

  pub operand_second : (m e : ℕ) → to_operand m (open' p0 e 1 m) ≡ some (open' p0 e 2 0)
  unfolding open' to_operand allow stack
  operand_second m e = rw (eq-eqb m m refl)

  pub to_line_lem : (m o u v : ℕ) → m ≤ u → u - m ≡ v → to_line m o (open' p0 u o 0) ≡ some (shut p0 v)
  unfolding open' shut to_line allow stack
  to_line_lem m o u v h e = rw (le-leb m u h, eq-eqb o o refl, e)

  pub first_context : (e : ℕ) → Context p0 (λ i. open' p0 (up e i) 0 0)
  unfolding open'
  first_context e = record {
    places = λ i. refl;
    push = λ i. expression_first 0 (up e i) (suc (up e i)) zero-le (omega arith);
    turn = λ i. expression_first 1 (suc (up e i)) (suc (up e i)) (omega arith) (omega arith);
    join = λ i. expression_first 2 (suc (suc (up e i))) (suc (up e i)) (omega arith) (omega arith);
  }

  pub second_context : (e : ℕ) → Context p0 (λ i. open' p0 e 1 i)
  unfolding open'
  second_context e = record {
    places = λ i. refl;
    push = λ i. expression_second 0 e i (suc i) zero-le (omega arith);
    turn = λ i. expression_second 1 e (suc i) (suc i) (omega arith) (omega arith);
    join = λ i. expression_second 2 e (suc (suc i)) (suc i) (omega arith) (omega arith);
  }

pub width_four : (width v : ℕ) → length (take width (field v)) ≤ 4
unfolding field
width_four width v = omega (arith, length-take width (field v))

pub place_open : (p0 e : ℕ) → (open' p0 e 0 0).place ≡ p0
unfolding open'
place_open p0 e = refl

pub record Counted (n p0 : ℕ) (o : Operands) : Type 0 where
  pub few : o.count ≤ 2
  pub start : p0 ≤ o.from
  pub ordered : o.from ≤ o.to
  pub inside : o.to ≤ n

-- Within a line. The statement begins at p0, and `rest` is what follows the line.
module _ (n hi p0 : ℕ) (rest : List Lexeme) where
  pub record On (b c : ℕ) (κ k : Stack) (s : Line) : Type 0 where
    pub same : k ≡ κ
    pub low : b ≤ s.last
    pub gap : s.last ≤ s.here.from
    pub soon : c ≤ s.here.to
    pub chain : Chain n hi p0 (s.here ∷ (s.more ++ rest))

  pub facts : (b c : ℕ) (κ k : Stack) (s : Line) → On b c κ k s → Facts n hi p0 b c s.here
  facts b c κ k s h = record { start = h.chain.0; later = le_trans h.low h.gap; soon = h.soon; inside = chain_le n hi s.here.to (s.more ++ rest) h.chain.2; sound = h.chain.1 }

  pub on_less : {b c b' c' : ℕ} {κ k : Stack} {s : Line} → b' ≤ b → c' ≤ c → On b c κ k s → On b' c' κ k s
  on_less i j h = record { same = h.same; low = le_trans i h.low; gap = h.gap; soon = le_trans j h.soon; chain = h.chain }

  module _ {b c : ℕ} {κ : Stack} where
    -- at the token x
    at_token : {A : Type 0} {m : Reader Line A} {R : A → Stack → Line → Type 0} (x : Lexeme) → (Facts n hi p0 b c x → Triple (Checks n) (On b x.to κ) m R)
        → Triple (Checks n) (λ k s. (s.here ≡ x) × On b c κ k s) m R
    at_token x e = record {
      law = λ k s h.
          let i : x.to ≤ s.here.to = rw h.0 (le_refl x.to) in
          (e (rw h.0 at (facts b c κ k s h.1))).law k s (record { same = h.1.same; low = h.1.low; gap = h.1.gap; soon = i; chain = h.1.chain });
    }

    -- what is passed
    pub between : {t : ℕ} (k : Stack) (s : Line) → (s.last ≡ t) × On b c κ k s → (b ≤ t) × (t ≤ n)
    between {t} k s h =
        let e : s.last ≡ t = h.0 in
        let i : s.here.to ≤ n = chain_le n hi s.here.to (s.more ++ rest) h.1.chain.2 in
        (omega (arith, h.1.low), omega (arith, h.1.gap, h.1.chain.1.ordered))

    pub ahead_then : {B : Type 0} {f : Lexeme → Reader Line B} {R : B → Stack → Line → Type 0} → ((x : Lexeme) → Facts n hi p0 b c x → Triple (Checks n) (On b x.to κ) (f x) R) → Triple (Checks n) (On b c κ) (ahead >>= f) R
    ahead_then e = ask_ahead λ x. at_token x (e x)

    pub kind_then : {B : Type 0} (f : Kind → Reader Line B) {R : B → Stack → Line → Type 0} → ((x : Lexeme) → Facts n hi p0 b c x → Triple (Checks n) (On b x.to κ) (f x.kind) R) → Triple (Checks n) (On b c κ) (kind >>= f) R
    kind_then f e = ask_kind f λ x. at_token x (e x)

    pub passed_then : {B : Type 0} {f : ℕ → Reader Line B} {R : B → Stack → Line → Type 0} → ((t : ℕ) → b ≤ t → t ≤ n → Triple (Checks n) (On b c κ) (f t) R) → Triple (Checks n) (On b c κ) (passed >>= f) R
    passed_then e = ask_passed λ t. derive (λ k s h. between k s h) (λ g. before (λ k s h. h.1) (e t g.0 g.1))

    pub checks : {κ' : Stack} (r : Record) → statement_from 0 r ≡ false → Extra r → checked n κ r ≡ some κ' → Triple (Checks n) (On b c κ) (write r) (λ _. On b c κ')
    checks {κ'} r a x e = writes r λ k s h. (κ', record { inner = a; extra = x; checks = rw h.same e }, record { same = refl; low = h.low; gap = h.gap; soon = h.soon; chain = h.chain })

    step_on : (k : Stack) (ys : List Lexeme) (s : Line) → s.more ≡ ys → On b c κ k s → Post (Checks n) (λ _. On c 0 κ) k (step ys s)
    unfolding step is_line_end
    step_on k [] s e h =
        let i : Chain n hi s.here.to rest = rw e at h.chain.2 in
        holds nil (record {
          same = h.same;
          low = h.soon;
          gap = le_refl s.here.to;
          soon = zero-le;
          chain = (le_trans h.chain.0 h.chain.1.ordered, record { ordered = le_refl s.here.to; strict = λ z. absurd (true≢false z); holds = tt }, i);
        })
    step_on k (y ∷ ys) s e h =
        let i : Chain n hi s.here.to (y ∷ (ys ++ rest)) = rw e at h.chain.2 in
        arrive_post y (holds nil (record { same = h.same; low = h.soon; gap = i.0; soon = zero-le; chain = chain_low n hi s.here.to p0 (y ∷ (ys ++ rest)) (le_trans h.chain.0 h.chain.1.ordered) i }))

    pub nexts : Triple (Checks n) (On b c κ) next (λ _. On c 0 κ)
    unfolding next
    nexts = record { law = λ k s h. step_on k s.more s refl h }

  pub expects : {b c : ℕ} {κ : Stack} (a : Char) (m : ℕ) → Triple (Checks n) (On b c κ) (expect a m) (λ _. On b 0 κ)
  unfolding expect
  expects a m = kind_then _ λ x f. whether (is_mark a x.kind) (λ e. behind (λ _ k s h. on_less (le_trans f.later f.sound.ordered) (le_refl 0) h) nexts) (λ e. here_fails m)

  pub span_true : (κ : Stack) (f t : ℕ) → κ.place ≡ p0 → p0 ≤ f → f ≤ t → t ≤ n → spans n κ f t ≡ true
  unfolding spans
  span_true κ f t e i j l = rw (e, le-leb p0 f i, le-leb f t j, le-leb t n l)

  -- what is at the token ahead once b is passed
  pub on_soon : {b c : ℕ} {κ k : Stack} {s : Line} → On b c κ k s → On b b κ k s
  on_soon {s = s} h = record { same = h.same; low = h.low; gap = h.gap; soon = le_trans h.low (le_trans h.gap h.chain.1.ordered); chain = h.chain }

  from_low : {A : Type 0} {b : ℕ} {κ : Stack} {m : Reader Line A} {R : A → Stack → Line → Type 0} → Triple (Checks n) (On b b κ) m R → Triple (Checks n) (On b 0 κ) m R
  from_low p = before (λ k s h. on_soon h) p

  module _ {C : ℕ → Stack} (ctx : Context p0 C) where
    valued : {b c : ℕ} (i : ℕ) (x : Lexeme) → Facts n hi p0 b c x → given (spans n (C i) x.from x.to) (to_expression 0 (C i)) ≡ some (C (suc i))
    valued i x f = ap (λ (o : Bool). given o (to_expression 0 (C i))) (span_true (C i) x.from x.to (ctx.places i) f.start f.sound.ordered f.inside) ∙ taken (to_expression 0 (C i)) ∙ ctx.push i

    -- one token is one expression
    one : {b c : ℕ} (i : ℕ) (x : Lexeme) → Facts n hi p0 b c x → (r : Record) → statement_from 0 r ≡ false → Extra r → checked n (C i) r ≡ given (spans n (C i) x.from x.to) (to_expression 0 (C i))
        → Triple (Checks n) (On b x.to (C i)) (next >> write r) (λ _. On x.to 0 (C (suc i)))
    one i x f r a e h = and_then nexts (λ _. checks r a e (h ∙ valued i x f))

    character_on : {b c : ℕ} (i : ℕ) (closed : Bool) (s : List ℕ) (x : Lexeme) → Small s → Facts n hi p0 b c x → Triple (Checks n) (On b x.to (C i)) (character closed s x) (λ _. On x.to 0 (C (suc i)))
    unfolding character checked statement_from
    character_on i false s x h f = here_fails 16
    character_on i true [] x h f = here_fails 17
    character_on i true (c ∷ []) x h f = one i x f (VC x.from x.to c) refl (h.0, tt) refl
    character_on i true (c ∷ d ∷ s) x h f = here_fails 17

    atom_of_on : {b c : ℕ} (i : ℕ) (k : Kind) (x : Lexeme) → x.kind ≡ k → Facts n hi p0 b c x → Triple (Checks n) (On b x.to (C i)) (atom_of k x) (λ _. On x.to 0 (C (suc i)))
    unfolding atom_of checked statement_from
    atom_of_on i (number v) x e f = let z : Holds (number v) x.from x.to = rw e at f.sound.holds in one i x f (VC x.from x.to v) refl (z, tt) refl
    atom_of_on i (quoted closed s) x e f = let z : Holds (quoted closed s) x.from x.to = rw e at f.sound.holds in character_on i closed s x z.1 f
    atom_of_on i (word w) x e f = one i x f (VL x.from x.to) refl tt refl
    atom_of_on i (mark c) x e f = whether (is "$" c) (λ _. and_then nexts (λ _. kind_then _ λ y g. whether (is_mark "$" y.kind)
        (λ _. behind (λ _ k s h. on_less (le_trans g.later g.sound.ordered) (le_refl 0) h) (and_then nexts (λ _. checks _ refl tt (valued i x f))))
        (λ _. behind (λ _ k s h. on_less (le_refl x.to) zero-le h) (checks _ refl tt (valued i x f))))) (λ _. here_fails 21)
    atom_of_on i newline x e f = here_fails 21
    atom_of_on i blank x e f = here_fails 21
    atom_of_on i comment x e f = here_fails 21
    atom_of_on i invalid x e f = here_fails 21
    atom_of_on i end x e f = here_fails 21
    atom_of_on i (bad m) x e f = here_fails 21

    module _ {inner : ℕ → Reader Line (Unit {0})} (each : (b c i level : ℕ) → Triple (Checks n) (On b c (C i)) (inner level) (λ _. On c 0 (C (suc i)))) where
      primary_on : {b c : ℕ} (i : ℕ) → Triple (Checks n) (On b c (C i)) (primary inner) (λ _. On c 0 (C (suc i)))
      unfolding primary atom checked statement_from
      primary_on i = ahead_then λ x f. behind (λ _ k s h. on_less f.soon (le_refl 0) h) (whether (is_mark "(" x.kind)
          (λ _. and_then (and_then nexts (λ _. from_low (each _ _ i 0))) (λ _. expects ")" 14))
          (λ _. perhaps (operator_of x.kind)
          (ahead_then λ y g. behind (λ _ k s h. on_less g.soon (le_refl 0) h) (atom_of_on i y.kind y refl g))
          (λ op e. and_then nexts (λ _. and_then {Q = λ _ k s. (ltb op 2 ≡ true) × On x.to 0 (C (suc i)) k s} (whether (ltb op 2) (λ h. behind (λ _ k s q. (h, q)) (from_low (each _ _ i prefix_level))) (λ h. refuses _))
          (λ _. known λ h. passed_then λ t j l. checks _ refl tt
          (ap (λ (o : Bool). given o (to_expression 1 (C (suc i)))) (rw (span_true (C (suc i)) x.from t (ctx.places (suc i)) f.start (le_trans f.sound.ordered j) l, h)) ∙ taken (to_expression 1 (C (suc i))) ∙ ctx.turn i))))))

      infixes_on : (b i m level p : ℕ) → p0 ≤ p → p ≤ b → Triple (Checks n) (On b 0 (C (suc i))) (infixes m inner level p) (λ _. On b 0 (C (suc i)))
      unfolding infixes checked statement_from
      infixes_on b i zero level p u v = returns tt (λ k s h. h)
      infixes_on b i (suc m) level p u v = kind_then _ λ x f. perhaps (operator_of x.kind) (returns tt (λ k s h. on_less (le_refl b) zero-le h)) λ op e.
          whether (ltb (left_level op) level) (λ _. returns tt (λ k s h. on_less (le_refl b) zero-le h)) (λ _. and_then nexts (λ _. and_then (from_low (each _ _ (suc i) (right_level op)))
          (λ _. passed_then λ t j l. and_then (checks _ refl tt
          (ap (λ (o : Bool). given o (to_expression 2 (C (suc (suc i))))) (rw (span_true (C (suc (suc i))) p t (ctx.places (suc (suc i))) u (omega (arith, f.later, f.sound.ordered)) l, lt-ltb op 4 (operator_small x.kind op e))) ∙ taken (to_expression 2 (C (suc (suc i)))) ∙ ctx.join i))
          (λ _. before (λ k s h. on_less (le_trans f.later f.sound.ordered) (le_refl 0) h) (infixes_on b i m level p u v)))))

    expr_on : (d b c i level : ℕ) → Triple (Checks n) (On b c (C i)) (expr d level) (λ _. On c 0 (C (suc i)))
    unfolding expr
    expr_on zero b c i level = here_fails 3
    expr_on (suc d) b c i level = ahead_then λ x f. behind (λ _ k s h. on_less f.soon (le_refl 0) h) (and_then (primary_on (expr_on d) i)
        (λ _. ask_left λ m. infixes_on (expr_on d) x.to i m level x.from f.start f.sound.ordered))

    pub expression_on : {b c : ℕ} (i : ℕ) → Triple (Checks n) (On b c (C i)) expression (λ _. On c 0 (C (suc i)))
    unfolding expression
    expression_on {b} {c} i = expr_on 32 b c i 0

    -- An operand, which makes D of the context.
    module _ {D : Stack} (lone : to_operand 0 (C 0) ≡ some D) (single : to_operand 1 (C 1) ≡ some D) (double : to_operand 2 (C 2) ≡ some D) where
      written : (i f t : ℕ) (o : Option Stack) → p0 ≤ f → f ≤ t → t ≤ n → o ≡ some D → given (spans n (C i) f t) o ≡ some D
      unfolding given
      written i f t o u v l e = rw (span_true (C i) f t (ctx.places i) u v l) e

      immediate_on : {b c : ℕ} → Triple (Checks n) (On b c (C 0)) immediate_or_far (λ _. On c 0 D)
      unfolding immediate_or_far checked statement_from
      immediate_on = ahead_then λ x f. behind (λ _ k s h. on_less f.soon (le_refl 0) h) (and_then (expression_on 0) (λ _. kind_then _ λ y g. whether (is_mark ":" y.kind)
          (λ _. behind (λ _ k s h. on_less (le_trans g.later g.sound.ordered) (le_refl 0) h) (and_then nexts (λ _. and_then (from_low (expression_on 1)) (λ _. passed_then λ t j l.
          checks _ refl tt (written 2 x.from t _ f.start (omega (arith, f.sound.ordered, g.later, g.sound.ordered)) l double)))))
          (λ _. behind (λ _ k s h. on_less (le_refl x.to) zero-le h) (passed_then λ t j l. checks _ refl tt (written 1 x.from t _ f.start (le_trans f.sound.ordered j) l single)))))

      -- the registers of a bracket, past b
      plus_index_on : {b c : ℕ} (f r : ℕ) → Triple (Checks n) (On b c (C 0)) (plus_index f r) (λ o k s. Coded o × On c 0 (C 0) k s)
      unfolding plus_index
      plus_index_on f r = and_then nexts (λ _. ahead_then λ x g. perhaps (name_in registers x.kind) (returns none (λ k s h. (tt, on_less (le_refl _) zero-le h))) λ q e.
          whether (is_index q)
          (λ _. and_then nexts (λ _. passed_then λ t j l. whether (is_index r) (λ _. refuses _)
          (λ _. returns (some (paired r q)) (λ k s h. (paired_small r q, on_less (le_trans g.later g.sound.ordered) (le_refl 0) h)))))
          (λ _. refuses _))

      second_on : {b c : ℕ} (f r : ℕ) → Triple (Checks n) (On b c (C 0)) (second f r) (λ e k s. (e < 8) × On b 0 (C 0) k s)
      unfolding second
      second_on {b} f r = kind_then _ λ x g. whether (is_mark "+" x.kind)
          (λ _. attempts (alone r) (λ e k t h. (h.0, on_less (le_trans g.later g.sound.ordered) (le_refl 0) h.1)) (λ k s h. (alone_small r, on_less (le_refl b) zero-le h)) (plus_index_on f r))
          (λ _. returns (alone r) (λ k s h. (alone_small r, on_less (le_refl b) zero-le h)))

      registers_ahead_on : {b c : ℕ} → Triple (Checks n) (On b c (C 0)) registers_ahead (λ o k s. Coded o × On b 0 (C 0) k s)
      unfolding registers_ahead
      registers_ahead_on {b} = ahead_then λ x g. passed_then λ t j l. perhaps (name_in registers x.kind) (returns none (λ k s h. (tt, on_less (le_refl b) zero-le h))) λ r e.
          whether (is_base r || is_index r)
          (λ _. and_then nexts (λ _. bind (second_on x.from r) λ q. known λ i. returns (some q) (λ k s h. (i, on_less (le_trans g.later g.sound.ordered) (le_refl 0) h))))
          (λ _. refuses _)

      displacement_on : {b c : ℕ} → Triple (Checks n) (On b c (C 0)) displacement (λ d k s. (d ≤ 1) × On b 0 (C d) k s)
      unfolding displacement
      displacement_on {b} = kind_then _ λ x g. whether (is_mark "]" x.kind) (λ _. returns 0 (λ k s h. (zero-le, on_less (le_refl b) zero-le h)))
          (λ _. and_then (expression_on 0) (λ _. returns 1 (λ k s h. (le_refl 1, on_less (le_trans g.later g.sound.ordered) (le_refl 0) h))))

      operand_of : (d : ℕ) → d ≤ 1 → to_operand d (C d) ≡ some D
      operand_of zero h = lone
      operand_of (suc zero) h = single
      operand_of (suc (suc d)) h = absurd (omega arith)

      close_on : {b c : ℕ} (f size segment : ℕ) (e : Option ℕ) (has : ℕ) → p0 ≤ f → f ≤ b → size ≤ 2 → segment ≤ 4 → Coded e → has ≤ 1 → Triple (Checks n) (On b c (C has)) (close f size segment e has) (λ _. On b 0 D)
      unfolding close checked statement_from given
      close_on f size segment e has u v z g q h = and_then (expects "]" 13) (λ _. passed_then λ t j l. coded e q t (le_trans v j) l)
        where
          coded : {b : ℕ} (e : Option ℕ) → Coded e → (t : ℕ) → f ≤ t → t ≤ n → Triple (Checks n) (On b 0 (C has)) (maybe e (if eqb has 0 then (refuse (at 32 f t)) else (write (OD f t size segment))) (λ m. write (OX f t m has size segment))) (λ _. On b 0 D)
          coded none q t j l = whether (eqb has 0) (λ _. refuses _) (λ o. checks _ refl tt
              (rw (span_true (C has) f t (ctx.places has) u j l, lt-ltb size 3 (omega arith), lt-ltb segment 5 (omega arith)) (ap (λ (m : ℕ). to_operand 1 (C m)) (one_has has h o) ∙ single)))
          coded (some m) q t j l = checks _ refl tt
              (rw (span_true (C has) f t (ctx.places has) u j l, lt-ltb m 8 q, lt-ltb has 2 (omega arith), lt-ltb size 3 (omega arith), lt-ltb segment 5 (omega arith)) (operand_of has h))

      override_on : {b c : ℕ} → Triple (Checks n) (On b c (C 0)) override (λ z k s. (z ≤ 4) × On b 0 (C 0) k s)
      unfolding override
      override_on {b} = kind_then _ λ x g. perhaps (name_in segments x.kind) (returns 0 (λ k s h. (zero-le, on_less (le_refl b) zero-le h)))
          λ z e. and_then nexts (λ _. and_then (expects ":" 12) (λ _. returns (suc z) (λ k s h. (segment_small x.kind z e, on_less (le_trans g.later g.sound.ordered) (le_refl 0) h))))

      memory_on : {b c : ℕ} (size : ℕ) → size ≤ 2 → Triple (Checks n) (On b c (C 0)) (memory size) (λ _. On c 0 D)
      unfolding memory
      memory_on size z = ahead_then λ x f. behind (λ _ k s h. on_less f.soon (le_refl 0) h) (and_then nexts (λ _. kind_then _ λ y g. whether (is_word y.kind)
          (λ _. bind override_on λ o. known λ i. bind registers_ahead_on λ e. known λ q. bind displacement_on λ d. known λ j. close_on x.from size o e d f.start f.sound.ordered z i q j)
          (λ _. whether (is_number y.kind)
          (λ _. behind (λ _ k s h. on_less (le_trans g.later g.sound.ordered) (le_refl 0) h) (and_then (expression_on 0)
          (λ _. close_on x.from size 0 none 1 f.start (omega (arith, f.sound.ordered, g.later, g.sound.ordered)) z zero-le tt (le_refl 1))))
          (λ _. here_fails 24))))

      operand_sized_on : {b c : ℕ} (m size : ℕ) → size ≤ 2 → Triple (Checks n) (On b c (C 0)) (operand_sized m size) (λ _. On c 0 D)
      unfolding operand_sized checked statement_from given
      operand_sized_on zero size z = immediate_on
      operand_sized_on (suc m) size z = ahead_then λ x f. behind (λ _ k s h. on_less f.soon (le_refl 0) h) (whether (is_mark "[" x.kind) (λ _. memory_on size z)
          (λ _. perhaps (name_in registers x.kind) (perhaps (name_in segments x.kind) (perhaps (name_in sizes x.kind) immediate_on
          (λ q e. and_then nexts (λ _. from_low (operand_sized_on m (suc q) (size_small x.kind q e)))))
          (λ q e. and_then nexts (λ _. checks _ refl tt
          (rw (span_true (C 0) x.from x.to (ctx.places 0) f.start f.sound.ordered f.inside, lt-ltb q 4 (segment_small x.kind q e)) lone))))
          (λ q e. and_then nexts (λ _. checks _ refl tt
          (rw (span_true (C 0) x.from x.to (ctx.places 0) f.start f.sound.ordered f.inside, lt-ltb q 16 (register_small x.kind q e)) lone)))))

      pub operand_on : {b c : ℕ} → Triple (Checks n) (On b c (C 0)) operand (λ _. On c 0 D)
      unfolding operand
      operand_on = ask_left λ m. operand_sized_on (suc m) 0 zero-le

  -- The operands of an instruction, past b, with e expressions below.
  pub operands_on : {b c : ℕ} (e : ℕ) → p0 ≤ b → Triple (Checks n) (On b c (open' p0 e 0 0)) operands (λ o k s. Counted n p0 o × On b 0 (open' p0 e o.count 0) k s)
  unfolding operands
  operands_on {b} e u = ahead_then λ x f. passed_then λ l j i. whether (is_line_end x.kind)
      (λ _. returns (record { count = 0; from = l; to = l }) (λ k s h. (record { few = zero-le; start = le_trans u j; ordered = le_refl l; inside = i }, on_less (le_refl b) zero-le h)))
      (λ _. and_then (operand_on (first_context p0 e) (operand_first p0 0 e e zero-le (omega arith)) (operand_first p0 1 (suc e) e (omega arith) (omega arith)) (operand_first p0 2 (suc (suc e)) e (omega arith) (omega arith)))
      (λ _. kind_then _ λ y g. whether (is_line_end y.kind)
      (λ _. passed_then λ t j i. returns (record { count = 1; from = x.from; to = t }) (λ k s h. (record { few = omega arith; start = f.start; ordered = le_trans f.sound.ordered j; inside = i }, on_less (le_trans f.later f.sound.ordered) zero-le h)))
      (λ _. whether (is_mark "," y.kind)
      (λ _. and_then nexts (λ _. and_then (from_low (operand_on (second_context p0 e) (operand_second p0 0 e) (operand_second p0 1 e) (operand_second p0 2 e)))
      (λ _. passed_then λ t j i. returns (record { count = 2; from = x.from; to = t }) (λ k s h. (
        record { few = omega arith; start = f.start; ordered = omega (arith, f.sound.ordered, g.later, g.sound.ordered); inside = i },
        on_less (omega (arith, f.later, f.sound.ordered, g.later, g.sound.ordered)) (le_refl 0) h,
      )))))
      (λ _. here_fails 11))))

  -- The bytes of literals: at most four for each of their characters.
  abbrev pub Data : ℕ → Stack → List ℕ → Stack → Line → Type 0
  Data b κ ds k s = (length ds + 4 * b ≤ 4 * s.last) × On b 0 κ k s

  no_data : {b c : ℕ} {κ : Stack} → Triple (Checks n) (On b c κ) (return []) (λ ds. Data b κ ds)
  no_data {b} = returns [] (λ k s h. (omega (arith, h.low), on_less (le_refl b) zero-le h))

  module _ (takes : ℕ → ℕ → Bool) {κ : Stack} {others : Reader Line (List ℕ)} (rest' : (b : ℕ) → Triple (Checks n) (On b 0 κ) others (λ ds. Data b κ ds)) where
    chunk : {b c : ℕ} (x : Lexeme) (g : List ℕ) → Facts n hi p0 b c x → length g + 4 * x.from ≤ 4 * x.to → Triple (Checks n) (On b x.to κ) (next >> others >>= λ ds. return (g ++ ds)) (λ ds. Data b κ ds)
    chunk {b} x g f i = bind (and_then nexts (λ _. rest' x.to)) λ ds. returns (g ++ ds) (λ k s h.
        (omega (arith, length-append g ds, h.0, f.later), on_less (le_trans f.later f.sound.ordered) (le_refl 0) h.1))

    comma : {b c : ℕ} (x : Lexeme) → Facts n hi p0 b c x → Triple (Checks n) (On b x.to κ) (next >> others) (λ ds. Data b κ ds)
    comma {b} x f = behind (λ ds k s h. (omega (arith, h.0, f.later, f.sound.ordered), on_less (le_trans f.later f.sound.ordered) (le_refl 0) h.1)) (and_then nexts (λ _. rest' x.to))

    literal_of_on : {b c : ℕ} (k : Kind) (x : Lexeme) (width : ℕ) → x.kind ≡ k → Facts n hi p0 b c x → Triple (Checks n) (On b x.to κ) (literal_of takes k width others) (λ ds. Data b κ ds)
    unfolding literal_of is_line_end
    literal_of_on newline x width e f = no_data
    literal_of_on end x width e f = no_data
    literal_of_on (mark c) x width e f = whether (is "," c) (λ _. comma x f) (λ _. here_fails 15)
    literal_of_on (quoted shut' g) x width e f =
        let z : Holds (quoted shut' g) x.from x.to = rw e at f.sound.holds in
        whether shut' (λ _. chunk x g f (omega (arith, z.0))) (λ _. here_fails 26)
    literal_of_on (number v) x width e f =
        let z : (x.from < x.to) × (x.to ≤ hi) = f.sound.strict (ap is_line_end e) in
        whether (takes width v) (λ _. chunk x (take width (field v)) f (omega (arith, z.0, width_four width v))) (λ _. here_fails 60)
    literal_of_on (word w) x width e f = here_fails 15
    literal_of_on blank x width e f = here_fails 15
    literal_of_on comment x width e f = here_fails 15
    literal_of_on invalid x width e f = here_fails 15
    literal_of_on (bad m) x width e f = here_fails 15

  pub literals_on : (takes : ℕ → ℕ → Bool) {b c : ℕ} {κ : Stack} (m width : ℕ) → Triple (Checks n) (On b c κ) (literals takes m width) (λ ds. Data b κ ds)
  unfolding literals
  literals_on takes zero width = no_data
  literals_on takes (suc m) width = kind_then _ λ x f. literal_of_on takes (λ b. literals_on takes m width) x.kind x width refl f

  -- A label, whose word x is passed.
  pub label_on : {b c : ℕ} (e : ℕ) (x : Lexeme) → p0 ≤ x.from → x.from ≤ x.to → x.to ≤ n → Triple (Checks n) (On b c (open' p0 e 0 0)) (label x) (λ _. On b 0 (shut p0 e))
  unfolding label checked statement_from
  label_on {b} e x u v l = kind_then _ λ y g. and_then (whether (is_mark ":" y.kind) (λ _. behind (λ _ k s h. on_less (le_trans g.later g.sound.ordered) (le_refl 0) h) nexts) (λ _. returns tt (λ k s h. on_less (le_refl b) zero-le h)))
      (λ _. checks _ refl tt (ap (λ (o : Bool). given o (to_line 0 0 (open' p0 e 0 0))) (span_true (open' p0 e 0 0) x.from x.to (place_open p0 e) u v l) ∙ taken (to_line 0 0 (open' p0 e 0 0)) ∙ to_line_lem p0 0 0 e e zero-le (omega arith)))
