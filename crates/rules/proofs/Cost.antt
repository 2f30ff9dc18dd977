-- The listing is at most 18 times its source: each token pays for the records that it brings. `On m`: d bytes are written so far, and m more may be, for the bytes before the token ahead.
use Rattle.std.specs.Prelude.{if◌then◌else◌}
use mathlib.Core.Path.{◌≡◌, refl, sym, ap, subst, ◌∙◌}
use mathlib.Core.Bool.{Bool, true, false, ◌||◌, true≢false, false≢true}
use mathlib.Core.List.{List, [], ◌∷◌, ◌++◌}
use mathlib.Core.Option.{Option, none, some}
use Prim.Native.Nat.{ℕ, zero, suc, ◌+◌, ◌*◌, ◌≤◌, ◌<◌, zero-le}
use Prim.Native.Char.{Char}
use native.Mathlib.Omega.{arith}
use native.Mathlib.Nat.{le_refl}
use lib.Dec.{eqb, ltb}
use lib.ListN.{length, take, length-append}
use Rattle.lexer.specs.Text.{is, bytes}
use Rattle.rules.specs.Lexemes.{Kind, word, number, quoted, mark, newline, blank, comment, invalid, end, bad, Lexeme, text_of, name_in}
use Rattle.names.specs.Names.{registers, segments, sizes}
use Rattle.rules.specs.Records.{Record, field, fields, encode, listing}
use Rattle.rules.specs.Reader.{Reader, Line, thence, ◌>>=◌, ◌>>◌, return, write, step, next, ahead, kind, passed, is_mark, is_line_end, expect}
use Rattle.rules.specs.Expressions.{operator_of, left_level, right_level, prefix_level, character, atom_of, atom, primary, infixes, expr, expression}
use Rattle.rules.specs.Operands.{immediate_or_far, alone, is_index, is_base, paired, plus_index, second, registers_ahead, displacement, close, override, is_word, is_number, memory, operand_sized, operand, operands}
use Rattle.rules.specs.Statements.{label, literal_of, literals}
use Rattle.rules.proofs.TokenKinds.{mark_inside, operator_inside, name_inside}
use Rattle.rules.proofs.Hoare.{Run, nil, cons, Post, Triple, now, after_post, bind, and_then, whether, perhaps, returns, refuses, writes, before, behind, arrive_post, attempts, ask_ahead, ask_kind, ask_passed, ask_left, here_fails}
use Rattle.rules.proofs.Shape.{Holds, Sound, Chain, chain_low, width_four}

abbrev pub weight : List Record → ℕ
weight w = length (listing w)

-- One record: its bytes are written.
pub record Writes (d : ℕ) (r : Record) (d' : ℕ) : Type 0 where
  pub sum : d' ≡ d + length (encode r)

pub run_weight : {d d' : ℕ} {w : List Record} → Run Writes d w d' → d' ≡ d + weight w
unfolding listing
run_weight nil = omega arith
run_weight (cons {r = r} {w} c g) = omega (arith, c.sum, run_weight g, length-append (encode r) (listing w))

-- A number does not stand right behind a word.
abbrev pub Spaced : List Lexeme → Type 0
Spaced [] = Unit {0}
Spaced (x ∷ []) = Unit {0}
Spaced (x ∷ y ∷ zs) = (is_word x.kind ≡ true → is_number y.kind ≡ true → x.to < y.from) × Spaced (y ∷ zs)

spaced_tail : (x : Lexeme) (xs : List Lexeme) → Spaced (x ∷ xs) → Spaced xs
spaced_tail x [] h = tt
spaced_tail x (y ∷ zs) h = h.1

newline_spaced : (p : ℕ) (xs : List Lexeme) → Spaced xs → Spaced (record { from = p; to = p; kind = newline } ∷ xs)
unfolding is_word text_of
newline_spaced p [] h = tt
newline_spaced p (x ∷ xs) h = (λ w. absurd (false≢true w), h)

module _ (n hi D : ℕ) (rest : List Lexeme) where
  pub record On (m d : ℕ) (s : Line) : Type 0 where
    pub paid : d + m ≤ D + 18 * s.here.from
    pub chain : Chain n hi 0 (s.here ∷ (s.more ++ rest))
    pub spaced : Spaced (s.here ∷ (s.more ++ rest))

  abbrev pub Here : Lexeme → ℕ → ℕ → Line → Type 0
  Here x m d s = (s.here ≡ x) × On m d s

  -- and if x was a word, a number is a byte further
  abbrev pub Wide : Kind → ℕ → ℕ → Line → Type 0
  Wide k m d s = On m d s × (is_word k ≡ true → is_number s.here.kind ≡ true → d + m + 18 ≤ D + 18 * s.here.from)

  pub on_less : {m m' d : ℕ} {s : Line} → m' ≤ m → On m d s → On m' d s
  on_less {m} {m'} i h = record { paid = omega (arith, h.paid); chain = h.chain; spaced = h.spaced }

  passed_then : {B : Type 0} {f : ℕ → Reader Line B} {P : ℕ → Line → Type 0} {R : B → ℕ → Line → Type 0} → ((t : ℕ) → Triple Writes P (f t) R) → Triple Writes P (passed >>= f) R
  passed_then e = ask_passed λ t. before (λ d s h. h.1) (e t)

  module _ {m : ℕ} where
    at_token : {B : Type 0} {f : Reader Line B} {R : B → ℕ → Line → Type 0} (x : Lexeme) → (Sound hi x → Triple Writes (Here x m) f R) → Triple Writes (Here x m) f R
    at_token x e = record { law = λ d s h. (e (rw h.0 at h.1.chain.1)).law d s h }

    ahead_then : {B : Type 0} {f : Lexeme → Reader Line B} {R : B → ℕ → Line → Type 0} → ((x : Lexeme) → Sound hi x → Triple Writes (Here x m) (f x) R) → Triple Writes (On m) (ahead >>= f) R
    ahead_then e = ask_ahead λ x. at_token x (e x)

    kind_then : {B : Type 0} (f : Kind → Reader Line B) {R : B → ℕ → Line → Type 0} → ((x : Lexeme) → Sound hi x → Triple Writes (Here x m) (f x.kind) R) → Triple Writes (On m) (kind >>= f) R
    kind_then f e = ask_kind f λ x. at_token x (e x)

    -- whatever is read begins with a token
    pub ahead_first : {B : Type 0} {f : Reader Line B} {R : B → ℕ → Line → Type 0} → ((x : Lexeme) → Sound hi x → Triple Writes (Here x m) f R) → Triple Writes (On m) f R
    ahead_first e = record { law = λ d s h. (e s.here h.chain.1).law d s (refl, h) }

    pub ahead_here : {B : Type 0} (f : Lexeme → Reader Line B) {R : B → ℕ → Line → Type 0} (x : Lexeme) → Triple Writes (Here x m) (f x) R → Triple Writes (Here x m) (ahead >>= f) R
    unfolding ahead ◌>>=◌ thence
    ahead_here f {R} x e = record { law = λ d s h. after_post nil (subst (λ (y : Lexeme). Post Writes R d (f y s)) (sym h.0) (e.law d s h)) }

    pub pays : (r : Record) (k : ℕ) → length (encode r) ≤ k → Triple Writes (On (m + k)) (write r) (λ _. On m)
    pays r k i = writes r λ d s h. (d + length (encode r), record { sum = refl }, record { paid = omega (arith, h.paid); chain = h.chain; spaced = h.spaced })

    -- past x, of at least k bytes
    step_on : (x : Lexeme) (k d : ℕ) (ys : List Lexeme) (s : Line) → k + x.from ≤ x.to → s.more ≡ ys → Here x m d s → Post Writes (λ _. Wide x.kind (m + 18 * k)) d (step ys s)
    unfolding step is_line_end is_number
    step_on x k d [] s i e (q, h) =
        let c : Chain n hi s.here.to rest = rw e at h.chain.2 in
        let z : Spaced (s.here ∷ rest) = rw e at h.spaced in
        let f : k + s.here.from ≤ s.here.to = rw q i in
        now (record { paid = omega (arith, h.paid); chain = (zero-le, record { ordered = le_refl s.here.to; strict = λ w. absurd (true≢false w); holds = tt }, c); spaced = newline_spaced _ rest (spaced_tail s.here rest z) }, λ _ w. absurd (false≢true w))
    step_on x k d (y ∷ ys) s i e (q, h) =
        let c : Chain n hi s.here.to (y ∷ (ys ++ rest)) = rw e at h.chain.2 in
        let z : Spaced (s.here ∷ y ∷ (ys ++ rest)) = rw e at h.spaced in
        let f : k + s.here.from ≤ s.here.to = rw q i in
        let g : s.here.to ≤ y.from = c.0 in
        arrive_post y (now (
          record { paid = omega (arith, h.paid); chain = chain_low n hi s.here.to 0 (y ∷ (ys ++ rest)) zero-le c; spaced = z.1 },
          λ w v. let u : s.here.to < y.from = z.0 (ap (λ (x : Lexeme). is_word x.kind) q ∙ w) v in omega (arith, h.paid),
        ))

    pub nexts : (x : Lexeme) (k : ℕ) → k + x.from ≤ x.to → Triple Writes (Here x m) next (λ _. On (m + 18 * k))
    unfolding next
    nexts x k i = behind (λ _ d s h. h.0) (record { law = λ d s h. step_on x k d s.more s i refl h })

    pub wide_nexts : (x : Lexeme) (k : ℕ) → k + x.from ≤ x.to → Triple Writes (Here x m) next (λ _. Wide x.kind (m + 18 * k))
    unfolding next
    wide_nexts x k i = record { law = λ d s h. step_on x k d s.more s i refl h }

    -- past x, which ends no line
    past : (x : Lexeme) → Sound hi x → is_line_end x.kind ≡ false → Triple Writes (Here x m) next (λ _. On (m + 18))
    past x f e = behind (λ _ d s h. on_less (omega arith) h) (nexts x 1 (omega (arith, (f.strict e).0)))

  pub expects : {m : ℕ} (a : Char) (k : ℕ) → Triple Writes (On m) (expect a k) (λ _. On m)
  unfolding expect
  expects a k = kind_then _ λ x f. whether (is_mark a x.kind) (λ e. behind (λ _ d s h. on_less (omega arith) h) (past x f (mark_inside a x.kind e))) (λ e. here_fails k)

  -- what an expression leaves, by its first token
  unfoldable pub extra : Kind → ℕ
  extra k = if is_number k then 0 else 4

  extra_le : (k : Kind) → extra k ≤ 4
  unfolding extra
  extra_le k = go (is_number k)
    where
      go : (b : Bool) → (if b then 0 else 4) ≤ 4
      go true = zero-le
      go false = le_refl 4

  extra_is : (k : Kind) → is_number k ≡ false → extra k ≡ 4
  unfolding extra
  extra_is k e = rw e

  atom_of_on : {m : ℕ} (k : Kind) (x : Lexeme) → x.kind ≡ k → Sound hi x → Triple Writes (Here x m) (atom_of k x) (λ _. On (m + 4 + extra k))
  unfolding atom_of extra is_number is_line_end character encode fields field bytes
  atom_of_on {m} (number v) x e f = behind (λ _ d s h. on_less (omega arith) h) (and_then (past x f (ap is_line_end e)) (λ _. before (λ d s h. on_less (omega arith) h) (pays {m = m + 4} _ 14 (le_refl 14))))
  atom_of_on {m} (quoted false g) x e f = here_fails 16
  atom_of_on {m} (quoted true []) x e f = here_fails 17
  atom_of_on {m} (quoted true (c ∷ [])) x e f =
      let z : Holds (quoted true (c ∷ [])) x.from x.to = rw e at f.holds in
      behind (λ _ d s h. on_less (omega arith) h) (and_then (nexts x 2 z.0) (λ _. before (λ d s h. on_less (omega arith) h) (pays {m = m + 8} _ 14 (le_refl 14))))
  atom_of_on {m} (quoted true (c ∷ d ∷ g)) x e f = here_fails 17
  atom_of_on {m} (word w) x e f = behind (λ _ d s h. on_less (omega arith) h) (and_then (past x f (ap is_line_end e)) (λ _. before (λ d s h. on_less (omega arith) h) (pays {m = m + 8} _ 10 (le_refl 10))))
  atom_of_on {m} (mark c) x e f = whether (is "$" c) (λ _. and_then (past x f (ap is_line_end e)) (λ _. kind_then _ λ y g. whether (is_mark "$" y.kind)
      (λ i. and_then (past y g (mark_inside "$" y.kind i)) (λ _. before (λ d s h. on_less (omega arith) h) (pays {m = m + 4 + 4} _ 10 (le_refl 10))))
      (λ _. before (λ d s h. on_less (omega arith) h.1) (pays {m = m + 4 + 4} _ 10 (le_refl 10))))) (λ _. here_fails 21)
  atom_of_on newline x e f = here_fails 21
  atom_of_on blank x e f = here_fails 21
  atom_of_on comment x e f = here_fails 21
  atom_of_on invalid x e f = here_fails 21
  atom_of_on end x e f = here_fails 21
  atom_of_on (bad b) x e f = here_fails 21

  module _ {inner : ℕ → Reader Line (Unit {0})} (each : (m level : ℕ) → Triple Writes (On m) (inner level) (λ _. On (m + 4))) where
    primary_on : (m : ℕ) (x : Lexeme) → Sound hi x → Triple Writes (Here x m) (primary inner) (λ _. On (m + 4 + extra x.kind))
    unfolding primary atom encode fields field bytes
    primary_on m x f = ahead_here _ x (whether (is_mark "(" x.kind)
        (λ e. behind (λ _ d s h. on_less (omega (arith, extra_le x.kind)) h) (and_then (and_then (past x f (mark_inside "(" x.kind e)) (λ _. each (m + 18) 0)) (λ _. expects ")" 14)))
        (λ _. perhaps (operator_of x.kind) (ahead_here _ x (atom_of_on x.kind x refl f))
        (λ op e. behind (λ _ d s h. on_less (omega (arith, extra_le x.kind)) h) (and_then (past x f (operator_inside x.kind op e)) (λ _. and_then (whether (ltb op 2) (λ _. each (m + 18) prefix_level) (λ _. refuses _))
        (λ _. passed_then λ t. before (λ d s h. on_less (omega arith) h) (pays {m = m + 8} _ 14 (le_refl 14))))))))

    infixes_on : (m k level p : ℕ) → Triple Writes (On m) (infixes k inner level p) (λ _. On m)
    unfolding infixes encode fields field bytes
    infixes_on m zero level p = returns tt (λ d s h. h)
    infixes_on m (suc k) level p = kind_then _ λ x f. perhaps (operator_of x.kind) (returns tt (λ d s h. h.1)) λ op e.
        whether (ltb (left_level op) level) (λ _. returns tt (λ d s h. h.1)) (λ _. and_then (past x f (operator_inside x.kind op e)) (λ _. and_then (each (m + 18) (right_level op))
        (λ _. passed_then λ t. and_then (before (λ d s h. on_less (omega arith) h) (pays {m = m} _ 14 (le_refl 14))) (λ _. infixes_on m k level p))))

  expr_on : (k m level : ℕ) → Triple Writes (On m) (expr k level) (λ _. On (m + 4))
  unfolding expr
  expr_on zero m level = here_fails 3
  expr_on (suc k) m level = ahead_then λ x f. behind (λ _ d s h. on_less (omega arith) h) (and_then (primary_on (expr_on k) m x f) (λ _. ask_left λ j. infixes_on (expr_on k) (m + 4 + extra x.kind) j level x.from))

  pub expression_on : (m : ℕ) → Triple Writes (On m) expression (λ _. On (m + 4))
  unfolding expression
  expression_on m = expr_on 32 m 0

  expr_first : (k m level : ℕ) (x : Lexeme) → Sound hi x → Triple Writes (Here x m) (expr (suc k) level) (λ _. On (m + 4 + extra x.kind))
  unfolding expr
  expr_first k m level x f = ahead_here _ x (and_then (primary_on (expr_on k) m x f) (λ _. ask_left λ j. infixes_on (expr_on k) (m + 4 + extra x.kind) j level x.from))

  expression_first : (m : ℕ) (x : Lexeme) → Sound hi x → Triple Writes (Here x m) expression (λ _. On (m + 4 + extra x.kind))
  unfolding expression
  expression_first m x f = expr_first 31 m 0 x f

  -- An operand: 6 more than its tokens pay, or 2 where it does not begin with a number.
  immediate_on : (m : ℕ) (x : Lexeme) → Sound hi x → Triple Writes (Here x (m + 6)) immediate_or_far (λ _. On (m + extra x.kind))
  unfolding immediate_or_far encode fields field bytes
  immediate_on m x f = ahead_here _ x (and_then (expression_first (m + 6) x f) (λ _. kind_then _ λ y g. whether (is_mark ":" y.kind)
      (λ e. and_then (past y g (mark_inside ":" y.kind e)) (λ _. and_then (expression_on _) (λ _. passed_then λ t. before (λ d s h. on_less (omega arith) h) (pays {m = m + extra x.kind} _ 10 (le_refl 10)))))
      (λ _. passed_then λ t. before (λ d s h. on_less (omega arith) h.1) (pays {m = m + extra x.kind} _ 10 (le_refl 10)))))

  abbrev Reg : Option ℕ → ℕ → ℕ → Line → Type 0
  Reg none m = On m
  Reg (some e) m = On (m + 18)

  plus_index_on : (m f r : ℕ) (x : Lexeme) → Sound hi x → is_line_end x.kind ≡ false → Triple Writes (Here x m) (plus_index f r) (λ _. On m)
  unfolding plus_index
  plus_index_on m f r x g e = and_then (past x g e) (λ _. ahead_then λ y u. perhaps (name_in registers y.kind) (returns none (λ d s h. on_less (omega arith) h.1)) λ q i.
      whether (is_index q) (λ _. and_then (past y u (name_inside registers y.kind q i)) (λ _. passed_then λ t. whether (is_index r) (λ _. refuses _) (λ _. returns (some (paired r q)) (λ d s h. on_less (omega arith) h))))
      (λ _. refuses _))

  second_on : (m f r : ℕ) → Triple Writes (On m) (second f r) (λ _. On m)
  unfolding second
  second_on m f r = kind_then _ λ x g. whether (is_mark "+" x.kind)
      (λ e. attempts (alone r) (λ b d t h. h) (λ d s h. h.1) (plus_index_on m f r x g (mark_inside "+" x.kind e))) (λ _. returns (alone r) (λ d s h. h.1))

  registers_ahead_on : (m : ℕ) → Triple Writes (On m) registers_ahead (λ o. Reg o m)
  unfolding registers_ahead
  registers_ahead_on m = ahead_then λ x g. passed_then λ t. perhaps (name_in registers x.kind) (returns none (λ d s h. h.1)) λ r e.
      whether (is_base r || is_index r) (λ _. and_then (past x g (name_inside registers x.kind r e)) (λ _. bind (second_on (m + 18) x.from r) λ q. returns (some q) (λ d s h. h)))
      (λ _. refuses _)

  displacement_on : (m : ℕ) → Triple Writes (On m) displacement (λ _. On m)
  unfolding displacement
  displacement_on m = kind_then _ λ x g. whether (is_mark "]" x.kind) (λ _. returns 0 (λ d s h. h.1))
      (λ _. before (λ d s h. h.1) (and_then (expression_on m) (λ _. returns 1 (λ d s h. on_less (omega arith) h))))

  close_on : (m f size segment : ℕ) (e : Option ℕ) (has : ℕ) → Triple Writes (Reg e (m + 24)) (close f size segment e has) (λ _. On (m + 4))
  unfolding close encode fields field bytes
  close_on m f size segment none has = and_then (expects "]" 13) (λ _. passed_then λ t. whether (eqb has 0) (λ _. refuses _) (λ _. before (λ d s h. on_less (omega arith) h) (pays {m = m + 4} _ 18 (le_refl 18))))
  close_on m f size segment (some e) has = and_then (expects "]" 13) (λ _. passed_then λ t. before (λ d s h. on_less (omega arith) h) (pays {m = m + 4} _ 26 (le_refl 26)))

  override_on : (m : ℕ) → Triple Writes (On m) override (λ _. On m)
  unfolding override
  override_on m = kind_then _ λ x g. perhaps (name_in segments x.kind) (returns 0 (λ d s h. h.1)) λ z e.
      and_then (past x g (name_inside segments x.kind z e)) (λ _. and_then (expects ":" 12) (λ _. returns (suc z) (λ d s h. on_less (omega arith) h)))

  displacement_reg : (o : Option ℕ) (m : ℕ) → Triple Writes (Reg o m) displacement (λ _. Reg o m)
  displacement_reg none m = displacement_on m
  displacement_reg (some e) m = displacement_on (m + 18)

  memory_on : (m size : ℕ) (x : Lexeme) → Sound hi x → is_line_end x.kind ≡ false → Triple Writes (Here x (m + 6)) (memory size) (λ _. On (m + 4))
  unfolding memory
  memory_on m size x f e = ahead_here _ x (and_then (past x f e) (λ _. kind_then _ λ y g. before (λ d s h. on_less {m = m + 6 + 18} {m' = m + 24} (omega arith) h.1) (whether (is_word y.kind)
      (λ _. bind (override_on (m + 24)) λ z. bind (registers_ahead_on (m + 24)) λ q. bind (displacement_reg q (m + 24)) λ has. close_on m x.from size z q has)
      (λ _. whether (is_number y.kind) (λ _. and_then (expression_on (m + 24)) (λ _. before (λ d s h. on_less (omega arith) h) (close_on m x.from size 0 none 1))) (λ _. here_fails 24)))))

  operand_sized_on : (k m size : ℕ) (x : Lexeme) → Sound hi x → Triple Writes (Here x (m + 6)) (operand_sized k size) (λ _. On (m + extra x.kind))
  unfolding operand_sized encode fields field bytes
  operand_sized_on zero m size x f = immediate_on m x f
  operand_sized_on (suc k) m size x f = ahead_here _ x (whether (is_mark "[" x.kind) (λ e. behind (λ _ d s h. on_less (omega (arith, extra_le x.kind)) h) (memory_on m size x f (mark_inside "[" x.kind e)))
      (λ _. perhaps (name_in registers x.kind) (perhaps (name_in segments x.kind) (perhaps (name_in sizes x.kind) (immediate_on m x f)
      (λ q e. and_then (past x f (name_inside sizes x.kind q e)) (λ _. ahead_first λ y g. behind (λ _ d s h. on_less (omega (arith, extra_le x.kind)) h) (before (λ d s h. (h.0, on_less {m' = m + 18 + 6} (omega arith) h.1)) (operand_sized_on k (m + 18) (suc q) y g)))))
      (λ q e. and_then (past x f (name_inside segments x.kind q e)) (λ _. before (λ d s h. on_less (omega (arith, extra_le x.kind)) h) (pays {m = m + extra x.kind} _ 14 (le_refl 14)))))
      (λ q e. and_then (past x f (name_inside registers x.kind q e)) (λ _. before (λ d s h. on_less (omega (arith, extra_le x.kind)) h) (pays {m = m + extra x.kind} _ 14 (le_refl 14))))))

  operand_on : (m : ℕ) (x : Lexeme) → Sound hi x → Triple Writes (Here x (m + 6)) operand (λ _. On (m + extra x.kind))
  unfolding operand
  operand_on m x f = ask_left λ k. operand_sized_on (suc k) m 0 x f

  -- The first operand behind a word: with the byte before a number.
  first_on : (m : ℕ) (k : Kind) → is_word k ≡ true → Triple Writes (Wide k (m + 36)) operand (λ _. On (m + 34))
  unfolding extra
  first_on m k w = record { law = λ d s h. go d s h (is_number s.here.kind) refl }
    where
      go : (d : ℕ) (s : Line) → Wide k (m + 36) d s → (b : Bool) → is_number s.here.kind ≡ b → Post Writes (λ _. On (m + 34)) d (operand s)
      go d s h true e = (behind (λ _ d s q. on_less {m' = m + 34} (omega arith) q) (operand_on (m + 48) s.here h.0.chain.1)).law d s
          (refl, record { paid = omega (arith, h.1 w e); chain = h.0.chain; spaced = h.0.spaced })
      go d s h false e = let i : extra s.here.kind ≡ 4 = extra_is s.here.kind e in (behind (λ _ d s q. on_less {m' = m + 34} (omega arith) q) (operand_on (m + 30) s.here h.0.chain.1)).law d s
          (refl, on_less (omega arith) h.0)

  pub operands_on : (m : ℕ) (k : Kind) → is_word k ≡ true → Triple Writes (Wide k (m + 36)) operands (λ _. On (m + 32))
  unfolding operands ahead ◌>>=◌ thence
  operands_on m k w = record {
    law = λ d s h. after_post nil ((passed_then {P = Wide k (m + 36)} (λ l. whether (is_line_end s.here.kind)
        (λ _. returns (record { count = 0; from = l; to = l }) (λ d s h. on_less (omega arith) h.0))
        (λ _. and_then (first_on m k w) (λ _. kind_then _ λ y g. whether (is_line_end y.kind)
        (λ _. passed_then λ t. returns (record { count = 1; from = s.here.from; to = t }) (λ d s h. on_less (omega arith) h.1))
        (λ _. whether (is_mark "," y.kind)
        (λ e. and_then (past y g (mark_inside "," y.kind e)) (λ _. ahead_first λ z u. and_then (before (λ d s h. (h.0, on_less {m' = m + 32 + 6} (omega arith) h.1)) (operand_on (m + 32) z u))
        (λ _. passed_then λ t. returns (record { count = 2; from = s.here.from; to = t }) (λ d s h. on_less (omega arith) h))))
        (λ _. here_fails 11)))))).law d s h);
  }

  pub label_on : (m : ℕ) (x : Lexeme) → Triple Writes (On (m + 10)) (label x) (λ _. On m)
  unfolding label encode fields field bytes
  label_on m x = kind_then _ λ y g. and_then (whether (is_mark ":" y.kind) (λ e. behind (λ _ d s h. on_less (omega arith) h) (past y g (mark_inside ":" y.kind e))) (λ _. returns tt (λ d s h. h.1)))
      (λ _. pays {m = m} _ 10 (le_refl 10))

  module _ (takes : ℕ → ℕ → Bool) {others : Reader Line (List ℕ)} (more' : (m : ℕ) → Triple Writes (On m) others (λ ds. On (m + length ds))) where
    chunk : (m k : ℕ) (x : Lexeme) (g : List ℕ) → k + x.from ≤ x.to → length g ≤ 18 * k → Triple Writes (Here x m) (next >> others >>= λ ds. return (g ++ ds)) (λ ds. On (m + length ds))
    chunk m k x g i j = bind (and_then (nexts x k i) (λ _. more' (m + 18 * k))) λ ds. returns (g ++ ds) (λ d s h. on_less (omega (arith, length-append g ds)) h)

    literal_of_on : (m : ℕ) (k : Kind) (x : Lexeme) (width : ℕ) → x.kind ≡ k → Sound hi x → Triple Writes (Here x m) (literal_of takes k width others) (λ ds. On (m + length ds))
    unfolding literal_of is_line_end
    literal_of_on m newline x width e f = returns [] (λ d s h. on_less (omega arith) h.1)
    literal_of_on m end x width e f = returns [] (λ d s h. on_less (omega arith) h.1)
    literal_of_on m (mark c) x width e f = whether (is "," c) (λ _. behind (λ ds d s h. on_less (omega arith) h) (and_then (past x f (ap is_line_end e)) (λ _. more' (m + 18)))) (λ _. here_fails 15)
    literal_of_on m (quoted shut g) x width e f =
        let z : Holds (quoted shut g) x.from x.to = rw e at f.holds in
        whether shut (λ _. chunk m (suc (length g)) x g z.0 (omega arith)) (λ _. here_fails 26)
    literal_of_on m (number v) x width e f = whether (takes width v)
        (λ _. chunk m 1 x (take width (field v)) (omega (arith, (f.strict (ap is_line_end e)).0)) (omega (arith, width_four width v))) (λ _. here_fails 60)
    literal_of_on m (word w) x width e f = here_fails 15
    literal_of_on m blank x width e f = here_fails 15
    literal_of_on m comment x width e f = here_fails 15
    literal_of_on m invalid x width e f = here_fails 15
    literal_of_on m (bad b) x width e f = here_fails 15

  pub literals_on : (takes : ℕ → ℕ → Bool) (k m width : ℕ) → Triple Writes (On m) (literals takes k width) (λ ds. On (m + length ds))
  unfolding literals
  literals_on takes zero m width = returns [] (λ d s h. on_less (omega arith) h)
  literals_on takes (suc k) m width = kind_then _ λ x f. literal_of_on takes (λ j. literals_on takes k j width) m x.kind x width refl f
