-- Operands: what the token ahead names, and that such a token stands within its line; the answers that hold a value.
-- Assumes nothing.
use Rattle.std.specs.Prelude.{if◌then◌else◌, Result, Ok, Err}
use Rattle.std.specs.Prelude.{Some, None}
use Prim.Native.Nat.{ℕ, zero, suc, ◌≤◌}
use Prim.Native.Char.{Char, code}
use Prim.Native.String.{String}
use mathlib.Core.Path.{◌≡◌, refl, sym, ap, ◌∙◌}
use mathlib.Core.Bool.{Bool, true, false, ◌&&◌}
use mathlib.Core.List.{List, [], ◌∷◌, map}
use mathlib.Core.Logic.{◌⊎◌, inl, inr}
use mathlib.Core.Option.{Option, none, some}
use native.Mathlib.Omega.{arith}
use lib.Dec.{eqb}
use lib.ListN.{length}
use borrow.Author.Rules.{rules}
use borrow.Author.Tests.{ne_eqb}
use denote.Enum.Bare.{sameb, same_true, same_false}
use Rattle.lexer.specs.contracts.Kind.{the_type}
use Rattle.lexer.specs.declared.Kind.{Kind as TokenKind}
use Rattle.lexer.specs.declared.Kind.TheVariants as kind
use Rattle.lexer.specs.Scanned.{number_of}
use Rattle.state.proofs.ByNumber.{number_tells}
use Rattle.state.proofs.Steps.{one_passed}
use Rattle.lexer.proofs.Branches.{or_split}
use Rattle.lexer.specs.Text.{maybe, bytes, lower, same}
use Rattle.names.specs.Names.{registers, segments, sizes, named, place_from, name_from, name_of, found_of}
use Rattle.names.specs.declared.Name.{Name}
use Rattle.names.specs.declared.Name.TheVariants.{Register, Segment, Size}
use Rattle.records.specs.declared.Writer.{Writer}
use Rattle.refusals.specs.declared.Refusal.{Refusal}
use Rattle.rules.specs.Lexemes.{Kind, name_in, text_of as word_of}
use Rattle.rules.specs.Reader.{Reader, Line, ◌>>=◌, ◌>>◌, attempt, is_mark, next, ahead}
use Rattle.rules.specs.Operands.{is_word, is_number, operand_sized}
use Rattle.rules.proofs.TokenKinds.{name_inside}
use Rattle.rules.proofs.Reencode.{same_true as same_text}
use Rattle.state.specs.declared.Parser.{Parser}
use Rattle.state.specs.Views.{kind_by, text_of, here_of, line_of, Plain, InLine, Level, On, line, Comes, Denies, Looks, LooksAs, Passes, ReadsWith, ReadsWithAs}
use Rattle.operands.specs.Answers.{name_at}
use Rattle.state.proofs.Chain.{Sofar, becomes, ends, denied, comes, is_ahead, then_comes, then_denied, attempt_finds, attempt_denied, first_denied, lent_sofar}
use Rattle.records.proofs.Writers.{same_on}
use Rattle.state.proofs.Flat.{by_kind, line_end_is, mark_ahead, other_ahead}

-- What a comparison of the token ahead's kind with another has told.
module _ (s : List ℕ) (p : Parser) (k : TokenKind) where
  kind_is : true ≡ sameb the_type p.kind k → p.kind ≡ k
  kind_is e = same_true the_type (search rules) p.kind k (sym e)

  kind_differs : false ≡ sameb the_type p.kind k → p.kind ≡ k → ⊥
  kind_differs e = same_false the_type p.kind k (sym e)

  module _ (a : Char) (h : Plain a) (f : number_of k ≡ code a) where
    pub mark_there : true ≡ sameb the_type p.kind k → is_mark a (here_of s p).kind ≡ true
    mark_there e = mark_ahead s p a h (ap number_of (kind_is e) ∙ f)

    pub other_there : false ≡ sameb the_type p.kind k → is_mark a (here_of s p).kind ≡ false
    other_there e = other_ahead s p a h (λ x. kind_differs e (number_tells (x ∙ sym f)))

-- What the token ahead is by its kind.
module _ (s : List ℕ) (p : Parser) where
  pub name_there : true ≡ sameb the_type p.kind kind.Identifier → name_of (text_of s p.token_start p.pos) ≡ name_at (here_of s p).kind
  unfolding kind_by name_in word_of
  name_there e = rw (kind_is s p kind.Identifier e) refl

  pub word_there : p.kind ≡ kind.Identifier → is_word (here_of s p).kind ≡ true
  unfolding kind_by is_word word_of
  word_there e = rw e refl

  module _ (e : p.kind ≡ kind.Number) where
    pub word_not_there : is_word (here_of s p).kind ≡ false
    unfolding kind_by is_word word_of
    word_not_there = rw e refl

    pub number_there : is_number (here_of s p).kind ≡ true
    unfolding kind_by is_number
    number_there = rw e refl

  not_number : (k : TokenKind) → (p.kind ≡ k → ⊥) → eqb (number_of p.kind) (number_of k) ≡ false
  not_number k e = ne_eqb _ _ (λ x. e (number_tells x))

  pub no_name_there : false ≡ sameb the_type p.kind kind.Identifier → None ≡ name_at (here_of s p).kind
  unfolding name_in word_of
  no_name_there e = by_kind (λ n x. eqb n 97 ≡ false → None ≡ name_at x) (number_of p.kind) p.value (text_of s p.token_start p.pos) (λ f. cc) (λ _. refl) (λ _. refl) (λ _. refl) (λ _. refl) (λ _. refl) (λ _. refl) (λ _. refl) (λ _. refl) (λ _ _ _ _ _. refl) (not_number kind.Identifier (kind_differs s p kind.Identifier e))

  pub no_word_there : (p.kind ≡ kind.Identifier → ⊥) → is_word (here_of s p).kind ≡ false
  unfolding is_word word_of
  no_word_there e = by_kind (λ n x. eqb n 97 ≡ false → is_word x ≡ false) (number_of p.kind) p.value (text_of s p.token_start p.pos) (λ f. f) (λ _. refl) (λ _. refl) (λ _. refl) (λ _. refl) (λ _. refl) (λ _. refl) (λ _. refl) (λ _. refl) (λ _ _ _ _ _. refl) (not_number kind.Identifier e)

  pub no_number_there : (p.kind ≡ kind.Number → ⊥) → is_number (here_of s p).kind ≡ false
  unfolding is_number
  no_number_there e = by_kind (λ n x. eqb n 48 ≡ false → is_number x ≡ false) (number_of p.kind) p.value (text_of s p.token_start p.pos) (λ _. refl) (λ f. f) (λ _. refl) (λ _. refl) (λ _. refl) (λ _. refl) (λ _. refl) (λ _. refl) (λ _. refl) (λ _ _ _ _ _. refl) (not_number kind.Number e)

-- A name is no line end.
pub within : (s : List ℕ) (p : Parser) (names : List String) {n : ℕ} → name_in names (here_of s p).kind ≡ some n → InLine p
within s p names {n} e = sym (line_end_is (number_of p.kind) p.value _) ∙ name_inside names (here_of s p).kind n e

-- What is found of a name: each of its cases.
module _ {n : ℕ} where
  from_register : (r s z : Option ℕ) → Some (Register n) ≡ name_from r s z → r ≡ some n
  from_register (some a) s z e = cc
  from_register none (some a) z e = cc
  from_register none none (some a) e = cc
  from_register none none none e = cc

  from_segment : (r s z : Option ℕ) → Some (Segment n) ≡ name_from r s z → (r ≡ none) × (s ≡ some n)
  from_segment (some a) s z e = (cc, cc)
  from_segment none (some a) z e = (refl, cc)
  from_segment none none (some a) e = (refl, cc)
  from_segment none none none e = (refl, cc)

  from_size : (r s z : Option ℕ) → Some (Size n) ≡ name_from r s z → (r ≡ none) × (s ≡ none) × (z ≡ some n)
  from_size (some a) s z e = (cc, cc, cc)
  from_size none (some a) z e = (refl, cc, cc)
  from_size none none (some a) e = (refl, refl, cc)
  from_size none none none e = (refl, refl, cc)

from_none : (r s z : Option ℕ) → None ≡ name_from r s z → (r ≡ none) × (s ≡ none) × (z ≡ none)
from_none (some a) s z e = (cc, cc, cc)
from_none none (some a) z e = (refl, cc, cc)
from_none none none (some a) e = (refl, refl, cc)
from_none none none none e = (refl, refl, refl)

-- No word of some names is one of others: one test over both lists.
is_none : Option ℕ → Bool
is_none none = true
is_none (some n) = false

strangers : List String → List String → Bool
strangers [] others = true
strangers (x ∷ xs) others = is_none (place_from 0 (bytes x) others) && strangers xs others

and-true : (a b : Bool) → (a && b) ≡ true → (a ≡ true) × (b ≡ true)
and-true true b e = (refl, e)
and-true false b e = (e, cc)

is_none_lem : (o : Option ℕ) → is_none o ≡ true → o ≡ none
unfolding is_none
is_none_lem none e = refl
is_none_lem (some n) e = cc

apart : (m : ℕ) (w : List ℕ) (xs others : List String) {n : ℕ} → strangers xs others ≡ true → place_from m w xs ≡ some n → place_from 0 w others ≡ none
unfolding strangers place_from
apart m w [] others t e = cc
apart m w (x ∷ xs) others {n} t e =
    let (a, b) = and-true _ _ t in
    go (same w (bytes x)) refl (is_none_lem _ a) e (λ f. apart (suc m) w xs others b f)
  where
    go : (o : Bool) → same w (bytes x) ≡ o → place_from 0 (bytes x) others ≡ none → ◌≡◌ {A = Option ℕ} (if o then some m else place_from (suc m) w xs) (some n) → (place_from (suc m) w xs ≡ some n → place_from 0 w others ≡ none) → place_from 0 w others ≡ none
    go true h a f again = rw (same_text w (bytes x) h) a
    go false h a f again = again f

registers_segments : strangers registers segments ≡ true
unfolding strangers registers segments place_from bytes same is_none
registers_segments = refl

register_no_segment : (k : Kind) {n : ℕ} → name_in registers k ≡ some n → name_in segments k ≡ none
unfolding name_in named
register_no_segment k e = go (word_of k) e
  where
    go : (o : Option (List ℕ)) {n : ℕ} → maybe o none (named registers) ≡ some n → maybe o none (named segments) ≡ none
    go none e = refl
    go (some w) e = apart 0 (map lower w) registers segments registers_segments e

-- What the code's answer says of the token ahead.
module _ (k : Kind) {x : Name} {n : ℕ} where
  pub is_register : x ≡ Register n → Some x ≡ name_at k → name_in registers k ≡ some n
  is_register f e = from_register (name_in registers k) (name_in segments k) (name_in sizes k) (rw f at e)

  pub is_segment : x ≡ Segment n → Some x ≡ name_at k → (name_in registers k ≡ none) × (name_in segments k ≡ some n)
  is_segment f e = from_segment (name_in registers k) (name_in segments k) (name_in sizes k) (rw f at e)

  pub is_size : x ≡ Size n → Some x ≡ name_at k → (name_in registers k ≡ none) × (name_in segments k ≡ none) × (name_in sizes k ≡ some n)
  is_size f e = from_size (name_in registers k) (name_in segments k) (name_in sizes k) (rw f at e)

-- no segment's name is another's
pub no_segment : (k : Kind) {x : Name} → Some x ≡ name_at k → ((n : ℕ) × (x ≡ Register n)) ⊎ ((n : ℕ) × (x ≡ Size n)) → None ≡ found_of (name_in segments k)
no_segment k e (inl (n, f)) = rw (register_no_segment k (is_register k f e)) refl
no_segment k e (inr (n, f)) = rw (is_size k f e).1 refl

-- what `found_of` says
pub is_found : (o : Option ℕ) {n : ℕ} → Some n ≡ found_of o → o ≡ some n
is_found (some a) e = cc
is_found none e = cc

pub is_absent : (o : Option ℕ) → None ≡ found_of o → o ≡ none
is_absent (some a) e = cc
is_absent none e = refl

pub is_other : (k : Kind) → None ≡ name_at k → (name_in registers k ≡ none) × (name_in segments k ≡ none) × (name_in sizes k ≡ none)
is_other k e = from_none (name_in registers k) (name_in segments k) (name_in sizes k) e

-- What is left is read by another function, whose answer it is.
module _ {L : Level} {s : List ℕ} {p : Parser} {A B : Type 0} {seen : B → A} where
  pub then_looks : {q : Parser} {C : Type 0} {m : Reader (On L) C} (k : C → Reader (On L) A) {c : C} → Comes L s p m q c → {r : Result (Parser × B) Refusal}
      → Looks L s q seen (k c) r → Looks L s p seen (m >>= k) r
  then_looks {q} {m = m} k {c} h {r} on = record { so = go r on.so }
    where
      go : (r : Result (Parser × B) Refusal) → LooksAs L s q seen (k c) r → LooksAs L s p seen (m >>= k) r
      go (Ok b) g = then_comes k h g
      go (Err e) g = then_denied k h g

  pub attempt_looks : {m : Reader (On L) (Option A)} (a : A) {r : Result (Parser × B) Refusal} → Looks L s p (λ b. some (seen b)) m r → Looks L s p seen (attempt m a) r
  attempt_looks {m} a {r} on = record { so = go r on.so }
    where
      go : (r : Result (Parser × B) Refusal) → LooksAs L s p (λ b. some (seen b)) m r → LooksAs L s p seen (attempt m a) r
      go (Ok b) g = attempt_finds a g
      go (Err e) g = attempt_denied a g

  module _ {m : Reader (On L) A} {r : Result (Parser × B) Refusal} where
    pub hands_with : {q : Parser} {m₁ : Reader (On L) A} {o n w : Writer} → Sofar L s p m o q m₁ n → ReadsWith L s q seen m₁ n w r → ReadsWith L s p seen m o w r
    hands_with {q} {m₁} {o} {n} {w} so on = record { so = go r on.so; lent = same_on (lent_sofar so) on.lent }
      where
        go : (r : Result (Parser × B) Refusal) → ReadsWithAs L s q seen m₁ n w r → ReadsWithAs L s p seen m o w r
        go (Ok b) h = ends so h
        go (Err e) h = denied so h

-- Refused at the token ahead, and by what reads behind it.
module _ {s : List ℕ} {p : Parser} {A : Type 0} {x : Refusal} where
  pub next_denied : (k : Reader Line A) → Denies line s p next x → Denies line s p (next >> k) x
  unfolding ◌>>◌
  next_denied k h = first_denied _ h

  pub behind_denied : {B : Type 0} {q : Parser} (m : Reader Line B) (k : B → Reader Line A) → Comes line s p next q tt → Denies line s q m x → Denies line s p (next >> (m >>= k)) x
  unfolding ◌>>◌
  behind_denied m k h g = then_denied _ h (first_denied k g)

-- A name is one token of its line.
pub one_less : (s : List ℕ) (p q : Parser) (names : List String) {n : ℕ} → name_in names (here_of s p).kind ≡ some n → Passes line s p next (Ok q) → suc (length (line_of s q).more) ≡ length (line_of s p).more
one_less s p q names e h = let l = or_split _ _ (within s p names e) in one_passed s p q l.0 l.1 h

-- One more size word is passed: z, which the rules count from 1. So many may be left as tokens are.
pub turns : {s : List ℕ} {p q q₂ : Parser} {m : Reader Line (Unit {0})} {o w : Writer} {z : ℕ} (n size : ℕ) → Sofar line s p m o q (operand_sized (suc n) size) w
    → is_mark "[" (here_of s q).kind ≡ false → name_in registers (here_of s q).kind ≡ none → name_in segments (here_of s q).kind ≡ none → name_in sizes (here_of s q).kind ≡ some z
    → Comes line s q next q₂ tt → suc (length (line_of s q₂).more) ≤ n → (k : ℕ) × (length (line_of s q₂).more ≤ k) × Sofar line s p m o q₂ (operand_sized (suc k) (suc z)) w
unfolding operand_sized ◌>>◌
turns zero size so a b c d h less = absurd (omega (arith, less))
turns {z = z} (suc k) size so a b c d h less = (k, omega (arith, less), comes next (λ _. operand_sized (suc k) (suc z)) (becomes (comes ahead _ so is_ahead) (rw (a, b, c, d))) h)
