-- The forms of a statement: what its first word says, and how each is read behind that word.
-- Assumes nothing.
use Rattle.std.specs.Prelude.{if◌then◌else◌}
use Prim.Native.Nat.{ℕ, suc, ◌-◌}
use mathlib.Core.Path.{◌≡◌, refl, sym, ap, subst, ◌∙◌}
use mathlib.Core.List.{List, map}
use mathlib.Core.Bool.{Bool, true, false, ◌||◌}
use mathlib.Core.Option.{Option, none, some}
use native.Mathlib.Omega.{arith}
use lib.Dec.{eqb, ltb}
use Rattle.lexer.specs.Text.{maybe, bytes, lower, same}
use Rattle.names.specs.Names.{directives, place_from, named, operation_named, found_of, directive_from, directive_of}
use Rattle.std.specs.Prelude.{Option as Maybe, None, Some, Result, Ok, IsErrAnd}
use Rattle.lexer.specs.Scanned.{number_of as kind_number}
use Rattle.records.specs.declared.Writer.{Writer}
use Rattle.records.specs.Writers.{Puts, SameBuffer}
use Rattle.refusals.specs.Refusals.{numbers}
use Rattle.names.specs.declared.Directive.{Directive}
use Rattle.names.specs.declared.Directive.TheVariants as directive
use Rattle.names.specs.Keys.{key_of, operation_by, directive_by, good_table}
use Rattle.names.proofs.Keys.{Bytes}
use Rattle.names.proofs.Names.{directs_by}
use Rattle.names.proofs.Rows.{operates_by, Directs, directive_apart}
use Rattle.rules.specs.Lexemes.{Kind, word, Lexeme, name_in, operation_in, text_of as word_of}
use Rattle.rules.specs.Records.{Record, LL, LI, LT, encode}
use Rattle.rules.specs.Reader.{at as at_span, Reader, thence, ◌>>=◌, ◌>>◌, return, write, refuse, ahead, kind, passed, next, refuse_here, numbers_of}
use Rattle.rules.specs.Expressions.{expression}
use Rattle.rules.specs.Operands.{operands, is_word}
use Rattle.rules.specs.Statements.{fitting, fits, State, over, in_line, line_end, skip_lines, passing, label, rep, repne, instruction, constant, data_of, line, content, times}
use Rattle.state.specs.declared.Parser.{Parser}
use Rattle.refusals.specs.declared.Refusal.{Refusal}
use Rattle.state.specs.Views.{ends_line, kind_by, text_of, here_of, state_of, whole, Gives, Denies, Comes, Reads, line as inside}
use Rattle.state.proofs.Chain.{exits, reads_refused, reads_refused_on, after_nil, Sofar, starts, becomes, comes, called, called_denied, ends, first_denied, lifts_comes, lifts_denied, denied, refuses, refuses_here, writes, returns, is_kind, is_passed, reads_done}
use Rattle.statements.proofs.Lines.{end_is}
use Rattle.state.proofs.Chain.{stops_on}
use Rattle.state.proofs.Flat.{by_kind, mark_is, plain}

-- past the word that a statement begins with
module _ {s : List ℕ} {p : Parser} (m : Reader State (Unit {0})) where
  pub past_word : (o : Writer) {q : Parser} → Comes inside s p next q tt → Sofar whole s p (passing m) o q m o
  unfolding passing ◌>>◌
  past_word o h = comes (in_line next) (λ _. m) (starts whole s p (passing m) o) (lifts_comes h)

  pub word_denied : {r : Refusal} → Denies inside s p next r → Denies whole s p (passing m) r
  unfolding passing ◌>>◌
  word_denied h = first_denied (λ _. m) (lifts_denied h)

  pub word_stops : {r : Result Parser Refusal} {x : Refusal} → IsErrAnd r (λ y. y ≡ x) → {o w : Writer} → SameBuffer o w → Denies inside s p next x → Reads whole s p (passing m) o w r
  word_stops e l h = rw (exits e) (reads_refused_on l (word_denied h))

-- the end of a statement's line, and its record then
module _ {s : List ℕ} {p q : Parser} {m : Reader State (Unit {0})} {o n : Writer} (f : ℕ → Record) (so : Sofar whole s p m o q (in_line passed >>= λ t. line_end >> write (f t)) n) where
  pub recorded : {q₂ : Parser} {w : Writer} → Comes whole s q line_end q₂ tt → Puts (encode (f q.last_token_end)) n w → Reads whole s p m o w (Ok q₂)
  unfolding ◌>>◌
  recorded h k = reads_done (ends (comes _ _ (comes _ _ so (lifts_comes is_passed)) h) (writes (f q.last_token_end) k))

  pub line_goes_on : {r : Result Parser Refusal} {x : Refusal} → IsErrAnd r (λ y. y ≡ x) → {w : Writer} → SameBuffer n w → Denies whole s q line_end x → Reads whole s p m o w r
  unfolding ◌>>◌
  line_goes_on e l h = stops_on e _ _ (comes _ _ so (lifts_comes is_passed)) l h

-- an instruction, whose word was x: `rep` and `repne`, and the others
abbrev repeated : Lexeme → ℕ → Reader State (Unit {0})
repeated x op = in_line passed >>= λ t. write (LI x.from t op 0 t t)

abbrev operated : Lexeme → ℕ → Reader State (Unit {0})
operated x op = in_line operands >>= λ o. in_line passed >>= λ t. line_end >> write (LI x.from t op o.count o.from o.to)

module _ {s : List ℕ} {p q : Parser} {m : Reader State (Unit {0})} {o n : Writer} (x : Lexeme) (op : ℕ) (so : Sofar whole s p m o q (instruction x op) n) where
  pub repeats : (eqb op rep || eqb op repne) ≡ true → Sofar whole s p m o q (repeated x op) n
  unfolding instruction
  repeats e = becomes so (rw e)

  pub operates : (eqb op rep || eqb op repne) ≡ false → Sofar whole s p m o q (operated x op) n
  unfolding instruction
  operates e = becomes so (rw e)

-- a label, whose name was x
module _ {s : List ℕ} (q : Parser) (x : Lexeme) where
  asked : (o : Writer) → Sofar inside s q (label x) o q ((if eqb (kind_number q.kind) 58 then next else (return tt)) >> write (LL x.from x.to)) o
  unfolding label
  asked o = becomes (comes kind _ (starts inside s q (label x) o) is_kind) (rw (mark_is (kind_number q.kind) q.value (text_of s q.token_start q.pos) ":" (plain ":" refl)))

  chosen : (o : Writer) {b : Bool} → eqb (kind_number q.kind) 58 ≡ b → Sofar inside s q (label x) o q ((if b then next else (return tt)) >> write (LL x.from x.to)) o
  chosen o e = becomes (asked o) (rw e)

  module _ {o n : Writer} (h : Puts (encode (LL x.from x.to)) o n) where
    pub label_colon : eqb (kind_number q.kind) 58 ≡ true → {q' : Parser} → Comes inside s q next q' tt → Gives inside s q (label x) o n q' tt
    unfolding ◌>>◌
    label_colon e k = ends (comes _ _ (chosen o e) k) (writes (LL x.from x.to) h)

    pub label_bare : eqb (kind_number q.kind) 58 ≡ false → Gives inside s q (label x) o n q tt
    unfolding ◌>>◌
    label_bare e = ends (comes _ _ (chosen o e) (returns tt)) (writes (LL x.from x.to) h)

  pub label_denied : Writer → eqb (kind_number q.kind) 58 ≡ true → {r : Refusal} → Denies inside s q next r → Denies inside s q (label x) r
  unfolding ◌>>◌
  label_denied o e k = called_denied _ _ (chosen o e) k

-- what a word names, from the code's answers
pub found_some : (o : Option ℕ) (n : ℕ) → found_of o ≡ Some n → o ≡ some n
found_some none n e = cc
found_some (some m) n e = cc

pub found_none : (o : Option ℕ) → found_of o ≡ None → o ≡ none
found_none none e = refl
found_none (some m) e = cc

abbrev pub directive_number : Maybe Directive → Option ℕ
directive_number (Some directive.Equ) = some 0
directive_number (Some directive.Db) = some 1
directive_number (Some directive.Dw) = some 2
directive_number (Some directive.Times) = some 3
directive_number None = none

pub directive_is : (w : List ℕ) → named directives w ≡ directive_number (directive_of w)
unfolding named directives place_from
directive_is w = go (same (map lower w) (bytes "equ")) (same (map lower w) (bytes "db")) (same (map lower w) (bytes "dw")) (same (map lower w) (bytes "times"))
  where
    place : Bool → Bool → Bool → Bool → Option ℕ
    place a b c d = if a then some 0 else if b then some 1 else if c then some 2 else if d then some 3 else none

    go : (a b c d : Bool) → place a b c d ≡ directive_number (directive_from (place a b c d))
    go true b c d = refl
    go false true c d = refl
    go false false true d = refl
    go false false false true = refl
    go false false false false = refl

-- A statement by its first word: an operation, a directive, any other word or none.
abbrev choice : Reader State (Unit {0}) → Lexeme → Option ℕ → Option ℕ → Bool → Reader State (Unit {0})
choice t x o d w =
    maybe o
    (maybe d (if w then (passing (in_line (label x))) else (in_line (refuse_here 20)))
    λ n. if eqb n 0 then (passing (constant x)) else if ltb n 3 then (passing (data_of fits x n)) else t)
    λ op. passing (instruction x op)

module _ (table s : List ℕ) (p : Parser) (t : Reader State (Unit {0})) where
  abbrev text : List ℕ
  text = text_of s p.token_start p.pos

  line_is : line (fitting table) t (state_of s p) ≡ choice t (here_of s p) (operation_in table (here_of s p).kind) (name_in directives (here_of s p).kind) (is_word (here_of s p).kind) (state_of s p)
  unfolding line ◌>>=◌ in_line over ahead thence
  line_is = after_nil _

  module _ (e : kind_number p.kind ≡ 97) where
    word_kind : kind_by (kind_number p.kind) p.value text ≡ word text
    unfolding kind_by
    word_kind = rw e

    pub line_word : line (fitting table) t (state_of s p) ≡ choice t (here_of s p) (operation_named table text) (named directives text) true (state_of s p)
    unfolding operation_in name_in is_word word_of
    line_word = line_is ∙ ap (λ (k : Kind). choice t (here_of s p) (operation_in table k) (name_in directives k) (is_word k) (state_of s p)) word_kind

    -- by the code's answers to the word's text w
    module _ {w : List ℕ} (h : w ≡ text) where
      line_operation : {op : ℕ} → Some op ≡ found_of (operation_named table w) → line (fitting table) t (state_of s p) ≡ passing (instruction (here_of s p) op) (state_of s p)
      line_operation {op} j = line_word ∙ ap (λ (f : Option ℕ). choice t (here_of s p) f (named directives text) true (state_of s p)) (found_some (operation_named table text) op (ap (λ (v : List ℕ). found_of (operation_named table v)) (sym h) ∙ sym j))

      line_directive : None ≡ found_of (operation_named table w) → {d : Maybe Directive} → d ≡ directive_of w → line (fitting table) t (state_of s p) ≡ choice t (here_of s p) none (directive_number d) true (state_of s p)
      line_directive j k = line_word ∙ ap (λ (f : Option ℕ). choice t (here_of s p) f (named directives text) true (state_of s p)) (found_none (operation_named table text) (ap (λ (v : List ℕ). found_of (operation_named table v)) (sym h) ∙ sym j))
          ∙ ap (λ (f : Option ℕ). choice t (here_of s p) none f true (state_of s p)) (directive_is text ∙ ap directive_number (ap directive_of (sym h) ∙ sym k))

      -- by the answers to its key x; a directive is asked for first, and is no operation
      module _ (good : good_table table ≡ true) (small : Bytes w) {x : ℕ} (i : x ≡ key_of (map lower w)) where
        found_by : operation_by table x ≡ operation_named table w
        found_by = operates_by table good w small i

        directive_by_lem : directive_by x ≡ directive_of w
        directive_by_lem = directs_by w small i

        pub key_operation : {op : ℕ} → Some op ≡ found_of (operation_by table x) → line (fitting table) t (state_of s p) ≡ passing (instruction (here_of s p) op) (state_of s p)
        key_operation j = line_operation (j ∙ ap found_of found_by)

        pub key_directive : {d e : Directive} → Some d ≡ directive_by x → d ≡ e → line (fitting table) t (state_of s p) ≡ choice t (here_of s p) none (directive_number (Some e)) true (state_of s p)
        key_directive k q = line_directive (ap found_of (directive_apart table good x (subst Directs k tt) ∙ found_by)) (ap (λ (d : Directive). Some d) (sym q) ∙ k ∙ directive_by_lem)

        pub key_label : None ≡ found_of (operation_by table x) → None ≡ directive_by x → line (fitting table) t (state_of s p) ≡ choice t (here_of s p) none none true (state_of s p)
        key_label j k = line_directive (j ∙ ap found_of found_by) (k ∙ directive_by_lem)

  -- a token that is no word is 20
  no_word : (k v : ℕ) (w : List ℕ) → eqb k 97 ≡ false → word_of (kind_by k v w) ≡ none
  unfolding word_of
  no_word k v w = by_kind (λ n x. eqb n 97 ≡ false → word_of x ≡ none) k v w (λ e. cc) (λ _. refl) (λ _. refl) (λ _. refl) (λ _. refl) (λ _. refl) (λ _. refl) (λ _. refl) (λ _. refl) (λ _ _ _ _ _. refl)

  pub line_else : eqb (kind_number p.kind) 97 ≡ false → line (fitting table) t (state_of s p) ≡ in_line (refuse_here 20) (state_of s p)
  unfolding operation_in name_in is_word
  line_else e = line_is ∙ rw (no_word (kind_number p.kind) p.value text e)

-- `times`, where n more may stand within one another
module _ (table s : List ℕ) (p : Parser) where
  pub times_none : {n : ℕ} → n ≡ 0 → {r : Refusal} → numbers r ≡ numbers_of (at_span 5 p.token_start p.pos) → Denies whole s p (times (fitting table) n) r
  unfolding times
  times_none {n} e h = rw e (lifts_denied (refuses_here 5 h))

  module _ {n k : ℕ} (e : n ≡ suc k) (o : Writer) where
    times_is : times (fitting table) n (state_of s p) ≡ passing (in_line expression >> (skip_lines >> content (fitting table) (times (fitting table) k) (here_of s p))) (state_of s p)
    unfolding times ◌>>=◌ in_line over ahead thence
    times_is = rw e (after_nil _)

    begun : Sofar whole s p (times (fitting table) n) o p (passing (in_line expression >> (skip_lines >> content (fitting table) (times (fitting table) k) (here_of s p)))) o
    begun = becomes (starts whole s p (times (fitting table) n) o) times_is

    past : {q : Parser} → Comes inside s p next q tt → Sofar whole s p (times (fitting table) n) o q (in_line expression >> (skip_lines >> content (fitting table) (times (fitting table) k) (here_of s p))) o
    unfolding passing ◌>>◌
    past h = comes (in_line next) (λ _. in_line expression >> (skip_lines >> content (fitting table) (times (fitting table) k) (here_of s p))) begun (lifts_comes h)

    first_stops : {r : Result Parser Refusal} {x : Refusal} → IsErrAnd r (λ y. y ≡ x) → Denies inside s p next x → Reads whole s p (times (fitting table) n) o o r
    first_stops e h = rw (exits e) (reads_refused (denied begun (word_denied _ h)))

  module _ {n : ℕ} (h : n ≡ 0 → ⊥) (o : Writer) where
    pub times_past : {q : Parser} → Comes inside s p next q tt → Sofar whole s p (times (fitting table) n) o q (in_line expression >> (skip_lines >> content (fitting table) (times (fitting table) (n - 1)) (here_of s p))) o
    times_past = past {n = n} {k = n - 1} (omega (arith, h)) o

    pub times_stops : {r : Result Parser Refusal} {x : Refusal} → IsErrAnd r (λ y. y ≡ x) → Denies inside s p next x → Reads whole s p (times (fitting table) n) o o r
    times_stops = first_stops {n = n} {k = n - 1} (omega (arith, h)) o

-- the content of the `times` that was x
module _ (table : List ℕ) (t : Reader State (Unit {0})) (x : Lexeme) {s : List ℕ} {p : Parser} where
  content_by : {b : Bool} → ends_line p.kind ≡ b → (o : Writer)
      → Sofar whole s p (content (fitting table) t x) o p ((if b then (refuse (at_span 34 x.from x.to)) else (line (fitting table) t)) >> write LT) o
  unfolding content
  content_by e o = becomes (comes (in_line kind) _ (starts whole s p (content (fitting table) t x) o) (lifts_comes is_kind)) (rw (end_is s p ∙ e))

  module _ (o : Writer) where
    pub content_none : ends_line p.kind ≡ true → {r : Refusal} → numbers r ≡ numbers_of (at_span 34 x.from x.to) → Denies whole s p (content (fitting table) t x) r
    unfolding ◌>>◌
    content_none e h = called_denied _ _ (content_by e o) (refuses (at_span 34 x.from x.to) h)

    pub content_denied : ends_line p.kind ≡ false → {r : Refusal} → Denies whole s p (line (fitting table) t) r → Denies whole s p (content (fitting table) t x) r
    unfolding ◌>>◌
    content_denied e h = called_denied _ _ (content_by e o) h

  pub content_reads : ends_line p.kind ≡ false → {o n w : Writer} {q : Parser} → Gives whole s p (line (fitting table) t) o n q tt → Puts (encode LT) n w → Gives whole s p (content (fitting table) t x) o w q tt
  unfolding ◌>>◌
  content_reads e h k = ends (called _ _ (content_by e _) h) (writes LT k)
