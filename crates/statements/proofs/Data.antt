-- Data: the bytes of the literals, one behind the other, and their record.
-- Assumes nothing.
use Prim.Native.Nat.{ℕ, zero, suc, ◌-◌, ◌≤◌, ◌<◌}
use mathlib.Core.Path.{◌≡◌, refl, sym, ap, subst, ◌∙◌}
use mathlib.Core.List.{List, [], ◌∷◌, ◌++◌, append_assoc, append-nil}
use mathlib.Core.Bool.{Bool, true, false, ◌||◌}
use native.Mathlib.Omega.{arith}
use borrow.Author.Tests.{lt-ltb, le-leb, lt-leb}
use lib.Dec.{eqb, ltb}
use lib.ListN.{length, take}
use Rattle.lexer.specs.Text.{is}
use Rattle.rules.specs.Lexemes.{Lexeme}
use Rattle.rules.specs.Records.{LD, field}
use Rattle.rules.specs.Reader.{Cause, at as at_span, Answer, done, refused, Reader, Line, after, thence, ◌>>=◌, ◌>>◌, return, write, refuse, kind, passed, next, refuse_here, numbers_of}
use Rattle.rules.specs.Statements.{largest, fits, State, in_line, line_end, passing, literal_of, literals, some_data, data_of}
use Rattle.lexer.proofs.Branches.{or_split}
use Rattle.lexer.specs.Scanned.{number_of as kind_number}
use Rattle.records.specs.declared.Writer.{Writer}
use Rattle.records.specs.Writers.{Puts, SameBuffer}
use Rattle.records.proofs.Writers.{puts_nothing, puts_follow, same_still, same_put, same_on}
use Rattle.refusals.specs.Refusals.{numbers}
use Rattle.std.specs.Prelude.{Ok, Err}
use Rattle.statements.proofs.Lines.{inside_falls}
use Rattle.state.specs.declared.Parser.{Parser}
use Rattle.refusals.specs.declared.Refusal.{Refusal}
use Rattle.state.specs.Views.{ends_line, kind_by, text_of, state_of, line_of, rows_of, line, whole, Comes, Denies}
use Rattle.statements.specs.Statements.{between, is_some, front, Literal, NoLiteral, ReadsLiteral, literals_from, ReadsLiterals}
use Rattle.state.proofs.Chain.{after_nil, Sofar, comes, becomes, denied, refuses, lifts_comes, is_left}
use Rattle.statements.proofs.Forms.{past_word}
use Rattle.state.proofs.Flat.{by_kind}

-- bytes in front
front_nil : (o : Answer Line (List ℕ)) → front [] o ≡ o
unfolding front thence return after
front_nil (done v b s) = rw (append-nil v)
front_nil (refused r) = refl

front_front : (a b : List ℕ) (o : Answer Line (List ℕ)) → front a (front b o) ≡ front (a ++ b) o
unfolding front thence return after
front_front a b (done v d s) = rw (append-nil (v ++ []), append_assoc a b d)
front_front a b (refused r) = refl

some_append : (a b : List ℕ) → is_some (a ++ b) ≡ (is_some a || is_some b)
some_append [] b = refl
some_append (x ∷ a) b = refl

-- The test of a number's size.
pub within : (width v : ℕ) {m : ℕ} → m ≡ suc (largest width) → v < m → fits width v ≡ true
unfolding fits
within width v e h = le-leb v (largest width) (omega (arith, e, h))

pub beyond : (width v : ℕ) {m : ℕ} → m ≡ suc (largest width) → (v < m → ⊥) → fits width v ≡ false
unfolding fits
beyond width v e h = lt-leb v (largest width) (omega (arith, e, h))

-- The literal ahead, by its byte.
module _ (v : ℕ) (w : List ℕ) (width : ℕ) (others : Reader Line (List ℕ)) (l : Line) where
  comma_is : literal_of fits (kind_by 44 v w) width others l ≡ front [] ((next >> others) l)
  unfolding kind_by literal_of is
  comma_is = sym (front_nil _)

  number_is : fits width v ≡ true → literal_of fits (kind_by 48 v w) width others l ≡ front (take width (field v)) ((next >> others) l)
  unfolding kind_by literal_of front ◌>>=◌
  number_is e = rw e

  wide_is : fits width v ≡ false → literal_of fits (kind_by 48 v w) width others l ≡ refuse_here 60 l
  unfolding kind_by literal_of
  wide_is e = rw e

  string_is : literal_of fits (kind_by 39 v w) width others l ≡ front (between w) ((next >> others) l)
  unfolding kind_by literal_of front ◌>>=◌
  string_is = refl

  open_is : literal_of fits (kind_by 34 v w) width others l ≡ refuse_here 26 l
  unfolding kind_by literal_of
  open_is = refl

  other_is : (k : ℕ) → eqb k 44 ≡ false → eqb k 48 ≡ false → eqb k 39 ≡ false → eqb k 34 ≡ false → eqb k 10 ≡ false → eqb k 0 ≡ false → literal_of fits (kind_by k v w) width others l ≡ refuse_here 15 l
  unfolding literal_of is
  other_is k = by_kind (λ n x. eqb n 44 ≡ false → eqb n 48 ≡ false → eqb n 39 ≡ false → eqb n 34 ≡ false → eqb n 10 ≡ false → eqb n 0 ≡ false → literal_of fits x width others l ≡ refuse_here 15 l) k v w
      (λ _ _ _ _ _ _. refl) (λ _ e _ _ _ _. cc) (λ _ _ e _ _ _. cc) (λ _ _ _ e _ _. cc) (λ _ _ _ _ e _. cc) (λ _ _ _ _ _ e. cc) (λ _ _ _ _ _ _. refl) (λ _ _ _ _ _ _. refl) (λ _ _ _ _ _ _. refl) (λ _ _ _ _ e _ _ _ _ _. rw e)

  end_is : (k : ℕ) → (eqb k 10 || eqb k 0) ≡ true → literal_of fits (kind_by k v w) width others l ≡ done [] [] l
  unfolding literal_of return
  end_is k = by_kind (λ n x. (eqb n 10 || eqb n 0) ≡ true → literal_of fits x width others l ≡ done [] [] l) k v w (λ e. cc) (λ e. cc) (λ e. cc) (λ e. cc) (λ _. refl) (λ _. refl) (λ e. cc) (λ e. cc) (λ e. cc)
      (λ _ _ a b e. let z : ◌≡◌ {A = Bool} false true = rw (a, b) at e in cc)

some_number : (v width : ℕ) → 1 ≤ width → true ≡ is_some (take width (field v))
unfolding field
some_number v zero h = absurd (omega arith)
some_number v (suc n) h = refl

pub some_between : (w : List ℕ) → ltb 2 (length w) ≡ is_some (between w)
some_between [] = refl
some_between (a ∷ []) = refl
some_between (a ∷ b ∷ []) = refl
some_between (a ∷ b ∷ c ∷ w) =
    let e : suc (suc (suc (length w))) - 2 ≡ suc (length w) = omega arith in
    rw e (lt-ltb 2 (suc (suc (suc (length w)))) (omega arith))

module _ (s : List ℕ) (p : Parser) (width : ℕ) where
  abbrev text : List ℕ
  text = text_of s p.token_start p.pos

  abbrev of : ℕ → Reader Line (List ℕ) → Answer Line (List ℕ)
  of k others = literal_of fits (kind_by k p.value text) width others (line_of s p)

  pub is_comma : (o : Writer) → kind_number p.kind ≡ 44 → Literal s p width o o false
  is_comma o e = record { ds = []; reads = λ others. ap (λ (k : ℕ). of k others) e ∙ comma_is p.value text width others (line_of s p); puts = puts_nothing o; is_some_lem = refl }

  module _ {o n : Writer} where
    pub is_number : kind_number p.kind ≡ 48 → fits width p.value ≡ true → 1 ≤ width → Puts (take width (field p.value)) o n → ReadsLiteral s p width o n (Ok true)
    is_number e f h k = record {
      so = record { ds = take width (field p.value); reads = λ others. ap (λ (k : ℕ). of k others) e ∙ number_is p.value text width others (line_of s p) f; puts = k; is_some_lem = some_number p.value width h };
      lent = same_put k;
    }

    pub is_string : kind_number p.kind ≡ 39 → {t : List ℕ} → t ≡ text → Puts (between t) o n → ReadsLiteral s p width o n (Ok (ltb 2 (length t)))
    is_string e f k = record {
      so = rw f (record { ds = between text; reads = λ others. ap (λ (k : ℕ). of k others) e ∙ string_is p.value text width others (line_of s p); puts = rw f at k; is_some_lem = some_between text });
      lent = same_put k;
    }

  -- refused on the token ahead
  module _ {o : Writer} {r : Refusal} where
    refused_by : (n : ℕ) → ((others : Reader Line (List ℕ)) → of (kind_number p.kind) others ≡ refuse_here n (line_of s p)) → numbers r ≡ numbers_of (at_span n p.token_start p.pos) → ReadsLiteral s p width o o (Err r)
    unfolding refuse_here
    refused_by n e h = record { so = record { cause = at_span n p.token_start p.pos; reads = e; by_numbers = h }; lent = same_still o }

    pub is_wide : kind_number p.kind ≡ 48 → fits width p.value ≡ false → numbers r ≡ numbers_of (at_span 60 p.token_start p.pos) → ReadsLiteral s p width o o (Err r)
    is_wide e f h = refused_by 60 (λ others. ap (λ (k : ℕ). of k others) e ∙ wide_is p.value text width others (line_of s p) f) h

    pub is_open_lem : kind_number p.kind ≡ 34 → numbers r ≡ numbers_of (at_span 26 p.token_start p.pos) → ReadsLiteral s p width o o (Err r)
    is_open_lem e h = refused_by 26 (λ others. ap (λ (k : ℕ). of k others) e ∙ open_is p.value text width others (line_of s p)) h

    pub is_other : eqb (kind_number p.kind) 44 ≡ false → eqb (kind_number p.kind) 48 ≡ false → eqb (kind_number p.kind) 39 ≡ false → eqb (kind_number p.kind) 34 ≡ false → ends_line p.kind ≡ false
        → numbers r ≡ numbers_of (at_span 15 p.token_start p.pos) → ReadsLiteral s p width o o (Err r)
    is_other a b c d e h = let f = or_split _ _ e in refused_by 15 (λ others. other_is p.value text width others (line_of s p) (kind_number p.kind) a b c d f.0 f.1) h

  literals_is : literals_from s p width (line_of s p) ≡ of (kind_number p.kind) (literals fits (length (line_of s p).more) width)
  unfolding literals ◌>>=◌ kind thence
  literals_is = after_nil _

  -- behind a literal the others follow from the next token
  module _ {o n : Writer} {some : Bool} (h : Literal s p width o n some) where
    turn_is : (q : Parser) → ends_line p.kind ≡ false → Comes line s p next q tt → literals_from s p width (line_of s p) ≡ front h.ds (literals_from s q width (line_of s q))
    unfolding ◌>>◌ ◌>>=◌ thence
    turn_is q e k =
        literals_is ∙ h.reads (literals fits (length (line_of s p).more) width)
        ∙ ap (λ (o : Answer Line (Unit {0})). front h.ds (thence o (λ _. literals fits (length (line_of s p).more) width))) k.reads
        ∙ ap (front h.ds) (after_nil (literals fits (length (line_of s p).more) width (line_of s q)))
        ∙ ap (λ (n : ℕ). front h.ds (literals fits n width (line_of s q))) (inside_falls e k)

    turn_denied : {c : Cause} → next (line_of s p) ≡ refused c → literals_from s p width (line_of s p) ≡ refused c
    unfolding ◌>>◌ ◌>>=◌ thence front
    turn_denied k = literals_is ∙ h.reads (literals fits (length (line_of s p).more) width) ∙ ap (λ (o : Answer Line (Unit {0})). front h.ds (thence o (λ _. literals fits (length (line_of s p).more) width))) k

  pub literals_end : ends_line p.kind ≡ true → literals_from s p width (line_of s p) ≡ done [] [] (line_of s p)
  literals_end e = literals_is ∙ end_is p.value text width _ (line_of s p) (kind_number p.kind) e

-- The literals from p on have come to q: the bytes bs are put, and those from q on follow.
pub record Front (s : List ℕ) (p : Parser) (width : ℕ) (o : Writer) (q : Parser) (some : Bool) (n : Writer) : Type 0 where
  pub bs : List ℕ
  pub reads : literals_from s p width (line_of s p) ≡ front bs (literals_from s q width (line_of s q))
  pub kept : rows_of s q ≡ rows_of s p
  pub puts : Puts bs o n
  pub is_some_lem : some ≡ is_some bs

pub front_starts : (s : List ℕ) (p : Parser) (width : ℕ) (o : Writer) → Front s p width o p false o
front_starts s p width o = record { bs = []; reads = sym (front_nil _); kept = refl; puts = puts_nothing o; is_some_lem = refl }

module _ {s : List ℕ} {p : Parser} {width : ℕ} {o : Writer} {q : Parser} {some : Bool} {n : Writer} (so : Front s p width o q some n) where
  pub front_ends : ends_line q.kind ≡ true → ReadsLiterals s p width o n (Ok (q, some))
  unfolding front thence return after
  front_ends e = record {
    so = record {
      ds = so.bs;
      comes = record { reads = so.reads ∙ ap (front so.bs) (literals_end s q width e) ∙ rw (append-nil so.bs); kept = so.kept };
      puts = so.puts;
      is_some_lem = so.is_some_lem;
    };
    lent = same_put so.puts;
  }

  pub front_refused : {w : Writer} → SameBuffer n w → {r : Refusal} → NoLiteral s q width r → ReadsLiterals s p width o w (Err r)
  unfolding front thence
  front_refused l h = record {
    so = record { cause = h.cause; reads = so.reads ∙ ap (front so.bs) (literals_is s q width ∙ h.reads _); by_numbers = h.by_numbers };
    lent = same_on (same_put so.puts) l;
  }

  module _ {w : Writer} {more : Bool} (h : Literal s q width n w more) where
    pub front_turns : ends_line q.kind ≡ false → {q₂ : Parser} → Comes line s q next q₂ tt → Front s p width o q₂ (some || more) w
    front_turns e {q₂} k = record {
      bs = so.bs ++ h.ds;
      reads = so.reads ∙ ap (front so.bs) (turn_is s q width h q₂ e k) ∙ front_front so.bs h.ds _;
      kept = k.kept ∙ so.kept;
      puts = puts_follow so.bs h.ds so.puts h.puts;
      is_some_lem = rw (so.is_some_lem, h.is_some_lem) (sym (some_append so.bs h.ds));
    }

    pub front_stops : {r : Refusal} → Denies line s q next r → ReadsLiterals s p width o w (Err r)
    unfolding front thence
    front_stops k = record {
      so = record { cause = k.cause; reads = so.reads ∙ ap (front so.bs) (turn_denied s q width h k.reads); by_numbers = k.by_numbers };
      lent = same_on (same_put so.puts) (same_put h.puts);
    }

or_none : (b : Bool) → (b || false) ≡ b
or_none true = refl
or_none false = refl

-- A comma says nothing, and is passed.
module _ {s : List ℕ} {p : Parser} {width : ℕ} {o : Writer} {q : Parser} {some : Bool} {n : Writer} (so : Front s p width o q some n) (e : kind_number q.kind ≡ 44) where
  pub comma_inside : ends_line q.kind ≡ false
  comma_inside = ap (λ (k : ℕ). eqb k 10 || eqb k 0) e

  pub comma_turns : {q₂ : Parser} → Comes line s q next q₂ tt → Front s p width o q₂ some n
  comma_turns {q₂} k = subst (λ (b : Bool). Front s p width o q₂ b n) (or_none some) (front_turns so (is_comma s q width n e) comma_inside k)

  pub comma_stops : {r : Refusal} → Denies line s q next r → ReadsLiterals s p width o n (Err r)
  comma_stops k = front_stops so (is_comma s q width n e) k

-- Data, whose word was x: past it, and past its literals.
module _ {s : List ℕ} {p q : Parser} (x : Lexeme) (width : ℕ) (o : Writer) (h : Comes line s p next q tt) where
  pub data_begun : Sofar whole s p (passing (data_of fits x width)) o q (in_line (literals_from s q width) >>= some_data x) o
  unfolding data_of
  data_begun = comes _ _ (past_word _ o h) (lifts_comes is_left)

  pub data_read : {q₂ : Parser} {ds : List ℕ} → Comes line s q (literals_from s q width) q₂ ds → Sofar whole s p (passing (data_of fits x width)) o q₂ (some_data x ds) o
  data_read k = comes _ _ data_begun (lifts_comes k)

-- The record of data, whose word was x; 23 where there are none.
module _ {s : List ℕ} {p q : Parser} {m : Reader State (Unit {0})} {o n : Writer} (x : Lexeme) (ds : List ℕ) (so : Sofar whole s p m o q (some_data x ds) n) where
  pub data_some : is_some ds ≡ true → Sofar whole s p m o q (in_line passed >>= λ t. line_end >> write (LD x.from t ds)) n
  unfolding some_data
  data_some e = becomes so (go ds e)
    where
      go : (ds : List ℕ) → is_some ds ≡ true → some_data x ds (state_of s q) ≡ (in_line passed >>= λ t. line_end >> write (LD x.from t ds)) (state_of s q)
      go [] e = cc
      go (b ∷ bs) e = refl

  pub data_none : is_some ds ≡ false → {r : Refusal} → numbers r ≡ numbers_of (at_span 23 x.from x.to) → Denies whole s p m r
  unfolding some_data
  data_none e f = denied (becomes so (go ds e)) (refuses (at_span 23 x.from x.to) f)
    where
      go : (ds : List ℕ) → is_some ds ≡ false → some_data x ds (state_of s q) ≡ refuse (at_span 23 x.from x.to) (state_of s q)
      go [] e = refl
      go (b ∷ bs) e = cc
