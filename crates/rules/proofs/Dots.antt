-- Dots in names. Where none follows a name directly, both rules give the same tokens; where one does, the old rule gives a dot, which no reading
-- accepts.
use Rattle.std.specs.Prelude.{if◌then◌else◌}
use mathlib.Core.Path.{◌≡◌, refl, ◌∙◌}
use mathlib.Core.Bool.{Bool, true, false, true≢false, false≢true}
use mathlib.Core.List.{List, [], ◌∷◌}
use mathlib.Core.Logic.{⊎_elim}
use mathlib.Core.Option.{Option, none, some}
use Prim.Native.Nat.{ℕ, zero, suc, pred}
use Prim.Native.Char.{code}
use lib.ListN.{length, get_or}
use borrow.Author.Tests.{eqb-true}
use Rattle.lexer.specs.Text.{maybe, is, is_letter, run}
use Rattle.lexer.specs.Tokens.{suffixed, token_with, token_at, size_of, open_tokens}
use Rattle.lexer.specs.Dots.{is_plain_part, plain_token, dot_follows}
use Rattle.lexer.specs.declared.TokenRead.{TokenRead}
use Rattle.lexer.proofs.Branches.{either, and_split}
use Rattle.lexer.proofs.Dots.{name_with, dotted_names}
use Rattle.lexer.proofs.Runs.{one_of}
use Rattle.rules.specs.Lexemes.{kind_of, Lexeme, is_gap, lexeme, put, tokens_by, open_lexemes}
use Rattle.rules.specs.Records.{Record}
use Rattle.rules.specs.Reader.{Cause, at, nowhere, Answer, is_mark, is_line_end}
use Rattle.rules.specs.Statements.{Profile, Row, State, push, rows, outcome, read_rows}
use Rattle.rules.specs.Calls.{Result, gives, refuses, unless, too_long, foreign, ascii, lent, listed, full_read}
use Rattle.rules.specs.ByRule.{full_by, somewhere}
use Rattle.rules.specs.Dots.{dot_behind_name, SameWithoutDots, OnlyRefused, starts_with_dot, lone_dot, LoneDotsRefused}
use Rattle.rules.proofs.TokenKinds.{mark_inside}
use Rattle.rules.proofs.Cut.{tokens_finished, tokens_count, begins_with}
use Rattle.rules.proofs.ByRule.{by_rule, same_without}
use Rattle.rules.proofs.DotsStay.{here, further, Beneath, first, later, Denied, begins_denied}

-- A dot among tokens.
pub data HasDot : List Lexeme → Type 0 where
  head : {x : Lexeme} {xs : List Lexeme} → is_mark "." x.kind ≡ true → HasDot (x ∷ xs)
  tail : {x : Lexeme} {xs : List Lexeme} → HasDot xs → HasDot (x ∷ xs)

put_dot : (p : ℕ) (t : TokenRead) (s : List ℕ) (xs : List Lexeme) → HasDot xs → HasDot (put p t s xs)
unfolding put
put_dot p t s xs h = either HasDot (is_gap (kind_of t s)) xs (lexeme p t s ∷ xs) h (tail h)

-- A dot that begins a token is one, by both rules.
dot_token : (p c : ℕ) (cs : List ℕ) (xs : List Lexeme) → is "." c ≡ true → HasDot (put p (token_at (c ∷ cs)) (c ∷ cs) xs)
unfolding open_lexemes is_mark is
dot_token p c cs xs h = rw (eqb-true c (code ".") h) (head refl)

-- By the base rules' names (RULES 14.1), however a number without a prefix is read.
module _ (unprefixed : ℕ → List ℕ → TokenRead) where
  abbrev plain : List ℕ → TokenRead
  plain s = token_with is_plain_part unprefixed s

  plain_dot : (c : ℕ) (cs : List ℕ) → is "." c ≡ true → plain (c ∷ cs) ≡ token_at (c ∷ cs)
  unfolding open_tokens is
  plain_dot c cs h = rw (eqb-true c (code ".") h)

  -- The byte behind k others is a dot.
  dot_ahead : (p k : ℕ) (cs : List ℕ) → is "." (get_or cs k 0) ≡ true → HasDot (tokens_by plain p k cs)
  unfolding tokens_by is
  dot_ahead p zero [] h = absurd (false≢true h)
  dot_ahead p (suc k) [] h = absurd (false≢true h)
  dot_ahead p zero (c ∷ cs) h = rw (plain_dot c cs h) (dot_token p c cs _ h)
  dot_ahead p (suc k) (c ∷ cs) h = dot_ahead (suc p) k cs h

  name_dotted : (p c : ℕ) (cs : List ℕ) → dot_follows (c ∷ cs) ≡ true → HasDot (tokens_by plain (suc p) (pred (size_of (plain (c ∷ cs)))) cs)
  unfolding dot_follows
  name_dotted p c cs e =
      let (l, d) = and_split (is_letter c) _ e in
      rw (name_with is_plain_part unprefixed c cs l) (dot_ahead (suc p) (run is_plain_part cs) cs d)

  pub tokens_dotted : (p k : ℕ) (s : List ℕ) → somewhere plain dot_follows k s ≡ true → HasDot (tokens_by plain p k s)
  unfolding tokens_by somewhere
  tokens_dotted p k [] h = absurd (false≢true h)
  tokens_dotted p (suc k) (c ∷ cs) h = tokens_dotted (suc p) k cs h
  tokens_dotted p zero (c ∷ cs) h =
      put_dot p (plain (c ∷ cs)) (c ∷ cs) _ (⊎_elim (name_dotted p c cs) (λ i. tokens_dotted (suc p) _ cs i) (one_of (dot_follows (c ∷ cs)) _ h))

-- A dot that starts a token.
tokens_lone : (p k : ℕ) (s : List ℕ) → lone_dot k s ≡ true → HasDot (tokens_by token_at p k s)
unfolding tokens_by somewhere starts_with_dot
tokens_lone p k [] h = absurd (false≢true h)
tokens_lone p (suc k) (c ∷ cs) h = tokens_lone (suc p) k cs h
tokens_lone p zero (c ∷ cs) h =
    ⊎_elim (dot_token p c cs _) (λ i. put_dot p (token_at (c ∷ cs)) (c ∷ cs) _ (tokens_lone (suc p) _ cs i)) (one_of (is "." c) _ h)

-- In rows.
push_head : (x : Lexeme) (l : List Row) → is_mark "." x.kind ≡ true → Beneath (push x l)
unfolding push
push_head x [] h = first (here h)
push_head x (r ∷ rs) h = first (here h)

push_tail : (x : Lexeme) {l : List Row} → is_line_end x.kind ≡ false → Beneath l → Beneath (push x l)
unfolding push
push_tail x e (first d) = first (further e d)
push_tail x e (later b) = later b

rows_dotted : {xs : List Lexeme} → HasDot xs → Beneath (rows xs)
unfolding rows
rows_dotted (head {x} {xs} h) = rw (mark_inside "." x.kind h) (push_head x (rows xs) h)
rows_dotted (tail {x} {xs} h) = go (is_line_end x.kind) refl (rows_dotted h)
  where
    go : (b : Bool) → is_line_end x.kind ≡ b → Beneath (rows xs) → Beneath (if b then (record { first = x; more = [] } ∷ rows xs) else (push x (rows xs)))
    go true e i = later i
    go false e i = push_tail x e i

module _ (profile : Profile) where
  -- NOTHING ELSE CHANGES.
  pub same_without_dots : SameWithoutDots profile
  same_without_dots = same_without plain_token dot_follows dotted_names.others profile

  -- What the reading refuses the call refuses.
  lent_denied : (source : List ℕ) (room : ℕ) (a : Answer State (Unit {0})) → Denied profile a → (r : Cause) × (lent source (listed room (outcome a)) ≡ refuses r)
  unfolding lent unless ascii listed outcome
  lent_denied source room a (r, e) = rw e (go (too_long source) (foreign 0 source))
    where
      go : (b : Bool) (o : Option ℕ)
          → (c : Cause) × (◌≡◌ {A = Result (List Record)} (if b then (refuses (nowhere 1)) else (maybe o (refuses r) (λ p. refuses (at 2 p (suc p))))) (refuses c))
      go true o = (nowhere 1, refl)
      go false none = (r, refl)
      go false (some p) = (at 2 p (suc p), refl)

  -- A dot among the tokens is refused, whatever their rule.
  pub has_dot_refused : (rule : List ℕ → TokenRead) (source : List ℕ) (room : ℕ) → HasDot (tokens_by rule 0 0 source) → (r : Cause) × (full_by rule profile source room ≡ refuses r)
  unfolding full_by
  has_dot_refused rule source room h =
      let xs : List Lexeme = tokens_by rule 0 0 source in
      lent_denied source room (read_rows profile (suc (length source)) (rows xs))
      (begins_denied profile (begins_with profile xs (length source) (tokens_finished rule 0 0 source) (tokens_count rule 0 0 source)) (rows_dotted h))

  dot_refused : (source : List ℕ) (room : ℕ) → dot_behind_name 0 source ≡ true → (r : Cause) × (full_by plain_token profile source room ≡ refuses r)
  unfolding plain_token
  dot_refused source room h = has_dot_refused plain_token source room (tokens_dotted suffixed 0 0 source h)

  -- A LONE DOT IS REFUSED.
  pub lone_dots_refused : LoneDotsRefused profile
  lone_dots_refused = record { of_full_read = λ source room h. let (r, e) = has_dot_refused token_at source room (tokens_lone 0 0 source h) in (r, (by_rule profile).of_full_read source room ∙ e) }

  -- ONLY SOURCES THAT WERE REFUSED CHANGE.
  pub only_refused : OnlyRefused profile
  only_refused = record { accepted = λ source before room w h. kept source before room w h (dot_behind_name 0 source) refl; refused = dot_refused }
    where
      kept : (source : List ℕ) (before room : ℕ) (w : List Record) → full_by plain_token profile source before ≡ gives w → (b : Bool) → dot_behind_name 0 source ≡ b
          → full_read profile source room ≡ full_by plain_token profile source room
      kept source before room w h true e = let (r, i) = dot_refused source before e in absurd (true≢false cc)
      kept source before room w h false e = same_without_dots.of_full_read source room e
