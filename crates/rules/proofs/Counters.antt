-- The counters of the definitions are enough: each round of a loop passes a token, and behind the last there is none.
use Rattle.std.specs.Prelude.{if◌then◌else◌}
use mathlib.Core.Path.{◌≡◌, refl, sym, ap, ◌∙◌}
use mathlib.Core.Bool.{Bool, true, false, true≢false}
use mathlib.Core.List.{List, [], ◌∷◌, ◌++◌}
use mathlib.Core.Option.{Option, none, some}
use Prim.Native.Nat.{ℕ, zero, suc, ◌+◌, ◌≤◌, ◌<◌}
use native.Mathlib.Omega.{arith}
use lib.Dec.{ltb}
use lib.ListN.{length, take}
use Rattle.lexer.specs.Text.{maybe, is}
use Rattle.rules.specs.Lexemes.{Kind, word, number, quoted, mark, newline, blank, comment, invalid, end, bad, Lexeme, tokens_from, name_in, text_of}
use Rattle.names.specs.Names.{registers, segments, sizes}
use Rattle.rules.specs.Records.{IN, field}
use Rattle.rules.specs.Reader.{Cause, Answer, done, refused, Reader, Line, after, thence, ◌>>=◌, ◌>>◌, return, write, step, next, ahead, kind, passed, is_mark, is_line_end}
use Rattle.rules.specs.Expressions.{operator_of, left_level, right_level, infixes, expr}
use Rattle.rules.specs.Operands.{immediate_or_far, memory, operand_sized}
use Rattle.rules.specs.Statements.{Profile, rows, over, in_line, literal_of, literals, read_rows}
use Rattle.rules.specs.Grammar.{LineOf}
use Rattle.rules.specs.Claims.{CountersSuffice}
use Rattle.rules.proofs.Grammar.{line_ended}
use Rattle.rules.proofs.TokenKinds.{operator_inside}
use Rattle.rules.proofs.Move.{Mild, Any, Stays, arrived, same, expr_shifts}
use Rattle.rules.proofs.Append.{after_nil}
use Rattle.rules.proofs.Progress.{Ended, size, Below, closed, next_falls}
use Rattle.rules.proofs.Cut.{rows_from, begins_only, gives, gives_with}

-- Two readers agree where the one before them leaves P.
thence_same : {S A B : Type 0} (P : S → Type 0) (M : Cause → Type 0) (k k' : A → Reader S B) → ((a : A) (s : S) → P s → k a s ≡ k' a s) → (p : Answer S A) → Stays P M p → thence p k ≡ thence p k'
unfolding thence
thence_same P M k k' e (done w a s) h = ap (after w) (e a s h)
thence_same P M k k' e (refused r) h = refl

-- Two readers agree on a state; so do those that are made of such.
record Agree {S A : Type 0} (s : S) (m m' : Reader S A) : Type 0 where
  law : m s ≡ m' s

module _ {S A : Type 0} {s : S} where
  itself : (m : Reader S A) → Agree s m m
  itself m = record { law = refl }

  whether : (c : Bool) {m m' k k' : Reader S A} → Agree s m m' → Agree s k k' → Agree s (if c then m else k) (if c then m' else k')
  whether true h i = h
  whether false h i = i

  perhaps : {B : Type 0} (o : Option B) {m m' : Reader S A} {k k' : B → Reader S A} → Agree s m m' → ((b : B) → Agree s (k b) (k' b)) → Agree s (maybe o m k) (maybe o m' k')
  perhaps none h i = h
  perhaps (some b) h i = i b

-- `infixes`: at most n tokens are left, the last of which ends the line.
abbrev Within : ℕ → Line → Type 0
Within n l = Below n (record { line = l; below = [] })

within_ends : (l : Line) → Within 0 l → is_line_end l.here.kind ≡ true
unfolding size
within_ends l b = go l.more b.few b.ended
  where
    go : (xs : List Lexeme) → length xs + 0 ≤ 0 → Ended l.here xs → is_line_end l.here.kind ≡ true
    go [] h e = e
    go (x ∷ xs) h e = absurd (never h)
      where
        never : suc (length xs) + 0 ≤ 0 → ⊥
        never k = omega arith

next_within : (n : ℕ) (l : Line) → Within (suc n) l → is_line_end l.here.kind ≡ false → Stays (Within n) Any (next l)
unfolding in_line over
next_within n l b i = go (next l) (next_falls (suc n) l.last l.here l.more [] b i)
  where
    go : (p : Answer Line (Unit {0})) → Stays (Below n) Any (over [] p) → Stays (Within n) Any p
    go (done w a t) h = h
    go (refused r) h = tt

module _ (d : ℕ) where
  abbrev onward : ℕ → ℕ → ℕ → ℕ → Reader Line (Unit {0})
  onward n level f op = expr d (right_level op) >> (passed >>= (λ t. write (IN f t op) >> infixes n (expr d) level f))

  -- An infix operator that is not an operator's or not of the level: no round.
  infixes_at : (n level f : ℕ) (l : Line) → infixes (suc n) (expr d) level f l
      ≡ maybe {B = Reader Line (Unit {0})} (operator_of l.here.kind) (return tt) (λ op. if ltb (left_level op) level then (return tt) else (next >> onward n level f op)) l
  unfolding infixes kind ◌>>=◌ thence
  infixes_at n level f l = after_nil _

  infixes_end : (n level f : ℕ) (l : Line) → operator_of l.here.kind ≡ none → infixes n (expr d) level f l ≡ done [] tt l
  unfolding infixes return
  infixes_end zero level f l h = refl
  infixes_end (suc n) level f l h = infixes_at n level f l ∙ rw h

  no_operator_lem : (k : Kind) → is_line_end k ≡ true → operator_of k ≡ none
  no_operator_lem k h = go (operator_of k) refl
    where
      go : (o : Option ℕ) → operator_of k ≡ o → o ≡ none
      go none e = refl
      go (some op) e = absurd (true≢false (sym h ∙ operator_inside k op e))

  onward_same : (n m level f op : ℕ) → ((t : Line) → Within n t → infixes m (expr d) level f t ≡ infixes n (expr d) level f t)
      → (l : Line) → Stays (Within n) Any (next l) → Agree l (next >> onward m level f op) (next >> onward n level f op)
  unfolding ◌>>=◌ ◌>>◌ thence write passed
  onward_same n m level f op again l i = record {
    law = thence_same (Within n) Any (λ _. onward m level f op) (λ _. onward n level f op)
        (λ _ t j. thence_same (Within n) Mild _ _ (λ _ u k. ap (λ (p : Answer Line (Unit {0})). after [] (after (IN f u.last op ∷ []) p)) (again u k))
        (expr d (right_level op) t) ((expr_shifts same (Within n) (λ u k. closed n u [] k) d (right_level op)).keeps t j)) (next l) i;
  }

  infixes_same : (n m level f : ℕ) (l : Line) → n ≤ m → Within n l → infixes m (expr d) level f l ≡ infixes n (expr d) level f l
  infixes_same zero m level f l h b =
      let e : operator_of l.here.kind ≡ none = no_operator_lem l.here.kind (within_ends l b) in
      infixes_end m level f l e ∙ sym (infixes_end 0 level f l e)
  infixes_same (suc n) zero level f l h b = absurd (omega arith)
  infixes_same (suc n) (suc m) level f l h b = infixes_at m level f l ∙ go (operator_of l.here.kind) refl (λ t j. infixes_same n m level f t (omega arith) j) ∙ sym (infixes_at n level f l)
    where
      round : ℕ → ℕ → Reader Line (Unit {0})
      round k op = if ltb (left_level op) level then (return tt) else (next >> onward k level f op)

      go : (o : Option ℕ) → operator_of l.here.kind ≡ o → ((t : Line) → Within n t → infixes m (expr d) level f t ≡ infixes n (expr d) level f t)
          → maybe {B = Reader Line (Unit {0})} o (return tt) (round m) l ≡ maybe {B = Reader Line (Unit {0})} o (return tt) (round n) l
      go none e again = refl
      go (some op) e again = (whether (ltb (left_level op) level) (itself (return tt)) (onward_same n m level f op again l (next_within n l b (operator_inside l.here.kind op e)))).law

-- The last token of a line of a source ends it.
line_within : {p : ℕ} {s : List ℕ} {l : Line} → LineOf p s l → Within (length l.more) l
unfolding size
line_within h = record { few = omega arith; ended = line_ended h; others = tt }

-- `operand_sized` and `literals`: n is more than the tokens behind the one ahead, and where none is left behind it, `next` comes to a line end.
abbrev end_line : ℕ → Line
end_line p = record { last = p; here = record { from = p; to = p; kind = newline }; more = [] }

next_same : {A : Type 0} (R R' : Reader Line A) (l : Line) → R (end_line l.here.to) ≡ R' (end_line l.here.to)
    → ((t : Line) → length t.more < length l.more → R t ≡ R' t) → Agree l (next >> R) (next >> R')
unfolding next step thence ◌>>◌ ◌>>=◌
next_same R R' l e again = record { law = go l.more again }
  where
    go : (xs : List Lexeme) → ((t : Line) → length t.more < length xs → R t ≡ R' t) → thence (step xs l) (λ _. R) ≡ thence (step xs l) (λ _. R')
    go [] again = ap (after []) e
    go (x ∷ xs) again = arrived (λ (p : Answer Line (Unit {0})). thence p (λ _. R) ≡ thence p (λ _. R')) x (λ n i. refl) (ap (after []) (again _ (omega arith)))

operands_end : (n size p : ℕ) → operand_sized n size (end_line p) ≡ immediate_or_far (end_line p)
unfolding operand_sized ahead ◌>>=◌ thence is_mark name_in text_of
operands_end zero size p = refl
operands_end (suc n) size p = after_nil _

operands_same : (n m size : ℕ) (l : Line) → n ≤ m → length l.more < n → operand_sized m size l ≡ operand_sized n size l
unfolding operand_sized ahead ◌>>=◌ thence
operands_same zero m size l h b = absurd (omega arith)
operands_same (suc n) zero size l h b = absurd (omega arith)
operands_same (suc n) (suc m) size l h b = ap (after []) (whether (is_mark "[" k) (itself (memory size)) (perhaps (name_in registers k) (perhaps (name_in segments k) (perhaps (name_in sizes k) (itself immediate_or_far)
    (λ z. next_same (operand_sized m (suc z)) (operand_sized n (suc z)) l (operands_end m (suc z) p ∙ sym (operands_end n (suc z) p)) (λ t i. operands_same n m (suc z) t (omega arith) (omega arith))))
    (λ z. itself _)) (λ z. itself _))).law
  where
    k : Kind
    k = l.here.kind

    p : ℕ
    p = l.here.to

-- the literals, whichever numbers are taken
module _ (takes : ℕ → ℕ → Bool) where
  literals_end : (n width p : ℕ) → literals takes n width (end_line p) ≡ done [] [] (end_line p)
  unfolding literals literal_of kind ◌>>=◌ thence return after
  literals_end zero width p = refl
  literals_end (suc n) width p = refl

  literal_of_same : (k : Kind) (width : ℕ) (R R' : Reader Line (List ℕ)) (l : Line) → Agree l (next >> R) (next >> R') → Agree l (literal_of takes k width R) (literal_of takes k width R')
  unfolding literal_of ◌>>=◌
  literal_of_same newline width R R' l h = itself _
  literal_of_same end width R R' l h = itself _
  literal_of_same (mark c) width R R' l h = whether (is "," c) h (itself _)
  literal_of_same (quoted b s) width R R' l h = whether b (record { law = ap (λ (p : Answer Line (List ℕ)). thence p (λ ds. return (s ++ ds))) h.law }) (itself _)
  literal_of_same (number v) width R R' l h = whether (takes width v) (record { law = ap (λ (p : Answer Line (List ℕ)). thence p (λ ds. return (take width (field v) ++ ds))) h.law }) (itself _)
  literal_of_same (word w) width R R' l h = itself _
  literal_of_same blank width R R' l h = itself _
  literal_of_same comment width R R' l h = itself _
  literal_of_same invalid width R R' l h = itself _
  literal_of_same (bad r) width R R' l h = itself _

  literals_same : (n m width : ℕ) (l : Line) → n ≤ m → length l.more < n → literals takes m width l ≡ literals takes n width l
  unfolding literals literal_of kind ◌>>=◌ thence
  literals_same zero m width l h b = absurd (omega arith)
  literals_same (suc n) zero width l h b = absurd (omega arith)
  literals_same (suc n) (suc m) width l h b = ap (after []) (literal_of_same l.here.kind width (literals takes m width) (literals takes n width) l
      (next_same (literals takes m width) (literals takes n width) l (literals_end m width l.here.to ∙ sym (literals_end n width l.here.to)) (λ t i. literals_same n m width t (omega arith) (omega arith)))).law

statements_same : (profile : Profile) (p : ℕ) (s : List ℕ) (n : ℕ) → suc (length s) ≤ n → read_rows profile n (rows (tokens_from p 0 s)) ≡ read_rows profile (suc (length s)) (rows (tokens_from p 0 s))
unfolding rows_from
statements_same profile p s zero h = absurd (omega arith)
statements_same profile p s (suc n) h = begins_only profile (gives_with profile p s n (omega arith)) (gives profile p s)

-- THE COUNTERS ARE ENOUGH.
pub counters_suffice : (profile : Profile) → CountersSuffice profile
counters_suffice profile = record {
  of_infixes = λ {p} {s} {l} r n d level f h. infixes_same d (length l.more) n level f l h (line_within r);
  of_operands = λ l n size h. operands_same (suc (length l.more)) n size l h (omega arith);
  of_literals = λ l n width h. literals_same profile.takes (suc (length l.more)) n width l h (omega arith);
  of_statements = λ p s n h. statements_same profile p s n h;
}
