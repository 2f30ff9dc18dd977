-- A logic of readers. Each record that is written takes something that no reader sees one step on: the stack that the listing's check keeps,
-- the number of bytes written. `Triple Step P m Q`: from P, m's records lead to Q, or m refuses. It is closed under what readers are made
-- of, so each reader's proof follows its text.
use Rattle.std.specs.Prelude.{if◌then◌else◌}
use mathlib.Core.Path.{◌≡◌, refl}
use mathlib.Core.Bool.{Bool, true, false}
use mathlib.Core.List.{List, [], ◌∷◌, ◌++◌}
use mathlib.Core.Option.{Option, none, some}
use Prim.Native.Nat.{ℕ}
use lib.ListN.{length}
use Rattle.lexer.specs.Text.{maybe}
use Rattle.rules.specs.Lexemes.{Kind, Lexeme}
use Rattle.rules.specs.Records.{Record}
use Rattle.rules.specs.Reader.{Cause, Answer, done, refused, Reader, Line, after, thence, ◌>>=◌, ◌>>◌, return, write, refuse, or_back, attempt, arrive, ahead, kind, passed, left, refuse_here}
use Rattle.rules.specs.Statements.{Row, State, over, in_line}
use Rattle.rules.proofs.Move.{arrived}

-- Records, each of which is a step.
pub data Run {G : Type 0} (Step : G → Record → G → Type 0) : G → List Record → G → Type 0 where
  nil : {g : G} → Run Step g [] g
  cons : {g g' g'' : G} {r : Record} {w : List Record} → Step g r g' → Run Step g' w g'' → Run Step g (r ∷ w) g''

pub data Post {G : Type 0} (Step : G → Record → G → Type 0) {S A : Type 0} (Q : A → G → S → Type 0) (g : G) : Answer S A → Type 0 where
  holds : {w : List Record} {a : A} {s : S} {g' : G} → Run Step g w g' → Q a g' s → Post Step Q g (done w a s)
  fails : {r : Cause} → Post Step Q g (refused r)

pub record Triple {G : Type 0} (Step : G → Record → G → Type 0) {S A : Type 0} (P : G → S → Type 0) (m : Reader S A) (Q : A → G → S → Type 0) : Type 0 where
  pub law : (g : G) (s : S) → P g s → Post Step Q g (m s)

module _ {G : Type 0} {Step : G → Record → G → Type 0} where
  pub run_append : {g g' g'' : G} {w v : List Record} → Run Step g w g' → Run Step g' v g'' → Run Step g (w ++ v) g''
  run_append nil r = r
  run_append (cons c g) r = cons c (run_append g r)

  module _ {S : Type 0} where
    pub after_post : {A : Type 0} {Q : A → G → S → Type 0} {g g' : G} {w : List Record} {p : Answer S A} → Run Step g w g' → Post Step Q g' p → Post Step Q g (after w p)
    unfolding after
    after_post r (holds r' q) = holds (run_append r r') q
    after_post r fails = fails

    pub thence_post : {A B : Type 0} {Q : A → G → S → Type 0} {R : B → G → S → Type 0} {g : G} (f : A → Reader S B) → ((a : A) (g : G) (s : S) → Q a g s → Post Step R g (f a s))
        → {p : Answer S A} → Post Step Q g p → Post Step R g (thence p f)
    unfolding thence
    thence_post f e (holds {a = a} {s} {g'} r q) = after_post r (e a g' s q)
    thence_post f e fails = fails

    pub bind : {A B : Type 0} {P : G → S → Type 0} {Q : A → G → S → Type 0} {R : B → G → S → Type 0} {m : Reader S A} {f : A → Reader S B}
        → Triple Step P m Q → ((a : A) → Triple Step (Q a) (f a) R) → Triple Step P (m >>= f) R
    unfolding ◌>>=◌
    bind {m = m} {f} p e = record { law = λ g s h. thence_post f (λ a g' s' q. (e a).law g' s' q) (p.law g s h) }

    pub and_then : {A B : Type 0} {P : G → S → Type 0} {Q : A → G → S → Type 0} {R : B → G → S → Type 0} {m : Reader S A} {f : Reader S B}
        → Triple Step P m Q → ((a : A) → Triple Step (Q a) f R) → Triple Step P (m >> f) R
    unfolding ◌>>◌
    and_then p e = bind p e

    pub whether : {A : Type 0} {P : G → S → Type 0} {Q : A → G → S → Type 0} {m m' : Reader S A} (c : Bool)
        → (c ≡ true → Triple Step P m Q) → (c ≡ false → Triple Step P m' Q) → Triple Step P (if c then m else m') Q
    whether true p q = p refl
    whether false p q = q refl

    pub perhaps : {A B : Type 0} {P : G → S → Type 0} {Q : A → G → S → Type 0} {m : Reader S A} {f : B → Reader S A} (o : Option B)
        → Triple Step P m Q → ((b : B) → o ≡ some b → Triple Step P (f b) Q) → Triple Step P (maybe o m f) Q
    perhaps none p q = p
    perhaps (some b) p q = q b refl

    pub now : {A : Type 0} {Q : A → G → S → Type 0} {g : G} {a : A} {s : S} → Q a g s → Post Step Q g (done [] a s)
    now q = holds nil q

    pub returns : {A : Type 0} {P : G → S → Type 0} {Q : A → G → S → Type 0} (a : A) → ((g : G) (s : S) → P g s → Q a g s) → Triple Step P (return a) Q
    unfolding return
    returns a h = record { law = λ g s p. holds nil (h g s p) }

    pub refuses : {A : Type 0} {P : G → S → Type 0} {Q : A → G → S → Type 0} (r : Cause) → Triple Step P (refuse r) Q
    unfolding refuse
    refuses r = record { law = λ g s p. fails }

    pub writes : {P : G → S → Type 0} {Q : Unit {0} → G → S → Type 0} (r : Record) → ((g : G) (s : S) → P g s → (g' : G) × Step g r g' × Q tt g' s) → Triple Step P (write r) Q
    unfolding write
    writes r h = record { law = λ g s p. let (g', c, q) = h g s p in holds (cons c nil) q }

    pub before : {A : Type 0} {P P' : G → S → Type 0} {Q : A → G → S → Type 0} {m : Reader S A} → ((g : G) (s : S) → P' g s → P g s) → Triple Step P m Q → Triple Step P' m Q
    before h p = record { law = λ g s q. p.law g s (h g s q) }

    post_map : {A : Type 0} {Q R : A → G → S → Type 0} → ((a : A) (g : G) (s : S) → Q a g s → R a g s) → {g : G} {p : Answer S A} → Post Step Q g p → Post Step R g p
    post_map h (holds {a = a} {s} {g'} r q) = holds r (h a g' s q)
    post_map h fails = fails

    pub behind : {A : Type 0} {P : G → S → Type 0} {Q R : A → G → S → Type 0} {m : Reader S A} → ((a : A) (g : G) (s : S) → Q a g s → R a g s) → Triple Step P m Q → Triple Step P m R
    behind h p = record { law = λ g s q. post_map h (p.law g s q) }

    -- with what P says
    pub known : {A F : Type 0} {P : G → S → Type 0} {m : Reader S A} {Q : A → G → S → Type 0} → (F → Triple Step P m Q) → Triple Step (λ g s. F × P g s) m Q
    known p = record { law = λ g s h. (p h.0).law g s h.1 }

    pub derive : {A F : Type 0} {P : G → S → Type 0} {m : Reader S A} {Q : A → G → S → Type 0} → ((g : G) (s : S) → P g s → F) → (F → Triple Step P m Q) → Triple Step P m Q
    derive h p = record { law = λ g s q. (p (h g s q)).law g s q }

    pub arrive_post : {A : Type 0} {Q : A → G → S → Type 0} {g : G} (x : Lexeme) {p : Answer S A} → Post Step Q g p → Post Step Q g (arrive x p)
    arrive_post {Q = Q} {g} x h = arrived (Post Step Q g) x (λ n e. fails) h

    -- a reading that goes back where it finds nothing
    or_back_post : {A : Type 0} {Q : Option A → G → S → Type 0} {R : A → G → S → Type 0} {g : G} (a : A) (s : S) → ((b : A) (g : G) (t : S) → Q (some b) g t → R b g t) → R a g s
        → {p : Answer S (Option A)} → Post Step Q g p → Post Step R g (or_back p a s)
    unfolding or_back
    or_back_post a s e h (holds {a = none} r q) = holds nil h
    or_back_post a s e h (holds {a = some b} {s = t} {g'} r q) = holds r (e b g' t q)
    or_back_post a s e h fails = fails

    pub attempts : {A : Type 0} {P : G → S → Type 0} {Q : Option A → G → S → Type 0} {R : A → G → S → Type 0} {m : Reader S (Option A)} (a : A)
        → ((b : A) (g : G) (t : S) → Q (some b) g t → R b g t) → ((g : G) (s : S) → P g s → R a g s) → Triple Step P m Q → Triple Step P (attempt m a) R
    unfolding attempt
    attempts a e h p = record { law = λ g s q. or_back_post a s e (h g s q) (p.law g s q) }

  -- questions to a line, with their answers known
  module _ {B : Type 0} {P : G → Line → Type 0} {R : B → G → Line → Type 0} where
    pub ask_ahead : {f : Lexeme → Reader Line B} → ((x : Lexeme) → Triple Step (λ g s. (s.here ≡ x) × P g s) (f x) R) → Triple Step P (ahead >>= f) R
    unfolding ahead ◌>>=◌ thence
    ask_ahead e = record { law = λ g s h. after_post nil ((e s.here).law g s (refl, h)) }

    pub ask_kind : (f : Kind → Reader Line B) → ((x : Lexeme) → Triple Step (λ g s. (s.here ≡ x) × P g s) (f x.kind) R) → Triple Step P (kind >>= f) R
    unfolding kind ◌>>=◌ thence
    ask_kind f e = record { law = λ g s h. after_post nil ((e s.here).law g s (refl, h)) }

    pub ask_passed : {f : ℕ → Reader Line B} → ((t : ℕ) → Triple Step (λ g s. (s.last ≡ t) × P g s) (f t) R) → Triple Step P (passed >>= f) R
    unfolding passed ◌>>=◌ thence
    ask_passed e = record { law = λ g s h. after_post nil ((e s.last).law g s (refl, h)) }

    pub ask_left : {f : ℕ → Reader Line B} → ((m : ℕ) → Triple Step P (f m) R) → Triple Step P (left >>= f) R
    unfolding left ◌>>=◌ thence
    ask_left e = record { law = λ g s h. after_post nil ((e (length s.more)).law g s h) }

    pub here_fails : (m : ℕ) → Triple Step P (refuse_here m) R
    unfolding refuse_here
    here_fails m = record { law = λ g s h. fails }

  -- what is read within a line, in a state
  over_post : {A : Type 0} {Q : A → G → Line → Type 0} {R : A → G → State → Type 0} {g : G} (rs : List Row) → ((a : A) (g : G) (l : Line) → Q a g l → R a g (record { line = l; below = rs }))
      → {p : Answer Line A} → Post Step Q g p → Post Step R g (over rs p)
  unfolding over
  over_post rs e (holds {a = a} {s = l} {g'} r q) = holds r (e a g' l q)
  over_post rs e fails = fails

  pub in_lines : {A : Type 0} {m : Reader Line A} (P : List Row → G → Line → Type 0) (Q : List Row → A → G → Line → Type 0) → ((rs : List Row) → Triple Step (P rs) m (Q rs))
      → Triple Step (λ g s. P s.below g s.line) (in_line m) (λ a g s. Q s.below a g s.line)
  unfolding in_line
  in_lines P Q e = record { law = λ g s h. over_post s.below (λ a g l q. q) ((e s.below).law g s.line h) }

  -- questions to a state's line
  module _ {B : Type 0} {P : G → State → Type 0} {R : B → G → State → Type 0} where
    pub ask_ahead_s : {f : Lexeme → Reader State B} → ((x : Lexeme) → Triple Step (λ g s. (s.line.here ≡ x) × P g s) (f x) R) → Triple Step P (in_line ahead >>= f) R
    unfolding ahead ◌>>=◌ thence in_line over
    ask_ahead_s e = record { law = λ g s h. after_post nil ((e s.line.here).law g s (refl, h)) }

    pub ask_kind_s : (f : Kind → Reader State B) → ((x : Lexeme) → Triple Step (λ g s. (s.line.here ≡ x) × P g s) (f x.kind) R) → Triple Step P (in_line kind >>= f) R
    unfolding kind ◌>>=◌ thence in_line over
    ask_kind_s f e = record { law = λ g s h. after_post nil ((e s.line.here).law g s (refl, h)) }

    pub ask_passed_s : {f : ℕ → Reader State B} → ((t : ℕ) → Triple Step (λ g s. (s.line.last ≡ t) × P g s) (f t) R) → Triple Step P (in_line passed >>= f) R
    unfolding passed ◌>>=◌ thence in_line over
    ask_passed_s e = record { law = λ g s h. after_post nil ((e s.line.last).law g s (refl, h)) }

    pub ask_left_s : {f : ℕ → Reader State B} → ((m : ℕ) → Triple Step P (f m) R) → Triple Step P (in_line left >>= f) R
    unfolding left ◌>>=◌ thence in_line over
    ask_left_s e = record { law = λ g s h. after_post nil ((e (length s.line.more)).law g s h) }

    pub here_fails_s : (m : ℕ) → Triple Step P (in_line (refuse_here m)) R
    unfolding refuse_here in_line over
    here_fails_s m = record { law = λ g s h. fails }
