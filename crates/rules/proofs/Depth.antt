-- Where more `times` may stand within one another, the same is read, unless the limit (5) was met.
use Rattle.std.specs.Prelude.{if◌then◌else◌}
use mathlib.Core.Bool.{Bool, true, false}
use mathlib.Core.List.{List}
use mathlib.Core.Option.{Option, none, some}
use Prim.Native.Nat.{ℕ, zero, suc, ◌≤◌}
use native.Mathlib.Omega.{arith}
use lib.Dec.{ltb, eqb}
use Rattle.lexer.specs.Text.{maybe}
use Rattle.rules.specs.Lexemes.{Lexeme, name_in, operation_in}
use Rattle.names.specs.Names.{directives}
use Rattle.rules.specs.Records.{Record}
use Rattle.rules.specs.Reader.{at, Answer, done, refused, Reader, after, thence, ◌>>=◌, ◌>>◌, refuse_here, is_line_end}
use Rattle.rules.specs.Statements.{Profile, State, over, in_line, passing, line, content, times}

pub data Deep {A : Type 0} : Answer State A → Answer State A → Type 0 where
  equal : {p : Answer State A} → Deep p p
  limit : {f t : ℕ} {q : Answer State A} → Deep (refused (at 5 f t)) q

pub record Deeper {A : Type 0} (m m' : Reader State A) : Type 0 where
  pub law : (s : State) → Deep (m s) (m' s)

after_deep : {A : Type 0} (w : List Record) {p q : Answer State A} → Deep p q → Deep (after w p) (after w q)
unfolding after
after_deep w equal = equal
after_deep w limit = limit

thence_deep : {A B : Type 0} (k k' : A → Reader State B) → ((a : A) → Deeper (k a) (k' a)) → (p : Answer State A) → Deep (thence p k) (thence p k')
unfolding thence
thence_deep k k' e (done w a s) = after_deep w ((e a).law s)
thence_deep k k' e (refused r) = equal

first_deep : {A B : Type 0} (k : A → Reader State B) {p q : Answer State A} → Deep p q → Deep (thence p k) (thence q k)
unfolding thence
first_deep k equal = equal
first_deep k limit = limit

same : {A : Type 0} {m : Reader State A} → Deeper m m
same = record { law = λ s. equal }

bind : {A B : Type 0} (m : Reader State A) {k k' : A → Reader State B} → ((a : A) → Deeper (k a) (k' a)) → Deeper (m >>= k) (m >>= k')
unfolding ◌>>=◌
bind m {k} {k'} e = record { law = λ s. thence_deep k k' e (m s) }

and_then : {A B : Type 0} (m : Reader State A) {k k' : Reader State B} → Deeper k k' → Deeper (m >> k) (m >> k')
unfolding ◌>>◌
and_then m e = bind m (λ _. e)

first : {A B : Type 0} {m m' : Reader State A} (k : Reader State B) → Deeper m m' → Deeper (m >> k) (m' >> k)
unfolding ◌>>◌ ◌>>=◌
first k p = record { law = λ s. first_deep (λ _. k) (p.law s) }

whether : {A : Type 0} {m m' n n' : Reader State A} (c : Bool) → Deeper m m' → Deeper n n' → Deeper (if c then m else n) (if c then m' else n')
whether true p q = p
whether false p q = q

perhaps : {A B : Type 0} {m m' : Reader State A} {k k' : B → Reader State A} (o : Option B) → Deeper m m' → ((b : B) → Deeper (k b) (k' b)) → Deeper (maybe o m k) (maybe o m' k')
perhaps none p q = p
perhaps (some b) p q = q b

module _ (profile : Profile) where
  pub line_deep : {m m' : Reader State (Unit {0})} → Deeper m m' → Deeper (line profile m) (line profile m')
  unfolding line
  line_deep p = bind _ λ x. perhaps (operation_in profile.table x.kind) (perhaps (name_in directives x.kind) same
      λ n. whether (eqb n 0) same (whether (ltb n 3) same p)) λ op. same

  content_deep : {m m' : Reader State (Unit {0})} (x : Lexeme) → Deeper m m' → Deeper (content profile m x) (content profile m' x)
  unfolding content
  content_deep x p = bind _ λ k. first _ (whether (is_line_end k) same (line_deep p))

  pub times_deep : (n m : ℕ) → n ≤ m → Deeper (times profile n) (times profile m)
  unfolding times passing in_line over refuse_here
  times_deep zero m h = record { law = λ s. limit }
  times_deep (suc n) zero h = absurd (omega arith)
  times_deep (suc n) (suc m) h = bind _ λ x. and_then _ (and_then _ (and_then _ (content_deep x (times_deep n m (omega arith)))))
