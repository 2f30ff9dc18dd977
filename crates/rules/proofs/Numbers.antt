-- No refusal has the number 0: none of those that the calls give themselves, and by `mild_or_lacks` none of a reading's.
use Rattle.std.specs.Prelude.{if◌then◌else◌}
use mathlib.Core.Path.{◌≡◌, refl, ap}
use mathlib.Core.Bool.{Bool, true, false, true≢false, not, ◌||◌}
use mathlib.Core.List.{List, [], ◌∷◌, ◌++◌}
use mathlib.Core.Option.{Option, none, some}
use mathlib.Core.Logic.{◌⊎◌, inl, inr}
use Prim.Native.Nat.{ℕ, suc, ◌+◌}
use native.Mathlib.Omega.{arith}
use lib.Dec.{eqb, ltb}
use lib.IntN.{ℤ, nat_abs, ◌+ℤ◌, ◌-ℤ◌, ◌*ℤ◌}
use lib.Signed.{mag, quot_z}
use lib.ListN.{length, take, drop}
use borrow.Author.Tests.{eqb-true}
use Rattle.lexer.specs.Text.{maybe, among}
use Rattle.lexer.specs.Tokens.{token_at}
use Rattle.lexer.specs.declared.Fault.TheVariants.{LargerDigit, TooLarge}
use Rattle.lexer.specs.declared.TokenRead.{TokenRead}
use Rattle.lexer.specs.declared.TokenRead.TheVariants.{Read, Refused}
use Rattle.rules.specs.Records.{Record, listing}
use Rattle.rules.specs.Reader.{Cause, at, nowhere, encoding, numbers_of, Answer, done, refused, thence, ◌>>=◌, refused_as, arrive}
use Rattle.rules.specs.Statements.{Profile, Row, State, enter, statement, statements, Outcome, accepted, refusal, read_rows, read_from, reading}
use Rattle.rules.specs.Calls.{Result, gives, refuses, unless, too_long, foreign, ascii, lent, lent_at, in_room, token_read, token_call, listed, full_read, one_found, one_read, statement_call}
use Rattle.rules.specs.Evaluate.{signed32, evaluate}
use Rattle.rules.specs.Decode.{decode}
use Rattle.rules.specs.WellFormed.{well_formed}
use Rattle.rules.specs.Patch.{begins_line, edited, behind, open_line, placed_in, reread, patched, patch}
use Rattle.rules.specs.Claims.{NumbersTell}
use Rattle.rules.proofs.Move.{Mild}
use Rattle.rules.proofs.Cut.{Lack, rows_from, gives as given, mild_or_lacks, refuses_run}

-- A call's answer: accepted, or refused with a number that is not 0.
data Numbered {A : Type 0} : Result A → Type 0 where
  accepts : {a : A} → Numbered (gives a)
  named : {c : Cause} → ¬ ((numbers_of c).number ≡ 0) → Numbered (refuses c)

tells : {A : Type 0} {x : Result A} {c : Cause} → Numbered x → x ≡ refuses c → ¬ ((numbers_of c).number ≡ 0)
tells accepts e = absurd (true≢false cc)
tells {c = c} (named {c = c'} h) e = let k : c' ≡ c = cc in rw k at h

module _ {A : Type 0} where
  unless_numbered : (b : Bool) (r : Cause) {x : Result A} → ¬ ((numbers_of r).number ≡ 0) → Numbered x → Numbered (unless b r x)
  unfolding unless
  unless_numbered true r h n = named h
  unless_numbered false r h n = n

  ascii_numbered : (s : List ℕ) {x : Result A} → Numbered x → Numbered (ascii s x)
  unfolding ascii
  ascii_numbered s {x} n = go (foreign 0 s)
    where
      go : (o : Option ℕ) → Numbered (maybe o x (λ p. refuses (at 2 p (suc p))))
      go none = n
      go (some p) = named {c = at 2 p (suc p)} (λ h. omega arith)

  lent_numbered : (s : List ℕ) {x : Result A} → Numbered x → Numbered (lent s x)
  unfolding lent
  lent_numbered s n = unless_numbered (too_long s) (nowhere 1) (λ h. omega arith) (ascii_numbered s n)

  lent_at_numbered : (s : List ℕ) (p : ℕ) {x : Result A} → Numbered x → Numbered (lent_at s p x)
  unfolding lent_at
  lent_at_numbered s p n = unless_numbered (ltb (length s) p) (nowhere 42) (λ h. omega arith) (lent_numbered s n)

  in_room_numbered : (room : ℕ) (w : List Record) (a : A) → Numbered (in_room room w a)
  unfolding in_room
  in_room_numbered room w a = unless_numbered (ltb room (length (listing w))) (nowhere 4) (λ h. omega arith) accepts

not_zero : (n : ℕ) → (eqb n 34 || eqb n 0) ≡ false → ¬ (n ≡ 0)
not_zero n h e = true≢false (rw e at h)

mild_numbered : (r : Cause) → Mild r ⊎ Lack r → ¬ ((numbers_of r).number ≡ 0)
mild_numbered (at n f t) (inl m) = not_zero n m
mild_numbered (at n f t) (inr l) = λ e. let k : n ≡ 34 = eqb-true n 34 l in omega arith
mild_numbered (nowhere n) (inl m) = not_zero n m
mild_numbered (nowhere n) (inr l) = absurd l
mild_numbered (encoding f t a b) h = λ e. omega arith

token_numbered : (p : ℕ) (t : TokenRead) → Numbered (token_read p t)
token_numbered p (Read t) = accepts
token_numbered p (Refused n LargerDigit) = named {c = at 30 p (p + n)} (λ h. omega arith)
token_numbered p (Refused n TooLarge) = named {c = at 31 p (p + n)} (λ h. omega arith)

signed32_numbered : (z : ℤ) → Numbered (signed32 z)
unfolding signed32
signed32_numbered z = go (ltb (mag z) 2147483648)
  where
    go : (b : Bool) → Numbered (if b then (gives z) else (refuses (nowhere 50)))
    go true = accepts
    go false = named {c = nowhere 50} (λ e. omega arith)

evaluate_numbered : (op : ℕ) (a b : ℤ) → Numbered (evaluate op a b)
unfolding evaluate
evaluate_numbered op a b = go (eqb op 0) (eqb op 1) (eqb op 2)
  where
    go : (i j k : Bool) → Numbered (if i then (signed32 (a +ℤ b)) else if j then (signed32 (a -ℤ b)) else if k then (signed32 (a *ℤ b))
        else (unless (eqb (nat_abs b) 0) (nowhere 51) (signed32 (quot_z a b))))
    go true j k = signed32_numbered (a +ℤ b)
    go false true k = signed32_numbered (a -ℤ b)
    go false false true = signed32_numbered (a *ℤ b)
    go false false false = unless_numbered (eqb (nat_abs b) 0) (nowhere 51) (λ e. omega arith) (signed32_numbered (quot_z a b))

module _ (profile : Profile) where
  OutcomeNumbered : Outcome → Type 0
  OutcomeNumbered (accepted w) = Unit {0}
  OutcomeNumbered (refusal r) = ¬ ((numbers_of r).number ≡ 0)

  reading_numbered : (p : ℕ) (s : List ℕ) (o : Outcome) → read_from profile p s ≡ o → OutcomeNumbered o
  unfolding OutcomeNumbered
  reading_numbered p s (accepted w) e = tt
  reading_numbered p s (refusal r) e = mild_numbered r (mild_or_lacks profile p s r (refuses_run profile p s r e))

  listed_numbered : (room : ℕ) (o : Outcome) → OutcomeNumbered o → Numbered (listed room o)
  unfolding OutcomeNumbered listed
  listed_numbered room (accepted w) h = in_room_numbered room w w
  listed_numbered room (refusal r) h = named h

  -- where a statement is refused, so are the statements from it on
  first_refused : (n : ℕ) (s : State) (c : Cause) → statement profile s ≡ refused c → statements profile (suc n) s ≡ refused c
  unfolding statements ◌>>=◌ thence
  first_refused n s c e = rw e

  one_refused : (n : ℕ) (l : List Row) (c : Cause) → one_read profile l ≡ refused c → read_rows profile (suc n) l ≡ refused c
  unfolding one_read read_rows arrive
  one_refused n [] c e = let k : nowhere 0 ≡ c = cc in ap refused k
  one_refused n (r ∷ rs) c e = go (refused_as r.first.kind) e
    where
      go : (o : Option ℕ) → maybe o (statement profile (enter r rs)) (λ m. refused (at m r.first.from r.first.to)) ≡ refused c
          → maybe o (statements profile (suc n) (enter r rs)) (λ m. refused (at m r.first.from r.first.to)) ≡ refused c
      go none i = first_refused n (enter r rs) c i
      go (some m) i = let k : at m r.first.from r.first.to ≡ c = cc in ap refused k

  one_numbered : (p room : ℕ) (s : List ℕ) (a : Answer State Bool) → one_read profile (rows_from p s) ≡ a → Numbered (one_found room a)
  unfolding one_found
  one_numbered p room s (done w true t) e = in_room_numbered room w _
  one_numbered p room s (done w false t) e = accepts
  one_numbered p room s (refused r) e = named (mild_numbered r (mild_or_lacks profile p s r (rw (one_refused (length s) (rows_from p s) r e) at (given profile p s))))

  reread_numbered : (s : List ℕ) (rs : List Record) (a : ℕ) (new : List ℕ) (room_s room_l : ℕ) (o : Outcome) → OutcomeNumbered o → Numbered (reread s rs a new room_s room_l o)
  unfolding OutcomeNumbered reread placed_in
  reread_numbered s rs a new room_s room_l (accepted w) h = unless_numbered (ltb room_s (length (edited s a new))) (nowhere 6) (λ e. omega arith) (in_room_numbered room_l _ _)
  reread_numbered s rs a new room_s room_l (refusal r) h = named h

  patched_numbered : (s : List ℕ) (o : Option (List Record)) (a : ℕ) (new : List ℕ) (room_s room_l : ℕ) → Numbered (patched profile s o a new room_s room_l)
  unfolding patched
  patched_numbered s none a new room_s room_l = named {c = nowhere 41} (λ e. omega arith)
  patched_numbered s (some rs) a new room_s room_l = unless_numbered (not (well_formed (length s) rs)) (nowhere 41) (λ e. omega arith)
      (unless_numbered (open_line profile s a new) (nowhere 40) (λ e. omega arith)
      (reread_numbered s rs a new room_s room_l (read_from profile a (new ++ take 1 (behind s a))) (reading_numbered a (new ++ take 1 (behind s a)) _ refl)))

  pub numbers_tell : NumbersTell profile
  unfolding token_call statement_call full_read reading patch rows_from
  numbers_tell = record {
    of_token = λ s p c e. tells (lent_at_numbered s p (token_numbered p (token_at (drop p s)))) e;
    of_statement = λ s p room c e. tells (lent_at_numbered s p (one_numbered p room (drop p s) _ refl)) e;
    of_full_read = λ s room c e. tells (lent_numbered s (listed_numbered room _ (reading_numbered 0 s _ refl))) e;
    of_patch = λ old bytes a new room_s room_l c e. tells
        (unless_numbered (not (begins_line old a)) (nowhere 42) (λ h. omega arith)
        (unless_numbered (among 10 new) (nowhere 43) (λ h. omega arith)
        (unless_numbered (too_long old || too_long (edited old a new)) (nowhere 1) (λ h. omega arith)
        (ascii_numbered (edited old a new) (patched_numbered old (decode bytes) a new room_s room_l))))) e;
    of_evaluate = λ op a b c e. tells (evaluate_numbered op a b) e;
  }
