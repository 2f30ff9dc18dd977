-- A line that is read alone (40): with any room the full read leaves the same open, and a line that may be read is left open where its reading is.
use Rattle.std.specs.Prelude.{if◌then◌else◌}
use mathlib.Core.Path.{◌≡◌, refl, sym, ap, ◌∙◌}
use mathlib.Core.Bool.{Bool, true, false, true≢false}
use mathlib.Core.List.{List, [], ◌∷◌, ◌++◌}
use mathlib.Core.Option.{Option, none, some}
use Prim.Native.Nat.{ℕ, suc, ◌+◌, ◌≤◌}
use native.Mathlib.Omega.{arith}
use lib.Dec.{eqb, ltb}
use lib.ListN.{length, length-append}
use Rattle.lexer.specs.Text.{maybe, is}
use Rattle.rules.specs.Records.{Record, listing}
use Rattle.rules.specs.Reader.{at, nowhere, encoding, numbers_of, Answer, done, refused}
use Rattle.rules.specs.Statements.{Profile, State, Outcome, accepted, refusal, outcome, reading}
use Rattle.rules.specs.Calls.{Result, gives, refuses, unless, too_long, foreign, ascii, lent, in_room, listed, full_read, enough}
use Rattle.rules.specs.Claims.{Each}
use Rattle.rules.specs.Patch.{lines_from, bare_line, nearest, is_open, leaves_open}
use Rattle.rules.proofs.Shape.{up_to_append}
use Rattle.rules.proofs.Calls.{Ascii, Readable, readable_lent}
use Rattle.rules.proofs.Cut.{IsOpen, Gives, from_run}
use Rattle.rules.proofs.Exchange.{Closed}

-- Whether a reading lacks a content.
unfoldable pub open_in : Outcome → Bool
open_in (accepted w) = false
open_in (refusal r) = eqb (numbers_of r).number 34

pub listed_open : (room : ℕ) (o : Outcome) → is_open (listed room o) ≡ open_in o
unfolding is_open listed in_room unless open_in
listed_open room (accepted w) = go (ltb room (length (listing w)))
  where
    go : (b : Bool) → is_open (unless b (nowhere 4) (gives w)) ≡ false
    go true = refl
    go false = refl
listed_open room (refusal r) = refl

pub lent_open : (s : List ℕ) (x y : Result (List Record)) → is_open x ≡ is_open y → is_open (lent s x) ≡ is_open (lent s y)
unfolding is_open lent unless ascii
lent_open s x y h = go (too_long s) (foreign 0 s)
  where
    go : (b : Bool) (o : Option ℕ) → is_open (unless b (nowhere 1) (maybe o x (λ p. refuses (at 2 p (suc p))))) ≡ is_open (unless b (nowhere 1) (maybe o y (λ p. refuses (at 2 p (suc p)))))
    go true o = refl
    go false none = h
    go false (some p) = refl

-- The room doesn't matter: 4 is not 34.
pub open_any_room : (profile : Profile) (l : List ℕ) (room : ℕ) → is_open (full_read profile l room) ≡ leaves_open profile l
unfolding leaves_open full_read
open_any_room profile l room =
    lent_open l (listed room (reading profile l)) (listed (enough l) (reading profile l)) (listed_open room (reading profile l) ∙ sym (listed_open (enough l) (reading profile l)))

open_outcome : (a : Answer State (Unit {0})) → IsOpen a → open_in (outcome a) ≡ true
unfolding open_in outcome
open_outcome (done w x u) h = absurd h
open_outcome (refused (at n f t)) h = h
open_outcome (refused (nowhere n)) h = absurd h
open_outcome (refused (encoding f t a b)) h = absurd h

module _ (profile : Profile) where
  -- What may be read, and leaves no `times` open: its reading lacks no content.
  reading_closed : (l : List ℕ) → Readable l → leaves_open profile l ≡ false → open_in (reading profile l) ≡ false
  unfolding leaves_open full_read
  reading_closed l r h = sym (listed_open (enough l) (reading profile l)) ∙ ap is_open (sym (readable_lent l (listed (enough l) (reading profile l)) r)) ∙ h

  pub not_open : (l : List ℕ) → Readable l → leaves_open profile l ≡ false → (a : Answer State (Unit {0})) → Gives profile 0 l a → IsOpen a → ⊥
  unfolding reading
  not_open l r h a g o = true≢false (sym (ap open_in (from_run profile 0 l g) ∙ open_outcome a o) ∙ reading_closed l r h)

  pub closed : (l : List ℕ) → Readable l → leaves_open profile l ≡ false → Closed profile 0 l
  unfolding Closed
  closed l r h a g o = not_open l r h a g o

-- The lines of what may be read may be read.
lines_readable : (l s : List ℕ) → length l + length s ≤ 65536 → Ascii l → Ascii s → Each Readable (lines_from l s)
unfolding lines_from
lines_readable l [] h i j = tt
lines_readable l (c ∷ cs) h i j = go (is "\n" c) (lines_readable [] cs (omega arith) tt j.1)
    (lines_readable (l ++ (c ∷ [])) cs (omega (arith, length-append l (c ∷ []))) (up_to_append 127 l (c ∷ []) i (j.0, tt)) j.1)
  where
    go : (b : Bool) → Each Readable (lines_from [] cs) → Each Readable (lines_from (l ++ (c ∷ [])) cs) → Each Readable (if b then (l ∷ lines_from [] cs) else (lines_from (l ++ (c ∷ [])) cs))
    go true m n = (record { short = omega arith; plain = i }, m)
    go false m n = n

pub nearest_among : (P : List ℕ → Type 0) (ls : List (List ℕ)) (m : List ℕ) → Each P ls → nearest ls ≡ some m → P m
unfolding nearest
nearest_among P [] m h e = absurd (true≢false cc)
nearest_among P (l ∷ ls) m h e = go (nearest ls) refl e (λ e'. nearest_among P ls m h.1 e')
  where
    first : (b : Bool) → ◌≡◌ {A = Option (List ℕ)} (if b then none else (some l)) (some m) → P m
    first true e' = absurd (true≢false cc)
    first false e' = let k : l ≡ m = cc in rw (sym k) h.0

    go : (o : Option (List ℕ)) → nearest ls ≡ o → maybe o (if bare_line l then none else (some l)) some ≡ some m → (nearest ls ≡ some m → P m) → P m
    go none i e' again = first (bare_line l) e'
    go (some k) i e' again = again (i ∙ e')

pub nearest_readable : (s : List ℕ) (m : List ℕ) → Readable s → nearest (lines_from [] s) ≡ some m → Readable m
nearest_readable s m r e = nearest_among Readable (lines_from [] s) m (lines_readable [] s (omega (arith, r.short)) tt r.plain) e
