-- What accepted calls say of what was lent: the source is short and its bytes are ASCII, and the records are those of the reading.
use Rattle.std.specs.Prelude.{if◌then◌else◌}
use mathlib.Core.Path.{◌≡◌, refl}
use mathlib.Core.Bool.{Bool, true, false, true≢false}
use mathlib.Core.List.{List, [], ◌∷◌}
use mathlib.Core.Option.{Option, none, some}
use Prim.Native.Nat.{ℕ, suc, ◌≤◌}
use native.Mathlib.Omega.{arith}
use lib.Dec.{ltb}
use lib.ListN.{length}
use borrow.Author.Tests.{le-ltb, ltb-false}
use Rattle.lexer.specs.Text.{maybe}
use Rattle.rules.specs.Records.{Record, listing}
use Rattle.rules.specs.Reader.{Cause, at, nowhere}
use Rattle.rules.specs.Statements.{Profile, Outcome, accepted, refusal, reading}
use Rattle.rules.specs.Calls.{Result, gives, refuses, unless, most_bytes, too_long, foreign, ascii, lent, lent_at, in_room, listed, full_read}
use Rattle.rules.proofs.Shape.{UpTo, up_to_more, Small}

pub unless_gives : {A : Type 0} (b : Bool) (r : Cause) (x : Result A) (y : A) → unless b r x ≡ gives y → (b ≡ false) × (x ≡ gives y)
unfolding unless
unless_gives true r x y h = absurd (true≢false cc)
unless_gives false r x y h = (refl, h)

-- No byte is above 127.
abbrev pub Ascii : List ℕ → Type 0
Ascii s = UpTo 127 s

pub none_foreign : (p : ℕ) (s : List ℕ) → foreign p s ≡ none → Ascii s
unfolding foreign
none_foreign p [] h = tt
none_foreign p (c ∷ cs) h = go (ltb 127 c) refl h (λ e. none_foreign (suc p) cs e)
  where
    go : (b : Bool) → ltb 127 c ≡ b → ◌≡◌ {A = Option ℕ} (if b then (some p) else (foreign (suc p) cs)) none → (foreign (suc p) cs ≡ none → Ascii cs) → (c ≤ 127) × Ascii cs
    go true e i again = absurd (true≢false cc)
    go false e i again = (ltb-false 127 c e, again i)

foreign_none : (p : ℕ) (s : List ℕ) → Ascii s → foreign p s ≡ none
unfolding foreign
foreign_none p [] h = refl
foreign_none p (c ∷ cs) h = rw (le-ltb 127 c h.0) (foreign_none (suc p) cs h.1)

pub ascii_small : (s : List ℕ) → Ascii s → Small s
ascii_small s h = up_to_more 127 (omega arith) s h

-- A source that 1 and 2 let pass.
pub record Readable (s : List ℕ) : Type 0 where
  pub short : length s ≤ 65536
  pub plain : Ascii s

pub readable_lent : {A : Type 0} (s : List ℕ) (x : Result A) → Readable s → lent s x ≡ x
unfolding lent too_long most_bytes unless ascii
readable_lent s x r = rw (le-ltb 65536 (length s) r.short, foreign_none 0 s r.plain)

ascii_gives : {A : Type 0} (s : List ℕ) (x : Result A) (y : A) → ascii s x ≡ gives y → Ascii s × (x ≡ gives y)
unfolding ascii
ascii_gives s x y h = go (foreign 0 s) refl h
  where
    go : (o : Option ℕ) → foreign 0 s ≡ o → maybe o x (λ p. refuses (at 2 p (suc p))) ≡ gives y → Ascii s × (x ≡ gives y)
    go none e' e = (none_foreign 0 s e', e)
    go (some p) e' e = absurd (true≢false cc)

pub record Lent (A : Type 0) (s : List ℕ) (x : Result A) (y : A) : Type 0 where
  pub readable : Readable s
  pub small : Small s
  pub given : x ≡ gives y

pub lent_gives : {A : Type 0} (s : List ℕ) (x : Result A) (y : A) → lent s x ≡ gives y → Lent A s x y
unfolding lent too_long most_bytes
lent_gives s x y h =
    let (i, j) = unless_gives (ltb 65536 (length s)) (nowhere 1) (ascii s x) y h in
    let (m, e) = ascii_gives s x y j in
    record { readable = record { short = ltb-false 65536 (length s) i; plain = m }; small = ascii_small s m; given = e }

pub lent_at_gives : {A : Type 0} (s : List ℕ) (p : ℕ) (x : Result A) (y : A) → lent_at s p x ≡ gives y → (p ≤ length s) × Lent A s x y
unfolding lent_at
lent_at_gives s p x y h =
    let (i, j) = unless_gives (ltb (length s) p) (nowhere 42) (lent s x) y h in
    (ltb-false (length s) p i, lent_gives s x y j)

pub room_gives : {A : Type 0} (room : ℕ) (w : List Record) (a y : A) → in_room room w a ≡ gives y → (length (listing w) ≤ room) × (a ≡ y)
unfolding in_room
room_gives room w a y h =
    let (i, j) = unless_gives (ltb room (length (listing w))) (nowhere 4) (gives a) y h in
    (ltb-false room (length (listing w)) i, cc)

listed_gives : (room : ℕ) (o : Outcome) (w : List Record) → listed room o ≡ gives w → o ≡ accepted w
unfolding listed
listed_gives room (accepted v) w h = let (i, j) = room_gives room v v w h in cc
listed_gives room (refusal r) w h = absurd (true≢false cc)

-- What an accepted full read says.
pub record Accepted (profile : Profile) (s : List ℕ) (w : List Record) : Type 0 where
  pub readable : Readable s
  pub short : length s ≤ 65536
  pub small : Small s
  pub reads : reading profile s ≡ accepted w

pub accepted_call : (profile : Profile) (s : List ℕ) (room : ℕ) (w : List Record) → full_read profile s room ≡ gives w → Accepted profile s w
unfolding full_read
accepted_call profile s room w h =
    let l : Lent (List Record) s (listed room (reading profile s)) w = lent_gives s (listed room (reading profile s)) w h in
    record { readable = l.readable; short = l.readable.short; small = l.small; reads = listed_gives room (reading profile s) w l.given }
