-- The first byte above 127, found byte by byte, and what it says of a source.
-- Assumes nothing.
use Rattle.std.specs.Prelude.{Option as Maybe, Some, None, Result as Answer, Ok, Err, if◌then◌else◌}
use Rattle.std.specs.Option.{MatchOption}
use Rattle.std.specs.Result.{MatchResult, IsErrAnd}
use Rattle.std.specs.List.{AllWithin, HoldsAt, fold}
use Prim.Native.Nat.{ℕ, zero, suc, ◌+◌, ◌≤◌, ◌<◌}
use mathlib.Core.Path.{◌≡◌, refl, sym, ap, subst, ◌∙◌}
use mathlib.Core.Bool.{Bool, true, false, ◌&&◌}
use mathlib.Core.List.{List, [], ◌∷◌}
use mathlib.Core.Option.{Option, none, some}
use native.Mathlib.Omega.{arith}
use native.Mathlib.Nat.{le_refl}
use native.Mathlib.Numerals.{add-one}
use lib.Dec.{T, ltb, leb}
use lib.ListN.{length, drop, get_or, drop_of_length-le, length-drop}
use lib.Seq.{drop-cons}
use borrow.Author.Tests.{lt-ltb, le-ltb, ltb-true, ltb-false, le-leb, lt-leb}
use Rattle.lexer.specs.Text.{maybe}
use Rattle.rules.specs.Reader.{Cause, at, nowhere, numbers_of}
use Rattle.refusals.specs.declared.Refusal.{Refusal}
use Rattle.refusals.specs.Refusals.{numbers, by_numbers, spanned}
use Rattle.lexer.specs.Tokens.{token_at, size_of, fault_number}
use Rattle.lexer.specs.Scanned.{next_of}
use Rattle.lexer.proofs.TokensText.{token_at_le}
use Rattle.lexer.specs.declared.Token.{Token}
use Rattle.lexer.specs.declared.BadNumber.{BadNumber}
use Rattle.lexer.specs.declared.Cursor.{Cursor}
use Rattle.lexer.specs.declared.TokenRead.{TokenRead}
use Rattle.lexer.specs.declared.TokenRead.TheVariants as found
use Rattle.rules.specs.Calls.{token_read, token_call, Result, gives, refuses, unless, most_bytes, too_long, foreign, ascii, lent, lent_at}
use Rattle.reader.specs.declared.ascii.Ascii.{Ascii}
use Rattle.reader.specs.Calls.{Lends, LendsAt, token_answer}
use Rattle.reader.specs.Lent.{is_ascii, foreign_place, foreign_of}

module _ (s : List ℕ) (i : ℕ) where
  pub foreign_here : i < length s → 127 < get_or s i 0 → foreign i (drop i s) ≡ some i
  unfolding foreign
  foreign_here h k = rw (drop-cons s i 0 h, lt-ltb 127 (get_or s i 0) k)

  pub foreign_on : i < length s → get_or s i 0 ≤ 127 → foreign (i + 1) (drop (i + 1) s) ≡ foreign i (drop i s)
  unfolding foreign
  foreign_on h k = rw (drop-cons s i 0 h, le-ltb 127 (get_or s i 0) k, add-one)

  pub foreign_end : length s ≤ i → foreign i (drop i s) ≡ none
  unfolding foreign
  foreign_end h = rw (drop_of_length-le s h)

and-true : (b : Bool) → (b && true) ≡ b
and-true true = refl
and-true false = refl

and-false : (b : Bool) → (b && false) ≡ false
and-false true = refl
and-false false = refl

-- The larger of two bytes, and the largest of all: it is above 127 where any is.
abbrev pub larger : ℕ → ℕ → ℕ
larger most c = if ltb c most then most else c

larger_above : (most c : ℕ) → 127 < c → leb (larger most c) 127 ≡ false
larger_above most c h = go (ltb c most) (ltb-true c most)
  where
    go : (b : Bool) → (b ≡ true → c < most) → leb (if b then most else c) 127 ≡ false
    go true f = let k = f refl in lt-leb most 127 (omega arith)
    go false f = lt-leb c 127 h

larger_within : (most c : ℕ) → c ≤ 127 → leb (larger most c) 127 ≡ leb most 127
larger_within most c h = go (ltb c most) (ltb-false c most)
  where
    go : (b : Bool) → (b ≡ false → most ≤ c) → leb (if b then most else c) 127 ≡ leb most 127
    go true f = refl
    go false f = let k = f refl in le-leb c 127 h ∙ sym (le-leb most 127 (omega arith))

asked_from : (i most : ℕ) (s : List ℕ) → leb (fold larger most s) 127 ≡ (leb most 127 && maybe (foreign i s) true (λ p. false))
unfolding foreign
asked_from i most [] = sym (and-true (leb most 127))
asked_from i most (c ∷ s) = asked_from (suc i) (larger most c) s ∙ go (ltb 127 c) (ltb-true 127 c) (ltb-false 127 c)
  where
    go : (b : Bool) → (b ≡ true → 127 < c) → (b ≡ false → c ≤ 127) → (leb (larger most c) 127 && maybe (foreign (suc i) s) true (λ p. false)) ≡ (leb most 127 && maybe (if b then some i else foreign (suc i) s) true (λ p. false))
    go true f g = rw (larger_above most c (f refl)) (sym (and-false (leb most 127)))
    go false f g = rw (larger_within most c (g refl)) refl

pub largest_asked : (s : List ℕ) {most : ℕ} → most ≡ fold larger 0 s → leb most 127 ≡ is_ascii s
unfolding is_ascii
largest_asked s e = ap (λ (n : ℕ). leb n 127) e ∙ asked_from 0 0 s

foreign_inside : (p : ℕ) (s : List ℕ) (q : ℕ) → foreign p s ≡ some q → q < p + length s
unfolding foreign
foreign_inside p [] q e = let z : ◌≡◌ {A = ℕ} 0 1 = cc in absurd (omega arith)
foreign_inside p (c ∷ cs) q e = go (ltb 127 c) e (foreign_inside (suc p) cs q)
  where
    go : (b : Bool) → (if b then some p else foreign (suc p) cs) ≡ some q → (foreign (suc p) cs ≡ some q → q < suc p + length cs) → q < p + suc (length cs)
    go true e h = let k : p ≡ q = cc in omega arith
    go false e h = omega (arith, h e)

-- what a search answers: the first byte above 127, or none
abbrev pub High : ℕ → Type 0
High c = 127 < c

abbrev pub Low : ℕ → Type 0
Low c = c ≤ 127

abbrev pub Searched : List ℕ → Maybe ℕ → Type 0
Searched s r = MatchOption r (AllWithin Low s 0 (length s)) (λ i. (i < length s) × HoldsAt High s i × AllWithin Low s 0 i)

-- what is said of a source that is one to read
abbrev good : Result (Unit {0})
good = gives tt

module _ (s : List ℕ) where
  none_before : (n : ℕ) → n ≤ length s → AllWithin Low s 0 n → foreign n (drop n s) ≡ foreign 0 s
  none_before zero h f = refl
  none_before (suc n) h f =
      ap (λ (k : ℕ). foreign k (drop k s)) (sym (add-one n))
      ∙ foreign_on s n (omega arith) (f n 0 (omega arith) (omega arith))
      ∙ none_before n (omega arith) (λ k d a b. f k d a (omega arith))

  pub searched : (r : Maybe ℕ) → Searched s r → r ≡ foreign_of s
  unfolding foreign_of
  searched None f = rw (sym (none_before (length s) (le_refl (length s)) f) ∙ foreign_end s (length s) (le_refl (length s)))
  searched (Some i) (h, k, f) = rw (sym (none_before i (omega arith) f) ∙ foreign_here s i h (k 0))

  pub none_found : is_ascii s ≡ true → None ≡ foreign_of s
  unfolding is_ascii foreign_of
  none_found = go (foreign 0 s)
    where
      go : (o : Option ℕ) → maybe o true (λ p. false) ≡ true → ◌≡◌ {A = Maybe ℕ} None (maybe o None (λ p. Some p))
      go none e = refl
      go (some p) e = absurd (subst T (sym e) tt)

  none_foreign : None ≡ foreign_of s → foreign 0 s ≡ none
  unfolding foreign_of
  none_foreign = go (foreign 0 s)
    where
      go : (o : Option ℕ) → ◌≡◌ {A = Maybe ℕ} None (maybe o None (λ p. Some p)) → o ≡ none
      go none e = refl
      go (some p) e = cc

  some_foreign : {i : ℕ} → Some i ≡ foreign_of s → foreign 0 s ≡ some i
  unfolding foreign_of
  some_foreign {i} = go (foreign 0 s)
    where
      go : (o : Option ℕ) → ◌≡◌ {A = Maybe ℕ} (Some i) (maybe o None (λ p. Some p)) → o ≡ some i
      go none e = cc
      go (some p) e = let z : p ≡ i = cc in ap some z

  pub place_found : {i : ℕ} → foreign 0 s ≡ some i → i ≡ foreign_place s
  unfolding foreign_place
  place_found e = rw e

  pub place_none : {i : ℕ} → foreign 0 s ≡ none → i ≡ length s → i ≡ foreign_place s
  unfolding foreign_place
  place_none e k = rw e k

  -- no byte is above 127
  pub plain : None ≡ foreign_of s → foreign_place s ≡ length s
  plain e = sym (place_none (none_foreign e) refl)

  -- it stands within the source
  pub foreign_within : {i : ℕ} → Some i ≡ foreign_of s → i < length s
  foreign_within {i} e = omega (arith, foreign_inside 0 s i (some_foreign e))

  pub never_foreign : length s ≡ foreign_place s → foreign 0 s ≡ none
  unfolding foreign_place
  never_foreign = go (foreign 0 s) refl
    where
      go : (o : Option ℕ) → foreign 0 s ≡ o → length s ≡ maybe o (length s) (λ p. p) → foreign 0 s ≡ none
      go none f e = f
      go (some p) f e = absurd (omega (arith, foreign_inside 0 s p f))

  -- What the code answers to the source: 1, 2, or the source; and 42.
  pub too_long_lem : {r : Refusal} → 65536 < length s → numbers r ≡ spanned 1 0 0 → Lends s (Err r)
  unfolding lent unless too_long most_bytes
  too_long_lem h k = record { so = (nowhere 1, rw (lt-ltb 65536 (length s) h), k) }

  module _ (h : length s ≤ 65536) where
    pub is_foreign : {i : ℕ} {r : Refusal} → Some i ≡ foreign_of s → numbers r ≡ spanned 2 i (i + 1) → Lends s (Err r)
    unfolding lent unless too_long most_bytes ascii
    is_foreign {i} e k = record { so = (at 2 i (i + 1), rw (le-ltb 65536 (length s) h, some_foreign e, add-one), k) }

    pub all_ascii : {v : Ascii} → None ≡ foreign_of s → v.source.text.now ≡ s → Lends s (Ok v)
    unfolding lent unless too_long most_bytes ascii
    all_ascii e k = record { so = (rw (le-ltb 65536 (length s) h, none_foreign e), k) }

  module _ (p : ℕ) where
    pub too_far : {r : Refusal} → length s < p → numbers r ≡ spanned 42 0 0 → LendsAt s p (Err r)
    unfolding lent_at unless
    too_far h k = record { so = (nowhere 42, rw (lt-ltb (length s) p h), k) }

    pub not_far : {r : Answer Ascii Refusal} → p ≤ length s → Lends s r → LendsAt s p r
    unfolding lent_at unless
    not_far {r} h e = go r e
      where
        same : lent_at s p good ≡ lent s good
        same = rw (le-ltb (length s) p h)

        go : (r : Answer Ascii Refusal) → Lends s r → LendsAt s p r
        go (Ok v) e = record { so = (same ∙ e.so.0, e.so.1) }
        go (Err x) e = record { so = (e.so.0, same ∙ e.so.1, e.so.2) }

never : {A : Type 0} {a : A} {c : Cause} → gives a ≡ refuses c → ⊥
never e = let z : ◌≡◌ {A = ℕ} 0 1 = cc in omega arith

-- What the answer says of a call on the source.
module _ {A : Type 0} (s : List ℕ) (x : Result A) where
  lent_any : (o : Option ℕ) (b : Bool) {c : Cause} → unless b (nowhere 1) (maybe {B = Result (Unit {0})} o (gives tt) (λ p. refuses (at 2 p (suc p)))) ≡ refuses c → unless b (nowhere 1) (maybe {B = Result A} o x (λ p. refuses (at 2 p (suc p)))) ≡ refuses c
  unfolding unless
  lent_any o true e = cc
  lent_any none false e = absurd (never e)
  lent_any (some p) false e = cc

  refused_so : {c : Cause} → lent s good ≡ refuses c → lent s x ≡ refuses c
  unfolding lent ascii
  refused_so e = lent_any (foreign 0 s) (too_long s) e

  pub lent_refused : {r : Refusal} → Lends s (Err r) → (c : Cause) × (lent s x ≡ refuses c) × (numbers r ≡ numbers_of c)
  lent_refused e = (e.so.0, refused_so e.so.1, e.so.2)

  pub lent_at_refused : (p : ℕ) {r : Refusal} → LendsAt s p (Err r) → (c : Cause) × (lent_at s p x ≡ refuses c) × (numbers r ≡ numbers_of c)
  unfolding lent_at unless
  lent_at_refused p e = (e.so.0, go (ltb (length s) p) e.so.1, e.so.2)
    where
      go : (b : Bool) {c : Cause} → unless b (nowhere 42) (lent s good) ≡ refuses c → unless b (nowhere 42) (lent s x) ≡ refuses c
      go true e = cc
      go false e = refused_so e

  accepted_so : lent s good ≡ good → (lent s x ≡ x) × (length s ≤ 65536) × (foreign_place s ≡ length s)
  unfolding lent ascii foreign_place too_long most_bytes unless
  accepted_so e = go (ltb 65536 (length s)) refl (foreign 0 s) e
    where
      go : (b : Bool) → ltb 65536 (length s) ≡ b → (o : Option ℕ) → unless b (nowhere 1) (maybe {B = Result (Unit {0})} o (gives tt) (λ p. refuses (at 2 p (suc p)))) ≡ good
          → (unless b (nowhere 1) (maybe {B = Result A} o x (λ p. refuses (at 2 p (suc p)))) ≡ x) × (length s ≤ 65536) × (maybe o (length s) (λ p. p) ≡ length s)
      go true k o e = absurd (never (sym e))
      go false k none e = (refl, ltb-false 65536 (length s) k, refl)
      go false k (some p) e = absurd (never (sym e))

  pub lent_accepted : {v : Ascii} → Lends s (Ok v) → (lent s x ≡ x) × (length s ≤ 65536) × (foreign_place s ≡ length s)
  lent_accepted e = accepted_so e.so.0

  pub lent_at_accepted : (p : ℕ) {v : Ascii} → LendsAt s p (Ok v) → (lent_at s p x ≡ x) × (length s ≤ 65536) × (foreign_place s ≡ length s) × (p ≤ length s)
  unfolding lent_at unless
  lent_at_accepted p e = go (ltb (length s) p) refl e.so.0
    where
      go : (b : Bool) → ltb (length s) p ≡ b → unless b (nowhere 42) (lent s good) ≡ good → (unless b (nowhere 42) (lent s x) ≡ x) × (length s ≤ 65536) × (foreign_place s ≡ length s) × (p ≤ length s)
      go true k e = absurd (never (sym e))
      go false k e = let (i, j, l) = accepted_so e in (i, j, l, ltb-false (length s) p k)

-- The token read.
module _ (s : List ℕ) (p : ℕ) where
  pub token_denied : {r : Refusal} → LendsAt s p (Err r) → by_numbers {A = Token × Cursor} (Err r) ≡ token_answer p (token_call s p)
  unfolding token_call
  token_denied e = let (c, k, h) = lent_at_refused s (token_read p (token_at (drop p s))) p e in rw k (ap Err h)

  module _ {v : Ascii} (a : LendsAt s p (Ok v)) where
    call_is : token_call s p ≡ token_read p (token_at (drop p s))
    unfolding token_call
    call_is = (lent_at_accepted s (token_read p (token_at (drop p s))) p a).0

    pub token_given : {t : Token × Cursor} → Ok t ≡ next_of p (token_at (drop p s)) → by_numbers (Ok t) ≡ token_answer p (token_call s p)
    token_given {t} e = go (token_at (drop p s)) e ∙ ap (token_answer p) (sym call_is)
      where
        go : (x : TokenRead) → Ok t ≡ next_of p x → by_numbers (Ok t) ≡ token_answer p (token_read p x)
        go (found.Read u) e = cc
        go (found.Refused n f) e = cc

    -- An accepted token is kept, and a refused number is refused by its number and span.
    module _ (t : Answer (Token × Cursor) BadNumber) (m : Answer (Token × Cursor) Refusal) (Q : BadNumber → Refusal → Type 0) where
      pub token_mapped : t ≡ next_of p (token_at (drop p s)) → MatchResult t (λ x. m ≡ Ok x) (λ b. IsErrAnd m (Q b)) → ((b : BadNumber) (r : Refusal) → Q b r → numbers r ≡ spanned (fault_number b.fault) b.from b.to) → by_numbers m ≡ token_answer p (token_call s p)
      token_mapped e h k = go (token_at (drop p s)) t e m h ∙ ap (token_answer p) (sym call_is)
        where
          go : (x : TokenRead) (t : Answer (Token × Cursor) BadNumber) → t ≡ next_of p x → (m : Answer (Token × Cursor) Refusal) → MatchResult t (λ x. m ≡ Ok x) (λ b. IsErrAnd m (Q b)) → by_numbers m ≡ token_answer p (token_read p x)
          go (found.Read u) (Ok y) e m h = cc
          go (found.Read u) (Err b) e m h = cc
          go (found.Refused n g) (Ok y) e m h = cc
          go (found.Refused n g) (Err b) e (Ok y) h = absurd h
          go (found.Refused n g) (Err b) e (Err r) h = let z = k b r h in cc

    -- a refused number stands within the source
    pub within : {b : BadNumber} → Err b ≡ next_of p (token_at (drop p s)) → (b.from ≤ 65536) × (b.to ≤ 65536)
    within {b} e = go (token_at (drop p s)) (token_at_le (drop p s)) e
      where
        short : (length s ≤ 65536) × (p ≤ length s)
        short = let b = lent_at_accepted s (token_read p (token_at (drop p s))) p a in (b.1, b.3)

        go : (x : TokenRead) → size_of x ≤ length (drop p s) → Err b ≡ next_of p x → (b.from ≤ 65536) × (b.to ≤ 65536)
        go (found.Read u) k e = let z : ◌≡◌ {A = ℕ} 0 1 = cc in absurd (omega arith)
        go (found.Refused n g) k e =
            let h : b ≡ record { fault = g; from = p; to = p + n } = cc in
            let l = ap (λ (b : BadNumber). b.from) h in
            let m = ap (λ (b : BadNumber). b.to) h in
            let q = length-drop p s in
            (omega (arith, short), omega (arith, short))
