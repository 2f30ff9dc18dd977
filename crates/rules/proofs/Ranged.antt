-- The fields of a listing that the check lets pass, of a source that is not too long, fit their four bytes: places are at most the source's
-- length, and the others are bounded each by its own test. VC's value and LD's count, which the check leaves free, are given.
use mathlib.Core.Path.{◌≡◌, refl, sym}
use mathlib.Core.Bool.{Bool, true, false, not, true≢false}
use mathlib.Core.List.{List, [], ◌∷◌}
use mathlib.Core.Option.{Option, none, some}
use Prim.Native.Nat.{ℕ, ◌*◌, ◌≤◌}
use native.Mathlib.Omega.{arith}
use lib.Dec.{leb, ltb}
use lib.ListN.{length, get_or}
use borrow.Author.Tests.{leb-true}
use Rattle.lexer.specs.Text.{maybe}
use Rattle.lexer.proofs.Branches.{and_split}
use Rattle.rules.specs.Records.{Field, start, span, value, below, Form, Record, plain, laden}
use Rattle.rules.specs.WellFormed.{Stack, allow, given, ranges, in_range, checked, checked_all}
use Rattle.rules.proofs.Forms.{bounded, bounds, loads, Within, within, within_count, Taken, taken}
use Rattle.rules.proofs.Decoded.{Low, AllLow, Ranged, AllRanged}
use Rattle.rules.proofs.Shape.{Values, Extra}

abbrev pub Extras : List Record → Type 0
Extras [] = Unit {0}
Extras (r ∷ rs) = Extra r × Extras rs

pub given_true : (b : Bool) (o : Option Stack) {k : Stack} → given b o ≡ some k → b ≡ true
unfolding given
given_true true o h = refl
given_true false o h = absurd (true≢false cc)

pub allow_true : (b : Bool) (x : Stack) {k : Stack} → allow b x ≡ some k → b ≡ true
unfolding allow
allow_true true o h = refl
allow_true false o h = absurd (true≢false cc)

not-true : (b : Bool) → not b ≡ true → b ≡ false
not-true false h = refl
not-true true h = absurd (true≢false (sym h))

module _ (n : ℕ) (short : n ≤ 65536) where
  within_low : (k : Stack) (hs : List Field) (vs : List ℕ) → bounded hs ≡ true → Values hs vs → Within n k hs vs → AllLow vs
  unfolding bounded
  within_low k [] [] b x h = tt
  within_low k [] (v ∷ vs) b x h = absurd h
  within_low k (start ∷ hs) [] b x h = absurd h
  within_low k (start ∷ hs) (p ∷ vs) b x h = (omega (arith, h.1), within_low k hs vs b x h.2)
  within_low k (span ∷ hs) [] b x h = absurd h
  within_low k (span ∷ hs) (f ∷ []) b x h = absurd h
  within_low k (span ∷ hs) (f ∷ t ∷ vs) b x h = (omega (arith, h.1, h.2), (omega (arith, h.2), within_low k hs vs b x h.3))
  within_low k (value ∷ hs) [] b x h = absurd h
  within_low k (value ∷ hs) (v ∷ vs) b x h = (omega (arith, x.0), within_low k hs vs b x.1 h)
  within_low k (below m ∷ hs) [] b x h = absurd h
  within_low k (below m ∷ hs) (v ∷ vs) b x h =
      let (i, j) = and_split (leb m 4294967296) (bounded hs) b in
      (omega (arith, h.0, leb-true m 4294967296 i), within_low k hs vs j x h.1)

  module _ (k k' : Stack) where
    ranged : (r : Record) → checked n k r ≡ some k' → Extra r → Ranged r
    unfolding in_range bounded
    ranged (plain m vs) e x =
        let q : Taken n k (plain m vs) k' = taken n k (plain m vs) e in
        let w : Form = q.described in
        let (b, h) = within n k (not w.laden) w.holds vs q.fits in
        record {
          described = w;
          so = q.so;
          shaped = not-true w.laden b;
          many = within_count n k w.holds vs h;
          low = within_low k w.holds vs (bounds m w q.so) (rw q.so at x) h;
          counted = omega arith;
        }
    ranged (laden m vs d) e x =
        let q : Taken n k (laden m vs d) k' = taken n k (laden m vs d) e in
        let w : Form = q.described in
        let (i, _) = and_split (ranges n k w.laden w.holds vs) (ltb 0 (length d)) q.fits in
        let (b, h) = within n k w.laden w.holds vs i in
        let s : w.holds ≡ span ∷ [] = loads m w q.so b in
        let j : Within n k (span ∷ []) vs = rw s at h in
        record {
          described = w;
          so = q.so;
          shaped = b;
          many = within_count n k w.holds vs h;
          low = within_low k (span ∷ []) vs refl (no_values vs) j;
          counted = few vs j x;
        }
      where
        no_values : (vs : List ℕ) → Values (span ∷ []) vs
        no_values [] = tt
        no_values (f ∷ []) = tt
        no_values (f ∷ t ∷ vs) = tt

        few : (vs : List ℕ) → Within n k (span ∷ []) vs → length d ≤ 4 * get_or vs 1 0 → Low (length d)
        few [] j x = absurd j
        few (f ∷ []) j x = absurd j
        few (f ∷ t ∷ vs) j x = omega (arith, j.2)

  pub all_ranged : (k : Stack) (w : List Record) {top : Stack} → checked_all n k w ≡ some top → Extras w → AllRanged w
  unfolding checked_all
  all_ranged k [] h x = tt
  all_ranged k (r ∷ rs) {top} h x = go (checked n k r) refl h (λ k' e. all_ranged k' rs e x.1)
    where
      go : (o : Option Stack) → checked n k r ≡ o → maybe o none (λ k'. checked_all n k' rs) ≡ some top → ((k' : Stack) → checked_all n k' rs ≡ some top → AllRanged rs) → Ranged r × AllRanged rs
      go none e i again = absurd (true≢false cc)
      go (some k') e i again = (ranged k k' r e x.0, again k' i)
