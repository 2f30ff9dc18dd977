-- The values of a listing: numbers are at most 2147483647, and a character is a byte.
use mathlib.Core.List.{List, [], ◌∷◌, ◌++◌}
use Prim.Native.Nat.{ℕ, ◌≤◌}
use Rattle.rules.specs.Records.{form_of, Record, VC}
use Rattle.rules.specs.Statements.{present, reading}
use Rattle.rules.specs.Claims.{ValuesFit}
use Rattle.rules.proofs.Table.{proper}
use Rattle.rules.proofs.Ranged.{Extras}
use Rattle.rules.proofs.Cut.{accepts_run}
use Rattle.rules.proofs.Listing.{gives_fits}
use Rattle.rules.proofs.Calls.{Accepted, accepted_call}

value_small : (before behind : List Record) (f t v : ℕ) → Extras (before ++ (VC f t v ∷ behind)) → v ≤ 2147483647
unfolding form_of
value_small [] behind f t v h = h.0.0
value_small (r ∷ rs) behind f t v h = value_small rs behind f t v h.1

pub values_fit : ValuesFit
unfolding reading
values_fit = record {
  below = λ source room before behind f t v h.
      let c : Accepted present source (before ++ (VC f t v ∷ behind)) = accepted_call present source room (before ++ (VC f t v ∷ behind)) h in
      let (u, g) = accepts_run present 0 source (before ++ (VC f t v ∷ behind)) c.reads in
      value_small before behind f t v (gives_fits present proper 0 source (before ++ (VC f t v ∷ behind)) u c.small g).extras;
}
