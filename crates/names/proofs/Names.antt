-- A word's place among names is the place of its key among theirs.
use mathlib.Core.Path.{◌≡◌, refl, sym, ap, ◌∙◌}
use mathlib.Core.Bool.{Bool, true, ◌&&◌}
use mathlib.Core.List.{List, [], ◌∷◌, map}
use Prim.Native.Nat.{ℕ, suc, ◌<◌}
use Prim.Native.String.{String}
use lib.Dec.{T}
use lib.ListN.{get_or}
use Rattle.lexer.specs.Text.{bytes, lower, all}
use Rattle.names.specs.Names.{registers, segments, sizes, directives, place_from, named, name_of, directive_of}
use Rattle.names.specs.Keys.{key_of, spelled, keys_of, place_of, name_by, directive_by}
use Rattle.names.proofs.Keys.{Bytes, both, by_key, lower_small}

abbrev all_spelled : List String → Bool
all_spelled [] = true
all_spelled (s ∷ ss) = spelled (bytes s) && all_spelled ss

by_keys : (v : List ℕ) → ((i : ℕ) → get_or v i 0 < 256) → (n : ℕ) (names : List String) → T (all_spelled names) → place_from n v names ≡ place_of n (key_of v) (keys_of names)
unfolding place_from
by_keys v small n [] t = refl
by_keys v small n (s ∷ ss) t =
    let b = both (spelled (bytes s)) (all_spelled ss) t in
    rw (by_key v small (bytes s) b.0, by_keys v small (suc n) ss b.1)

-- a word names what its key names
module _ (w : List ℕ) (small : Bytes w) where
  place : (names : List String) → T (all_spelled names) → named names w ≡ place_of 0 (key_of (map lower w)) (keys_of names)
  unfolding named
  place names t = by_keys (map lower w) (lower_small w small) 0 names t

  pub names_by : {x : ℕ} → x ≡ key_of (map lower w) → name_by x ≡ name_of w
  unfolding registers segments sizes bytes all spelled
  names_by e = ap name_by e ∙ sym (rw (place registers tt, place segments tt, place sizes tt))

  pub directs_by : {x : ℕ} → x ≡ key_of (map lower w) → directive_by x ≡ directive_of w
  unfolding directives bytes all spelled
  directs_by e = ap directive_by e ∙ sym (rw (place directives tt))
