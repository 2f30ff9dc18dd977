-- Records and their bytes.
use mathlib.Core.Path.{◌≡◌, refl, sym, ap, ◌∙◌}
use mathlib.Core.List.{List, [], ◌∷◌, ◌++◌, append_assoc}
use Prim.Native.Nat.{ℕ, ◌+◌, ◌*◌}
use native.Mathlib.Omega.{arith}
use lib.ListN.{length, length-append}
use Rattle.rules.specs.Records.{Record, plain, laden, fields, field, encode, listing}

-- The bytes of records behind others.
pub listing_append : (w v : List Record) → listing (w ++ v) ≡ listing w ++ listing v
unfolding listing
listing_append [] v = refl
listing_append (r ∷ w) v = ap (λ (s : List ℕ). encode r ++ s) (listing_append w v) ∙ sym (append_assoc (encode r) (listing w) (listing v))

-- How long they are.
pub length_fields : (ns : List ℕ) → length (fields ns) ≡ 4 * length ns
unfolding fields field
length_fields [] = refl
length_fields (n ∷ ns) = omega (arith, length_fields ns)

pub length_plain : (m ns : List ℕ) → length (encode (plain m ns)) ≡ length m + 4 * length ns
unfolding encode
length_plain m ns = length-append m (fields ns) ∙ ap (λ (n : ℕ). length m + n) (length_fields ns)

pub length_laden : (m ns d : List ℕ) → length (encode (laden m ns d)) ≡ length m + (4 * length ns + 4 + length d)
unfolding encode
length_laden m ns d =
    let c : List ℕ = length d ∷ [] in
    omega (arith, length-append (m ++ fields (ns ++ c)) d, length-append m (fields (ns ++ c)), length_fields (ns ++ c), length-append ns c)
