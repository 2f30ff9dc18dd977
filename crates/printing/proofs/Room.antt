-- How long text is: a number has at most 20 digits, and a byte at most 3.
use Rattle.std.specs.Prelude.{if◌then◌else◌}
use Prim.Native.Nat.{ℕ, zero, suc, ◌+◌, ◌*◌, ◌-◌, ◌/◌, ◌%◌, ◌≤◌, ◌<◌}
use mathlib.Core.Path.{◌≡◌, refl, ap}
use mathlib.Core.Bool.{Bool, true, false}
use mathlib.Core.List.{List, [], ◌∷◌, ◌++◌}
use native.Mathlib.Omega.{arith}
use lib.Dec.{ltb}
use lib.ListN.{length, length-append, length-take, take, drop, get_or}
use borrow.Author.Tests.{lt-ltb}
use Rattle.lexer.specs.Text.{bytes}
use Rattle.refusals.specs.Refusals.{Numbers}
use Rattle.rules.specs.Decode.{nth, nths_from}
use Rattle.text.specs.Text.{decimal_in, decimal, signed, numbers}
use Rattle.printing.specs.Lines.{line, refusal_text}
use Rattle.printing.specs.Shapes.{nths}

one_more : (k m n : ℕ) → length (decimal_in k (n / 10)) ≤ m → length (decimal_in (suc k) n) ≤ suc m
unfolding decimal_in
one_more k m n h = go (ltb n 10)
  where
    go : (b : Bool) → length (if b then ((48 + n) ∷ []) else (decimal_in k (n / 10) ++ (48 + n % 10) ∷ [])) ≤ suc m
    go true = omega arith
    go false = omega (arith, h, length-append (decimal_in k (n / 10)) ((48 + n % 10) ∷ []))

digits_most : (k n : ℕ) → length (decimal_in k n) ≤ k
unfolding decimal_in
digits_most zero n = omega arith
digits_most (suc k) n = one_more k k n (digits_most k (n / 10))

pub decimal_most : (n : ℕ) → length (decimal n) ≤ 20
unfolding decimal
decimal_most n = digits_most 20 n

pub signed_most : (v : ℕ) → length (signed v) ≤ 21
unfolding signed bytes
signed_most v = go (ltb v 2147483648)
  where
    go : (b : Bool) → length (if b then (decimal v) else (bytes "-" ++ decimal (4294967296 - v))) ≤ 21
    go true = omega (arith, decimal_most v)
    go false = omega (arith, decimal_most (4294967296 - v))

one_digit : (k n : ℕ) → n < 10 → length (decimal_in (suc k) n) ≤ 1
unfolding decimal_in
one_digit k n h = rw (lt-ltb n 10 h) (omega arith)

byte_most : (n : ℕ) → n < 256 → length (decimal n) ≤ 3
unfolding decimal
byte_most n h = one_more 19 2 n (one_more 18 1 (n / 10) (one_digit 17 (n / 10 / 10) (omega arith)))

pub numbers_most : (ns : List ℕ) → length (numbers ns) ≤ 21 * length ns
unfolding numbers bytes
numbers_most [] = omega arith
numbers_most (n ∷ ns) = omega (arith, decimal_most n, numbers_most ns, length-append (bytes " " ++ decimal n) (numbers ns))

pub bytes_most : (ns : List ℕ) → ((i : ℕ) → get_or ns i 0 < 256) → length (numbers ns) ≤ 4 * length ns
unfolding numbers bytes
bytes_most [] h = omega arith
bytes_most (n ∷ ns) h = omega (arith, byte_most n (h 0), bytes_most ns (λ i. h (suc i)), length-append (bytes " " ++ decimal n) (numbers ns))

pub nths_length : (i n : ℕ) (s : List ℕ) → length (nths_from i n s) ≡ n
unfolding nths_from
nths_length i zero s = refl
nths_length i (suc n) s = ap suc (nths_length (suc i) n s)

pub end_most : (n : ℕ) → length (line "END" (n ∷ [])) ≤ 25
unfolding line bytes
end_most n = omega (arith, numbers_most (n ∷ []), length-append (bytes "END" ++ numbers (n ∷ [])) (bytes "\n"))

pub refusal_most : (r : Numbers) → length (refusal_text r) ≤ 109
unfolding refusal_text line bytes
refusal_most r =
    let ns : List ℕ = r.number ∷ r.from ∷ r.to ∷ r.first ∷ r.second ∷ [] in
    omega (arith, numbers_most ns, length-append (bytes "REF" ++ numbers ns) (bytes "\n"))

-- the bytes of a slice, and of its parts
abbrev pub Bytes : List ℕ → Type 0
Bytes s = (i : ℕ) → get_or s i 0 < 256

take_bytes : (n : ℕ) (s : List ℕ) → Bytes s → Bytes (take n s)
take_bytes zero s h i = omega arith
take_bytes (suc n) [] h i = omega arith
take_bytes (suc n) (c ∷ s) h zero = h 0
take_bytes (suc n) (c ∷ s) h (suc i) = take_bytes n s (λ j. h (suc j)) i

drop_bytes : (n : ℕ) (s : List ℕ) → Bytes s → Bytes (drop n s)
drop_bytes zero s h = h
drop_bytes (suc n) [] h = h
drop_bytes (suc n) (c ∷ s) h = drop_bytes n s (λ j. h (suc j))

-- the text of a record behind its mark
pub fields_short : (n : ℕ) (s : List ℕ) → length (numbers (nths n s)) ≤ 6 * (4 * n) + 9
fields_short n s = omega (arith, numbers_most (nths n s), nths_length 0 n s)

pub value_short : (s : List ℕ) → length (numbers (nths 2 s) ++ bytes " " ++ signed (nth 2 s)) ≤ 6 * 12 + 9
unfolding bytes
value_short s =
    omega (arith, numbers_most (nths 2 s), nths_length 0 2 s, signed_most (nth 2 s), length-append (numbers (nths 2 s) ++ bytes " ") (signed (nth 2 s)), length-append (numbers (nths 2 s)) (bytes " "))

pub data_short : (n : ℕ) (s : List ℕ) → Bytes s → length (numbers (nths 3 (drop 2 s)) ++ numbers (take n (drop 12 (drop 2 s)))) ≤ 6 * (12 + n) + 9
data_short n s h =
    let r : List ℕ = drop 2 s in
    let d : List ℕ = take n (drop 12 r) in
    omega (arith, numbers_most (nths 3 r), nths_length 0 3 r, bytes_most d (take_bytes n (drop 12 r) (drop_bytes 12 r (drop_bytes 2 s h))), length-take n (drop 12 r), length-append (numbers (nths 3 r)) (numbers d))
