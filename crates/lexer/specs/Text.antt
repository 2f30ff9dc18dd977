-- Letters and numbers: classes of characters, runs of them, and what digits are worth. RULES 2.
-- A byte is a number; a text in quotes stands for its bytes.
use Rattle.std.specs.Prelude.{Bool, true, false, ◌&&◌, ◌||◌, List, [], ◌∷◌, ℕ, suc, ◌+◌, ◌*◌, ◌-◌, eqb, leb, if◌then◌else◌}
use Rattle.std.proofs.Math.Option.{Option, none, some}
use Prim.Native.Char.{Char, code}
use Prim.Native.String.{String}

abbrev pub maybe {ℓ} : {A : Type 0} {B : Type ℓ} → Option A → B → (A → B) → B
maybe none b f = b
maybe (some a) b f = f a

unfoldable pub bytes : String → List ℕ
bytes String.[] = []
bytes (String.◌∷◌ c s) = code c ∷ bytes s

unfoldable pub among : ℕ → List ℕ → Bool
among c [] = false
among c (a ∷ s) = eqb c a || among c s

-- c is the character a; c is from a to z; c is a character of s
unfoldable pub is : Char → ℕ → Bool
is a c = eqb c (code a)

unfoldable pub within : Char → Char → ℕ → Bool
within a z c = leb (code a) c && leb c (code z)

unfoldable pub any_of : String → ℕ → Bool
any_of s c = among c (bytes s)

-- Space, tab and CR are whitespace.
unfoldable pub is_blank : ℕ → Bool
is_blank c = any_of " \t\r" c

unfoldable pub is_digit : ℕ → Bool
is_digit c = within "0" "9" c

unfoldable pub is_hex_digit : ℕ → Bool
is_hex_digit c = is_digit c || within "a" "f" c || within "A" "F" c

-- A name begins with a letter or `_` and goes on with letters, digits, `_` and dots. RULES 2.3: after its first character a name may
-- hold a dot.
unfoldable pub is_letter : ℕ → Bool
is_letter c = within "a" "z" c || within "A" "Z" c || is "_" c

unfoldable pub is_word_part : ℕ → Bool
is_word_part c = is_letter c || is_digit c || is "." c

unfoldable pub lower : ℕ → ℕ
lower c = if within "A" "Z" c then c + 32 else c

-- how many characters pass the test before the first that does not
unfoldable pub run : (ℕ → Bool) → List ℕ → ℕ
run p [] = 0
run p (c ∷ cs) = let r : ℕ = suc (run p cs) in if p c then r else 0

unfoldable pub all : (ℕ → Bool) → List ℕ → Bool
all p [] = true
all p (c ∷ cs) = p c && all p cs

unfoldable pub last : List ℕ → ℕ
last [] = 0
last (c ∷ []) = c
last (c ∷ d ∷ cs) = last (d ∷ cs)

unfoldable pub same : List ℕ → List ℕ → Bool
same [] [] = true
same [] (c ∷ t) = false
same (c ∷ s) [] = false
same (c ∷ s) (d ∷ t) = let r : Bool = same s t in if eqb c d then r else false

-- a digit's worth, and that of a row of digits in a base behind those that gave v
unfoldable pub digit : ℕ → ℕ
digit c = if is_digit c then c - code "0" else lower c - code "a" + 10

unfoldable pub value_from : ℕ → ℕ → List ℕ → ℕ
value_from v base [] = v
value_from v base (c ∷ cs) = value_from (v * base + digit c) base cs

unfoldable pub open_text : Unit {0}
unfolding bytes among is within any_of is_blank is_digit is_hex_digit is_letter is_word_part lower run all last same digit value_from
open_text = tt
