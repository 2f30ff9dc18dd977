-- Numbers as text, and text written to a lent buffer.
use Rattle.std.specs.Prelude.{◌≡◌, List, [], ◌∷◌, ◌++◌, ℕ, zero, suc, ◌+◌, ◌-◌, ◌/◌, ◌%◌, min, max, ltb, length, if◌then◌else◌}
use Prim.Native.Char.{code}
use Rattle.std.proofs.lemmas.List.Edits.{sets}
use Rattle.lexer.specs.Text.{bytes}
use Rattle.text.specs.declared.Text.{Text}

-- The decimal digits of a number that has at most k of them.
unfoldable pub decimal_in : ℕ → ℕ → List ℕ
decimal_in zero n = []
decimal_in (suc k) n =
    let r : List ℕ = decimal_in k (n / 10) in
    if ltb n 10 then ((code "0" + n) ∷ []) else (r ++ (code "0" + n % 10) ∷ [])

-- A number of 64 bits has at most 20 (Claims: DigitsSuffice).
unfoldable pub decimal : ℕ → List ℕ
decimal n = decimal_in 20 n

-- A number of 32 bits, of which the highest is the sign's: the text of the signed number (Claims: PrintsSigned).
unfoldable pub signed : ℕ → List ℕ
signed v = if ltb v 2147483648 then (decimal v) else (bytes "-" ++ decimal (4294967296 - v))

-- Numbers behind a mark.
unfoldable pub numbers : List ℕ → List ℕ
numbers [] = []
numbers (n ∷ ns) = bytes " " ++ decimal n ++ numbers ns

unfoldable pub stores : List ℕ → ℕ → List ℕ → List ℕ
stores l at bs = sets l at bs

-- The text bs is written to a writer's buffer from its place on, as far as there is room, and the place is behind the text then. The buffer
-- is the same one, so that its owner has what was written.
pub record Put (bs : List ℕ) (old new : Text) : Type 0 where
  pub text : new.out.now ≡ stores old.out.now old.at bs
  pub place : new.at ≡ max old.at (min (old.at + length bs) (length old.out.now))
  pub buffer : new.out.ghost_name ≡ old.out.ghost_name

unfoldable pub open_text : Unit {0}
unfolding bytes decimal_in decimal signed numbers
open_text = tt
