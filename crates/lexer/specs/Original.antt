-- The base rules' token (RULES 14.1, 14.2), which is the original's, and the tokens that are the same by both.
use Rattle.std.specs.Prelude.{◌≡◌, Bool, true, false, ◌||◌, List, ℕ, get_or}
use Rattle.lexer.specs.Tokens.{stray, token_with, token_at}
use Rattle.lexer.specs.Dots.{is_plain_part, dot_follows}
use Rattle.lexer.specs.Letters.{letter_follows, last_first}
use Rattle.lexer.specs.declared.TokenRead.{TokenRead}

-- Its names hold no dots (RULES 14.1), and a run's last character is looked at before the letter behind it (RULES 14.2).
unfoldable pub original_token : List ℕ → TokenRead
original_token s = token_with is_plain_part last_first s

-- Bytes begin with a token that may be another by the base rules.
unfoldable pub changes : List ℕ → Bool
changes s = dot_follows s || letter_follows s

-- EVERY OTHER TOKEN IS THE ORIGINAL'S; of those that `changes` finds, only one that is Invalid by both.
pub record TokensOfOriginal : Type 0 where
  pub others : (s : List ℕ) → changes s ≡ false → token_at s ≡ original_token s
  pub changed : (s : List ℕ) → changes s ≡ true → token_at s ≡ original_token s → token_at s ≡ stray (get_or s 0 0)

unfoldable pub open_original : Unit {0}
unfolding original_token changes
open_original = tt
