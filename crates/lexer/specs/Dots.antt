-- Dots in names (RULES 2.3), and which tokens they change. The rule itself is `is_word_part`, in Text.
use Rattle.std.specs.Prelude.{◌≡◌, Bool, true, false, ◌&&◌, ◌||◌, List, [], ◌∷◌, map, ℕ, ◌<◌, get_or, if◌then◌else◌}
use Prim.Native.Char.{code}
use Rattle.lexer.specs.Text.{is, is_digit, is_letter, run}
use Rattle.lexer.specs.Tokens.{mark, suffixed, token_with, token_at, size_of}
use Rattle.lexer.specs.declared.PunctuationKind.TheVariants.{Dot}
use Rattle.lexer.specs.declared.TokenRead.{TokenRead}

-- The token with the base rules' names (RULES 14.1), which are the original's: a name goes on with letters, digits and `_`. All else is as in `token_at`.
-- Nothing is read so; it is here to be compared with.
unfoldable pub is_plain_part : ℕ → Bool
is_plain_part c = is_letter c || is_digit c

unfoldable pub plain_token : List ℕ → TokenRead
plain_token s = token_with is_plain_part suffixed s

-- Bytes begin with such a name, and a dot follows it directly.
unfoldable pub dot_follows : List ℕ → Bool
dot_follows [] = false
dot_follows (c ∷ cs) = is_letter c && is "." (get_or cs (run is_plain_part cs) 0)

-- A dot as `_`, which those names hold too.
unfoldable pub underscored : ℕ → ℕ
underscored c = if is "." c then code "_" else c

-- THE TOKENS THAT CHANGE are the names that a dot follows directly: they are longer. A name takes the dots behind its first character just as it
-- takes `_`. A dot that starts a token is punctuation, whatever stands behind it.
pub record DottedNames : Type 0 where
  pub longer : (s : List ℕ) → dot_follows s ≡ true → size_of (plain_token s) < size_of (token_at s)
  pub others : (s : List ℕ) → dot_follows s ≡ false → token_at s ≡ plain_token s
  pub exact : (c : ℕ) (cs : List ℕ) → is_letter c ≡ true → token_at (c ∷ cs) ≡ plain_token (c ∷ map underscored cs)
  pub starts : (s : List ℕ) → token_at (code "." ∷ s) ≡ mark Dot

unfoldable pub open_dots : Unit {0}
unfolding is_plain_part plain_token dot_follows underscored
open_dots = tt
