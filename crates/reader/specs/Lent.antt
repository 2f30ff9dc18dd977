-- Where a source has a byte that is not to be read.
use Rattle.std.specs.Prelude.{ℕ, Bool, true, false, List, length, Option, Some, None}
use Rattle.lexer.specs.Text.{maybe}
use Rattle.rules.specs.Calls.{foreign}

-- whether no byte is above 127
unfoldable pub is_ascii : List ℕ → Bool
is_ascii s = maybe (foreign 0 s) true (λ p. false)

-- the place of the first byte above 127, or the length
unfoldable pub foreign_place : List ℕ → ℕ
foreign_place s = maybe (foreign 0 s) (length s) (λ p. p)

-- the place of the first byte above 127, if there is one
unfoldable pub foreign_of : List ℕ → Option ℕ
foreign_of s = maybe (foreign 0 s) None (λ p. Some p)
