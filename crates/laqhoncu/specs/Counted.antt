-- How many tokens bytes have, of which the first k belong to a token that is already read.
use Rattle.std.specs.Prelude.{List, [], ◌∷◌, ℕ, zero, suc, pred}
use Rattle.lexer.specs.Tokens.{token_at, size_of}

unfoldable pub count_from : ℕ → List ℕ → ℕ
count_from k [] = 0
count_from (suc k) (c ∷ cs) = count_from k cs
count_from zero (c ∷ cs) = suc (count_from (pred (size_of (token_at (c ∷ cs)))) cs)
