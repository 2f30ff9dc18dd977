-- Every token that RULES 14.1 and 14.2 leave alone is the base rules'.
use mathlib.Core.Path.{◌≡◌, refl, sym, ap, ◌∙◌}
use mathlib.Core.Bool.{true, false, false≢true}
use mathlib.Core.List.{List, [], ◌∷◌}
use mathlib.Core.Logic.{⊎_elim}
use Prim.Native.Nat.{ℕ, ◌<◌}
use native.Mathlib.Omega.{arith}
use lib.ListN.{get_or}
use Rattle.lexer.specs.Text.{is_letter, is_word_part}
use Rattle.lexer.specs.Tokens.{stray, suffixed, token_with, token_at, size_of}
use Rattle.lexer.specs.Dots.{is_plain_part, plain_token, dot_follows}
use Rattle.lexer.specs.Letters.{begins_run, letter_follows, last_first, last_first_token}
use Rattle.lexer.specs.Original.{original_token, changes, TokensOfOriginal}
use Rattle.lexer.proofs.Branches.{and_split, or_split}
use Rattle.lexer.proofs.Runs.{one_of}
use Rattle.lexer.proofs.Scans.{same_with}
use Rattle.lexer.proofs.Dots.{name_with, name_same, dotted_names}
use Rattle.lexer.proofs.Letters.{run_with, number_same, follows_begun, letter_first}

others : (s : List ℕ) → changes s ≡ false → token_at s ≡ original_token s
unfolding changes token_at original_token token_with
others [] h = refl
others (c ∷ cs) h =
    let (d, l) = or_split (dot_follows (c ∷ cs)) _ h in
    same_with c cs is_word_part is_plain_part suffixed last_first (number_same c cs l) (name_same c cs d)

-- The original's number has the base rules' order (RULES 14.2), and its name is the one without dots.
number : (c : ℕ) (cs : List ℕ) → letter_follows (c ∷ cs) ≡ true → original_token (c ∷ cs) ≡ last_first_token (c ∷ cs)
unfolding original_token last_first_token
number c cs h =
    let r : begins_run (c ∷ cs) ≡ true = follows_begun (c ∷ cs) h in
    run_with is_plain_part last_first c cs r ∙ sym (run_with is_word_part last_first c cs r)

name : (c : ℕ) (cs : List ℕ) → dot_follows (c ∷ cs) ≡ true → original_token (c ∷ cs) ≡ plain_token (c ∷ cs)
unfolding original_token plain_token dot_follows
name c cs h =
    let (l, d) = and_split (is_letter c) _ h in
    name_with is_plain_part last_first c cs l ∙ sym (name_with is_plain_part suffixed c cs l)

apart : (a b : ℕ) → a < b → b ≡ a → ⊥
apart a b h e = omega (arith, h, e)

changed : (s : List ℕ) → changes s ≡ true → token_at s ≡ original_token s → token_at s ≡ stray (get_or s 0 0)
unfolding changes dot_follows letter_follows begins_run
changed [] h e = absurd (false≢true h)
changed (c ∷ cs) h e =
    ⊎_elim
    (λ d. absurd (apart (size_of (plain_token (c ∷ cs))) (size_of (token_at (c ∷ cs))) (dotted_names.longer (c ∷ cs) d) (ap size_of (e ∙ name c cs d))))
    (λ l. letter_first.changed (c ∷ cs) l (e ∙ number c cs l))
    (one_of (dot_follows (c ∷ cs)) _ h)

pub tokens_of_original : TokensOfOriginal
tokens_of_original = record { others = others; changed = changed }
