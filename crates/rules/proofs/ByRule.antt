-- Two rules that give the same token wherever a test does not hold give the same tokens where it holds of none, and so the same answers.
use mathlib.Core.Path.{◌≡◌, refl, ap, ◌∙◌}
use mathlib.Core.Bool.{Bool, false}
use mathlib.Core.List.{List, [], ◌∷◌}
use Prim.Native.Nat.{ℕ, zero, suc, pred}
use lib.ListN.{length, drop}
use Rattle.lexer.proofs.Branches.{or_split}
use Rattle.lexer.specs.Tokens.{token_at, size_of}
use Rattle.lexer.specs.declared.TokenRead.{TokenRead}
use Rattle.rules.specs.Lexemes.{Lexeme, put, tokens_by}
use Rattle.rules.specs.Statements.{Profile, rows, outcome, read_rows, read_from, reading}
use Rattle.rules.specs.Calls.{lent, lent_at, token_read, token_call, listed, full_read, one_found, one_read, statement_call}
use Rattle.rules.specs.ByRule.{token_by, statement_by, full_by, ByRule, somewhere, SameWithout}

module _ (profile : Profile) where
  pub by_rule : ByRule profile
  unfolding token_call statement_call full_read reading read_from token_by statement_by full_by
  by_rule = record { of_token = λ source p. refl; of_statement = λ source p room. refl; of_full_read = λ source room. refl }

module _ (rule : List ℕ → TokenRead) (test : List ℕ → Bool) (others : (s : List ℕ) → test s ≡ false → token_at s ≡ rule s) where
  tokens_same : (p k : ℕ) (s : List ℕ) → somewhere rule test k s ≡ false → tokens_by token_at p k s ≡ tokens_by rule p k s
  unfolding tokens_by somewhere
  tokens_same p k [] h = refl
  tokens_same p (suc k) (c ∷ cs) h = tokens_same (suc p) k cs h
  tokens_same p zero (c ∷ cs) h =
      let (a, b) = or_split (test (c ∷ cs)) _ h in
      let t : TokenRead = rule (c ∷ cs) in
      rw (others (c ∷ cs) a) (ap (put p t (c ∷ cs)) (tokens_same (suc p) (pred (size_of t)) cs b))

  -- THE ANSWERS.
  pub same_without : (profile : Profile) → SameWithout profile rule test
  unfolding token_by statement_by full_by
  same_without profile = record {
    of_token = λ source p h. (by_rule profile).of_token source p ∙ ap (λ (t : TokenRead). lent_at source p (token_read p t)) (others (drop p source) h);
    of_statement = λ source p room h. (by_rule profile).of_statement source p room
        ∙ ap (λ (xs : List Lexeme). lent_at source p (one_found room (one_read profile (rows xs)))) (tokens_same p 0 (drop p source) h);
    of_full_read = λ source room h. (by_rule profile).of_full_read source room
        ∙ ap (λ (xs : List Lexeme). lent source (listed room (outcome (read_rows profile (suc (length source)) (rows xs))))) (tokens_same 0 0 source h);
  }
