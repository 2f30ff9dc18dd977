-- What is claimed of lookups. The laws are proved in proofs/: Good, Dots.
use Rattle.std.specs.Prelude.{◌≡◌, true, List, ℕ, ◌<◌}
use Rattle.std.proofs.Math.Option.{none, some}
use Prim.Native.Char.{code}
use Rattle.lexer.specs.Text.{among}
use Rattle.names.specs.Names.{registers, segments, sizes, directives, named, operation_named}

-- Each of the 99 operations is named: a word names it by the table.
pub record NamesAll (table : List ℕ) : Type 0 where
  pub word : (operation : ℕ) → operation < 99 → (w : List ℕ) × (operation_named table w ≡ some operation)

-- Lookup is of the whole name: one that holds a dot names nothing, so it is a label, or a name in an expression. RULES 3.1.
pub record DotsNameNothing (table : List ℕ) : Type 0 where
  pub register : (w : List ℕ) → among (code ".") w ≡ true → named registers w ≡ none
  pub segment : (w : List ℕ) → among (code ".") w ≡ true → named segments w ≡ none
  pub size : (w : List ℕ) → among (code ".") w ≡ true → named sizes w ≡ none
  pub directive : (w : List ℕ) → among (code ".") w ≡ true → named directives w ≡ none
  pub operation : (w : List ℕ) → among (code ".") w ≡ true → operation_named table w ≡ none
