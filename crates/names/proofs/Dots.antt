-- A name that holds a dot names nothing: no name and no spelling of the table holds one, by a test over them all.
use mathlib.Core.Path.{◌≡◌, refl, sym, ap, ◌∙◌}
use mathlib.Core.Bool.{Bool, true, false, not, ◌&&◌, ◌||◌, or-true, false≢true}
use mathlib.Core.List.{List, [], ◌∷◌, map}
use mathlib.Core.Option.{none}
use Prim.Native.Nat.{ℕ, zero, suc}
use Prim.Native.Char.{code}
use Prim.Native.String.{String}
use lib.Dec.{eqb}
use lib.ListN.{drop}
use borrow.Author.Tests.{eqb-true}
use Rattle.lexer.specs.Text.{bytes, among, within, lower, same, open_text}
use Rattle.lexer.proofs.Branches.{and_split}
use Rattle.names.specs.Names.{rows_in, registers, segments, sizes, directives, place_from, named, spelling, operation_from, operation_named}
use Rattle.names.specs.Table.{spellings, row, rows_of, operations}
use Rattle.names.specs.Claims.{DotsNameNothing}
use Rattle.names.proofs.Keys.{same_eq}

abbrev dotted : List ℕ → Bool
dotted w = among (code ".") w

-- Letters are lowered, dots stay.
lower_dotted : (w : List ℕ) → dotted w ≡ true → dotted (map lower w) ≡ true
unfolding among lower within
lower_dotted [] h = h
lower_dotted (c ∷ w) h = go (eqb (code ".") c) refl h (λ i. lower_dotted w i)
  where
    go : (b : Bool) → eqb (code ".") c ≡ b → b || dotted w ≡ true → (dotted w ≡ true → dotted (map lower w) ≡ true) → eqb (code ".") (lower c) || dotted (map lower w) ≡ true
    go true e i again = rw (sym (eqb-true (code ".") c e))
    go false e i again = rw (again i, or-true)

-- What a dotted word is the same as is dotted.
none_same : (w s : List ℕ) → dotted w ≡ true → not (dotted s) ≡ true → same w s ≡ false
none_same w s d n = go (same w s) refl
  where
    go : (b : Bool) → same w s ≡ b → b ≡ false
    go true e =
        let i : w ≡ s = same_eq w s (rw e tt) in
        let j : dotted s ≡ true = rw i at d in
        absurd (false≢true (ap not (sym j) ∙ n))
    go false e = refl

unfoldable dotless : List String → Bool
dotless [] = true
dotless (name ∷ names) = not (dotted (bytes name)) && dotless names

none_placed : (n : ℕ) (w : List ℕ) (names : List String) → dotted w ≡ true → dotless names ≡ true → place_from n w names ≡ none
unfolding place_from dotless
none_placed n w [] d h = refl
none_placed n w (name ∷ names) d h =
    let (a, b) = and_split (not (dotted (bytes name))) (dotless names) h in
    rw (none_same w (bytes name) d a) (none_placed (suc n) w names d b)

none_named : (names : List String) → dotless names ≡ true → (w : List ℕ) → dotted w ≡ true → named names w ≡ none
unfolding named
none_named names h w d = none_placed 0 (map lower w) names (lower_dotted w d) h

unfoldable dotless_rows : ℕ → List ℕ → Bool
dotless_rows zero table = true
dotless_rows (suc n) table = not (dotted (spelling table)) && dotless_rows n (drop 8 table)

none_from : (n : ℕ) (w table : List ℕ) → dotted w ≡ true → dotless_rows n table ≡ true → operation_from n w table ≡ none
unfolding operation_from dotless_rows
none_from zero w table d h = refl
none_from (suc n) w table d h =
    let (a, b) = and_split (not (dotted (spelling table))) (dotless_rows n (drop 8 table)) h in
    rw (none_same w (spelling table) d a) (none_from n w (drop 8 table) d b)

-- The tests, computed.
dotless_rows_lem : dotless_rows (rows_in operations) operations ≡ true
unfolding open_text dotless_rows spelling spellings row rows_of operations
dotless_rows_lem = refl

pub dots_name_nothing : DotsNameNothing operations
unfolding open_text dotless registers segments sizes directives operation_named
dots_name_nothing = record {
  register = none_named registers refl;
  segment = none_named segments refl;
  size = none_named sizes refl;
  directive = none_named directives refl;
  operation = λ w d. none_from (rows_in operations) (map lower w) operations (lower_dotted w d) dotless_rows_lem;
}
