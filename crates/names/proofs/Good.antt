-- The table of operations is good: a test that is computed once over all of its rows.
use Rattle.std.specs.Prelude.{if◌then◌else◌}
use mathlib.Core.Path.{◌≡◌, refl, ap, ◌∙◌}
use mathlib.Core.Bool.{Bool, true, false, ◌&&◌, false≢true}
use mathlib.Core.List.{List, [], ◌∷◌}
use mathlib.Core.Option.{Option, none, some}
use Prim.Native.Nat.{ℕ, zero, suc, ◌<◌}
use native.Mathlib.Omega.{arith}
use lib.Dec.{eqb}
use borrow.Author.Tests.{eqb-true, eqb-false}
use Rattle.lexer.proofs.Branches.{and_split}
use Rattle.lexer.specs.Text.{maybe, bytes, run, all, open_text}
use Rattle.names.specs.Table.{Spelling, spellings, row, rows_of, operations}
use Rattle.names.specs.Names.{spelling, directives, operation_from, operation_named}
use Rattle.names.specs.Keys.{key, spelled, good_from, apart_from, good_table}
use Rattle.names.specs.Claims.{NamesAll}

pub operations_good : good_table operations ≡ true
unfolding bytes run all spellings row rows_of operations spelling directives key spelled good_from apart_from good_table
operations_good = refl

-- for a caller that has made the table
pub made_good : {t : List ℕ} → t ≡ operations → good_table t ≡ true
made_good e = ap good_table e ∙ operations_good

-- Each of the 99 operations is named: the text of the first spelling that has its number names it, by one more test over them all.
word_of : ℕ → List Spelling → List ℕ
word_of n [] = []
word_of n (s ∷ ss) = let r : List ℕ = word_of n ss in if eqb s.operation n then (bytes s.text) else r

is_named : ℕ → Bool
is_named n = maybe (operation_named operations (word_of n spellings)) false (eqb n)

named_below : ℕ → Bool
named_below zero = true
named_below (suc n) = is_named n && named_below n

named_below_lem : named_below 99 ≡ true
unfolding open_text spellings row rows_of operations spelling operation_from operation_named word_of is_named named_below
named_below_lem = refl

is_named_lem : (n : ℕ) → is_named n ≡ true → operation_named operations (word_of n spellings) ≡ some n
unfolding is_named
is_named_lem n h = go (operation_named operations (word_of n spellings)) h
  where
    go : (o : Option ℕ) → maybe o false (eqb n) ≡ true → o ≡ some n
    go none i = absurd (false≢true i)
    go (some m) i = let e : n ≡ m = eqb-true n m i in cc

of_all : (k : ℕ) → named_below k ≡ true → (n : ℕ) → n < k → is_named n ≡ true
unfolding named_below
of_all zero h n l = absurd (omega arith)
of_all (suc k) h n l = let (i, j) = and_split (is_named k) (named_below k) h in go (eqb n k) refl i (λ m. of_all k j n m)
  where
    go : (b : Bool) → eqb n k ≡ b → is_named k ≡ true → (n < k → is_named n ≡ true) → is_named n ≡ true
    go true e i again = rw (eqb-true n k e) i
    go false e i again = let d : ¬ (n ≡ k) = eqb-false n k e in again (omega arith)

pub names_all : NamesAll operations
names_all = record { word = λ n l. (word_of n spellings, is_named_lem n (of_all 99 named_below_lem n l)) }
