-- 1 and 2 as the rules say, by the place of the first byte above 127.
-- Assumes nothing.
use mathlib.Core.Path.{refl}
use native.Mathlib.Omega.{arith}
use Rattle.reader.proofs.Lending.{too_long_lem, is_foreign, all_ascii, plain, foreign_within}
use Rattle.reader.proofs.readable.Goals as goal

pub returns-then-source-gt-SOURCE_MAX : goal.returns-then-source-gt-SOURCE_MAX
returns-then-source-gt-SOURCE_MAX c = too_long_lem _ c.if-source-gt-SOURCE_MAX.true c.refused_nowhere.ensures

pub overflow_cast-from : goal.overflow_cast-from
overflow_cast-from c = let h = c.if-source-gt-SOURCE_MAX.false in omega (arith, foreign_within _ c.in-Some.ensures)

pub overflow_add-from : goal.overflow_add-from
overflow_add-from c = let h = c.if-source-gt-SOURCE_MAX.false in omega (arith, foreign_within _ c.in-Some.ensures)

pub invariant_of-result-in-None : goal.invariant_of-result-in-None
invariant_of-result-in-None c = record { ascii = plain _ c.in-None.ensures }

pub returns-in-Some : goal.returns-in-Some
returns-in-Some c = is_foreign _ c.if-source-gt-SOURCE_MAX.false c.in-Some.ensures c.refused_at.ensures

pub returns-in-None : goal.returns-in-None
returns-in-None c = all_ascii _ c.if-source-gt-SOURCE_MAX.false c.in-None.ensures refl
