-- Expressions. RULES 5: children are written before parents, and parentheses leave no record.
use Rattle.std.specs.Prelude.{Bool, true, false, List, [], ◌∷◌, ℕ, zero, suc, ltb, if◌then◌else◌}
use Rattle.std.proofs.Math.Option.{Option, none, some}
use Rattle.lexer.specs.Text.{maybe, is}
use Rattle.rules.specs.Lexemes.{Kind, word, number, quoted, mark, newline, blank, comment, invalid, end, bad, Lexeme}
use Rattle.rules.specs.Records.{VC, VL, VI, VS, PF, IN}
use Rattle.rules.specs.Reader.{Reader, Line, nowhere, ◌>>=◌, ◌>>◌, return, write, refuse, next, ahead, kind, passed, left, refuse_here, is_mark, expect, open_reader}

-- An operator's level comes from its kind alone: `+ -` bind loosest, `* /` tighter, prefix `+ -` tightest. The operator is given by its
-- number. Equal levels group to the left: an operator takes to its right only what binds tighter than it.
unfoldable pub operator_of : Kind → Option ℕ
operator_of k =
    if is_mark "+" k then some 0 else if is_mark "-" k then some 1 else if is_mark "*" k then some 2 else if is_mark "/" k then some 3 else none

unfoldable pub left_level : ℕ → ℕ
left_level op = if ltb op 2 then 1 else 3

unfoldable pub right_level : ℕ → ℕ
right_level op = if ltb op 2 then 2 else 4

unfoldable pub prefix_level : ℕ
prefix_level = 5

-- Atoms: number, closed string of one character, name, `$`, `$$`, whose span covers the first `$` only.
unfoldable pub character : Bool → List ℕ → Lexeme → Reader Line (Unit {0})
character false s x = refuse_here 16
character true [] x = refuse_here 17
character true (c ∷ []) x = next >> write (VC x.from x.to c)
character true (c ∷ d ∷ s) x = refuse_here 17

unfoldable pub atom_of : Kind → Lexeme → Reader Line (Unit {0})
atom_of (number v) x = next >> write (VC x.from x.to v)
atom_of (quoted closed s) x = character closed s x
atom_of (word w) x = next >> write (VL x.from x.to)
atom_of (mark c) x =
    if is "$" c then (do
      next
      k ← kind
      if is_mark "$" k then (next >> write (VS x.from x.to)) else (write (VI x.from x.to)))
    else (refuse_here 21)
atom_of newline x = refuse_here 21
atom_of blank x = refuse_here 21
atom_of comment x = refuse_here 21
atom_of invalid x = refuse_here 21
atom_of end x = refuse_here 21
atom_of (bad n) x = refuse_here 21

unfoldable pub atom : Reader Line (Unit {0})
atom = ahead >>= λ x. atom_of x.kind x

-- What an expression begins with: a parenthesis, a prefix operator or an atom. `inner level` reads an expression one level deeper.
unfoldable pub primary : (ℕ → Reader Line (Unit {0})) → Reader Line (Unit {0})
primary inner = do
  x ← ahead
  if is_mark "(" x.kind then (next >> inner 0 >> expect ")" 14)
      else maybe (operator_of x.kind) atom λ op. do
        next
        if ltb op 2 then (inner prefix_level) else (refuse (nowhere 22))
        t ← passed
        write (PF x.from t op)

-- The infix operators of a level and above, with their right sides, that stand behind an expression which began at f; at most n of them, and
-- `left`, which `expr` hands over, never runs out (Claims: CountersSuffice).
unfoldable pub infixes : ℕ → (ℕ → Reader Line (Unit {0})) → ℕ → ℕ → Reader Line (Unit {0})
infixes zero inner level f = return tt
infixes (suc n) inner level f = do
  k ← kind
  maybe (operator_of k) (return tt) λ op.
      if ltb (left_level op) level then (return tt) else (do
        next
        inner (right_level op)
        t ← passed
        write (IN f t op)
        infixes n inner level f)

-- An expression at a level, where d more of them may begin within one another; 3 comes on the token ahead.
unfoldable pub expr : ℕ → ℕ → Reader Line (Unit {0})
expr zero level = refuse_here 3
expr (suc d) level = do
  x ← ahead
  primary (expr d)
  n ← left
  infixes n (expr d) level x.from

-- The outermost is 1, at most 32.
unfoldable pub expression : Reader Line (Unit {0})
expression = expr 32 0

unfoldable pub open_expressions : Unit {0}
unfolding open_reader operator_of left_level right_level prefix_level character atom_of atom primary infixes expr expression
open_expressions = tt
