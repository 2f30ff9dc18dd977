-- The grammar of expressions by levels, and the claim that an expression has one reading. RULES 5.2:
--
--   sum      =  product  or  sum + product  or  sum - product
--   product  =  operand  or  product * operand  or  product / operand
--   operand  =  atom  or  ( sum )  or  + operand  or  - operand
--   atom     =  a number, a closed string of one character, a name, `$`, or `$$`
--
-- `Derives` is this grammar, with how deep it goes and the tree that it gives; `OneReading`, at the end, is the claim.
use Rattle.std.specs.Prelude.{◌≡◌, Bool, true, false, List, [], ◌∷◌, ◌++◌, ℕ, suc, if◌then◌else◌}
use Rattle.std.proofs.Math.Option.{none}
use Prim.Native.Char.{Char, code}
use Rattle.rules.specs.Lexemes.{word, number, quoted, mark, Lexeme, tokens_from}
use Rattle.rules.specs.Records.{Record, VC, VL, VI, VS, PF, IN}
use Rattle.rules.specs.Reader.{done, Line, refused_as, is_mark}
use Rattle.rules.specs.Expressions.{operator_of, expression}
use Rattle.rules.specs.Statements.{Row, rows}

-- What an expression is: its atoms and operators, each with its span f t. Operators have their numbers: 0 +, 1 -, 2 *, 3 /.
pub data Tree : Type 0 where
  constant : (f t value : ℕ) → Tree  -- a number, or the character of a string
  name dollar dollars : (f t : ℕ) → Tree  -- a name, `$`, `$$`
  signed : (f t op : ℕ) → Tree → Tree  -- a prefix operator and its operand
  joined : (f t op : ℕ) → Tree → Tree → Tree  -- an infix operator, with its left and its right side

-- The listing of a tree: children precede parents.
unfoldable pub records_of : Tree → List Record
records_of (constant f t v) = VC f t v ∷ []
records_of (name f t) = VL f t ∷ []
records_of (dollar f t) = VI f t ∷ []
records_of (dollars f t) = VS f t ∷ []
records_of (signed f t op a) = records_of a ++ (PF f t op ∷ [])
records_of (joined f t op a b) = records_of a ++ (records_of b ++ (IN f t op ∷ []))

-- Where tokens begin, and where the last of them ends.
unfoldable pub start_of : List Lexeme → ℕ
start_of [] = 0
start_of (x ∷ xs) = x.from

unfoldable pub end_of : List Lexeme → ℕ
end_of [] = 0
end_of (x ∷ []) = x.to
end_of (x ∷ y ∷ ys) = end_of (y ∷ ys)

-- The token x is the mark a.
pub record Mark (a : Char) (x : Lexeme) : Type 0 where
  pub marked : x.kind ≡ mark (code a)

-- The operators `+ -` and `* /`, with their numbers.
pub data PlusMinus : Lexeme → ℕ → Type 0 where
  plus : {x : Lexeme} → Mark "+" x → PlusMinus x 0
  minus : {x : Lexeme} → Mark "-" x → PlusMinus x 1

pub data TimesOver : Lexeme → ℕ → Type 0 where
  times : {x : Lexeme} → Mark "*" x → TimesOver x 2
  over : {x : Lexeme} → Mark "/" x → TimesOver x 3

-- Atoms: number, closed string of one character, name, `$`, `$$`, whose span covers the first `$` only.
pub data Atom : List Lexeme → Tree → Type 0 where
  a_number : {x : Lexeme} {v : ℕ} → x.kind ≡ number v → Atom (x ∷ []) (constant x.from x.to v)
  a_character : {x : Lexeme} {c : ℕ} → x.kind ≡ quoted true (c ∷ []) → Atom (x ∷ []) (constant x.from x.to c)
  a_name : {x : Lexeme} {s : List ℕ} → x.kind ≡ word s → Atom (x ∷ []) (name x.from x.to)
  a_dollar : {x : Lexeme} → Mark "$" x → Atom (x ∷ []) (dollar x.from x.to)
  two_dollars : {x y : Lexeme} → Mark "$" x → Mark "$" y → Atom (x ∷ y ∷ []) (dollars x.from x.to)

-- The levels: `+ -` bind loosest, `* /` tighter, prefix `+ -` tightest.
pub data Level : Type 0 where
  sum product operand : Level

-- `Derives d level xs a`: the tokens xs are an expression of that level, at most d deep, and a is its tree. Each expression inside another
-- (parenthesis, prefix operand, right operand) is one level deeper: d is one less there. Parentheses leave no record, but an operator's
-- span is from the first token of its expression to the last one, and these may be parentheses.
pub data Derives : ℕ → Level → List Lexeme → Tree → Type 0 where
  atom : {d : ℕ} {xs : List Lexeme} {a : Tree} → Atom xs a → Derives (suc d) operand xs a
  parentheses : {d : ℕ} {x y : Lexeme} {xs : List Lexeme} {a : Tree} → Mark "(" x → Derives d sum xs a → Mark ")" y
      → Derives (suc d) operand (x ∷ (xs ++ (y ∷ []))) a
  prefix : {d op : ℕ} {x : Lexeme} {xs : List Lexeme} {a : Tree} → PlusMinus x op → Derives d operand xs a
      → Derives (suc d) operand (x ∷ xs) (signed x.from (end_of xs) op a)
  -- Equal levels group to the left: the left side may be of the operator's own level, the right side binds tighter.
  multiplied : {d op : ℕ} {x : Lexeme} {xs ys : List Lexeme} {a b : Tree} → Derives (suc d) product xs a → TimesOver x op → Derives d operand ys b
      → Derives (suc d) product (xs ++ (x ∷ ys)) (joined (start_of xs) (end_of ys) op a b)
  added : {d op : ℕ} {x : Lexeme} {xs ys : List Lexeme} {a b : Tree} → Derives (suc d) sum xs a → PlusMinus x op → Derives d product ys b
      → Derives (suc d) sum (xs ++ (x ∷ ys)) (joined (start_of xs) (end_of ys) op a b)
  -- What binds tighter stands wherever what binds looser may.
  one_operand : {d : ℕ} {xs : List Lexeme} {a : Tree} → Derives d operand xs a → Derives d product xs a
  one_product : {d : ℕ} {xs : List Lexeme} {a : Tree} → Derives d product xs a → Derives d sum xs a

-- Do tokens end in a lone `$`, one that is not the second of a `$$`? `before`: do those that stand before them?
unfoldable pub lone_dollar : (before : Bool) → List Lexeme → Bool
lone_dollar before [] = before
lone_dollar before (x ∷ xs) = lone_dollar (if before then false else is_mark "$" x.kind) xs

-- An expression, of the tokens xs, ends before the token z: z is not refused when it is read (30 and 31), is no infix operator, and is no
-- `$` behind a lone `$`, with which it would be `$$`.
pub record Ends (xs : List Lexeme) (z : Lexeme) : Type 0 where
  pub arrives : refused_as z.kind ≡ none
  pub no_operator : operator_of z.kind ≡ none
  pub no_dollar : lone_dollar false xs ≡ true → is_mark "$" z.kind ≡ false

-- The tokens that are left of a line: the one ahead and those behind it.
abbrev pub left_of : Line → List Lexeme
left_of line = line.here ∷ line.more

-- By the grammar, a line begins with an expression, at most 32 deep, whose tree is a, and line' is what is left of the line behind it.
pub record Begins (line : Line) (a : Tree) (line' : Line) : Type 0 where
  pub taken : List Lexeme
  pub split : left_of line ≡ taken ++ left_of line'
  pub derived : Derives 32 sum taken a
  pub last : line'.last ≡ end_of taken
  pub ends : Ends taken line'.here

-- A line of the bytes s, which stand from place p on (0 for a whole source): what is left of one of their rows behind any of its tokens.
pub record LineOf (p : ℕ) (s : List ℕ) (line : Line) : Type 0 where
  pub above : List Row
  pub row : Row
  pub below : List Row
  pub among : rows (tokens_from p 0 s) ≡ above ++ (row ∷ below)
  pub passed : List Lexeme
  pub split : row.first ∷ row.more ≡ passed ++ left_of line

-- THE CLAIM on `expression`, the reader. `done w tt line'` is its answer that the records w are written and line' is what is left.
pub record OneReading : Type 0 where
  -- What the grammar derives the reader passes, with the listing of that tree, on every line.
  pub passes : (line line' : Line) (a : Tree) → Begins line a line' → expression line ≡ done (records_of a) tt line'
  -- What the reader passes the grammar derives, with a tree of that listing, on every line of every source.
  pub derives : (p : ℕ) (s : List ℕ) (line line' : Line) (w : List Record) → LineOf p s line → expression line ≡ done w tt line'
      → (a : Tree) × (w ≡ records_of a) × Begins line a line'
  -- Two derivations of the same tokens, at any depths and levels, have the same tree, and the same listing.
  pub unique : (d e : ℕ) (l m : Level) (xs : List Lexeme) (a b : Tree) → Derives d l xs a → Derives e m xs b
      → (a ≡ b) × (records_of a ≡ records_of b)
