-- The rows of tokens: those of tokens behind a line end are the rows of both, and moved tokens stand in moved rows.
use Rattle.std.specs.Prelude.{if◌then◌else◌}
use mathlib.Core.Path.{◌≡◌, refl}
use mathlib.Core.Bool.{Bool, true, false}
use mathlib.Core.List.{List, [], ◌∷◌, ◌++◌, map}
use Prim.Native.Nat.{ℕ}
use Rattle.lexer.proofs.Branches.{either}
use Rattle.rules.specs.Lexemes.{Lexeme}
use Rattle.rules.specs.Reader.{is_line_end}
use Rattle.rules.specs.Statements.{Row, rows, push}
use Rattle.rules.proofs.Move.{move_token}
use Rattle.rules.proofs.MoveState.{move_row}
use Rattle.rules.proofs.Lexemes.{Ended}

abbrev pub Some : List Row → Type 0
Some l = (r : Row) × (rs : List Row) × (l ≡ r ∷ rs)

push_some : (x : Lexeme) (l : List Row) → Some (push x l)
unfolding push
push_some x [] = (_, _, refl)
push_some x (r ∷ rs) = (_, _, refl)

pub rows_some : (x : Lexeme) (xs : List Lexeme) → Some (rows (x ∷ xs))
unfolding rows
rows_some x xs = either Some (is_line_end x.kind) (record { first = x; more = [] } ∷ rows xs) _ (_, _, refl) (push_some x (rows xs))

push_append : (x : Lexeme) (l : List Row) → Some l → (m : List Row) → push x (l ++ m) ≡ push x l ++ m
unfolding push
push_append x l (r, rs, e) m = rw e

pub rows_append : (xs ys : List Lexeme) → Ended xs → rows (xs ++ ys) ≡ rows xs ++ rows ys
unfolding rows
rows_append [] ys h = absurd h
rows_append (x ∷ []) ys h = rw h
rows_append (x ∷ y ∷ zs) ys h = rw (rows_append (y ∷ zs) ys h) (go (is_line_end x.kind))
  where
    go : (b : Bool) → ◌≡◌ {A = List Row} (if b then (record { first = x; more = [] } ∷ (rows (y ∷ zs) ++ rows ys)) else push x (rows (y ∷ zs) ++ rows ys))
        ((if b then (record { first = x; more = [] } ∷ rows (y ∷ zs)) else push x (rows (y ∷ zs))) ++ rows ys)
    go true = refl
    go false = push_append x (rows (y ∷ zs)) (rows_some y zs) (rows ys)

push_move : (f : ℕ → ℕ) (x : Lexeme) (l : List Row) → push (move_token f x) (map (move_row f) l) ≡ map (move_row f) (push x l)
unfolding push move_row
push_move f x [] = refl
push_move f x (r ∷ rs) = refl

pub rows_move : (f : ℕ → ℕ) (xs : List Lexeme) → rows (map (move_token f) xs) ≡ map (move_row f) (rows xs)
unfolding rows move_token move_row
rows_move f [] = refl
rows_move f (x ∷ xs) = rw (rows_move f xs) (go (is_line_end x.kind))
  where
    go : (b : Bool) → ◌≡◌ {A = List Row} (if b then (record { first = move_token f x; more = [] } ∷ map (move_row f) (rows xs)) else push (move_token f x) (map (move_row f) (rows xs)))
        (map (move_row f) (if b then (record { first = x; more = [] } ∷ rows xs) else push x (rows xs)))
    go true = refl
    go false = push_move f x (rows xs)
