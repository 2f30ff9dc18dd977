-- Kinds by their numbers: no two have one, and what a derived comparison of kinds has told.
use Rattle.std.specs.Prelude.{if◌then◌else◌}
use Prim.Native.Nat.{ℕ}
use mathlib.Core.Path.{◌≡◌, refl, sym, ap, ◌∙◌}
use lib.Dec.{eqb}
use Rattle.lexer.specs.declared.Kind.{Kind}
use Rattle.lexer.specs.declared.Kind.TheVariants as kind
use Rattle.lexer.specs.Scanned.{number_of}

abbrev kind_at : ℕ → Kind
kind_at n =
    if eqb n 0 then kind.EndOfFile
    else if eqb n 10 then kind.NewLine
    else if eqb n 30 then kind.LargerDigit
    else if eqb n 31 then kind.TooLarge
    else if eqb n 32 then kind.Whitespace
    else if eqb n 33 then kind.Invalid
    else if eqb n 34 then kind.UnclosedString
    else if eqb n 36 then kind.Dollar
    else if eqb n 39 then kind.ClosedString
    else if eqb n 40 then kind.OpenParenthesis
    else if eqb n 41 then kind.CloseParenthesis
    else if eqb n 42 then kind.Star
    else if eqb n 43 then kind.Plus
    else if eqb n 44 then kind.Comma
    else if eqb n 45 then kind.Minus
    else if eqb n 46 then kind.Dot
    else if eqb n 47 then kind.ForwardSlash
    else if eqb n 48 then kind.Number
    else if eqb n 58 then kind.Colon
    else if eqb n 59 then kind.Comment
    else if eqb n 91 then kind.OpenBracket
    else if eqb n 93 then kind.CloseBracket
    else kind.Identifier

back : (k : Kind) → kind_at (number_of k) ≡ k
back kind.EndOfFile = refl
back kind.NewLine = refl
back kind.LargerDigit = refl
back kind.TooLarge = refl
back kind.Whitespace = refl
back kind.Invalid = refl
back kind.UnclosedString = refl
back kind.Dollar = refl
back kind.ClosedString = refl
back kind.OpenParenthesis = refl
back kind.CloseParenthesis = refl
back kind.Star = refl
back kind.Plus = refl
back kind.Comma = refl
back kind.Minus = refl
back kind.Dot = refl
back kind.ForwardSlash = refl
back kind.Number = refl
back kind.Colon = refl
back kind.Comment = refl
back kind.OpenBracket = refl
back kind.CloseBracket = refl
back kind.Identifier = refl

pub number_tells : {a b : Kind} → number_of a ≡ number_of b → a ≡ b
number_tells {a} {b} e = sym (back a) ∙ ap kind_at e ∙ back b
