-- The number is the one that the digits write, or none, as in the definition.
use Prim.Native.Nat.{◌+◌}
use mathlib.Core.Path.{sym, ap, ◌∙◌}
use Rattle.lexer.specs.declared.Kind.TheVariants as kind
use Rattle.lexer.proofs.Scans.{flat, literal_fits, literal_beyond}
use Rattle.lexer.proofs.number_literal.Goals as goal

pub returns-in-Some : goal.returns-in-Some
returns-in-Some c = literal_fits _ _ _ _ _ c.requires.3 (sym c.from_radix.ensures ∙ c.in-Some.is)

pub returns-in-None : goal.returns-in-None
returns-in-None c = ap (λ v. flat kind.Invalid v (c.args.at + 1)) c.from.ensures ∙ literal_beyond _ _ _ _ _ (sym c.from_radix.ensures ∙ c.in-None.is)
