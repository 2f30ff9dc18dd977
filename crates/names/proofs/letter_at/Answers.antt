-- A letter of the word in lower case is its letter in lower case.
use Rattle.std.proofs.Common.{ap, sym, ◌∙◌}
use Rattle.lexer.specs.Text.{lower}
use Rattle.names.proofs.Keys.{lowercase, lower_at}
use Rattle.names.proofs.letter_at.Goals as goal

pub returns-in-Some : goal.returns-in-Some
returns-in-Some c =
    c.to_ascii_lowercase.ensures.value ∙ lowercase _ ∙ ap lower (c.in-Some.ensures.lookup.3.1 0) ∙ sym (lower_at c.args.word.now c.args.i)
