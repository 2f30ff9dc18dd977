-- The letter behind the digits: what it leaves of what is read. RULES 2.5, 14.2.
use Rattle.lexer.specs.Letters.{letter_follows, last_first_token}
use Rattle.rules.specs.Statements.{Profile}
use Rattle.rules.specs.ByRule.{SameWithout}

-- WHERE NO RUN WITHOUT A PREFIX ENDS IN b, B, d OR D WITH AN o, O, h OR H BEHIND IT the answer is the one from before.
abbrev pub SameWithoutLetters : Profile → Type 0
SameWithoutLetters profile = SameWithout profile last_first_token letter_follows
