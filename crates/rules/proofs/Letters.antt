-- The letter behind the digits: where no such run stands, the calls answer as by the base rules' order (RULES 14.2).
use Rattle.lexer.specs.Letters.{letter_follows, last_first_token}
use Rattle.lexer.proofs.Letters.{letter_first}
use Rattle.rules.specs.Statements.{Profile}
use Rattle.rules.specs.Letters.{SameWithoutLetters}
use Rattle.rules.proofs.ByRule.{same_without}

pub same_without_letters : (profile : Profile) → SameWithoutLetters profile
same_without_letters = same_without last_first_token letter_follows letter_first.others
