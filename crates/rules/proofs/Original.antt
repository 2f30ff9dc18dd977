-- The sources that demand 2 speaks of. By what each request leaves as it was, one after the other.
use mathlib.Core.List.{List}
use Prim.Native.Nat.{ℕ}
use Rattle.lexer.specs.Letters.{last_first}
use Rattle.lexer.specs.Original.{original_token, changes}
use Rattle.lexer.proofs.Original.{tokens_of_original}
use Rattle.rules.specs.Statements.{Profile, cutting}
use Rattle.rules.specs.Original.{SameAsOriginal, ReadAsOriginal, DotsRefusedByOriginal}
use Rattle.rules.proofs.ByRule.{same_without}
use Rattle.rules.proofs.Data.{only_too_wide}
use Rattle.rules.proofs.Dots.{tokens_dotted, has_dot_refused}

pub same_as_original : (profile : Profile) → SameAsOriginal profile
same_as_original = same_without original_token changes tokens_of_original.others

pub read_as_original : (table : List ℕ) → ReadAsOriginal table
read_as_original table = record {
  of_full_read = λ source room h. rw (← (same_as_original (cutting table)).of_full_read source room h) ((only_too_wide table).of_full_read source room);
  of_statement = λ source p room h. rw (← (same_as_original (cutting table)).of_statement source p room h) ((only_too_wide table).of_statement source p room);
}

pub dots_refused_by_original : (profile : Profile) → DotsRefusedByOriginal profile
unfolding original_token
dots_refused_by_original profile = record { of_full_read = λ source room h. has_dot_refused profile original_token source room (tokens_dotted last_first 0 0 source h) }
