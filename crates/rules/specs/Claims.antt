-- What the definitions rely on. The laws are proved in proofs/: Counters, Numbers, Places, Values.
use Rattle.std.specs.Prelude.{◌≡◌, true, List, [], ◌∷◌, ◌++◌, map, ℕ, suc, ◌+◌, ◌-◌, ◌≤◌, ℤ, length}
use Rattle.rules.specs.Lexemes.{tokens_from}
use Rattle.rules.specs.Records.{Record, VC, move_record, places}
use Rattle.rules.specs.Reader.{Line, Cause, numbers_of}
use Rattle.rules.specs.Expressions.{infixes, expr}
use Rattle.rules.specs.Grammar.{LineOf}
use Rattle.rules.specs.Operands.{operand_sized}
use Rattle.rules.specs.Statements.{Profile, present, rows, literals, read_rows}
use Rattle.rules.specs.Calls.{gives, refuses, token_call, statement_call, full_read}
use Rattle.rules.specs.Evaluate.{evaluate}
use Rattle.rules.specs.WellFormed.{well_formed}
use Rattle.rules.specs.Patch.{records_on, patch}

-- The counters never run out: any larger one than what `expr`, `operand`, `data_of` and `read_from` hand over, which stands on the right, gives
-- the same answer. For `infixes` the line has to be one of a source, which a line end ends.
pub record CountersSuffice (profile : Profile) : Type 0 where
  pub of_infixes : {p : ℕ} {s : List ℕ} {l : Line} → LineOf p s l → (n d level f : ℕ) → length l.more ≤ n
      → infixes n (expr d) level f l ≡ infixes (length l.more) (expr d) level f l
  pub of_operands : (l : Line) (n size : ℕ) → suc (length l.more) ≤ n → operand_sized n size l ≡ operand_sized (suc (length l.more)) size l
  pub of_literals : (l : Line) (n width : ℕ) → suc (length l.more) ≤ n
      → literals profile.takes n width l ≡ literals profile.takes (suc (length l.more)) width l
  pub of_statements : (p : ℕ) (s : List ℕ) (n : ℕ) → suc (length s) ≤ n
      → read_rows profile n (rows (tokens_from p 0 s)) ≡ read_rows profile (suc (length s)) (rows (tokens_from p 0 s))

-- No refusal has the number 0, so an answer of numbers in which it is 0 is no refusal's.
pub record NumbersTell (profile : Profile) : Type 0 where
  pub of_token : (source : List ℕ) (p : ℕ) (c : Cause) → token_call source p ≡ refuses c → ¬ ((numbers_of c).number ≡ 0)
  pub of_statement : (source : List ℕ) (p room : ℕ) (c : Cause) → statement_call profile source p room ≡ refuses c → ¬ ((numbers_of c).number ≡ 0)
  pub of_full_read : (source : List ℕ) (room : ℕ) (c : Cause) → full_read profile source room ≡ refuses c → ¬ ((numbers_of c).number ≡ 0)
  pub of_patch : (old bytes : List ℕ) (a : ℕ) (new : List ℕ) (room_s room_l : ℕ) (c : Cause)
      → patch profile old bytes a new room_s room_l ≡ refuses c
      → ¬ ((numbers_of c).number ≡ 0)
  pub of_evaluate : (op : ℕ) (a b : ℤ) (c : Cause) → evaluate op a b ≡ refuses c → ¬ ((numbers_of c).number ≡ 0)

-- Something holds of each element of a list.
abbrev pub Each : {A : Type 0} → (A → Type 0) → List A → Type 0
Each P [] = Unit {0}
Each P (x ∷ xs) = P x × Each P xs

-- `exchanged` moves exactly by q − p: what moves are the places, those from the first statement with place a + p or above on are all at
-- least a + p in a well-formed listing, and so k + q - p has p to take away.
pub record MovesExactly : Type 0 where
  pub moved : (m : ℕ → ℕ) (r : Record) → places (move_record m r) ≡ map m (places r)
  pub behind : (n : ℕ) (rs : List Record) → well_formed n rs ≡ true → (a : ℕ) → Each (λ r. Each (λ k. a ≤ k) (places r)) (records_on a rs)
  pub exact : (n : ℕ) (rs : List Record) → well_formed n rs ≡ true → (a p q : ℕ)
      → Each (λ r. Each (λ k. k + q - p + p ≡ k + q) (places r)) (records_on (a + p) rs)

-- A value that is read is below 2³¹, so the 32 bits of VC's third field, read as signed, are the value itself.
pub record ValuesFit : Type 0 where
  pub below : (source : List ℕ) (room : ℕ) (before behind : List Record) (f t v : ℕ)
      → full_read present source room ≡ gives (before ++ (VC f t v ∷ behind)) → v ≤ 2147483647
