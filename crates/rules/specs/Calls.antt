-- Whole calls: what each entry point answers, and what each lent buffer holds afterwards. RULES 9, 11.2.
use Rattle.std.specs.Prelude.{Bool, true, false, List, [], ◌∷◌, ◌++◌, ℕ, suc, ◌+◌, ◌*◌, ◌≤◌, ltb, length, drop, if◌then◌else◌}
use Rattle.std.proofs.Math.Option.{Option, none, some}
use Rattle.lexer.specs.Text.{maybe}
use Rattle.lexer.specs.Tokens.{token_at, fault_number}
use Rattle.lexer.specs.declared.Token.{Token}
use Rattle.lexer.specs.declared.TokenRead.{TokenRead}
use Rattle.lexer.specs.declared.TokenRead.TheVariants.{Read, Refused}
use Rattle.rules.specs.Lexemes.{tokens_from}
use Rattle.rules.specs.Records.{Record, listing}
use Rattle.rules.specs.Reader.{Cause, at, nowhere, Answer, done, refused, arrive}
use Rattle.rules.specs.Statements.{Profile, Row, State, enter, rows, statement, Outcome, accepted, refusal, reading, open_statements}

-- A call's answer: what it gives, or a refusal.
pub data Result (A : Type 0) : Type 0 where
  gives : A → Result A
  refuses : Cause → Result A

unfoldable pub unless : {A : Type 0} → Bool → Cause → Result A → Result A
unless b r a = if b then (refuses r) else a

-- 1: above 65,536 bytes.
unfoldable pub most_bytes : ℕ
most_bytes = 65536

unfoldable pub too_long : List ℕ → Bool
too_long source = ltb most_bytes (length source)

-- A source that is not refused for it.
abbrev pub Short : List ℕ → Type 0
Short source = length source ≤ 65536

-- 2, at the first byte above 127; `foreign` finds its place among those from place p on.
unfoldable pub foreign : ℕ → List ℕ → Option ℕ
foreign p [] = none
foreign p (c ∷ cs) = let r : Option ℕ = foreign (suc p) cs in if ltb 127 c then (some p) else r

unfoldable pub ascii : {A : Type 0} → List ℕ → Result A → Result A
ascii source a = maybe (foreign 0 source) a λ p. refuses (at 2 p (suc p))

unfoldable pub lent : {A : Type 0} → List ℕ → Result A → Result A
lent source a = unless (too_long source) (nowhere 1) (ascii source a)

-- 42: place beyond the end. Order: 42, 1, 2.
unfoldable pub lent_at : {A : Type 0} → List ℕ → ℕ → Result A → Result A
lent_at source p a = unless (ltb (length source) p) (nowhere 42) (lent source a)

-- 4: listing buffer shorter than the records to write.
unfoldable pub in_room : {A : Type 0} → ℕ → List Record → A → Result A
in_room room w a = unless (ltb room (length (listing w))) (nowhere 4) (gives a)

-- What a buffer holds afterwards: the result's bytes at its head and its own behind them, or at a refusal all its own.
unfoldable pub overwrite : List ℕ → List ℕ → List ℕ
overwrite b buffer = b ++ drop (length b) buffer

unfoldable pub leaves : {A : Type 0} → (A → List ℕ) → Result A → List ℕ → List ℕ
leaves b (gives a) buffer = overwrite (b a) buffer
leaves b (refuses r) buffer = buffer

-- The token read at a place. It is lent no buffer.
abbrev pub token_read : ℕ → TokenRead → Result Token
token_read p (Read t) = gives t
token_read p (Refused n f) = refuses (at (fault_number f) p (p + n))

unfoldable pub token_call : List ℕ → ℕ → Result Token
token_call source p = lent_at source p (token_read p (token_at (drop p source)))

-- THE FULL READ, lent a listing buffer: 1 and 2, then the reading, then 4; the records that it writes.
unfoldable pub listed : ℕ → Outcome → Result (List Record)
listed room (accepted w) = in_room room w w
listed room (refusal r) = refuses r

unfoldable pub full_read : Profile → List ℕ → ℕ → Result (List Record)
full_read profile source room = lent source (listed room (reading profile source))

-- A listing is never longer than 18 times its source: a buffer of so many bytes is long enough.
unfoldable pub enough : List ℕ → ℕ
enough source = 18 * length source

unfoldable pub full_buffer : Profile → List ℕ → List ℕ → List ℕ
full_buffer profile source buffer = leaves listing (full_read profile source (length buffer)) buffer

-- The statement read at a place, lent a listing buffer: as if the first token from there on began a line, with the places of the whole source. It
-- gives the records of one statement and where the token behind it begins, or that there is no statement, and then nothing is written.
pub data Found : Type 0 where
  nothing : Found
  found : (records : List Record) (ahead : ℕ) → Found

unfoldable pub one_found : ℕ → Answer State Bool → Result Found
one_found room (done w true s) = in_room room w (found w s.line.here.from)
one_found room (done w false s) = gives nothing
one_found room (refused r) = refuses r

unfoldable pub one_read : Profile → List Row → Answer State Bool
one_read profile [] = refused (nowhere 0)  -- no source has no row
one_read profile (r ∷ rs) = arrive r.first (statement profile (enter r rs))

unfoldable pub statement_call : Profile → List ℕ → ℕ → ℕ → Result Found
statement_call profile source p room = lent_at source p (one_found room (one_read profile (rows (tokens_from p 0 (drop p source)))))

unfoldable pub found_bytes : Found → List ℕ
found_bytes nothing = []
found_bytes (found w p) = listing w

unfoldable pub statement_buffer : Profile → List ℕ → ℕ → List ℕ → List ℕ
statement_buffer profile source p buffer = leaves found_bytes (statement_call profile source p (length buffer)) buffer

unfoldable pub open_calls : Unit {0}
unfolding open_statements unless most_bytes too_long foreign ascii lent lent_at in_room overwrite leaves token_call listed full_read enough full_buffer
    one_found one_read statement_call found_bytes statement_buffer
open_calls = tt
