-- The patch. RULES 10.
use Rattle.std.specs.Prelude.{Bool, true, false, not, ◌&&◌, ◌||◌, List, [], ◌∷◌, ◌++◌, map, ℕ, pred, ◌+◌, ◌-◌, eqb, leb, ltb, length, take, drop, get_or, if◌then◌else◌}
use Rattle.std.proofs.Math.Option.{Option, none, some}
use Rattle.lexer.specs.Text.{maybe, is, among, run}
use Rattle.lexer.specs.Tokens.{in_comment}
use Rattle.rules.specs.Lexemes.{Lexeme, tokens_from}
use Rattle.rules.specs.Records.{Role, a_statement, a_times, an_expression, an_operand, a_line, form_of, Record, mark_of, fields_of, move_record, listing}
use Rattle.rules.specs.Reader.{nowhere, numbers_of, is_line_end}
use Rattle.rules.specs.Statements.{Profile, Outcome, accepted, refusal, read_from}
use Rattle.rules.specs.Calls.{Result, gives, refuses, unless, too_long, ascii, full_read, enough, in_room, leaves, open_calls}
use Rattle.rules.specs.Decode.{decode, open_decode}
use Rattle.rules.specs.WellFormed.{well_formed, open_well_formed}

-- A line begins at place 0 and after each line feed.
unfoldable pub begins_line : List ℕ → ℕ → Bool
begins_line s a = eqb a 0 || (leb a (length s) && is "\n" (get_or s (pred a) 0))

-- The line that begins at place a: what stands above it, its bytes up to its line feed, and what stands behind them.
unfoldable pub above : List ℕ → ℕ → List ℕ
above s a = take a s

unfoldable pub line_at : List ℕ → ℕ → List ℕ
line_at s a = take (run in_comment (drop a s)) (drop a s)

unfoldable pub behind : List ℕ → ℕ → List ℕ
behind s a = drop (run in_comment (drop a s)) (drop a s)

-- The edited source is the old one with the line's bytes exchanged for the new text.
unfoldable pub edited : List ℕ → ℕ → List ℕ → List ℕ
edited s a new = above s a ++ (new ++ behind s a)

-- The lines that end in a line feed; l is what is passed of the first.
unfoldable pub lines_from : List ℕ → List ℕ → List (List ℕ)
lines_from l [] = []
lines_from l (c ∷ cs) =
    let r : List (List ℕ) = lines_from [] cs in
    let q : List (List ℕ) = lines_from (l ++ (c ∷ [])) cs in if is "\n" c then (l ∷ r) else q

-- A line that has only blanks and a comment has no token but its end.
unfoldable pub all_ends : List Lexeme → Bool
all_ends [] = true
all_ends (x ∷ xs) = is_line_end x.kind && all_ends xs

unfoldable pub bare_line : List ℕ → Bool
bare_line l = all_ends (tokens_from 0 0 l)

-- The last of some lines that has more.
unfoldable pub nearest : List (List ℕ) → Option (List ℕ)
nearest [] = none
nearest (l ∷ ls) = maybe (nearest ls) (if bare_line l then none else (some l)) some

-- A line is open if the full read of no other bytes is refused with 34: its last `times` waits for a content.
unfoldable pub is_open : Result (List Record) → Bool
is_open (gives w) = false
is_open (refuses r) = eqb (numbers_of r).number 34

unfoldable pub leaves_open : Profile → List ℕ → Bool
leaves_open profile l = is_open (full_read profile l (enough l))

-- 40: open is the old line, the new text, or above them the nearest line that is not bare.
unfoldable pub open_line : Profile → List ℕ → ℕ → List ℕ → Bool
open_line profile s a new =
    leaves_open profile (line_at s a) || (leaves_open profile new || maybe (nearest (lines_from [] (above s a))) false (leaves_open profile))

-- The records of the statements with place below a, and those from the first statement with place a or above on.
abbrev pub begins_from : ℕ → Role → List ℕ → Bool
begins_from a a_statement vs = leb a (get_or vs 0 0)
begins_from a a_times vs = false
begins_from a (an_expression m) vs = false
begins_from a (an_operand m) vs = false
begins_from a (a_line m o) vs = false

unfoldable pub statement_from : ℕ → Record → Bool
unfolding form_of
statement_from a r = maybe (form_of (mark_of r)) false λ w. begins_from a w.role (fields_of r)

unfoldable pub records_below : ℕ → List Record → List Record
records_below a [] = []
records_below a (r ∷ rs) = let q : List Record = r ∷ records_below a rs in if statement_from a r then [] else q

unfoldable pub records_on : ℕ → List Record → List Record
records_on a [] = []
records_on a (r ∷ rs) = let q : List Record = records_on a rs in if statement_from a r then (r ∷ rs) else q

-- What the patch gives: the edited source and its listing.
pub record Edit : Type 0 where
  pub source : List ℕ
  pub records : List Record

-- The old records below a, then the new line's, w, for those of its p bytes, then the rest with their places moved, as q bytes stand for p now;
-- no such place is below p, so `-` takes all of p away (Claims: MovesExactly).
unfoldable pub exchanged : ℕ → ℕ → ℕ → List Record → List Record → List Record
exchanged a p q rs w = records_below a rs ++ (w ++ map (move_record (λ k. k + q - p)) (records_on (a + p) rs))

-- 6, then 4.
unfoldable pub placed_in : ℕ → ℕ → List ℕ → List Record → Result Edit
placed_in room_s room_l s w = unless (ltb room_s (length s)) (nowhere 6) (in_room room_l w (record { source = s; records = w }))

unfoldable pub reread : List ℕ → List Record → ℕ → List ℕ → ℕ → ℕ → Outcome → Result Edit
reread s rs a new room_s room_l (accepted w) = placed_in room_s room_l (edited s a new) (exchanged a (length (line_at s a)) (length new) rs w)
reread s rs a new room_s room_l (refusal r) = refuses r

-- 41, then 40; then only the new line, with its line feed, is read, in its place.
unfoldable pub patched : Profile → List ℕ → Option (List Record) → ℕ → List ℕ → ℕ → ℕ → Result Edit
patched profile s none a new room_s room_l = refuses (nowhere 41)
patched profile s (some rs) a new room_s room_l =
    unless (not (well_formed (length s) rs)) (nowhere 41)
    (unless (open_line profile s a new) (nowhere 40)
    (reread s rs a new room_s room_l (read_from profile a (new ++ take 1 (behind s a)))))

-- The tests of RULES 11.2, each behind those before it. The rooms are the lengths of the two lent buffers.
unfoldable pub patch : (profile : Profile) (old bytes : List ℕ) (a : ℕ) (new : List ℕ) (room_s room_l : ℕ) → Result Edit
patch profile old bytes a new room_s room_l =
    unless (not (begins_line old a)) (nowhere 42)
    (unless (among 10 new) (nowhere 43)
    (unless (too_long old || too_long (edited old a new)) (nowhere 1)
    (ascii (edited old a new)
    (patched profile old (decode bytes) a new room_s room_l))))

-- The buffers afterwards, from the answer: the one for the source, the one for the listing.
unfoldable pub patch_source : Result Edit → List ℕ → List ℕ
patch_source r buffer = leaves (λ e. e.source) r buffer

unfoldable pub patch_listing : Result Edit → List ℕ → List ℕ
patch_listing r buffer = leaves (λ e. listing e.records) r buffer

unfoldable pub open_patch : Unit {0}
unfolding open_calls open_decode open_well_formed begins_line above line_at behind edited lines_from all_ends bare_line nearest is_open leaves_open open_line
    statement_from records_below records_on exchanged placed_in reread patched patch patch_source patch_listing
open_patch = tt
