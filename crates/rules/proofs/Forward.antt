-- Whoever reads statement by statement comes forward by a byte or more each time, up to where only line ends, blanks and comments are left
-- (RULES 7.9). A statement's first token has a byte, and what follows it is not read again; none
-- is left where the lines' first tokens are all line ends.
use mathlib.Core.Path.{◌≡◌, refl, sym, ap, ◌∙◌}
use mathlib.Core.Bool.{Bool, true, false, ◌&&◌, true≢false}
use mathlib.Core.List.{List, [], ◌∷◌}
use Prim.Native.Nat.{ℕ, ◌+◌, ◌<◌}
use native.Mathlib.Omega.{arith}
use lib.ListN.{length, drop}
use Rattle.lexer.proofs.Branches.{and_split}
use Rattle.rules.specs.Lexemes.{tokens_from}
use Rattle.rules.specs.Records.{Record, ST}
use Rattle.rules.specs.Reader.{Answer, done, refused, after, thence, return, arrive, is_line_end}
use Rattle.rules.specs.Statements.{Profile, Row, State, rows, first_of, enter, skip_lines, begun, statement, line, times}
use Rattle.rules.specs.Calls.{gives, lent_at, nothing, found, one_found, one_read, statement_call}
use Rattle.rules.specs.Patch.{all_ends}
use Rattle.rules.specs.WellFormed.{Stack, fresh}
use Rattle.rules.proofs.Table.{Proper}
use Rattle.rules.proofs.Move.{arrived}
use Rattle.rules.proofs.Append.{end_fine, arrive_fine, begun_ends}
use Rattle.rules.proofs.Shape.{Small, small_parts}
use Rattle.rules.proofs.ShapeState.{Stated, began, ended, failed, statement_stated}
use Rattle.rules.proofs.LexSound.{chain_plain}
use Rattle.rules.proofs.Cut.{rows_from, some_row, blank_rows, arrive_done, skip_blank, skip_over, begun_at, statement_is}
use Rattle.rules.proofs.Exchange.{ends_rows}
use Rattle.rules.proofs.Listing.{enter_on, fresh_ready, chain_rows}
use Rattle.rules.proofs.Calls.{lent_at_gives, room_gives}

-- A statement that was read leaves the token ahead beyond p.
abbrev Ahead : ℕ → Answer State Bool → Type 0
Ahead p (done w true s) = p < s.line.here.from
Ahead p (done w false s) = Unit {0}
Ahead p (refused r) = Unit {0}

stated_ahead : (n hi lo : ℕ) {κ : Stack} {a : Answer State Bool} → Stated n hi lo κ a → Ahead lo a
stated_ahead n hi lo (began i j l e r y o) = omega (arith, o.low, o.gap)
stated_ahead n hi lo ended = tt
stated_ahead n hi lo failed = tt

found_ahead : (p room : ℕ) (a : Answer State Bool) → Ahead p a → {w : List Record} {q : ℕ} → one_found room a ≡ gives (found w q) → p < q
unfolding one_found
found_ahead p room (done v true s) f {w} {q} h =
    let (_, e) = room_gives room v (found v s.line.here.from) (found w q) h in
    let z : s.line.here.from ≡ q = cc in
    omega arith
found_ahead p room (done v false s) f h = absurd (true≢false cc)
found_ahead p room (refused r) f h = absurd (true≢false cc)

-- An answer that none is left, as an equation.
nothing_found : (room : ℕ) (a : Answer State Bool) → one_found room a ≡ gives nothing → (w : List Record) × (s : State) × (a ≡ done w false s)
unfolding one_found
nothing_found room (done v true s) h = let (_, e) = room_gives room v (found v s.line.here.from) nothing h in absurd (true≢false cc)
nothing_found room (done v false s) h = (v, s, refl)
nothing_found room (refused r) h = absurd (true≢false cc)

never_false : (P : Answer State (Unit {0})) {w : List Record} {s : State} → after [] (thence P (λ _. return true)) ≡ done w false s → ⊥
unfolding after thence return
never_false (done v a t) h = true≢false cc
never_false (refused r) h = true≢false cc

after_false : (v : List Record) (a : Answer State Bool) {w : List Record} {s : State} → after v a ≡ done w false s → (u : List Record) × (a ≡ done u false s)
unfolding after
after_false v (done u b t) {s = s} h = let e : b ≡ false = cc in let f : t ≡ s = cc in (u, cc)
after_false v (refused r) h = absurd (true≢false cc)

module _ (profile : Profile) where
  begun_false : (t : State) {w : List Record} {s : State} → begun profile t ≡ done w false s → is_line_end t.line.here.kind ≡ true
  begun_false t {w} {s} h = go (is_line_end t.line.here.kind) refl
    where
      go : (b : Bool) → is_line_end t.line.here.kind ≡ b → b ≡ true
      go true e = refl
      go false e = absurd (never_false (after (ST t.line.here.from ∷ []) (line profile (times profile 16) t)) (sym (begun_at profile t e) ∙ h))

  none_blank : (r : Row) (rs : List Row) {w : List Record} {s : State} → statement profile (enter r rs) ≡ done w false s → blank_rows (r ∷ rs) ≡ true
  unfolding skip_lines enter first_of blank_rows thence
  none_blank r rs {w} {s} h = go (skip_lines (enter r rs)) refl (sym (statement_is profile (enter r rs)) ∙ h)
    where
      go : (k : Answer State (Unit {0})) → skip_lines (enter r rs) ≡ k → thence k (λ _. begun profile) ≡ done w false s → blank_rows (r ∷ rs) ≡ true
      go (done w0 u t) e i =
          let (v, j) = after_false w0 (begun profile t) i in
          skip_blank (first_of r) rs e (begun_false t j)
      go (refused r') e i = absurd (true≢false cc)

  one_blank : (p : ℕ) (t : List ℕ) {w : List Record} {s : State} → one_read profile (rows_from p t) ≡ done w false s → all_ends (tokens_from p 0 t) ≡ true
  unfolding one_read rows_from
  one_blank p t {w} {s} h =
      let (r, rs, e) = some_row p t in
      let i : arrive r.first (statement profile (enter r rs)) ≡ done w false s = ap (one_read profile) (sym e) ∙ h in
      sym (ends_rows (tokens_from p 0 t)) ∙ ap blank_rows e ∙ none_blank r rs (arrive_done r.first (statement profile (enter r rs)) i)

  blank_none : (l : List Row) (r : Row) (rs : List Row) → l ≡ r ∷ rs → blank_rows l ≡ true → (u : State) × (one_read profile l ≡ done [] false u)
  unfolding one_read blank_rows enter first_of skip_lines thence after
  blank_none l r rs e h =
      let i : is_line_end r.first.kind && blank_rows rs ≡ true = rw e at h in
      let (k, _) = and_split (is_line_end r.first.kind) (blank_rows rs) i in
      let (u, j, n) = skip_over (first_of r) rs i in
      let m : statement profile (enter r rs) ≡ done [] false u = statement_is profile (enter r rs) ∙ ap (λ (p : Answer State (Unit {0})). thence p (λ _. begun profile)) j ∙ ap (after []) (begun_ends profile u n) in
      (u, rw e (arrive_fine r.first (statement profile (enter r rs)) (end_fine r.first.kind k) ∙ m))

  -- None is left only before nothing but line feeds, whitespace and comments.
  pub none_left : (source : List ℕ) (p room : ℕ) → statement_call profile source p room ≡ gives nothing → all_ends (tokens_from p 0 (drop p source)) ≡ true
  unfolding statement_call rows_from
  none_left source p room h =
      let (_, l) = lent_at_gives source p (one_found room (one_read profile (rows (tokens_from p 0 (drop p source))))) nothing h in
      let (w, s, e) = nothing_found room (one_read profile (rows (tokens_from p 0 (drop p source)))) l.given in
      one_blank p (drop p source) e

  -- And there none is left.
  pub none_there : (source : List ℕ) (p room : ℕ) → all_ends (tokens_from p 0 (drop p source)) ≡ true → statement_call profile source p room ≡ lent_at source p (gives nothing)
  unfolding statement_call rows_from one_found
  none_there source p room h =
      let (r, rs, e) = some_row p (drop p source) in
      let (u, i) = blank_none (rows (tokens_from p 0 (drop p source))) r rs e (ends_rows (tokens_from p 0 (drop p source)) ∙ h) in
      ap (λ (a : Answer State Bool). lent_at source p (one_found room a)) i

  module _ (proper : Proper profile.table) where
    one_ahead : (p : ℕ) (t : List ℕ) → Small t → Ahead p (one_read profile (rows_from p t))
    unfolding one_read
    one_ahead p t m =
        let n : ℕ = p + length t in
        let (r, rs, e) = some_row p t in
        rw e (arrived (Ahead p) r.first (λ n i. tt)
        (stated_ahead n n p (statement_stated n n profile proper p fresh (enter r rs) (fresh_ready p) (enter_on n n p fresh r rs (chain_rows n n p p t e (chain_plain p t m))))))

    -- Each statement read moves at least one byte forward.
    pub forward : (source : List ℕ) (p room : ℕ) {w : List Record} {q : ℕ} → statement_call profile source p room ≡ gives (found w q) → p < q
    unfolding statement_call rows_from
    forward source p room {w} {q} h =
        let (_, l) = lent_at_gives source p (one_found room (one_read profile (rows (tokens_from p 0 (drop p source))))) (found w q) h in
        found_ahead p room (one_read profile (rows (tokens_from p 0 (drop p source)))) (one_ahead p (drop p source) (small_parts p source l.small).1) l.given
