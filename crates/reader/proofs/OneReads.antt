-- The statement read by its steps: what reading one statement makes of the whole call.
-- Assumes nothing.
use Prim.Native.Nat.{ℕ, zero, suc, ◌+◌, ◌≤◌, ◌<◌}
use mathlib.Core.Path.{◌≡◌, sym, ap, subst, ◌∙◌}
use mathlib.Core.List.{List, [], ◌∷◌}
use mathlib.Core.Bool.{Bool, true, false}
use native.Mathlib.Omega.{arith}
use native.Mathlib.Nat.{zero-add}
use borrow.Author.Tests.{lt-ltb, le-ltb}
use lib.ListN.{length, drop, length-drop}
use Rattle.names.specs.Table.{operations}
use Rattle.rules.specs.Lexemes.{tokens_from}
use Rattle.rules.specs.Records.{Record, listing}
use Rattle.rules.specs.Reader.{Cause, Answer, done, refused, numbers_of}
use Rattle.rules.specs.Statements.{present, State, rows, statement}
use Rattle.rules.specs.Calls.{Result, unless, in_room, overwrite, leaves, Found, one_found, one_read, statement_call, found_bytes, statement_buffer}
use Rattle.rules.proofs.Shape.{Small}
use Rattle.rules.proofs.Table.{proper}
use Rattle.rules.proofs.Bound.{bounded_one}
use Rattle.records.specs.Writes.{limit, stores}
use Rattle.std.specs.Prelude.{Option, Some, None, Result as Code, Ok, Err}
use Rattle.records.specs.declared.Writer.{Writer}
use Rattle.state.specs.declared.Parser.{Parser}
use Rattle.refusals.specs.declared.Refusal.{Refusal}
use Rattle.refusals.specs.Refusals.{numbers, by_numbers, spanned}
use Rattle.statements.specs.declared.StatementRead.{StatementRead}
use Rattle.statements.specs.declared.StatementRead.TheVariants as read
use Rattle.reader.specs.declared.ascii.Ascii.{Ascii}
use Rattle.reader.specs.declared.Written.{Written}
use Rattle.state.specs.Views.{state_of, whole, Gives}
use Rattle.statements.specs.Statements.{Started, NotStarted, ReadsStatement}
use Rattle.reader.specs.Calls.{LendsAt, statement_answer, OneRead}
use Rattle.statements.proofs.Calls.{one_at, one_not_started}
use Rattle.reader.proofs.Lending.{lent_at_refused, lent_at_accepted}
use Rattle.reader.proofs.FullReads.{small}
use Rattle.records.proofs.Writes.{stored_over}

small_drop : (n : ℕ) (s : List ℕ) → Small s → Small (drop n s)
small_drop zero s m = m
small_drop (suc n) [] m = tt
small_drop (suc n) (c ∷ cs) m = small_drop n cs m.1

done_same : {S A : Type 0} {v w : List Record} {a b : A} {x y : S} → done v a x ≡ done w b y → v ≡ w
done_same e = cc

never_other : {S : Type 0} {v w : List Record} {x y : S} → done v true x ≡ done w false y → ⊥
never_other e = let z : ◌≡◌ {A = ℕ} 0 1 = cc in omega arith

never_both : {S A : Type 0} {v : List Record} {a : A} {x : S} {c : Cause} → done v a x ≡ refused c → ⊥
never_both e = let z : ◌≡◌ {A = ℕ} 0 1 = cc in omega arith

written_as : {s l l' : List ℕ} {p n m k : ℕ} → n ≡ m → OneRead s p l l' (Ok (Some (record { length = m; ahead = k }))) → OneRead s p l l' (Ok (Some (record { length = n; ahead = k })))
written_as e f = rw e f

module _ (s : List ℕ) (place : ℕ) where
  abbrev reading : Answer State Bool
  reading = one_read present (rows (tokens_from place 0 (drop place s)))

  one_denied : (l : List ℕ) {r : Refusal} (c : Cause) → reading ≡ refused c → numbers r ≡ numbers_of c → OneRead s place l l (Err r)
  unfolding one_found leaves
  one_denied l c e k = record { answer = rw e (ap Err k); buffer = rw e }

  pub not_begun : (l : List ℕ) {r : Refusal} → NotStarted s place r → OneRead s place l l (Err r)
  not_begun l b = let f = one_not_started operations s place b in one_denied l f.cause f.reads f.by_numbers

  module _ (p : Parser) (b : Started s place p) where
    read_is : reading ≡ statement present (state_of s p)
    read_is = one_at operations s place b

    pub denied_there : {l : List ℕ} {o w : Writer} {r : Refusal} → ReadsStatement operations s p o w (Err r) → OneRead s place l l (Err r)
    denied_there {l} h = one_denied l h.so.cause (read_is ∙ h.so.reads) h.so.by_numbers

    pub none_there : {l : List ℕ} {o w : Writer} {q : Parser} → ReadsStatement operations s p o w (Ok (read.NoneLeft q)) → OneRead s place l l (Ok None)
    unfolding one_found leaves found_bytes overwrite
    none_there h = record { answer = rw (read_is ∙ h.so.comes.reads); buffer = rw (read_is ∙ h.so.comes.reads) }

-- The two readings of `read_one`, each by a writer that begins at 0.
module _ (a : Ascii) (place : ℕ) (within : place ≤ length a.source.text.now) (p : Parser) (b : Started a.source.text.now place p) where
  abbrev s : List ℕ
  s = a.source.text.now

  module _ {o w : Writer} (begins : o.at ≡ 0) {q : Parser} (h : ReadsStatement operations s p o w (Ok (read.Read q))) where
    abbrev first : Gives whole s p (statement present) o w q true
    first = h.so

    given : reading s place ≡ done first.v true (state_of s q)
    given = read_is s place p b ∙ first.reads

    little : length (listing first.v) ≤ limit
    little = let short = a.source.short in omega (arith, bounded_one present proper place (drop place s) (small_drop place s (small s a.ascii)) given, length-drop place s)

    size_is : w.at ≡ length (listing first.v)
    size_is = first.puts.wrote.place (omega (arith, begins, little)) ∙ ap (λ (i : ℕ). i + length (listing first.v)) begins ∙ zero-add (length (listing first.v))

    pub no_room : {l : List ℕ} {r : Refusal} → numbers r ≡ spanned 4 0 0 → length l < w.at → OneRead s place l l (Err r)
    unfolding one_found in_room unless leaves
    no_room {l} e k =
        let i : length l < length (listing first.v) = omega (arith, size_is) in
        record { answer = rw (given, lt-ltb (length l) (length (listing first.v)) i) (ap Err e); buffer = rw (given, lt-ltb (length l) (length (listing first.v)) i) }

    written : {l l' : List ℕ} → length (listing first.v) ≤ length l → l' ≡ overwrite (listing first.v) l → OneRead s place l l' (Ok (Some (record { length = length (listing first.v); ahead = q.token_start })))
    unfolding one_found in_room unless leaves found_bytes
    written {l} i e = record { answer = rw (given, le-ltb (length l) (length (listing first.v)) i); buffer = rw (given, le-ltb (length l) (length (listing first.v)) i) e }

    again : {o₂ w₂ : Writer} → o₂.at ≡ 0 → (x : StatementRead) → ReadsStatement operations s p o₂ w₂ (Ok x) → w.at ≤ length o₂.out.now
        → {l' : List ℕ} → (o₂.out.ghost_name ≡ w₂.out.ghost_name → l' ≡ w₂.out.now) → OneRead s place o₂.out.now l' (Ok (Some (record { length = w.at; ahead = q.token_start })))
    again i (read.NoneLeft q₂) k g j = absurd (never_other (sym first.reads ∙ k.so.comes.reads))
    again {o₂} {w₂} i (read.Read q₂) k g {l'} j =
        let same : first.v ≡ k.so.v = done_same (sym first.reads ∙ k.so.reads) in
        let c : length (listing first.v) ≡ length (listing k.so.v) = ap (λ (v : List Record). length (listing v)) same in
        let f : length (listing k.so.v) ≤ length o₂.out.now = omega (arith, size_is) in
        let e : l' ≡ overwrite (listing k.so.v) o₂.out.now = j (sym k.so.puts.buffer) ∙ k.so.puts.wrote.wrote (omega (arith, i, little)) (omega (arith, i)) ∙ ap (λ (n : ℕ). stores o₂.out.now n (listing k.so.v)) i ∙ stored_over o₂.out.now (listing k.so.v) f in
        written_as size_is (written (omega arith) (e ∙ ap (λ (v : List Record). overwrite (listing v) o₂.out.now) (sym same)))

    pub read_again : {l : List ℕ} {o₂ w₂ : Writer} → o₂.at ≡ 0 → o₂.out.now ≡ l → (x : StatementRead) → ReadsStatement operations s p o₂ w₂ (Ok x) → w.at ≤ length l
        → {l' : List ℕ} → (o₂.out.ghost_name ≡ w₂.out.ghost_name → l' ≡ w₂.out.now) → OneRead s place l l' (Ok (Some (record { length = w.at; ahead = q.token_start })))
    read_again i e x k g {l'} j = subst (λ (m : List ℕ). OneRead s place m l' (Ok (Some (record { length = w.at; ahead = q.token_start })))) e (again i x k (rw e g) j)

    pub never_denied : {o₂ w₂ : Writer} {r : Refusal} → ReadsStatement operations s p o₂ w₂ (Err r) → ⊥
    never_denied k = never_both (sym first.reads ∙ k.so.reads)

    pub never_none : {o₂ w₂ : Writer} {q₂ : Parser} → ReadsStatement operations s p o₂ w₂ (Ok (read.NoneLeft q₂)) → ⊥
    never_none k = never_other (sym first.reads ∙ k.so.comes.reads)

-- The whole call.
module _ (s : List ℕ) (p : ℕ) (l : List ℕ) where
  abbrev inner : Result Found
  inner = one_found (length l) (one_read present (rows (tokens_from p 0 (drop p s))))

  pub call_within : {v : Ascii} → LendsAt s p (Ok v) → (length s ≤ 65536) × (p ≤ length s)
  call_within e = let a = lent_at_accepted s inner p e in (a.1, a.3)

  module _ {v : Ascii} {l' : List ℕ} {r : Code (Option Written) Refusal} (e : LendsAt s p (Ok v)) (g : OneRead v.source.text.now p l l' r) where
    here : OneRead s p l l' r
    here = subst (λ (x : List ℕ). OneRead x p l l' r) e.so.1 g

    call_is : statement_call present s p (length l) ≡ inner
    unfolding statement_call
    call_is = (lent_at_accepted s inner p e).0

    pub call_answer : by_numbers r ≡ statement_answer (statement_call present s p (length l))
    call_answer = here.answer ∙ ap statement_answer (sym call_is)

    pub call_buffer : l' ≡ statement_buffer present s p l
    unfolding statement_buffer
    call_buffer = here.buffer ∙ ap (λ (x : Result Found). leaves found_bytes x l) (sym call_is)

  module _ {r : Refusal} (e : LendsAt s p (Err r)) where
    pub call_denied : by_numbers {A = Option Written} (Err r) ≡ statement_answer (statement_call present s p (length l))
    unfolding statement_call
    call_denied = let (c, k, h) = lent_at_refused s inner p e in rw k (ap Err h)

    pub buffer_denied : l ≡ statement_buffer present s p l
    unfolding statement_buffer statement_call leaves
    buffer_denied = let (c, k, h) = lent_at_refused s inner p e in rw k
