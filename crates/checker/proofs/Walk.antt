-- One record more: what the rules say of the bytes from it on is what they say of the bytes behind it, with the stack behind it; and a
-- record that isn't one, or that the stack refuses, settles the whole.
use mathlib.Core.Path.{◌≡◌, refl, sym, ap, ◌∙◌}
use mathlib.Core.Bool.{Bool, true, false}
use mathlib.Core.List.{List, [], ◌∷◌}
use mathlib.Core.Option.{Option, none, some}
use Prim.Native.Nat.{ℕ, zero, suc, pred, ◌+◌, ◌*◌, ◌≤◌, ◌<◌, zero-le}
use native.Mathlib.Omega.{arith}
use lib.Dec.{eqb, leb}
use lib.ListN.{length, take, drop, get_or, length-drop}
use lib.Seq.{drop-drop, drop-cons, drop-length}
use borrow.Author.Tests.{leb-true}
use Rattle.lexer.specs.Text.{maybe}
use Rattle.lexer.proofs.Branches.{either, given as under}
use Rattle.rules.specs.Records.{Role, a_statement, a_times, an_expression, an_operand, a_line, Form, form_of, Record, mark_of, fields_of, cells}
use Rattle.rules.specs.Decode.{Sized, nth, having, data_at, formed, record_of, also, records_from, decode}
use Rattle.rules.specs.WellFormed.{Stack, stack, allow, to_expression, to_operand, to_line, complete, given, in_range, counted, makes, checked, checked_all, fresh, well_formed}
use Rattle.rules.proofs.Forms.{some_field}
use Rattle.checker.specs.Checker.{well_formed_bytes, Pass, sized, passes, next_pass}

-- A record that is read has at least one field, and its bytes are there.
data Sound (s : List ℕ) : Option Sized → Type 0 where
  nothing : Sound s none
  found : {z : Sized} (q : ℕ) → z.size ≡ 2 + q → 4 ≤ q → q ≤ length s → Sound s (some z)

having_sound : (n : ℕ) (s : List ℕ) (r : Record) → 1 ≤ n → Sound s (having n s r)
unfolding having
having_sound n s r h = under (Sound s) (leb (4 * n) (length s)) _ _ (λ e. found (4 * n) refl (omega arith) (leb-true (4 * n) (length s) e)) (λ e. nothing)

data_sound : (n : ℕ) (m s : List ℕ) → Sound s (data_at n m s)
unfolding data_at
data_sound n m s = under (Sound s) (leb (4 * n + 4 + nth n s) (length s)) _ _ (λ e. found (4 * n + 4 + nth n s) refl (omega arith) (leb-true (4 * n + 4 + nth n s) (length s) e)) (λ e. nothing)

record_sound : (m s : List ℕ) → Sound s (record_of m s)
unfolding record_of formed
record_sound m s = go (form_of m) refl
  where
    go : (o : Option Form) → form_of m ≡ o → Sound s (maybe o none (formed m s))
    go none e = nothing
    go (some w) e = either (Sound s) w.laden _ _ (data_sound (length (cells w.holds)) m s) (having_sound (length (cells w.holds)) s _ (some_field m w e))

-- A stack is at most one higher behind a record.
abbrev pub height : Stack → ℕ
height k = k.before + k.operands + k.above

data Low (k : Stack) : Option Stack → Type 0 where
  stopped : Low k none
  higher : {k' : Stack} → height k' ≤ suc (height k) → Low k (some k')

module _ (k : Stack) where
  allow_low : (b : Bool) (k' : Stack) → (b ≡ true → height k' ≤ suc (height k)) → Low k (allow b k')
  unfolding allow
  allow_low b k' h = under (Low k) b _ _ (λ e. higher (h e)) (λ e. stopped)

  given_low : (b : Bool) {o : Option Stack} → Low k o → Low k (given b o)
  unfolding given
  given_low b l = either (Low k) b _ _ l stopped

  expression_low : (n : ℕ) → Low k (to_expression n k)
  unfolding to_expression stack
  expression_low n = either (Low k) (eqb k.operands 0) _ _ (allow_low _ _ (λ e. omega arith)) (allow_low _ _ (λ e. omega arith))

  operand_low : (n : ℕ) → Low k (to_operand n k)
  unfolding to_operand stack
  operand_low n = either (Low k) (eqb k.operands 0) _ _ (allow_low _ _ (λ e. omega arith)) (allow_low _ _ (λ e. omega arith))

  line_low : (n m : ℕ) → Low k (to_line n m k)
  unfolding to_line stack
  line_low n m = allow_low _ _ (λ e. omega arith)

  makes_low : (r : Role) (vs : List ℕ) → Low k (makes k r vs)
  unfolding makes stack
  makes_low a_statement vs = allow_low _ _ (λ e. omega arith)
  makes_low a_times vs = allow_low _ _ (λ e. omega arith)
  makes_low (an_expression m) vs = expression_low m
  makes_low (an_operand m) vs = operand_low (counted m vs)
  makes_low (a_line m o) vs = line_low m (counted o vs)

  checked_low : (n : ℕ) (r : Record) → Low k (checked n k r)
  unfolding checked
  checked_low n r = go (form_of (mark_of r))
    where
      go : (o : Option Form) → Low k (maybe o none (λ w. given (in_range n k w r) (makes k w.role (fields_of r))))
      go none = stopped
      go (some w) = given_low _ (makes_low w.role (fields_of r))

-- What the rules say of bytes, with the stack that stands before them.
unfoldable pub verdict : ℕ → Stack → List ℕ → Bool
verdict n k s = maybe (records_from 0 s) false λ rs. maybe (checked_all n k rs) false complete

pub verdict_whole : (n : ℕ) (s : List ℕ) → verdict n fresh s ≡ well_formed_bytes s n
unfolding verdict well_formed_bytes decode well_formed
verdict_whole n s = refl

pub verdict_end : (n : ℕ) (k : Stack) → verdict n k [] ≡ complete k
unfolding verdict records_from checked_all
verdict_end n k = refl

-- bytes of a record that is read are passed
passed_over : (q : ℕ) (s : List ℕ) → q ≤ length s → records_from q s ≡ records_from 0 (drop q s)
unfolding records_from
passed_over zero s h = refl
passed_over (suc q) [] h = absurd (omega arith)
passed_over (suc q) (c ∷ cs) h = passed_over q cs (omega arith)

-- The next record settles the verdict, or leaves it to the bytes behind it.
pub data Passing (n : ℕ) (k : Stack) (s : List ℕ) : Option Pass → Type 0 where
  stops : verdict n k s ≡ false → Passing n k s none
  goes : {p : Pass} → verdict n k s ≡ verdict n p.stack (drop p.size s) → 6 ≤ p.size → p.size ≤ length s → height p.stack ≤ suc (height k) → Passing n k s (some p)

module _ (n : ℕ) (k : Stack) where
  -- a record in front of others
  also_false : (o : Option (List Record)) (r : Record) → checked n k r ≡ none → maybe (also r o) false (λ rs. maybe (checked_all n k rs) false complete) ≡ false
  unfolding also checked_all
  also_false none r e = refl
  also_false (some rs) r e = rw e

  also_some : (o : Option (List Record)) (r : Record) {k' : Stack} → checked n k r ≡ some k'
      → maybe (also r o) false (λ rs. maybe (checked_all n k rs) false complete) ≡ maybe o false (λ rs. maybe (checked_all n k' rs) false complete)
  unfolding also checked_all
  also_some none r e = refl
  also_some (some rs) r e = rw e

  next : (c : ℕ) (cs : List ℕ) → Passing n k (c ∷ cs) (next_pass n k (c ∷ cs))
  unfolding next_pass verdict records_from
  next c cs = go (record_of (take 2 (c ∷ cs)) (drop 2 (c ∷ cs))) refl (record_sound _ _)
    where
      go : (o : Option Sized) → record_of (take 2 (c ∷ cs)) (drop 2 (c ∷ cs)) ≡ o → Sound (drop 2 (c ∷ cs)) o → Passing n k (c ∷ cs) (passes n k o)
      go none e nothing = stops (rw e)
      go (some z) e (found q i l h) = onto (checked n k z.what) refl (checked_low k n z.what)
        where
          onto : (o : Option Stack) → checked n k z.what ≡ o → Low k o → Passing n k (c ∷ cs) (sized z.size o)
          onto none f stopped = stops (rw e (also_false (records_from (pred z.size) cs) z.what f))
          onto (some k') f (higher low) =
              goes {p = record { stack = k'; size = z.size }}
              (rw e (also_some (records_from (pred z.size) cs) z.what f ∙ ap (λ (o : Option (List Record)). maybe o false (λ rs. maybe (checked_all n k' rs) false complete)) behind))
              (omega arith) (omega (arith, length-drop 1 cs)) low
            where
              behind : records_from (pred z.size) cs ≡ records_from 0 (drop z.size (c ∷ cs))
              behind = let w : z.size ≡ suc (suc q) = omega arith in rw w (passed_over (suc q) cs (omega (arith, length-drop 1 cs)))

  next_of : (s : List ℕ) → 1 ≤ length s → Passing n k s (next_pass n k s)
  next_of [] h = absurd (omega arith)
  next_of (c ∷ cs) h = next c cs

  stops_so : {s : List ℕ} → Passing n k s none → verdict n k s ≡ false
  stops_so (stops e) = e

  -- no record has fewer than two bytes
  sound_nil : {o : Option Sized} → Sound [] o → o ≡ none
  sound_nil nothing = refl
  sound_nil (found q i l h) = absurd (omega arith)

  pub alone : (s : List ℕ) → length s < 2 → next_pass n k s ≡ none
  unfolding next_pass
  alone [] h = ap (passes n k) (sound_nil (record_sound [] []))
  alone (c ∷ []) h = ap (passes n k) (sound_nil (record_sound (c ∷ []) []))
  alone (c ∷ d ∷ s) h = absurd (omega arith)

  -- the record at a place, by its letters and the bytes behind them
  pub next_at : (l : List ℕ) (at : ℕ) (m t : List ℕ) → at + 2 ≤ length l → m ≡ get_or l at 0 ∷ get_or l (at + 1) 0 ∷ [] → t ≡ drop (at + 2) l
      → passes n k (record_of m t) ≡ next_pass n k (drop at l)
  unfolding next_pass
  next_at l at m t h e f =
      let a : at + 1 ≡ suc at = omega arith in
      let b : at + 2 ≡ suc (suc at) = omega arith in
      let u : drop at l ≡ get_or l at 0 ∷ get_or l (at + 1) 0 ∷ drop (at + 2) l =
      rw (b, a) (drop-cons l at 0 (omega arith) ∙ ap (λ (v : List ℕ). get_or l at 0 ∷ v) (drop-cons l (suc at) 0 (omega arith))) in
      rw (u, e, f)

-- At a place of the listing l, with the stack of what is passed: what is left settles the whole.
pub record Stands (l : List ℕ) (n : ℕ) (k : Stack) (at : ℕ) : Type 0 where
  pub within : at ≤ length l
  pub low : height k ≤ at
  pub so : verdict n k (drop at l) ≡ well_formed_bytes l n

pub stands_first : (l : List ℕ) (n : ℕ) → Stands l n (record { place = 0; floor = 0; before = 0; operands = 0; above = 0; closed = true }) 0
unfolding fresh
stands_first l n = record { within = zero-le; low = omega arith; so = verdict_whole n l }

module _ {l : List ℕ} {n : ℕ} {k : Stack} {at : ℕ} (i : Stands l n k at) where
  pub stands_end : length l ≤ at → complete k ≡ well_formed_bytes l n
  stands_end h =
      let e : at ≡ length l = omega (arith, i.within) in
      sym (verdict_end n k) ∙ ap (λ (s : List ℕ). verdict n k s) (sym (ap (λ (j : ℕ). drop j l) e ∙ drop-length l)) ∙ i.so

  module _ (h : at < length l) where
    some_left : 1 ≤ length (drop at l)
    some_left = omega (arith, length-drop at l)

    pub stands_bad : next_pass n k (drop at l) ≡ none → false ≡ well_formed_bytes l n
    stands_bad e = sym (stops_so n k (rw e at (next_of n k (drop at l) some_left))) ∙ i.so

    pub stands_again : {p : Pass} → next_pass n k (drop at l) ≡ some p → Stands l n p.stack (at + p.size) × (6 ≤ p.size)
    stands_again {p} e = go (rw e at (next_of n k (drop at l) some_left))
      where
        go : Passing n k (drop at l) (some p) → Stands l n p.stack (at + p.size) × (6 ≤ p.size)
        go (goes f a b d) = (
          record {
            within = omega (arith, length-drop at l, b);
            low = omega (arith, i.low, d, a);
            so = ap (λ (s : List ℕ). verdict n p.stack s) (sym (drop-drop p.size at l)) ∙ sym f ∙ i.so;
          },
          a,
        )
