-- The records that bytes begin with, one after the other, and their lines.
use Prim.Native.Nat.{ℕ, zero, suc, pred, ◌+◌, ◌*◌, ◌-◌, ◌≤◌}
use mathlib.Core.Path.{◌≡◌, refl, sym, ap, ◌∙◌}
use mathlib.Core.Bool.{true≢false}
use mathlib.Core.List.{List, [], ◌∷◌, ◌++◌, append_assoc, append-nil}
use mathlib.Core.Option.{Option, none, some}
use native.Mathlib.Omega.{arith}
use lib.ListN.{length, length-append, length-drop, take, drop}
use lib.Seq.{drop-drop}
use Rattle.lexer.specs.Text.{maybe}
use Rattle.rules.specs.Records.{Record}
use Rattle.rules.specs.Decode.{Sized, record_of, also, records_from, decode}
use Rattle.text.specs.declared.Text.{Text}
use Rattle.text.specs.Text.{Put}
use Rattle.printing.specs.Lines.{line, line_of, lines_of, text_of, records_in}
use Rattle.printing.specs.Shapes.{Printed}
use Rattle.text.proofs.Puts.{nothing, follows, reads_as}
use Rattle.printing.proofs.Room.{end_most}
use Rattle.printing.proofs.Shapes.{tail}

records_skip : (k : ℕ) (b : List ℕ) → records_in k b ≡ records_in 0 (drop k b)
unfolding records_in
records_skip zero b = refl
records_skip (suc k) [] = refl
records_skip (suc k) (c ∷ cs) = records_skip k cs

records_one : (s : List ℕ) (r : Record) (size : ℕ) → 2 ≤ size → size ≤ length s → record_of (take 2 s) (drop 2 s) ≡ some (record { what = r; size = size }) → records_in 0 s ≡ r ∷ records_in 0 (drop size s)
unfolding records_in
records_one [] r size h k e = absurd (omega arith)
records_one (c ∷ cs) r zero h k e = absurd (omega arith)
records_one (c ∷ cs) r (suc n) h k e =
    let p : pred (suc n) ≡ n = omega arith in
    rw (e, p) (ap (λ (rs : List Record). r ∷ rs) (records_skip n cs))

records_none : (s : List ℕ) → record_of (take 2 s) (drop 2 s) ≡ none → records_in 0 s ≡ []
unfolding records_in
records_none [] e = refl
records_none (c ∷ cs) e = rw e

-- where none is found at a place, no record is left
pub none_left : (b : List ℕ) (at : ℕ) → let s : List ℕ = take (length b - at) (drop at b) in record_of (take 2 s) (drop 2 s) ≡ none → records_in 0 (drop at b) ≡ []
none_left b at e = records_none (drop at b) (rw (tail at b) at e)

lines_append : (a b : List Record) → lines_of (a ++ b) ≡ lines_of a ++ lines_of b
unfolding lines_of
lines_append [] b = refl
lines_append (r ∷ a) b = rw (lines_append a b) (sym (append_assoc (line_of r) (lines_of a) (lines_of b)))

lines_more : (a : List Record) (r : Record) → lines_of a ++ line_of r ≡ lines_of (a ++ (r ∷ []))
unfolding lines_of
lines_more a r = ap (λ (s : List ℕ). lines_of a ++ s) (sym (append-nil (line_of r))) ∙ sym (lines_append a (r ∷ []))

-- The records before a place are printed.
pub record Begun (b : List ℕ) (at count : ℕ) (t t' : Text) : Type 0 where
  pub done : List Record
  pub counted : count ≡ length done
  pub few : count ≤ at
  pub within : at ≤ length b
  pub short : length (lines_of done) ≤ 6 * at
  pub wrote : Put (lines_of done) t t'
  pub rest : records_in 0 b ≡ done ++ records_in 0 (drop at b)

pub begun : (b : List ℕ) (t : Text) → Begun b 0 0 t t
unfolding lines_of
begun b t = record { done = []; counted = refl; few = omega arith; within = omega arith; short = omega arith; wrote = nothing t; rest = refl }

pub begun_more : {b : List ℕ} {at count size : ℕ} {t t₁ t₂ : Text} → Begun b at count t t₁ → Printed (take (length b - at) (drop at b)) size t₁ t₂ → Begun b (at + size) (count + 1) t t₂
begun_more {b} {at} {count} {size} {t} {t₁} {t₂} g p₀ =
    let p : Printed (drop at b) size t₁ t₂ = rw (tail at b) at p₀ in
    let k : length (drop at b) ≡ length b - at = length-drop at b in
    let long = p.long in
    let fits = p.fits in
    let r : Record = p.what in
    record {
      done = g.done ++ (r ∷ []);
      counted = omega (arith, length-append g.done (r ∷ []), g.counted);
      few = omega (arith, g.few);
      within = omega (arith, g.within);
      short = rw (← lines_more g.done r) (omega (arith, length-append (lines_of g.done) (line_of r), g.short, p.short));
      wrote = reads_as (lines_more g.done r) (follows (lines_of g.done) (line_of r) g.wrote p.wrote);
      rest = g.rest ∙ ap (λ (rs : List Record). g.done ++ rs) (records_one (drop at b) r size long fits p.there ∙ ap (λ (s : List ℕ). r ∷ records_in 0 s) (drop-drop size at b)) ∙ sym (append_assoc g.done (r ∷ []) (records_in 0 (drop (at + size) b)));
    }

module _ {b : List ℕ} {at count : ℕ} {t t₁ : Text} (g : Begun b at count t t₁) (e : records_in 0 (drop at b) ≡ []) where
  all_done : records_in 0 b ≡ g.done
  all_done = g.rest ∙ ap (λ (rs : List Record). g.done ++ rs) e ∙ append-nil g.done

  pub ended : {t₂ : Text} → Put (line "END" (count ∷ [])) t₁ t₂ → Put (text_of (records_in 0 b)) t t₂
  unfolding text_of
  ended x = rw (all_done, ← g.counted) (follows (lines_of g.done) (line "END" (count ∷ [])) g.wrote x)

  pub ended_short : length (text_of (records_in 0 b)) ≤ 6 * length b + 25
  unfolding text_of
  ended_short = rw (all_done, ← g.counted) (omega (arith, length-append (lines_of g.done) (line "END" (count ∷ [])), g.short, g.within, end_most count))

-- A listing has no other bytes: its text is that of its records.
records_all : (k : ℕ) (b : List ℕ) (w : List Record) → records_from k b ≡ some w → records_in k b ≡ w
unfolding records_in records_from also
records_all zero [] w e = cc
records_all (suc k) [] w e = absurd (true≢false cc)
records_all (suc k) (c ∷ cs) w e = records_all k cs w e
records_all zero (c ∷ cs) w e = go (record_of (take 2 (c ∷ cs)) (drop 2 (c ∷ cs))) w e (λ k v. records_all k cs v)
  where
    go : (x : Option Sized) (w : List Record) → maybe x none (λ r. also r.what (records_from (pred r.size) cs)) ≡ some w → ((k : ℕ) (v : List Record) → records_from k cs ≡ some v → records_in k cs ≡ v)
        → maybe x [] (λ r. r.what ∷ records_in (pred r.size) cs) ≡ w
    go none w e again = absurd (true≢false cc)
    go (some z) w e again = more (records_from (pred z.size) cs) refl e
      where
        more : (o : Option (List Record)) → records_from (pred z.size) cs ≡ o → also z.what o ≡ some w → z.what ∷ records_in (pred z.size) cs ≡ w
        more none f h = absurd (true≢false cc)
        more (some v) f h = ap (λ (rs : List Record). z.what ∷ rs) (again (pred z.size) v f) ∙ cc

pub text_of_listing : (b : List ℕ) (w : List Record) → decode b ≡ some w → records_in 0 b ≡ w
unfolding decode
text_of_listing b w e = records_all 0 b w e
