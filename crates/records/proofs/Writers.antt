-- Bytes put by a writer, one run behind the other.
-- Assumes nothing.
use Prim.Native.Nat.{ℕ, ◌+◌, ◌-◌, ◌≤◌}
use mathlib.Core.Path.{◌≡◌, refl, sym, ap, subst, ◌∙◌}
use mathlib.Core.Bool.{Bool, true, false}
use mathlib.Core.List.{List, [], ◌∷◌, ◌++◌}
use native.Mathlib.Omega.{arith}
use native.Mathlib.Nat.{le_refl}
use borrow.Author.Tests.{lt-leb}
use lib.Dec.{leb}
use lib.ListN.{length}
use Rattle.std.specs.Prelude.{if◌then◌else◌}
use Rattle.lexer.specs.Text.{bytes}
use Rattle.rules.specs.Records.{LD, field, fields, encode}
use Rattle.records.specs.declared.Writer.{Writer}
use Rattle.records.specs.Writes.{limit, Wrote}
use Rattle.records.specs.Writers.{Puts, SameBuffer, behind_head, head, Begins, Ends}
use Rattle.records.proofs.Writes.{nothing, follows, headed}

-- nothing put
pub puts_nothing : (w : Writer) → Puts [] w w
puts_nothing w = record { wrote = nothing w.at w.out.now; buffer = refl }

-- a run put behind another
pub puts_follow : (a b : List ℕ) {w₀ w₁ w₂ : Writer} → Puts a w₀ w₁ → Puts b w₁ w₂ → Puts (a ++ b) w₀ w₂
puts_follow a b x y = record { wrote = follows a b x.wrote y.wrote; buffer = y.buffer ∙ x.buffer }

-- the same buffer still: where nothing is put, where bytes are put, before and behind a record's data, and on from there
pub same_still : (w : Writer) → SameBuffer w w
same_still w = record { buffer = refl; long = refl }

pub same_put : {bs : List ℕ} {w₀ w₁ : Writer} → Puts bs w₀ w₁ → SameBuffer w₀ w₁
same_put x = record { buffer = x.buffer; long = x.wrote.long }

pub same_begun : {w₀ w₁ : Writer} {start : ℕ} → Begins w₀ w₁ start → SameBuffer w₀ w₁
same_begun x = record { buffer = x.buffer; long = ap length x.bytes }

pub same_on : {w₀ w₁ w₂ : Writer} → SameBuffer w₀ w₁ → SameBuffer w₁ w₂ → SameBuffer w₀ w₂
same_on x y = record { buffer = y.buffer ∙ x.buffer; long = y.long ∙ x.long }

-- What its owner has of a lent buffer that was l, when a writer put bytes to it from its first byte on.
pub lent : (bs : List ℕ) {w₀ w₁ : Writer} {l l' : List ℕ} → Puts bs w₀ w₁ → w₀.at ≡ 0 → w₀.out.now ≡ l → l' ≡ w₁.out.now → Wrote 0 bs l l' w₁.at
lent bs {w₀} {w₁} {l} {l'} x z e f = rw (z, e, sym f) at x.wrote

-- the place behind the head
head_grows : (at : ℕ) → at ≤ behind_head at
unfolding behind_head
head_grows at = go (leb limit at)
  where
    go : (b : Bool) → at ≤ (if b then at else (at + 14))
    go true = le_refl at
    go false = omega arith

head_place : (at : ℕ) → at + 14 ≤ limit → behind_head at ≡ at + 14
unfolding behind_head
head_place at h = rw (lt-leb limit at (omega arith))

headed_data : (f t at s first p r : ℕ) (ds : List ℕ) {l l₁ l₂ l₃ : List ℕ} {w : ℕ} → s ≡ at → behind_head s ≡ first → p ≡ first → l₁ ≡ l → Wrote p ds l₁ l₂ w → Wrote s (head f t (w - first)) l₂ l₃ r
    → Wrote at (encode (LD f t ds)) l l₃ w
unfolding head bytes field fields encode
headed_data f t at s first p r ds {l} {l₁} {l₂} {l₃} {w} a b c d u v =
    headed {at = at} {first = first} (λ n. 76 ∷ 68 ∷ fields (f ∷ t ∷ n ∷ [])) ds (λ n. refl)
    (rw (sym a, sym b) (head_grows s))
    (λ h. sym b ∙ rw (sym a) (head_place s (rw (sym a) at h)))
    (rw (c, d) at u) (rw a at v)

-- LD's record: its data put behind the room for its head, and the head then.
pub data_put : (f t : ℕ) (ds : List ℕ) {w₀ w₁ w₂ w₃ : Writer} {start : ℕ} → Begins w₀ w₁ start → Puts ds w₁ w₂ → Ends start f t w₂ w₃ → Puts (encode (LD f t ds)) w₀ w₃
data_put f t ds {w₀} {w₁} {w₂} {w₃} {start} x y z = record {
  wrote = subst (λ (r : ℕ). Wrote w₀.at (encode (LD f t ds)) w₀.out.now w₃.out.now r) (sym z.place)
      (headed_data f t w₀.at start (behind_head start) w₁.at z.behind ds x.start_is refl x.place x.bytes y.wrote z.wrote);
  buffer = z.buffer ∙ y.buffer ∙ x.buffer;
}
