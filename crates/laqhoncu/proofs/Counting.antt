-- Tokens counted one after the other.
-- Assumes nothing.
use Prim.Native.Nat.{ℕ, zero, suc, pred, ◌+◌, ◌≤◌, ◌<◌}
use mathlib.Core.Path.{◌≡◌, refl, ap, ◌∙◌}
use mathlib.Core.List.{List, [], ◌∷◌}
use native.Mathlib.Omega.{arith}
use lib.ListN.{length, drop, length-drop, drop_of_length-le}
use lib.Seq.{drop-cons, drop-drop}
use Rattle.lexer.specs.declared.Scanned.{Scanned}
use Rattle.lexer.specs.Scanned.{scanned_of}
use Rattle.lexer.specs.Tokens.{token_at, size_of}
use Rattle.state.proofs.Stream.{bounds}
use Rattle.laqhoncu.specs.Counted.{count_from}

count_skip : (k : ℕ) (s : List ℕ) → k ≤ length s → count_from k s ≡ count_from 0 (drop k s)
unfolding count_from
count_skip zero s h = refl
count_skip (suc k) [] h = absurd (omega arith)
count_skip (suc k) (c ∷ cs) h = count_skip k cs (omega arith)

count_step : (s : List ℕ) (at : ℕ) → at < length s → count_from 0 (drop at s) ≡ suc (count_from 0 (drop (at + size_of (token_at (drop at s))) s))
unfolding count_from
count_step s at h =
    let e = drop-cons s at 0 h in
    let l = length-drop (suc at) s in
    let b = bounds s at h in
    let k : pred (size_of (token_at (drop at s))) ≤ length (drop (suc at) s) = omega arith in
    let n : suc at + pred (size_of (token_at (drop at s))) ≡ at + size_of (token_at (drop at s)) = omega arith in
    rw e (ap suc (count_skip _ (drop (suc at) s) (rw e at k) ∙ rw (drop-drop, rw e at n)))

pub count_end : (s : List ℕ) (at : ℕ) → length s ≤ at → count_from 0 (drop at s) ≡ 0
unfolding count_from
count_end s at h = rw (drop_of_length-le s h)

-- The tokens before a place are counted, and those from there on are the others; each has a byte, so the count is at most the place.
abbrev pub Counts : List ℕ → ℕ → ℕ → Type 0
Counts s at n = (at ≤ length s) × (n ≤ at) × (n + count_from 0 (drop at s) ≡ count_from 0 s)

-- one token more
pub counts_more : (s : List ℕ) (at : ℕ) {n : ℕ} {t : Scanned} → Counts s at n → at < length s → t ≡ scanned_of at (token_at (drop at s)) → Counts s t.end (n + 1) × (at < t.end)
counts_more s at {n} {t} (within, few, so) h f =
    let e : t.end ≡ at + size_of (token_at (drop at s)) = ap (λ (x : Scanned). x.end) f in
    let (long, fits) = bounds s at h in
    let step = count_step s at h in
    ((omega arith, omega arith, rw e (omega arith)), omega arith)
