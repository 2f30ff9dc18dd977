-- Bytes written to a lent buffer from a place on. A writer gives the place behind its bytes. It writes where there is room for all of
-- them, so that an empty buffer measures; no place above the limit is written to or reached.
use Rattle.std.specs.Prelude.{ℕ, ◌+◌, ◌≤◌, ◌≡◌, List, length, take}
use Rattle.std.proofs.lemmas.List.Edits.{sets}

unfoldable pub stores : List ℕ → ℕ → List ℕ → List ℕ
stores l at bs = sets l at bs

abbrev pub limit : ℕ
limit = 2147483648

-- The bytes bs are written at a place of the buffer l, which is l' then, and r is the place behind them. What stands below the place is
-- left as it was, always; where there is no room for all of them, the bytes from the place on are free.
pub record Wrote (at : ℕ) (bs l l' : List ℕ) (r : ℕ) : Type 0 where
  pub long : length l' ≡ length l
  pub below : take at l' ≡ take at l
  pub grows : at ≤ r
  pub place : at + length bs ≤ limit → r ≡ at + length bs
  pub wrote : at + length bs ≤ limit → at + length bs ≤ length l → l' ≡ stores l at bs
