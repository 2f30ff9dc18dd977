-- What a lent buffer holds of a text.
use Rattle.std.specs.Prelude.{◌≡◌, List, ℕ, length, take}
use Rattle.rules.specs.Calls.{overwrite}

-- The text bs is written from the buffer's first byte on, as far as there is room, and r is the length of what was written.
pub record Holds (bs l l' : List ℕ) (r : ℕ) : Type 0 where
  pub text : l' ≡ overwrite (take (length l) bs) l
  pub size : r ≡ length (take (length l) bs)

-- The whole text bs is written from the buffer's first byte on.
pub record Whole (bs l l' : List ℕ) (r : ℕ) : Type 0 where
  pub text : l' ≡ overwrite bs l
  pub size : r ≡ length bs
