-- Bytes put by a writer.
use Rattle.std.specs.Prelude.{◌≡◌, List, [], ◌∷◌, ℕ, ◌+◌, ◌-◌, leb, length, if◌then◌else◌}
use Rattle.lexer.specs.Text.{bytes}
use Rattle.rules.specs.Records.{plain, encode}
use Rattle.records.specs.declared.Writer.{Writer}
use Rattle.records.specs.Writes.{limit, Wrote}

-- The bytes bs are written to a writer's buffer from its place on, and its place is behind them then. The buffer is the same one, so that its
-- owner has what was written.
pub record Puts (bs : List ℕ) (old new : Writer) : Type 0 where
  pub wrote : Wrote old.at bs old.out.now new.out.now new.at
  pub buffer : new.out.ghost_name ≡ old.out.ghost_name

-- A writer whose buffer is the one that it was, and as long; its bytes and the place are free.
pub record SameBuffer (old new : Writer) : Type 0 where
  pub buffer : new.out.ghost_name ≡ old.out.ghost_name
  pub long : length new.out.now ≡ length old.out.now

-- The place behind the first 14 bytes of LD's record.
unfoldable pub behind_head : ℕ → ℕ
behind_head at = if leb limit at then at else (at + 14)

-- The first 14 bytes of LD's record: its mark, its span and the count of its data.
unfoldable pub head : (f t count : ℕ) → List ℕ
unfolding bytes encode
head f t n = encode (plain (bytes "LD") (f ∷ t ∷ n ∷ []))

-- A writer whose place was `start` leaves room for the head of LD's record, whose data it puts next.
pub record Begins (old new : Writer) (start : ℕ) : Type 0 where
  pub start_is : start ≡ old.at
  pub place : new.at ≡ behind_head start
  pub bytes : new.out.now ≡ old.out.now
  pub buffer : new.out.ghost_name ≡ old.out.ghost_name

-- The head is written at `start`, its count being how many bytes were put since it was left out; the place stays behind them.
pub record Ends (start f t : ℕ) (old new : Writer) : Type 0 where
  pub behind : ℕ
  pub wrote : Wrote start (head f t (old.at - behind_head start)) old.out.now new.out.now behind
  pub place : new.at ≡ old.at
  pub buffer : new.out.ghost_name ≡ old.out.ghost_name
