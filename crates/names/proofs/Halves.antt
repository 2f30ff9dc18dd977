-- Rows before `row` have no higher keys, and rows from `row + rows` on have higher ones; the keys rise, so one probe settles a side.
-- Where one row is left, no other can have the key.
use mathlib.Core.Path.{◌≡◌}
use mathlib.Core.Bool.{true}
use mathlib.Core.List.{List}
use Prim.Native.Nat.{ℕ, suc, ◌+◌, ◌-◌, ◌/◌, ◌^◌, ◌≤◌, ◌<◌}
use native.Mathlib.Nat.{lt_of_lt_of_le}
use native.Mathlib.Omega.{arith}
use Rattle.names.specs.Names.{rows_in}
use Rattle.names.specs.Keys.{key_at, good_table}
use Rattle.names.proofs.Rows.{rising, a_row, few_rows}

-- `rows` rows from `row` on, which `steps` halvings bring down to one
pub record Bounds (t : List ℕ) (key row rows steps : ℕ) : Type 0 where
  pub left : 1 ≤ rows
  pub within : row + rows ≤ rows_in t
  pub few : rows ≤ 2 ^ steps
  pub low : (k : ℕ) → k < row → key_at t k < key
  pub high : (k : ℕ) → row + rows ≤ k → k < rows_in t → key < key_at t k

half_few : (rows m n : ℕ) → m ≡ suc n → rows ≤ 2 ^ m → rows - rows / 2 ≤ 2 ^ n
half_few rows m n e h = let k : rows ≤ 2 ^ suc n = rw e at h in omega arith

pub all_rows : (t : List ℕ) → good_table t ≡ true → (key : ℕ) → Bounds t key 0 (rows_in t) 7
all_rows t good key =
    record {
      left = omega (arith, a_row t good);
      within = omega arith;
      few = few_rows t good;
      low = λ k h. absurd (omega arith);
      high = λ k h l. absurd (omega arith);
    }

module _ (t : List ℕ) (good : good_table t ≡ true) (key row rows m n : ℕ) (e : m ≡ suc n) (b : Bounds t key row rows m) where
  -- the row in the middle is not above the key, or it is
  pub upper : key_at t (row + rows / 2) ≤ key → Bounds t key (row + rows / 2) (rows - rows / 2) n
  upper h =
      record {
        left = omega (arith, b.left);
        within = omega (arith, b.within);
        few = half_few rows m n e b.few;
        low = λ k l. lt_of_lt_of_le (rising t good k (row + rows / 2) l (omega (arith, b.left, b.within))) h;
        high = λ k l i. b.high k (omega arith) i;
      }

  pub lower : key < key_at t (row + rows / 2) → Bounds t key row (rows - rows / 2) n
  lower h =
      record {
        left = omega (arith, b.left);
        within = omega (arith, b.within);
        few = half_few rows m n e b.few;
        low = b.low;
        high = λ k l i. grind (arith, h, rising t good (row + rows / 2) k);
      }

pub one : {t : List ℕ} {key row rows : ℕ} → Bounds t key row rows 0 → (k : ℕ) → k < rows_in t → key_at t k ≡ key → k ≡ row
one b k l e = grind (arith, b.few, b.low k, b.high k)
