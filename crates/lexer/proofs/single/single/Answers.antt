-- The table is held against the definition at each ASCII character, by computing.
use Rattle.std.proofs.Common.{slice_index_or, None}
use Prim.Native.Nat.{ℕ, zero, suc, ◌+◌, ◌<◌}
use mathlib.Core.Path.{◌≡◌, refl, ap, ◌∙◌}
use mathlib.Core.List.{List, [], ◌∷◌}
use native.Mathlib.Omega.{arith}
use Rattle.std.specs.Prelude.{Option}
use Rattle.lexer.specs.Text.{is}
use Rattle.lexer.specs.Scanned.{single}
use Rattle.lexer.specs.declared.Kind.{Kind}
use Rattle.lexer.specs.declared.single.TheConstants.{KINDS}
use Rattle.lexer.proofs.single.single.Goals as goal

listed : (ℕ → Option Kind) → ℕ → ℕ → List (Option Kind)
listed f zero n = []
listed f (suc k) n = f n ∷ listed f k (suc n)

listed_at : (f : ℕ → Option Kind) (k n i : ℕ) → i < k → slice_index_or (listed f k n) i None ≡ f (n + i)
unfolding listed
listed_at f zero n i h = absurd (omega arith)
listed_at f (suc k) n zero h = let e : n ≡ n + 0 = omega arith in ap f e
listed_at f (suc k) n (suc i) h = let e : suc n + i ≡ n + suc i = omega arith in listed_at f k (suc n) i (omega arith) ∙ ap f e

from_table : (table : List (Option Kind)) → table ≡ listed single 128 0 → (c : ℕ) → c < 128 → slice_index_or table c None ≡ single c
from_table table e c h =
    let start : 0 + c ≡ c = omega arith in
    ap (λ (t : List (Option Kind)). slice_index_or t c None) e ∙ listed_at single 128 0 c h ∙ ap single start

pub returns-then-c-lt128 : goal.returns-then-c-lt128
unfolding listed single is
returns-then-c-lt128 c = from_table KINDS refl c.args.c c.if-c-lt128.true
