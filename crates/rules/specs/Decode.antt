-- A listing's bytes as records: what `encode` writes, read back. RULES 8.1, 8.5.
use Rattle.std.specs.Prelude.{List, [], ◌∷◌, ℕ, zero, suc, pred, ◌+◌, ◌*◌, leb, length, take, drop, if◌then◌else◌}
use Rattle.std.proofs.Math.Option.{Option, none, some}
use Rattle.lexer.specs.Text.{maybe}
use Rattle.rules.specs.Records.{Form, form_of, Record, plain, laden, cells}

-- A record, and the number of its bytes.
pub record Sized : Type 0 where
  pub what : Record
  pub size : ℕ

-- A field is 4 bytes, low first; `nth i` is the i-th field.
unfoldable pub value : List ℕ → ℕ
value [] = 0
value (c ∷ cs) = c + 256 * value cs

unfoldable pub nth : ℕ → List ℕ → ℕ
nth i s = value (take 4 (drop (4 * i) s))

-- The n fields from the i-th on.
unfoldable pub nths_from : ℕ → ℕ → List ℕ → List ℕ
nths_from i zero s = []
nths_from i (suc n) s = nth i s ∷ nths_from (suc i) n s

-- A record of n fields, whose bytes behind the mark are at the head of s, if there are as many.
unfoldable pub having : ℕ → List ℕ → Record → Option Sized
having n s r = if leb (4 * n) (length s) then (some (record { what = r; size = 2 + 4 * n })) else none

-- One of n fields, their count, and as many bytes, which is bounded by the bytes that are there.
unfoldable pub data_at : ℕ → List ℕ → List ℕ → Option Sized
data_at n m s =
    let c : ℕ = nth n s in
    let h : ℕ = 4 * n + 4 in
    if leb (h + c) (length s) then (some (record { what = laden m (nths_from 0 n s) (take c (drop h s)); size = 2 + (h + c) })) else none

-- The record of a form, with the mark m, whose other bytes are at the head of s.
unfoldable pub formed : List ℕ → List ℕ → Form → Option Sized
unfolding cells nths_from
formed m s w = let n : ℕ = length (cells w.holds) in if w.laden then (data_at n m s) else (having n s (plain m (nths_from 0 n s)))

-- The record with the mark m.
unfoldable pub record_of : List ℕ → List ℕ → Option Sized
unfolding form_of formed
record_of m s = maybe (form_of m) none (formed m s)

unfoldable pub also : Record → Option (List Record) → Option (List Record)
also r none = none
also r (some rs) = some (r ∷ rs)

-- The records of bytes, of which the first k belong to a record that is already read.
unfoldable pub records_from : ℕ → List ℕ → Option (List Record)
records_from zero [] = some []
records_from (suc k) [] = none
records_from (suc k) (c ∷ cs) = records_from k cs
records_from zero (c ∷ cs) = maybe (record_of (take 2 (c ∷ cs)) (drop 2 (c ∷ cs))) none λ r. also r.what (records_from (pred r.size) cs)

unfoldable pub decode : List ℕ → Option (List Record)
decode b = records_from 0 b

unfoldable pub open_decode : Unit {0}
unfolding value nth nths_from having data_at formed record_of also records_from decode
open_decode = tt
