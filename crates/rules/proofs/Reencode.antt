-- The records that bytes are decoded to have those bytes: a field's bytes come back from its value, and each record is decoded only from
-- its own mark and its whole length. It is what lets the patch copy bytes.
use Rattle.std.specs.Prelude.{if◌then◌else◌}
use mathlib.Core.Path.{◌≡◌, refl, sym, ap, ap₂, ◌∙◌}
use mathlib.Core.Bool.{Bool, true, false, true≢false}
use mathlib.Core.List.{List, [], ◌∷◌, ◌++◌, append_assoc}
use mathlib.Core.Option.{Option, none, some}
use Prim.Native.Nat.{ℕ, zero, suc, pred, ◌+◌, ◌*◌, ◌/◌, ◌%◌, ◌≤◌, ◌<◌}
use native.Mathlib.Omega.{arith}
use native.Mathlib.Nat.{div-div-eq-div-mul, zero-add}
use lib.Dec.{leb}
use lib.ListN.{length, take, drop, take-append-drop, length-drop}
use lib.Seq.{drop-drop, take-add, length-take-le}
use borrow.Author.Tests.{leb-true}
use Rattle.lexer.specs.Text.{maybe, same}
use Rattle.rules.specs.Records.{Form, form_of, Record, plain, laden, mark_of, cells, field, fields, encode, listing}
use Rattle.rules.specs.Decode.{Sized, value, nth, nths_from, having, data_at, formed, record_of, also, records_from, decode}
use Rattle.rules.proofs.Forms.{same_true as letters_same}
use Rattle.rules.proofs.Decoded.{Low, AllLow, Ranged}

abbrev pub Octets : List ℕ → Type 0
Octets [] = Unit {0}
Octets (c ∷ cs) = (c < 256) × Octets cs

pub octets_drop : (n : ℕ) (s : List ℕ) → Octets s → Octets (drop n s)
octets_drop zero s h = h
octets_drop (suc n) [] h = tt
octets_drop (suc n) (c ∷ cs) h = octets_drop n cs h.1

low_mod : (a x : ℕ) → a < 256 → (a + 256 * x) % 256 ≡ a
low_mod a x h = omega arith

low_div : (a x : ℕ) → a < 256 → (a + 256 * x) / 256 ≡ x
low_div a x h = omega arith

field_value : (a b c d : ℕ) → a < 256 → b < 256 → c < 256 → d < 256 → field (value (a ∷ b ∷ c ∷ d ∷ [])) ≡ a ∷ b ∷ c ∷ d ∷ []
unfolding field value
field_value a b c d i j k l =
    let w : ℕ = d + 256 * 0 in
    let x : ℕ = c + 256 * w in
    let y : ℕ = b + 256 * x in
    let v : ℕ = a + 256 * y in
    let e₁ : v / 256 ≡ y = low_div a y i in
    let e₂ : v / 65536 ≡ x = sym (div-div-eq-div-mul v 256 256) ∙ ap (λ (q : ℕ). q / 256) e₁ ∙ low_div b x j in
    let e₃ : v / 16777216 ≡ w = sym (div-div-eq-div-mul v 65536 256) ∙ ap (λ (q : ℕ). q / 256) e₂ ∙ low_div c w k in
    let f₀ : v % 256 ≡ a = low_mod a y i in
    let f₁ : v / 256 % 256 ≡ b = ap (λ (q : ℕ). q % 256) e₁ ∙ low_mod b x j in
    let f₂ : v / 65536 % 256 ≡ c = ap (λ (q : ℕ). q % 256) e₂ ∙ low_mod c w k in
    let f₃ : v / 16777216 % 256 ≡ d = ap (λ (q : ℕ). q % 256) e₃ ∙ low_mod d 0 l in
    (λ q. f₀ q ∷ f₁ q ∷ f₂ q ∷ f₃ q ∷ [])

four_bytes : (u : List ℕ) → 4 ≤ length u → Octets u → take 4 u ≡ field (value (take 4 u))
four_bytes [] h o = absurd (omega arith)
four_bytes (a ∷ []) h o = absurd (omega arith)
four_bytes (a ∷ b ∷ []) h o = absurd (omega arith)
four_bytes (a ∷ b ∷ c ∷ []) h o = absurd (omega arith)
four_bytes (a ∷ b ∷ c ∷ d ∷ r) h o = sym (field_value a b c d o.0 o.1.0 o.1.1.0 o.1.1.1.0)

take_fields : (i n : ℕ) (s : List ℕ) → 4 * (i + n) ≤ length s → Octets s → take (4 * n) (drop (4 * i) s) ≡ fields (nths_from i n s)
unfolding nths_from fields nth
take_fields i zero s h o = refl
take_fields i (suc n) s h o =
    let u : List ℕ = drop (4 * i) s in
    let e : 4 * suc n ≡ 4 + 4 * n = omega arith in
    let f : 4 * i + 4 ≡ 4 * suc i = omega arith in
    let g : drop 4 u ≡ drop (4 * suc i) s = drop-drop 4 (4 * i) s ∙ ap (λ (k : ℕ). drop k s) f in
    rw (e, take-add 4 (4 * n) u, g, take_fields (suc i) n s (omega arith) o)
    (ap (λ (l : List ℕ). l ++ fields (nths_from (suc i) n s)) (four_bytes u (omega (arith, length-drop (4 * i) s)) (octets_drop (4 * i) s o)))

-- the bytes m and s begin with the record's
pub record Encodes (m s : List ℕ) (z : Sized) : Type 0 where
  pub size : ℕ
  pub sized : z.size ≡ 2 + size
  pub fits : size ≤ length s
  pub bytes' : m ++ take size s ≡ encode z.what

pub same_true : (a b : List ℕ) → same a b ≡ true → a ≡ b
same_true a b h = letters_same a b h

-- a record of n fields, whose bytes they are
plain_encodes : (n : ℕ) (m s : List ℕ) (z : Sized) → Octets s → having n s (plain m (nths_from 0 n s)) ≡ some z → Encodes m s z
unfolding having encode
plain_encodes n m s z o h = go (leb (4 * n) (length s)) refl h
  where
    go : (b : Bool) → leb (4 * n) (length s) ≡ b → ◌≡◌ {A = Option Sized} (if b then (some (record { what = plain m (nths_from 0 n s); size = 2 + 4 * n })) else none) (some z) → Encodes m s z
    go true i j =
        let k : record { what = plain m (nths_from 0 n s); size = 2 + 4 * n } ≡ z = cc in
        let l : 4 * n ≤ length s = leb-true (4 * n) (length s) i in
        record { size = 4 * n; sized = sym (ap (λ (q : Sized). q.size) k); fits = l; bytes' = ap (λ (q : List ℕ). m ++ q) (take_fields 0 n s (omega arith) o) ∙ ap (λ (q : Sized). encode q.what) k }
    go false i j = absurd (true≢false cc)

-- and one with a count and its data
nths_more : (i n : ℕ) (s : List ℕ) → nths_from i (suc n) s ≡ nths_from i n s ++ (nth (i + n) s ∷ [])
unfolding nths_from
nths_more i zero s = let e : i ≡ i + 0 = omega arith in ap (λ (k : ℕ). nth k s ∷ []) e
nths_more i (suc n) s = let e : suc i + n ≡ i + suc n = omega arith in ap (λ (l : List ℕ). nth i s ∷ l) (nths_more (suc i) n s ∙ ap (λ (k : ℕ). nths_from (suc i) n s ++ (nth k s ∷ [])) e)

laden_encodes : (n : ℕ) (m s : List ℕ) (z : Sized) → Octets s → data_at n m s ≡ some z → Encodes m s z
unfolding data_at encode
laden_encodes n m s z o h = go (leb (4 * n + 4 + nth n s) (length s)) refl h
  where
    go : (b : Bool) → leb (4 * n + 4 + nth n s) (length s) ≡ b
        → ◌≡◌ {A = Option Sized} (if b then (some (record { what = laden m (nths_from 0 n s) (take (nth n s) (drop (4 * n + 4) s)); size = 2 + (4 * n + 4 + nth n s) })) else none) (some z) → Encodes m s z
    go true i j =
        let c : ℕ = nth n s in
        let h : ℕ = 4 * n + 4 in
        let d : List ℕ = take c (drop h s) in
        let k : record { what = laden m (nths_from 0 n s) d; size = 2 + (h + c) } ≡ z = cc in
        let l : h + c ≤ length s = leb-true (h + c) (length s) i in
        let e : 4 * suc n ≡ h = omega arith in
        let f : length d ≡ c = length-take-le c (drop h s) (omega (arith, length-drop h s)) in
        let g : take h s ≡ fields (nths_from 0 n s ++ (length d ∷ [])) =
        ap (λ (q : ℕ). take q s) (sym e) ∙ take_fields 0 (suc n) s (omega arith) o ∙ ap fields (nths_more 0 n s ∙ rw (f, zero-add n)) in
        record {
          size = h + c;
          sized = sym (ap (λ (q : Sized). q.size) k);
          fits = l;
          bytes' = ap (λ (q : List ℕ). m ++ q) (take-add h c s ∙ ap (λ (q : List ℕ). q ++ d) g) ∙ sym (append_assoc m (fields (nths_from 0 n s ++ (length d ∷ []))) d) ∙ ap (λ (q : Sized). encode q.what) k;
        }
    go false i j = absurd (true≢false cc)

record_encodes : (m s : List ℕ) (z : Sized) → Octets s → record_of m s ≡ some z → Encodes m s z
unfolding record_of formed
record_encodes m s z o h = go (form_of m) h
  where
    by : (b : Bool) (n : ℕ) → (if b then (data_at n m s) else (having n s (plain m (nths_from 0 n s)))) ≡ some z → Encodes m s z
    by true n h = laden_encodes n m s z o h
    by false n h = plain_encodes n m s z o h

    go : (x : Option Form) → maybe x none (formed m s) ≡ some z → Encodes m s z
    go none h = absurd (true≢false cc)
    go (some w) h = by w.laden (length (cells w.holds)) h

-- A record that is read has a description, and each field fits its four bytes.
length_nths : (i n : ℕ) (s : List ℕ) → length (nths_from i n s) ≡ n
unfolding nths_from
length_nths i zero s = refl
length_nths i (suc n) s = ap suc (length_nths (suc i) n s)

low_four : (u : List ℕ) → Octets u → Low (value (take 4 u))
unfolding value
low_four [] o = omega arith
low_four (a ∷ []) o = omega (arith, o.0)
low_four (a ∷ b ∷ []) o = omega (arith, o.0, o.1.0)
low_four (a ∷ b ∷ c ∷ []) o = omega (arith, o.0, o.1.0, o.1.1.0)
low_four (a ∷ b ∷ c ∷ d ∷ r) o = omega (arith, o.0, o.1.0, o.1.1.0, o.1.1.1.0)

low_nth : (i : ℕ) (s : List ℕ) → Octets s → Low (nth i s)
unfolding nth
low_nth i s o = low_four (drop (4 * i) s) (octets_drop (4 * i) s o)

low_nths : (i n : ℕ) (s : List ℕ) → Octets s → AllLow (nths_from i n s)
unfolding nths_from
low_nths i zero s o = tt
low_nths i (suc n) s o = (low_nth i s o, low_nths (suc i) n s o)

pub record_ranged : (m s : List ℕ) (z : Sized) → Octets s → record_of m s ≡ some z → Ranged z.what × (mark_of z.what ≡ m)
unfolding record_of formed having data_at
record_ranged m s z o h = go (form_of m) refl h
  where
    plainly : (w : Form) → form_of m ≡ some w → w.laden ≡ false → let n : ℕ = length (cells w.holds) in
        (b : Bool) → ◌≡◌ {A = Option Sized} (if b then (some (record { what = plain m (nths_from 0 n s); size = 2 + 4 * n })) else none) (some z) → Ranged z.what × (mark_of z.what ≡ m)
    plainly w f i true j =
        let n : ℕ = length (cells w.holds) in
        let e : plain m (nths_from 0 n s) ≡ z.what = ap (λ (q : Option Sized). maybe q (plain m []) (λ y. y.what)) j in
        rw (← e) (record { described = w; so = f; shaped = i; many = length_nths 0 n s; low = low_nths 0 n s o; counted = omega arith }, refl)
    plainly w f i false j = absurd (true≢false cc)

    fully : (w : Form) → form_of m ≡ some w → w.laden ≡ true → let n : ℕ = length (cells w.holds) in
        (b : Bool) → leb (4 * n + 4 + nth n s) (length s) ≡ b
        → ◌≡◌ {A = Option Sized} (if b then (some (record { what = laden m (nths_from 0 n s) (take (nth n s) (drop (4 * n + 4) s)); size = 2 + (4 * n + 4 + nth n s) })) else none) (some z)
        → Ranged z.what × (mark_of z.what ≡ m)
    fully w f i true k j =
        let n : ℕ = length (cells w.holds) in
        let d : List ℕ = take (nth n s) (drop (4 * n + 4) s) in
        let e : laden m (nths_from 0 n s) d ≡ z.what = ap (λ (q : Option Sized). maybe q (plain m []) (λ y. y.what)) j in
        let l : length d ≡ nth n s = length-take-le (nth n s) (drop (4 * n + 4) s) (omega (arith, leb-true (4 * n + 4 + nth n s) (length s) k, length-drop (4 * n + 4) s)) in
        rw (← e) (record { described = w; so = f; shaped = i; many = length_nths 0 n s; low = low_nths 0 n s o; counted = omega (arith, low_nth n s o) }, refl)
    fully w f i false k j = absurd (true≢false cc)

    by : (w : Form) → form_of m ≡ some w → (b : Bool) → w.laden ≡ b → let n : ℕ = length (cells w.holds) in
        (if b then (data_at n m s) else (having n s (plain m (nths_from 0 n s)))) ≡ some z → Ranged z.what × (mark_of z.what ≡ m)
    by w f true i j = let n : ℕ = length (cells w.holds) in fully w f i (leb (4 * n + 4 + nth n s) (length s)) refl j
    by w f false i j = plainly w f i (leb (4 * length (cells w.holds)) (length s)) j

    go : (x : Option Form) → form_of m ≡ x → maybe x none (formed m s) ≡ some z → Ranged z.what × (mark_of z.what ≡ m)
    go none f i = absurd (true≢false cc)
    go (some w) f i = by w f w.laden refl i

pub also_some : (r : Record) (o : Option (List Record)) {rs : List Record} → also r o ≡ some rs → (q : List Record) × (o ≡ some q) × (rs ≡ r ∷ q)
unfolding also
also_some r none h = absurd (true≢false cc)
also_some r (some q) h = (q, refl, cc)

-- a record's bytes, and the rest
taken_apart : (c : ℕ) (cs : List ℕ) (z : Sized) → Encodes (take 2 (c ∷ cs)) (drop 2 (c ∷ cs)) z → c ∷ cs ≡ encode z.what ++ drop (pred z.size) cs
taken_apart c cs z E =
    let n : ℕ = E.size in
    let l : List ℕ = c ∷ cs in
    let e : pred z.size ≡ suc n = ap pred E.sized ∙ omega arith in
    let f : drop n (drop 2 l) ≡ drop (suc n) cs = drop-drop n 2 l ∙ ap (λ (k : ℕ). drop k l) (two_more n) in
    sym (take-append-drop 2 l) ∙ ap (λ (q : List ℕ). take 2 l ++ q) (sym (take-append-drop n (drop 2 l))) ∙ sym (append_assoc (take 2 l) (take n (drop 2 l)) (drop n (drop 2 l)))
    ∙ ap₂ ◌++◌ E.bytes' (f ∙ ap (λ (k : ℕ). drop k cs) (sym e))
  where
    two_more : (n : ℕ) → 2 + n ≡ suc (suc n)
    two_more n = omega arith

-- THE OTHER ROUND TRIP.
records_bytes : (k : ℕ) (b : List ℕ) {rs : List Record} → Octets b → records_from k b ≡ some rs → drop k b ≡ listing rs
unfolding records_from listing
records_bytes zero [] {rs} o h = let y : rs ≡ [] = cc in rw y
records_bytes (suc k) [] o h = absurd (true≢false cc)
records_bytes (suc k) (c ∷ cs) o h = records_bytes k cs o.1 h
records_bytes zero (c ∷ cs) {rs} o h = go (record_of (take 2 (c ∷ cs)) (drop 2 (c ∷ cs))) refl h (λ k q e. records_bytes k cs {rs = q} o.1 e)
  where
    go : (x : Option Sized) → record_of (take 2 (c ∷ cs)) (drop 2 (c ∷ cs)) ≡ x → maybe x none (λ r. also r.what (records_from (pred r.size) cs)) ≡ some rs
        → ((k : ℕ) (q : List Record) → records_from k cs ≡ some q → drop k cs ≡ listing q) → c ∷ cs ≡ listing rs
    go none e i again = absurd (true≢false cc)
    go (some z) e i again =
        let (q, j, f) = also_some z.what (records_from (pred z.size) cs) i in
        rw f (taken_apart c cs z (record_encodes (take 2 (c ∷ cs)) (drop 2 (c ∷ cs)) z (octets_drop 2 (c ∷ cs) o) e) ∙ ap (λ (l : List ℕ). encode z.what ++ l) (again (pred z.size) q j))

pub reencoded : (b : List ℕ) (rs : List Record) → Octets b → decode b ≡ some rs → listing rs ≡ b
unfolding decode
reencoded b rs o h = sym (records_bytes 0 b o h)
