-- One record of a listing: where its bytes end, and what its mark and its fields say of it.
-- Assumes nothing.
use Rattle.std.specs.Prelude.{if◌then◌else◌}
use mathlib.Core.Path.{◌≡◌, refl, sym, ap, ◌∙◌}
use mathlib.Core.Bool.{true, false, true≢false}
use mathlib.Core.List.{List, [], ◌∷◌, ◌++◌, append_assoc}
use mathlib.Core.Option as math
use mathlib.Core.Option.{none, some}
use Rattle.std.specs.Prelude.{Option, Some, None, IsSome}
use Prim.Native.Nat.{ℕ, zero, suc, pred, ◌+◌, ◌*◌, ◌≤◌, ◌<◌, zero-le}
use native.Mathlib.Omega.{arith}
use native.Mathlib.Nat.{add-zero}
use lib.Dec.{leb}
use lib.ListN.{length, take, drop, get_or, length-append, length-drop, get_or-append}
use lib.Seq.{drop-drop, drop_at, get_or-drop}
use Rattle.lexer.specs.Text.{maybe, bytes}
use Rattle.rules.specs.Records.{Form, form_of, Record, plain, laden, mark_of, fields_of, cells, field, fields, encode, listing}
use Rattle.rules.specs.Decode.{Sized, nth, record_of, also, records_from, decode}
use Rattle.rules.specs.Patch.{begins_from, statement_from}
use Rattle.rules.proofs.Records.{length_fields, length_plain, length_laden}
use Rattle.rules.proofs.Forms.{is_laden, data_of, two_letters, some_field}
use Rattle.rules.proofs.Decoded.{Low, AllLow, Ranged, tail_of, parts, nth_is}
use Rattle.rules.proofs.Reencode.{Octets, octets_drop, record_ranged, also_some, reencoded}
use Rattle.records.specs.declared.marks.Mark.{Mark}
use Rattle.records.specs.declared.marks.Mark.TheVariants as M
use Rattle.records.specs.Marks.{letters_of, is_known, Marked, count_of, field_at}
use Rattle.records.specs.Moves.{records_at, first, record_at, Decodes, Opens}
use Rattle.records.proofs.Fields.{letters_of_lem}
use Rattle.records.proofs.Marking.{count_of_lem, two_fields, data_mark, start_mark}
use Rattle.records.proofs.Listed.{octets}

-- THE FIRST RECORD OF BYTES, and those behind it.
pub record Split (s : List ℕ) (rs : List Record) : Type 0 where
  pub rest : List Record
  pub all : rs ≡ first rs ∷ rest
  pub bytes' : s ≡ encode (first rs) ++ listing rest
  pub behind : records_from 0 (drop (length (encode (first rs))) s) ≡ some rest
  pub ranged : Ranged (first rs)

-- the bytes that are passed are there
passed : (k : ℕ) (cs : List ℕ) {q : List Record} → records_from k cs ≡ some q → (records_from 0 (drop k cs) ≡ some q) × (k ≤ length cs)
unfolding records_from
passed zero cs h = (h, zero-le)
passed (suc k) [] h = absurd (true≢false cc)
passed (suc k) (c ∷ cs) h = let (a, b) = passed k cs h in (a, omega arith)

-- its length is settled by the bytes of the whole and of the rest
split_cons : (c : ℕ) (cs : List ℕ) (rs : List Record) → Octets (c ∷ cs) → records_from 0 (c ∷ cs) ≡ some rs → Split (c ∷ cs) rs
unfolding records_from listing decode
split_cons c cs rs o h = go (record_of (take 2 (c ∷ cs)) (drop 2 (c ∷ cs))) refl h
  where
    ends : (r : Record) (q : List Record) (k : ℕ) → rs ≡ r ∷ q → records_from k cs ≡ some q → Ranged r → Split (c ∷ cs) rs
    ends r q k e j g =
        let (a, b) = passed k cs j in
        let s : c ∷ cs ≡ encode r ++ listing q = sym (reencoded (c ∷ cs) rs o h) ∙ ap listing e in
        let t : drop k cs ≡ listing q = sym (reencoded (drop k cs) q (octets_drop k cs o.1) a) in
        let n : length (encode r) ≡ suc k = omega (arith, ap length s, length-append (encode r) (listing q), ap length t, length-drop k cs) in
        let d : records_from 0 (drop (length (encode r)) (c ∷ cs)) ≡ some q = ap (λ (i : ℕ). records_from 0 (drop i (c ∷ cs))) n ∙ a in
        rw e (record { rest = q; all = refl; bytes' = s; behind = d; ranged = g })

    go : (x : math.Option Sized) → record_of (take 2 (c ∷ cs)) (drop 2 (c ∷ cs)) ≡ x → maybe x none (λ z. also z.what (records_from (pred z.size) cs)) ≡ some rs → Split (c ∷ cs) rs
    go none f i = absurd (true≢false cc)
    go (some z) f i =
        let (q, j, e) = also_some z.what (records_from (pred z.size) cs) i in
        ends z.what q (pred z.size) e j (record_ranged (take 2 (c ∷ cs)) (drop 2 (c ∷ cs)) z (octets_drop 2 (c ∷ cs) o) f).0

pub split : (s : List ℕ) (rs : List Record) → Octets s → 1 ≤ length s → records_from 0 s ≡ some rs → Split s rs
split [] rs o l h = absurd (omega arith)
split (c ∷ cs) rs o l h = split_cons c cs rs o h

-- HOW LONG A RECORD IS: its mark, its fields, and its data.
module _ {r : Record} (g : Ranged r) where
  mark_two : length (mark_of r) ≡ 2
  mark_two = let (c, d, e) = two_letters (mark_of r) g.described g.so in ap length e

  pub sized : length (encode r) ≡ 2 + 4 * count_of (mark_of r) + length (data_of r)
  sized = by r g.shaped g.many mark_two (count_of_lem (mark_of r) g.described g.so)
    where
      by : (r : Record) → g.described.laden ≡ is_laden r → length (fields_of r) ≡ length (cells g.described.holds) → length (mark_of r) ≡ 2
          → count_of (mark_of r) ≡ length (cells g.described.holds) + (if g.described.laden then 1 else 0) → length (encode r) ≡ 2 + 4 * count_of (mark_of r) + length (data_of r)
      by (plain m vs) h i j k = let e : count_of m ≡ length (cells g.described.holds) + 0 = rw h at k in omega (arith, length_plain m vs)
      by (laden m vs d) h i j k = let e : count_of m ≡ length (cells g.described.holds) + 1 = rw h at k in omega (arith, length_laden m vs d)

  pub long_six : 6 ≤ length (encode r)
  long_six = omega (arith, sized, count_of_lem (mark_of r) g.described g.so, some_field (mark_of r) g.described g.so)

  -- no data but LD's
  pub no_data : (mark_of r ≡ bytes "LD" → ⊥) → length (data_of r) ≡ 0
  no_data n = by r g.shaped
    where
      by : (q : Record) → g.described.laden ≡ is_laden q → length (data_of q) ≡ 0
      by (plain m vs) h = refl
      by (laden m vs d) h = absurd (n (data_mark (mark_of r) g.described g.so h))

-- A RECORD AT A PLACE, and its letters.
pub record Stands (l : List ℕ) (at : ℕ) : Type 0 where
  pub rest : List Record
  pub all : records_at l at ≡ record_at l at ∷ rest
  pub bytes' : drop at l ≡ encode (record_at l at) ++ listing rest
  pub behind : decode (drop (at + length (encode (record_at l at))) l) ≡ some rest
  pub ranged : Ranged (record_at l at)
  pub fits : at + length (encode (record_at l at)) ≤ length l
  pub letters : mark_of (record_at l at) ≡ get_or l at 0 ∷ get_or l (at + 1) 0 ∷ []

-- the bytes at a place, from those of the record that stands there
front : (l : List ℕ) (at k : ℕ) (e z : List ℕ) → drop at l ≡ e ++ z → k < length e → get_or l (at + k) 0 ≡ get_or e k 0
front l at k e z h i = sym (get_or-drop at l k 0) ∙ ap (λ (s : List ℕ). get_or s k 0) h ∙ get_or-append e z 0 k i

pub standing : {l : List ℕ} {at : ℕ} → ((i : ℕ) → get_or l i 0 < 256) → Decodes l at → at < length l → Stands l at
unfolding record_at decode
standing {l} {at} b' d' h' =
    let s : List ℕ = drop at l in
    let r : Record = first (records_at l at) in
    let w : Split s (records_at l at) = split s (records_at l at) (octets_drop at l (octets l b')) (omega (arith, length-drop at l, h')) d'.so in
    let k : length s ≡ length (encode r) + length (listing w.rest) = ap length w.bytes' ∙ length-append (encode r) (listing w.rest) in
    let six : 6 ≤ length (encode r) = long_six w.ranged in
    let (c, d, e) = two_letters (mark_of r) w.ranged.described w.ranged.so in
    let f : encode r ≡ c ∷ d ∷ (fields (fields_of r) ++ tail_of r) = parts r ∙ ap (λ (m : List ℕ). m ++ (fields (fields_of r) ++ tail_of r)) e in
    let a : get_or l at 0 ≡ c = ap (λ (i : ℕ). get_or l i 0) (sym (add-zero at)) ∙ front l at 0 (encode r) (listing w.rest) w.bytes' (omega arith) ∙ ap (λ (q : List ℕ). get_or q 0 0) f in
    let b : get_or l (at + 1) 0 ≡ d = front l at 1 (encode r) (listing w.rest) w.bytes' (omega arith) ∙ ap (λ (q : List ℕ). get_or q 1 0) f in
    record {
      rest = w.rest;
      all = w.all;
      bytes' = w.bytes';
      behind = ap (records_from 0) (sym (drop-drop (length (encode r)) at l)) ∙ w.behind;
      ranged = w.ranged;
      fits = omega (arith, length-drop at l, h');
      letters = e ∙ (λ i. sym a i ∷ sym b i ∷ []);
    }

-- its mark is known
pub standing_known : {l : List ℕ} {at : ℕ} → Stands l at → is_known (get_or l at 0 ∷ get_or l (at + 1) 0 ∷ []) ≡ true
unfolding is_known
standing_known w = ap is_known (sym w.letters) ∙ ap (λ (o : math.Option Form). maybe o false (λ v. true)) w.ranged.so

-- What its letters are is a mark, which it opens with.
pub mark_some : {l : List ℕ} {at : ℕ} → ((i : ℕ) → get_or l i 0 < 256) → Decodes l at → at < length l
    → (o : Option Mark) → Marked (get_or l at 0 ∷ get_or l (at + 1) 0 ∷ []) o → IsSome o
mark_some b d h None e = absurd (true≢false (sym (standing_known (standing b d h)) ∙ e))
mark_some b d h (Some m) e = refl

pub opened : {l : List ℕ} {at : ℕ} → ((i : ℕ) → get_or l i 0 < 256) → Decodes l at → at < length l
    → {o : Option Mark} {m : Mark} → o ≡ Some m → Marked (get_or l at 0 ∷ get_or l (at + 1) 0 ∷ []) o → Opens l at m
opened {l} {at} b d h {m = m} e i = record { octets = b; decodes = d; there = h; letters = (rw e at i).0 }

-- A record has six bytes or more.
pub six_there : {l : List ℕ} {at : ℕ} → ((i : ℕ) → get_or l i 0 < 256) → Decodes l at → at < length l → at + 6 ≤ length l
six_there b d h = let w = standing b d h in omega (arith, w.fits, long_six w.ranged)

-- a field behind others, at its place
behind_fields : (l : List ℕ) (at k : ℕ) (m vs : List ℕ) (v : ℕ) (z : List ℕ) → length m ≡ 2 → drop at l ≡ m ++ (fields vs ++ (field v ++ z)) → Low v → k ≡ 2 + 4 * length vs → field_at l (at + k) ≡ v
unfolding field_at nth
behind_fields l at k m vs v z h e i j =
    let f : length (m ++ fields vs) ≡ k = omega (arith, length-append m (fields vs), length_fields vs) in
    let d : drop (at + k) l ≡ field v ++ z = sym (drop-drop k at l) ∙ ap (drop k) (e ∙ sym (append_assoc m (fields vs) (field v ++ z))) ∙ drop_at (m ++ fields vs) (field v ++ z) k f in
    nth_is 0 (drop (at + k) l) v z i d

module _ {l : List ℕ} {at : ℕ} {mark : Mark} (o : Opens l at mark) where
  abbrev it : Record
  it = record_at l at

  pub stands : Stands l at
  stands = standing o.octets o.decodes o.there

  pub marked : mark_of it ≡ letters_of mark
  marked = stands.letters ∙ sym o.letters

  letter : (x : Mark) → mark ≡ x → mark_of it ≡ letters_of x
  letter x e = marked ∙ ap letters_of e

  pub letter_not : {x : Mark} → (mark ≡ x → ⊥) → mark_of it ≡ letters_of x → ⊥
  letter_not {x} n e = n (letters_of_lem mark x (sym marked ∙ e))

  its_bytes : drop at l ≡ mark_of it ++ (fields (fields_of it) ++ (tail_of it ++ listing stands.rest))
  its_bytes =
      let w : Stands l at = stands in
      w.bytes' ∙ ap (λ (s : List ℕ). s ++ listing w.rest) (parts it) ∙ append_assoc (mark_of it) (fields (fields_of it) ++ tail_of it) (listing w.rest)
      ∙ ap (λ (s : List ℕ). mark_of it ++ s) (append_assoc (fields (fields_of it)) (tail_of it) (listing w.rest))

  -- its size, by its mark
  pub size_is : (mark ≡ M.LD → ⊥) → 2 + 4 * count_of (letters_of mark) ≡ length (encode it)
  unfolding bytes
  size_is n = let w : Stands l at = stands in rw (← marked) (omega (arith, sized w.ranged, no_data w.ranged (letter_not n)))

  module _ (e : mark ≡ M.LD) where
    -- LD's count, behind its span
    counted : {c : ℕ} → c ≡ field_at l (at + 10) → c ≡ length (data_of it)
    unfolding count_of
    counted {c} f = let w : Stands l at = stands in f ∙ by it w.ranged (letter M.LD e) (listing w.rest) its_bytes
      where
        by : (r : Record) → Ranged r → mark_of r ≡ bytes "LD" → (z : List ℕ) → drop at l ≡ mark_of r ++ (fields (fields_of r) ++ (tail_of r ++ z)) → field_at l (at + 10) ≡ length (data_of r)
        by (plain m vs) g i z b =
            absurd (true≢false (sym (its_laden g.described (sym (ap form_of i) ∙ g.so)) ∙ g.shaped))
          where
            its_laden : (w : Form) → form_of (bytes "LD") ≡ some w → w.laden ≡ true
            its_laden w e = sym (ap (λ (q : math.Option Form). maybe q true (λ v. v.laden)) e)
        by (laden m vs d) g i z b =
            let k : length vs ≡ 2 = g.many ∙ its_two g.described (sym (ap form_of i) ∙ g.so) in
            behind_fields l at 10 m vs (length d) (d ++ z) (ap length i) (b ∙ ap (λ (s : List ℕ). m ++ (fields vs ++ s)) (append_assoc (field (length d)) d z)) g.counted (omega arith)
          where
            its_two : (w : Form) → form_of (bytes "LD") ≡ some w → length (cells w.holds) ≡ 2
            its_two w e = sym (ap (λ (q : math.Option Form). maybe q 2 (λ v. length (cells v.holds))) e)

    pub size_data : {c : ℕ} → c ≡ field_at l (at + 10) → 2 + 4 * count_of (letters_of mark) + c ≡ length (encode it)
    size_data f = let w : Stands l at = stands in omega (arith, counted f, sized w.ranged, ap count_of marked)

  pub room_all : at + length (encode it) ≤ length l
  room_all = stands.fits

  pub size_six : 6 ≤ length (encode it)
  size_six = long_six stands.ranged

  pub room_six : at + 6 ≤ length l
  room_six = omega (arith, room_all, size_six)

  pub room_by : {n : ℕ} → n ≤ 2 + 4 * count_of (letters_of mark) → at + n ≤ length l
  room_by h = let w : Stands l at = stands in omega (arith, room_all, sized w.ranged, ap count_of marked)

  pub room_ten : (mark ≡ M.ST → ⊥) → at + 10 ≤ length l
  unfolding bytes
  room_ten n =
      let w : Stands l at = stands in
      let g : Ranged it = w.ranged in
      omega (arith, room_all, sized g, count_of_lem (mark_of it) g.described g.so, two_fields (mark_of it) g.described g.so (letter_not n))

  pub room_line : mark ≡ M.LI → at + 26 ≤ length l
  unfolding count_of
  room_line e = let c : count_of (letters_of mark) ≡ 6 = ap (λ (m : Mark). count_of (letters_of m)) e in room_by (omega arith)

  pub room_ld : mark ≡ M.LD → at + 14 ≤ length l
  unfolding count_of
  room_ld e = let c : count_of (letters_of mark) ≡ 3 = ap (λ (m : Mark). count_of (letters_of m)) e in room_by (omega arith)

  -- whether it is a statement from a place on
  pub is_start : (a : ℕ) → mark ≡ M.ST → leb a (field_at l (at + 2)) ≡ statement_from a it
  unfolding statement_from cells fields field
  is_start a e = let w : Stands l at = stands in by it w.ranged (letter M.ST e) (tail_of it ++ listing w.rest) its_bytes
    where
      place_of : (m vs z : List ℕ) → length m ≡ 2 → AllLow vs → length vs ≡ 1 → drop at l ≡ m ++ (fields vs ++ z) → field_at l (at + 2) ≡ get_or vs 0 0
      place_of m [] z h i j b = absurd (omega arith)
      place_of m (p ∷ []) z h i j b = behind_fields l at 2 m [] p z h b i.0 refl
      place_of m (p ∷ q ∷ vs) z h i j b = absurd (omega arith)

      by : (r : Record) → Ranged r → mark_of r ≡ bytes "ST" → (z : List ℕ) → drop at l ≡ mark_of r ++ (fields (fields_of r) ++ z) → leb a (field_at l (at + 2)) ≡ statement_from a r
      by r g i z b =
          let k : length (fields_of r) ≡ 1 = g.many ∙ sym (ap (λ (q : math.Option Form). maybe q 1 (λ v. length (cells v.holds))) (sym (ap form_of i) ∙ g.so)) in
          ap (leb a) (place_of (mark_of r) (fields_of r) z (ap length i) g.low k b) ∙ ap (λ (q : math.Option Form). maybe q false (λ w. begins_from a w.role (fields_of r))) (sym (ap form_of i))

  pub no_start : (a : ℕ) → (mark ≡ M.ST → ⊥) → false ≡ statement_from a it
  unfolding statement_from bytes
  no_start a n =
      let g : Ranged it = stands.ranged in
      sym (ap (λ (q : math.Option Form). maybe q false (λ w. begins_from a w.role (fields_of it))) g.so ∙ start_mark a (mark_of it) g.described (fields_of it) g.so (letter_not n))
