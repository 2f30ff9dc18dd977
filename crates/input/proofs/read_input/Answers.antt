-- What one more read put behind the first n bytes are the reader's next bytes.
use Rattle.std.proofs.Common.{◌≡◌, ℕ, ◌+◌, ◌-◌, ◌≤◌, List, ◌++◌, rules, length, take, drop, sym, ap, subst, ◌∙◌, le_refl, drop_at, length-take-le}
use Rattle.std.proofs.lemmas.Slice.{take-put_mid_below}
use Rattle.std.specs.Io.KnownBytes.{Consumes}
use Rattle.std.proofs.KnownBytes.{Consumes-trans}
use borrow.Rule.Slice.PartMut.{put_mid, post_of}
use lib.Seq.{take-add, take-append-le}
use Rattle.input.proofs.read_input.Goals as goal

take-put_mid_more : (a k m : ℕ) (xs ys : List ℕ) → a ≤ length xs → m ≤ length ys → take (a + m) (put_mid a k xs ys) ≡ take a xs ++ take m ys
take-put_mid_more a k m xs ys within fits =
    let after = post_of a k xs in
    take-add a m (put_mid a k xs ys)
    ∙ ap (λ l. l ++ take m (drop a (put_mid a k xs ys))) (take-put_mid_below a k xs ys a (le_refl a) within)
    ∙ ap (λ l. take a xs ++ l) (ap (take m) (drop_at (take a xs) (ys ++ after) a (length-take-le a xs within)) ∙ take-append-le m ys after fits)

pub loop-n-preserved : goal.loop-n-preserved
loop-n-preserved g c =
    let before = c.loop-n.invariant in
    let read = c.in_ok-more.ensures in
    let joined = take-put_mid_more c.loop-n.n (length c.loop-n.input - c.loop-n.n) c.in_ok-more.more c.loop-n.input c.read.new.buf before.1 read.bound.0 in
    (search rules, search rules, subst (Consumes _ _) (sym joined) (Consumes-trans _ _ _ _ _ before.2 read.bytes.0))
