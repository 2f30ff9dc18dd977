use mathlib.Core.Path.{sym, ap, ◌∙◌}
use mathlib.Core.List.{◌++◌, append-nil}
use Rattle.rules.specs.Decode.{nth, nths_from}
use Rattle.records.specs.Marks.{letters_of}
use Rattle.text.specs.Text.{numbers}
use Rattle.printing.specs.Shapes.{nths}
use Rattle.text.proofs.Puts.{reads_as, behind}
use Rattle.printing.proofs.Fields.{nths_more}
use Rattle.printing.proofs.put_fields.Goals as goal

pub loop-i-init : goal.loop-i-init
unfolding numbers nths_from
loop-i-init c = reads_as (c.letters.ensures ∙ sym (append-nil (letters_of c.args.mark))) c.put_all.ensures

pub loop-i-preserved : goal.loop-i-preserved
loop-i-preserved c =
    let m = letters_of c.args.mark in
    let s = c.args.s.now in
    let i = c.loop-i.i in
    let put = rw (c.from.ensures ∙ c.field.ensures) at c.put_number.ensures in
    reads_as (sym (ap (λ ns. m ++ numbers ns) (nths_more i s))) (behind m (nths i s) (nth i s) c.loop-i.invariant put)
