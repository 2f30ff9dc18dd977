use Rattle.rules.specs.Reader.{◌>>◌}
use mathlib.Core.Path.{sym, ◌∙◌}
use borrow.Author.Rules.{rules}
use Rattle.lexer.specs.declared.Kind.TheVariants as kind
use Rattle.rules.specs.Expressions.{expression}
use Rattle.state.proofs.Chain.{exits, called, comes, lifts, lifts_denied, refuses_here, reads_done, reads_refused, reads_refused_on, reads_by, hands_on}
use Rattle.state.proofs.Chain.{stops, stops_on}
use Rattle.statements.proofs.Lines.{same_by_ne, other_by_ne}
use Rattle.statements.proofs.Forms.{key_operation, key_directive, key_label, line_else, times_none, times_past, times_stops, content_none, content_denied, content_reads}
use Rattle.statements.proofs.+statements.Goals as goal

pub content-returns-then-is_line_end : goal.content-returns-then-is_line_end
content-returns-then-is_line_end t c = reads_refused (content_none _ _ _ c.args.out.now (sym c.is_line_end.ensures ∙ c.if-is_line_end.true) c.refuse_here.ensures)

pub content-returns-in_err-q : goal.content-returns-in_err-q
content-returns-in_err-q t c = rw (exits c.from_residual.ensures.1) (reads_refused_on c.in_err-q.ensures.lent (content_denied _ _ _ c.args.out.now (sym c.is_line_end.ensures ∙ c.if-is_line_end.false) c.in_err-q.ensures.so))

pub content-returns : goal.content-returns
content-returns t c = reads_done (content_reads _ _ _ (sym c.is_line_end.ensures ∙ c.if-is_line_end.false) c.in_ok-q.ensures.so c.put_record.ensures)

pub line-returns-then-ne : goal.line-returns-then-ne
line-returns-then-ne t c = reads_by (line_else _ _ _ _ (other_by_ne kind.Identifier _ c.if-ne.ensures)) (reads_refused (lifts_denied (refuses_here 20 c.refuse_here.ensures)))

pub line-returns-in-Some-Equ : goal.line-returns-in-Some-Equ
line-returns-in-Some-Equ t c = reads_by (key_directive _ _ _ _ (same_by_ne kind.Identifier _ c.if-ne.ensures) c.text-name.ensures c.args.table.good (search rules) c.word_key-key.ensures.0 c.in-Some-Equ.ensures c.in-Some-Equ.field-0-is) c.constant.ensures

pub line-returns-in-Some-Db : goal.line-returns-in-Some-Db
line-returns-in-Some-Db t c = reads_by (key_directive _ _ _ _ (same_by_ne kind.Identifier _ c.if-ne.ensures) c.text-name.ensures c.args.table.good (search rules) c.word_key-key.ensures.0 c.in-Some-Db.ensures c.in-Some-Db.field-0-is) c.data_of.ensures

pub line-returns-in-Some-Dw : goal.line-returns-in-Some-Dw
line-returns-in-Some-Dw t c = reads_by (key_directive _ _ _ _ (same_by_ne kind.Identifier _ c.if-ne.ensures) c.text-name.ensures c.args.table.good (search rules) c.word_key-key.ensures.0 c.in-Some-Dw.ensures c.in-Some-Dw.field-0-is) c.data_of-in-Some-Dw.ensures

pub line-returns-in-Some-Times : goal.line-returns-in-Some-Times
line-returns-in-Some-Times t c = reads_by (key_directive _ _ _ _ (same_by_ne kind.Identifier _ c.if-ne.ensures) c.text-name.ensures c.args.table.good (search rules) c.word_key-key.ensures.0 c.in-Some-Times.ensures c.in-Some-Times.field-0-is) c.times.ensures

pub line-returns-in-Some : goal.line-returns-in-Some
line-returns-in-Some t c = reads_by (key_operation _ _ _ _ (same_by_ne kind.Identifier _ c.if-ne.ensures) c.text-name.ensures c.args.table.good (search rules) c.word_key-key.ensures.0 c.in-Some.ensures) c.instruction.ensures

pub line-returns-in-None-operation_by : goal.line-returns-in-None-operation_by
line-returns-in-None-operation_by t c = reads_by (key_label _ _ _ _ (same_by_ne kind.Identifier _ c.if-ne.ensures) c.text-name.ensures c.args.table.good (search rules) c.word_key-key.ensures.0 c.in-None-operation_by.ensures c.in-None.ensures) c.label.ensures

pub times-returns-then-left-eq0 : goal.times-returns-then-left-eq0
times-returns-then-left-eq0 t c = reads_refused (times_none _ _ _ c.if-left-eq0.true c.refuse_here.ensures)

pub times-returns-in_err-q : goal.times-returns-in_err-q
times-returns-in_err-q t c = times_stops _ _ _ c.if-left-eq0.false _ c.from_residual.ensures.1 c.in_err-q.ensures.so

pub times-returns-in_err-end : goal.times-returns-in_err-end
unfolding ◌>>◌ expression
times-returns-in_err-end t c = stops_on c.from_residual-in_err-end.ensures.1 _ _ (times_past _ _ _ c.if-left-eq0.false _ c.in_ok-q.ensures.so) c.in_err-end.ensures.lent (lifts_denied c.in_err-end.ensures.so)

pub times-returns-in_err-below : goal.times-returns-in_err-below
unfolding ◌>>◌ expression
times-returns-in_err-below t c = stops c.from_residual-in_err-below.ensures.1 _ _ (called _ _ (times_past _ _ _ c.if-left-eq0.false _ c.in_ok-q.ensures.so) (lifts c.in_ok-end.ensures.so)) c.in_err-below.ensures.so

pub times-returns : goal.times-returns
unfolding ◌>>◌ expression
times-returns t c = hands_on (comes _ _ (called _ _ (times_past _ _ _ c.if-left-eq0.false _ c.in_ok-q.ensures.so) (lifts c.in_ok-end.ensures.so)) c.in_ok-below.ensures.so) c.content.ensures
