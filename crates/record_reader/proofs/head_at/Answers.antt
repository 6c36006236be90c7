use Rattle.std.proofs.Common.{sym, ◌∙◌}
use Rattle.record_reader.proofs.Whole.{head_past, head_none, head_short, head_unsized, head_cut, head_broken, head_whole}
use Rattle.record_reader.proofs.head_at.Goals as goal

pub returns-in_err-get : goal.returns-in_err-get
returns-in_err-get c = rw c.from_residual.ensures (head_past c.args.b.now c.args.at c.args.pool c.in_err-get.ensures.lookup.0)

pub returns-in_err-code : goal.returns-in_err-code
returns-in_err-code c = rw c.from_residual-in_err-code.ensures (head_none c.args.b.now c.args.at c.args.pool c.in_ok-get.ensures.lookup.0.2 c.in_err-code.ensures)

pub returns-then-is_short : goal.returns-then-is_short
returns-then-is_short c = rw c.from.ensures (head_short c.args.b.now c.args.at c.args.pool c.in_ok-get.ensures.lookup.0.2 c.in_ok-code.ensures c.in_ok-get.ensures.lookup.0.0 (sym c.is_short.ensures ∙ c.if-is_short.true))

pub returns-in_err-size : goal.returns-in_err-size
returns-in_err-size c = rw c.from_residual-in_err-size.ensures (head_unsized c.args.b.now c.args.at c.args.pool c.in_ok-get.ensures.lookup.0.2 c.in_ok-code.ensures (sym c.is_short.ensures ∙ c.if-is_short.false) c.in_err-size.ensures)

pub returns-in_err-get-2 : goal.returns-in_err-get-2
returns-in_err-get-2 c = rw c.from_residual-in_err-get-2.ensures (head_cut c.args.b.now c.args.at c.args.pool c.in_ok-get.ensures.lookup.0.2 c.in_ok-code.ensures (sym c.is_short.ensures ∙ c.if-is_short.false) c.in_ok-size.ensures c.from-size.ensures c.in_err-get-2.ensures.lookup.0)

pub returns-in_err-kind : goal.returns-in_err-kind
returns-in_err-kind c = rw c.from_residual-in_err-kind.ensures (head_broken c.args.b.now c.args.at c.args.pool c.in_ok-get.ensures.lookup.0.2 c.in_ok-code.ensures (sym c.is_short.ensures ∙ c.if-is_short.false) c.in_ok-size.ensures c.from-size.ensures c.in_ok-get-2.ensures.lookup.0.2 c.in_ok-get-2.ensures.lookup.0.1 c.in_ok-get.ensures.lookup.0.0 c.in_err-kind.ensures)

pub returns : goal.returns
returns c = head_whole c.args.b.now c.args.at c.args.pool c.in_ok-get.ensures.lookup.0.2 c.in_ok-code.ensures (sym c.is_short.ensures ∙ c.if-is_short.false) c.in_ok-size.ensures c.from-size.ensures c.in_ok-get-2.ensures.lookup.0.2 c.in_ok-get-2.ensures.lookup.0.1 c.in_ok-get.ensures.lookup.0.0 c.in_ok-kind.ensures
