use Rattle.record_reader.proofs.ReadValues.{value_past, value_untyped, value_none, value_some, value_rest}
use Rattle.record_reader.proofs.values.value.Goals as goal

pub returns-in_err-get : goal.returns-in_err-get
returns-in_err-get c = rw c.from_residual.ensures (value_past c.args.b.now c.args.at c.args.pool c.in_err-get.ensures.lookup.0)

pub returns-in_err-kind : goal.returns-in_err-kind
returns-in_err-kind c = rw c.from_residual-in_err-kind.ensures (value_untyped c.args.b.now c.args.at c.args.pool c.in_ok-get.ensures.lookup.0.2 c.in_err-kind.ensures)

pub returns-in_err-value : goal.returns-in_err-value
returns-in_err-value c = rw c.from_residual-in_err-value.ensures (value_none c.args.b.now c.args.at c.args.pool c.in_ok-get.ensures.lookup.0.2 c.in_ok-kind.ensures c.in_err-value.ensures)

pub overflow_sub-result : goal.overflow_sub-result
overflow_sub-result c = value_rest c.args.b.now c.args.at c.args.pool c.in_ok-get.ensures.lookup.0.2 c.in_ok-kind.ensures c.in_ok-value.ensures

pub returns : goal.returns
returns c = value_some c.args.b.now c.args.at c.args.pool c.in_ok-get.ensures.lookup.0.2 c.in_ok-kind.ensures c.in_ok-value.ensures
