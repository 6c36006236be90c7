use Rattle.record_reader.proofs.Headers.{function_params, function_open, function_whole}
use Rattle.record_reader.proofs.functions.function.Goals as goal

pub returns-in_err-params : goal.returns-in_err-params
returns-in_err-params c = λ at pool. rw c.from_residual-in_err-params.ensures (function_params at pool c.args.d.now c.in_ok-name.ensures c.in_ok-count.ensures c.in_err-params.ensures)

pub returns-in_err-whole : goal.returns-in_err-whole
returns-in_err-whole c = λ at pool. rw c.from_residual-in_err-whole.ensures (function_open at pool c.args.d.now c.in_ok-name.ensures c.in_ok-count.ensures c.in_ok-params.ensures (rw c.word-2.ensures at c.in_err-whole.ensures))

pub returns : goal.returns
returns c = λ at pool. rw c.from-size.ensures (function_whole at pool c.args.d.now c.in_ok-name.ensures c.in_ok-count.ensures c.in_ok-params.ensures (rw c.word-2.ensures at c.in_ok-whole.ensures))
