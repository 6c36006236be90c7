use Rattle.record_reader.proofs.Headers.{function2_params, function2_open, function2_whole}
use Rattle.record_reader.proofs.functions.function2.Goals as goal

pub returns-in_err-params : goal.returns-in_err-params
returns-in_err-params c = λ at pool. rw c.from_residual-in_err-params.ensures (function2_params at pool c.args.d.now c.in_ok-name.ensures c.in_ok-count.ensures c.in_ok-registers.ensures c.in_ok-marks.ensures c.in_err-params.ensures)

pub returns-in_err-whole : goal.returns-in_err-whole
returns-in_err-whole c = λ at pool. rw c.from_residual-in_err-whole.ensures (function2_open at pool c.args.d.now c.in_ok-name.ensures c.in_ok-count.ensures c.in_ok-registers.ensures c.in_ok-marks.ensures c.in_ok-params.ensures (rw c.word-3.ensures at c.in_err-whole.ensures))

pub returns : goal.returns
returns c = λ at pool. rw c.from-size.ensures (function2_whole at pool c.args.d.now c.in_ok-name.ensures c.in_ok-count.ensures c.in_ok-registers.ensures c.in_ok-marks.ensures c.in_ok-params.ensures (rw c.word-3.ensures at c.in_ok-whole.ensures))
