use Rattle.record_reader.proofs.ReadValues.{no_low, no_high, float_value}
use Rattle.record_reader.proofs.values.float.Goals as goal

pub returns-in_err-low : goal.returns-in_err-low
returns-in_err-low c = λ at pool. rw c.from_residual.ensures (no_low at pool c.args.d.now c.in_err-low.ensures)

pub returns-in_err-second : goal.returns-in_err-second
returns-in_err-second c = λ at pool. rw c.from_residual-in_err-second.ensures (no_high at pool c.args.d.now c.in_ok-low.ensures c.in_err-second.ensures)

pub returns : goal.returns
returns c = λ at pool. rw c.pushed.ensures (float_value at pool c.args.d.now c.in_ok-low.ensures c.in_ok-second.ensures)
