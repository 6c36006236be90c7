use Rattle.std.proofs.Common.{arith}
use Rattle.record_reader.proofs.Pushes.{values_more, values_fail, values_content, value_was}
use Rattle.record_reader.proofs.push.push.Goals as goal

pub returns-in_err-v : goal.returns-in_err-v
returns-in_err-v c = λ at. rw c.from_residual.ensures (values_fail c.loop-next.invariant c.loop-next-test.true c.in_err-v.ensures at)

pub loop-next-smaller : goal.loop-next-smaller
loop-next-smaller c = omega (arith, (value_was c.args.d.now c.loop-next.next c.args.pool c.loop-next.invariant.to c.in_ok-v.ensures).later)

pub loop-next-preserved : goal.loop-next-preserved
loop-next-preserved c = values_more c.loop-next.invariant c.loop-next-test.true c.in_ok-v.ensures

pub returns : goal.returns
returns c = λ at. values_content c.loop-next.invariant c.loop-next-test.false at
