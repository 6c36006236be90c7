use Rattle.std.proofs.Common.{arith}
use Rattle.decode.specs.Decode.{function_of}
use Rattle.decode.proofs.DecodeLaws.{name_found, marks_listed}
use Rattle.decode.proofs.FunctionFromRow.from.Goals as goal

pub returns : goal.returns
unfolding function_of
returns c = rw (marks_listed c.args.r.c c.loop-i.mark-items c.loop-i-test.array_long (λ k h. c.loop-i.invariant.1 k (omega arith)), name_found c.args.r.a c.checked_sub.result c.checked_sub.ensures)
