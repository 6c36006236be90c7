use Rattle.std.proofs.Common.{◌-◌, length}
use Rattle.action_reader.proofs.Pushing.{Loop}
use Rattle.action_reader.proofs.push.value_entries.Given as goal

abbrev pub invariant-loop-v : goal.invariant-loop-v
invariant-loop-v l = Loop l.b l.from l.above l.initial.list l.list l.i l.top l.base

abbrev pub decreases-loop-v : goal.decreases-loop-v
decreases-loop-v l = length l.b - l.i
