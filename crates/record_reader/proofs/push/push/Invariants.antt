use Rattle.std.proofs.Common.{◌-◌, length}
use Rattle.record_reader.proofs.Pushes.{Values}
use Rattle.record_reader.proofs.push.push.Given as goal

abbrev pub invariant-loop-next : goal.invariant-loop-next
invariant-loop-next l = Values l.d l.pool l.next l.fits l.count

abbrev pub decreases-loop-next : goal.decreases-loop-next
decreases-loop-next l = length l.d - l.next
