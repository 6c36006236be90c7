use Rattle.record_reader.proofs.Judged.{left_more}
use Rattle.record_reader.proofs.parts.many.Goals as goal

pub loop-preserved : goal.loop-preserved
loop-preserved g c = left_more c.loop.invariant c.loop-test.true (c.in_ok-one.ensures)
