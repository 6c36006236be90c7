use Rattle.record_reader.proofs.Judged.{Left}
use Rattle.record_reader.proofs.parts.many.Given as goal

abbrev pub invariant-loop : goal.invariant-loop
invariant-loop g l = Left g.T.Counted.reader l.b l.count l.fits l.counter l.rest
