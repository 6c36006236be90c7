use Rattle.constants.proofs.HashLaws.{Hashed}
use Rattle.constants.proofs.bucket.Given as goal

abbrev pub invariant-loop-k : goal.invariant-loop-k
invariant-loop-k l = Hashed l.s l.h l.k
