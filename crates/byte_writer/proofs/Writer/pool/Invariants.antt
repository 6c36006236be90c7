use Rattle.byte_writer.proofs.Pool.{TextsLeft}
use Rattle.byte_writer.proofs.Writer.pool.Given as goal

abbrev pub invariant-loop-reference : goal.invariant-loop-reference
invariant-loop-reference l = TextsLeft l.initial.self l.reference-items l.reference-index l.self
