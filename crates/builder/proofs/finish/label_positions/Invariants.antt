use Rattle.builder.proofs.FinishWords.{PlacesInv}
use Rattle.builder.proofs.finish.label_positions.Given as goal

abbrev pub invariant-loop-i : goal.invariant-loop-i
invariant-loop-i l = PlacesInv l.initial.list l.from l.end l.list l.i l.position l.before
