use Rattle.builder.proofs.FinishWords.{FunctionsInv}
use Rattle.builder.proofs.finish.function_positions.Given as goal

abbrev pub invariant-loop-i : goal.invariant-loop-i
invariant-loop-i l = FunctionsInv l.initial.list l.lists l.list l.i l.from
