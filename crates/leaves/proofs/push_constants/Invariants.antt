use Rattle.leaves.specs.Args.{Pushes}
use Rattle.leaves.proofs.push_constants.Given as goal

abbrev pub invariant-loop-tree : goal.invariant-loop-tree
invariant-loop-tree l = Pushes l.t l.initial.context l.tree-iterator l.context
