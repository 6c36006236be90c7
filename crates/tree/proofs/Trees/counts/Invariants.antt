use mathlib.Core.Path.{◌≡◌}
use Rattle.tree.proofs.Counting.{Counted}
use Rattle.tree.proofs.Trees.counts.Given as goal

abbrev pub invariant-loop-tree : goal.invariant-loop-tree
invariant-loop-tree l = (l.tree-iterator.script ≡ l.self.script) × Counted l.self.script.bytes.now l.self.script.layout l.self.part l.found l.tree-iterator.part
