use mathlib.Core.Path.{◌≡◌}
use Rattle.tree.specs.Within.{meanings_at}
use Rattle.tree.specs.Handle.{meanings_of}
use Rattle.rows.specs.Rows.{any_hoisted}
use Rattle.leaves.proofs.has_hoisted.Given as goal

abbrev pub invariant-loop-tree : goal.invariant-loop-tree
invariant-loop-tree l = (l.tree-iterator.script ≡ l.row.script) × (any_hoisted (meanings_at l.row.script.bytes.now l.tree-iterator.part) ≡ any_hoisted (meanings_of l.row))
