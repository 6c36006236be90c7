use mathlib.Core.Path.{◌≡◌}
use Rattle.script_records.specs.Layout.{rows_of}
use Rattle.script.proofs.RecordLaws.{Passed}
use Rattle.script.proofs.record_rules.count_siblings.Given as goal

abbrev pub invariant-loop-tree : goal.invariant-loop-tree
invariant-loop-tree l = (l.tree-iterator.script ≡ l.script) × Passed (rows_of l.script.bytes.now l.script.layout) l.fn.p l.tree-iterator.part l.count
