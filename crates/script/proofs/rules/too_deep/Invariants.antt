use Prim.Native.Nat.{◌+◌, ◌*◌}
use lib.ListN.{length}
use Rattle.hir.specs.Tree.{depth}
use Rattle.script_records.specs.Layout.{rows_of}
use Rattle.script.specs.Rules.{tree_in}
use Rattle.script.proofs.RuleLaws.{Deep}
use Rattle.script.proofs.rules.too_deep.Given as goal

abbrev pub invariant-loop-start : goal.invariant-loop-start
invariant-loop-start l = Deep (rows_of l.script.bytes.now l.script.layout) (depth (tree_in l.script.bytes.now l.script.layout)) l.starts.items l.i

abbrev pub decreases-loop-start : goal.decreases-loop-start
decreases-loop-start l = l.i * 2 + length l.starts.items
