-- The loop's invariant: what is left decides as the whole part does.
use mathlib.Core.Path.{◌≡◌}
use Rattle.script_records.specs.Layout.{rows_of}
use Rattle.script_records.specs.Parts.{trees_in}
use Rattle.script.specs.Forms.{all_of}
use Rattle.script.proofs.record_rules.all_of.Given as goal

abbrev pub invariant-loop-tree : goal.invariant-loop-tree
invariant-loop-tree l =
    let rs = rows_of l.script.bytes.now l.script.layout in
    (l.tree-iterator.script ≡ l.script) × (all_of l.class (trees_in rs l.fn.p) ≡ all_of l.class (trees_in rs l.tree-iterator.part))
