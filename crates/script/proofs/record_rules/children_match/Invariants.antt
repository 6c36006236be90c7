-- The loop's invariant: what is left decides as the whole does.
use mathlib.Core.Path.{◌≡◌}
use Rattle.script_records.specs.Layout.{rows_of}
use Rattle.script.proofs.RecordLaws.{matching}
use Rattle.script.proofs.record_rules.children_match.Given as goal

abbrev pub invariant-loop-sort : goal.invariant-loop-sort
invariant-loop-sort l =
    let rs = rows_of l.script.bytes.now l.script.layout in
    (l.trees.script ≡ l.script) × (matching rs l.fn.sorts l.fn.p ≡ matching rs l.sort-iterator.iter.rest.now l.trees.part)
