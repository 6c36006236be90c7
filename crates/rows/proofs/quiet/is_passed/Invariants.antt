use Prim.Native.Nat.{◌-◌, ◌≤◌}
use mathlib.Core.Path.{◌≡◌}
use Rattle.script_records.specs.Layout.{rows_of}
use Rattle.std.specs.Option.{is_none}
use Rattle.rows.specs.Passed.{passed}
use Rattle.rows.proofs.quiet.is_passed.Given as goal

abbrev pub invariant-loop : goal.invariant-loop
invariant-loop l =
    let rs = rows_of l.tree.script.bytes.now l.tree.script.layout in
    (l.e ≤ l.tree.part.end) × (passed l.steps rs l.start l.tree.part.end (is_none l.lp.exit) (is_none l.lp.next) ≡ passed (l.steps - l.counter) rs l.start l.e (is_none l.lp.exit) (is_none l.lp.next))
