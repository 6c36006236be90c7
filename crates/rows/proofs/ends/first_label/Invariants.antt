use Prim.Native.Nat.{◌-◌}
use Rattle.rows.specs.Kept.{Unlabelled}
use Rattle.rows.proofs.ends.first_label.Given as goal

abbrev pub invariant-loop-i : goal.invariant-loop-i
invariant-loop-i l = Unlabelled l.row.script.bytes.now l.row.script.layout (l.row.part.end - l.row.part.n) l.i
