use Prim.Native.Nat.{◌-◌}
use Rattle.rows.specs.declared.Each.TheVariants.{Element}
use Rattle.rows.specs.Rows.{loop_of}
use Rattle.rows.specs.Kept.{Kept}
use Rattle.rows.proofs.ends.from_label.Given as goal

abbrev pub invariant-loop-n : goal.invariant-loop-n
invariant-loop-n l = Kept l.row.script.bytes.now l.row.script.layout Element (loop_of l.fn.lp) (l.row.part.end - l.row.part.n) l.ends l.n (l.row.part.end - l.row.part.n) l.row.part.end
