use native.Mathlib.Omega.{arith}
use Rattle.tree.proofs.Nodes.{row_known}
use Rattle.rows.proofs.Kept.{kept_row, kept_some, kept_pop}
use Rattle.rows.proofs.ends.from_label.Goals as goal

pub overflow_sub-ends : goal.overflow_sub-ends
overflow_sub-ends c = omega (arith, kept_some _ _ _ _ _ _ _ _ (λ e. omega arith) c.loop-n.invariant)

pub known_row-requires : goal.known_row-requires
known_row-requires c =
    let z = kept_some _ _ _ _ _ _ _ _ (λ e. omega arith) c.loop-n.invariant in
    row_known _ _ _ (kept_row _ _ _ _ _ _ _ _ (λ e. omega arith) c.loop-n.invariant) _ (omega arith)

pub loop-n-preserved : goal.loop-n-preserved
loop-n-preserved c = kept_pop _ _ _ _ _ _ _ (λ e. omega arith) c.loop-n.invariant (rw c.known_row.ensures at c.if-known_row.false)
