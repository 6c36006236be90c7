use native.Mathlib.Omega.{arith}
use Rattle.builder.proofs.Leaves.{marks_le}
use Rattle.builder.proofs.entries.grow.Goals as goal

pub overflow_add-state-3 : goal.overflow_add-state-3
overflow_add-state-3 c = omega (arith, marks_le c.requires.fine, c.requires.fine.labels)
