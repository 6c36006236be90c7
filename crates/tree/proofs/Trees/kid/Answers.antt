use mathlib.Core.Path.{◌∙◌}
use native.Mathlib.Omega.{arith}
use Rattle.tree.proofs.Kids.{kid_on}
use Rattle.tree.proofs.Trees.kid.Goals as goal

pub loop-preserved : goal.loop-preserved
loop-preserved c = (c.rest-left.ensures.script ∙ c.loop.invariant.0, kid_on c.loop.invariant.1 (omega arith) (rw c.loop.invariant.0 at c.rest-left.ensures.part))
