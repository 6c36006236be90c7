use mathlib.Core.Path.{◌∙◌}
use native.Mathlib.Omega.{arith}
use Rattle.tree.proofs.Counting.{each_once}
use Rattle.tree.proofs.Trees.width.Goals as goal

pub overflow_cast-result : goal.overflow_cast-result
overflow_cast-result c = let w = c.args.self.now.within in omega (arith, c.count.ensures.bound, w.inside, w.known, w.sound.few)

pub returns : goal.returns
returns c = let r = c.count.ensures.ran in r.2 ∙ each_once c.args.self.now r.0 r.1
