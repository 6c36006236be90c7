use mathlib.Core.Path.{refl}
use native.Mathlib.Omega.{arith}
use Rattle.tree.proofs.Nodes.{is_node, size_most, rest_is}
use Rattle.tree.proofs.Trees.without.Goals as goal

pub overflow_sub-result : goal.overflow_sub-result
overflow_sub-result c = omega (arith, size_most _ _ _ c.args.self.now.within c.requires.0 c.requires.1)

pub overflow_sub-result-2 : goal.overflow_sub-result-2
overflow_sub-result-2 c = size_most _ _ _ c.args.self.now.within c.requires.0 c.requires.1

pub invariant_of-result : goal.invariant_of-result
invariant_of-result c = record { within = rw (rest_is _ _ _ c.args.self.now.within c.requires.0 c.requires.1) (is_node _ _ _ c.args.self.now.within refl).rest_within }

pub returns : goal.returns
returns c = record { script = refl; part = rest_is _ _ _ c.args.self.now.within c.requires.0 c.requires.1 }
