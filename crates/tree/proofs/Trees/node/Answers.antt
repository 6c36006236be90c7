use Rattle.tree.proofs.Nodes.{is_node}
use Rattle.tree.proofs.Trees.node.Goals as goal

pub invariant_of-result : goal.invariant_of-result
invariant_of-result c = record { within = (is_node _ _ _ c.args.self.now.within c.node_at-node.ensures).kids_within }

pub invariant_of-result-2 : goal.invariant_of-result-2
invariant_of-result-2 c = record { within = (is_node _ _ _ c.args.self.now.within c.node_at-node.ensures).rest_within }
