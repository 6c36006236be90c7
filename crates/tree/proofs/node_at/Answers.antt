use Rattle.tree.proofs.Nodes.{node_none, node_made}
use Rattle.tree.proofs.node_at.Goals as goal

pub returns-then-p-eq0 : goal.returns-then-p-eq0
returns-then-p-eq0 c = node_none _ _ _ c.if-p-eq0.true

pub returns : goal.returns
returns c = node_made _ _ _ c.if-p-eq0.false c.last_tree-t.ensures c.record_of-root.ensures
