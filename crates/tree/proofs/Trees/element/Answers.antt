use Rattle.tree.proofs.ByKind.{no_label}
use Rattle.tree.proofs.Trees.element.Goals as goal

pub returns-then-kind : goal.returns-then-kind
returns-then-kind c = no_label _ _ _ (rw c.kind.ensures at c.if-kind.true)
