use Rattle.tree.proofs.Kids.{list_found}
use Rattle.tree.proofs.Trees.list.Goals as goal

pub returns-clause-list : goal.returns-clause-list
returns-clause-list c = list_found c.kid.ensures.kid (rw c.kid.ensures.script at c.children.ensures.part)
