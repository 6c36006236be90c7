use mathlib.Core.Path.{refl}
use native.Mathlib.Omega.{arith}
use Rattle.tree.proofs.Nodes.{is_node, some_trees}
use Rattle.tree.proofs.TreesIterator.next.Goals as goal

pub returns-clause-goes : goal.returns-clause-goes
returns-clause-goes c =
    let n = (is_node _ _ _ c.args.self.now.within refl).apart in
    record { on = λ _. (tt, tt, rw c.rest.ensures.part (omega (arith, n, some_trees c.if-is_empty.ensures))); keeps = tt; rests = λ _. tt }
