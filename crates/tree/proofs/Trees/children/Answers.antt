use mathlib.Core.Path.{refl, ap}
use Rattle.script_records.specs.declared.layout.Row.{Row}
use borrow.Author.Tests.{true-eqb}
use Rattle.tree.proofs.ByKind.{kids_none}
use Rattle.tree.proofs.Nodes.{is_node, some_trees, size_least, children_are}
use Rattle.tree.proofs.Trees.children.Goals as goal

pub returns-then-is_empty-clause-part : goal.returns-then-is_empty-clause-part
returns-then-is_empty-clause-part c = kids_none _ _ _ (true-eqb _ 0 c.if-is_empty.ensures)

pub overflow_sub-result-2 : goal.overflow_sub-result-2
overflow_sub-result-2 c = size_least _ _ _ c.args.self.now.within (some_trees c.if-is_empty.ensures) (ap (λ (r : Row). r.size) c.row.ensures)

pub invariant_of-result : goal.invariant_of-result
invariant_of-result c =
    let e = children_are _ _ _ c.args.self.now.within (some_trees c.if-is_empty.ensures) (ap (λ (r : Row). r.size) c.row.ensures) in
    record { within = rw e (is_node _ _ _ c.args.self.now.within refl).kids_within }

pub returns-clause-part : goal.returns-clause-part
returns-clause-part c = children_are _ _ _ c.args.self.now.within (some_trees c.if-is_empty.ensures) (ap (λ (r : Row). r.size) c.row.ensures)
