use mathlib.Core.Path.{ap}
use native.Mathlib.Omega.{arith}
use Rattle.script_records.specs.declared.layout.Row.{Row}
use Rattle.script_records.specs.declared.part.Part.{Part}
use borrow.Author.Tests.{true-eqb}
use Rattle.tree.proofs.ByKind.{rest_none}
use Rattle.tree.proofs.Nodes.{some_trees, size_most, rest_is}
use Rattle.tree.proofs.Trees.start.Goals as goal

pub returns-then-is_empty : goal.returns-then-is_empty
returns-then-is_empty c = ap (λ (p : Part). p.end) (rest_none _ _ _ (true-eqb _ 0 c.if-is_empty.ensures))

pub overflow_sub-result : goal.overflow_sub-result
overflow_sub-result c =
    let w = c.args.self.now.within in
    omega (arith, w.inside, size_most _ _ _ w (some_trees c.if-is_empty.ensures) (ap (λ (r : Row). r.size) c.row.ensures))

pub returns : goal.returns
returns c = ap (λ (p : Part). p.end) (rest_is _ _ _ c.args.self.now.within (some_trees c.if-is_empty.ensures) (ap (λ (r : Row). r.size) c.row.ensures))
