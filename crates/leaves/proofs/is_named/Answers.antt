use mathlib.Core.Path.{◌≡◌, ap, ◌∙◌}
use Rattle.tree.specs.Trees.{node_of}
use Rattle.tree.specs.Handle.{parts_of}
use Rattle.operators.specs.Shapes.{shape_in}
use Rattle.operators.proofs.Shapes.{shape_is}
use Rattle.leaves.proofs.Records.{not_expr, by_shape, named_is, unnamed_is}
use Rattle.leaves.proofs.is_named.Goals as goal

pub returns-then-not-is_expr : goal.returns-then-not-is_expr
returns-then-not-is_expr c = not_expr _ _ _ c.args.t.now.within c.node-node.ensures.node _ c.if-not-is_expr.true c.is_expr.ensures

pub returns-in-NamedFunction : goal.returns-in-NamedFunction
returns-in-NamedFunction c =
    let F = c.args.t.now.script.bytes.now in
    let n = c.node-node.result.children in
    let k : parts_of c.node-inner.result ≡ node_of n.script.bytes.now n.script.layout n.part = c.node-inner.ensures.node in
    named_is F _ c.in-NamedFunction.is
    ∙ by_shape _ _ _ c.args.t.now.within c.node-node.ensures.node _ _ c.if-not-is_expr.false c.is_expr.ensures (rw c.node-node.ensures.children at k)
    (ap (shape_in F) c.from.ensures ∙ shape_is F c.node-inner.result.root)

pub returns-in_default : goal.returns-in_default
returns-in_default c =
    let F = c.args.t.now.script.bytes.now in
    let n = c.node-node.result.children in
    let k : parts_of c.node-inner.result ≡ node_of n.script.bytes.now n.script.layout n.part = c.node-inner.ensures.node in
    unnamed_is F _ c.in_default.not-NamedFunction
    ∙ by_shape _ _ _ c.args.t.now.within c.node-node.ensures.node _ _ c.if-not-is_expr.false c.is_expr.ensures (rw c.node-node.ensures.children at k)
    (ap (shape_in F) c.from.ensures ∙ shape_is F c.node-inner.result.root)
