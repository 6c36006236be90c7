use mathlib.Core.Path.{◌∙◌}
use Rattle.tree.proofs.Counting.{counted_done, counted_next}
use Rattle.tree.proofs.Trees.counts.Goals as goal

pub loop-tree-preserved : goal.loop-tree-preserved
loop-tree-preserved c =
    let i = c.loop-tree.invariant in
    let s = c.in-Some.ensures.steps in (
      s.2.script ∙ i.0,
      counted_next _ _ _ i.1 s.1 (rw i.0 at c.loop-tree.tree-iterator.within) (rw i.0 at s.2.part) (rw (s.0, i.0) at c.element.ensures) c.with_tree-found.ensures,
    )

pub returns : goal.returns
returns c = counted_done _ _ _ c.loop-tree.invariant.1 c.in-None.ensures.steps.0
