-- `count_siblings` meets its contract.
use mathlib.Core.Path.{◌∙◌}
use native.Mathlib.Omega.{arith}
use Rattle.script_records.proofs.Trees.{tree_less}
use Rattle.script.proofs.RecordLaws.{passed_one, siblings_broken, siblings_counted, parted_not}
use Rattle.script.proofs.record_rules.count_siblings.Goals as goal

pub overflow_add-tree : goal.overflow_add-tree
overflow_add-tree c =
    let i = c.loop-tree.invariant in
    let s = c.in-Some.ensures.steps in
    omega (arith, i.1.few, (tree_less _ _ (rw i.0 at s.last) s.some).0)

pub returns-then-tree : goal.returns-then-tree
returns-then-tree c =
    let i = c.loop-tree.invariant in
    let s = c.in-Some.ensures.steps in
    siblings_broken _ _ _ _ i.1 (parted_not _ _ (rw i.0 at s.last) s.some c.if-tree.true)

pub loop-tree-preserved : goal.loop-tree-preserved
loop-tree-preserved c =
    let i = c.loop-tree.invariant in
    let s = c.in-Some.ensures.steps in
    (s.script ∙ i.0, rw s.part (passed_one _ _ _ _ i.1 (rw i.0 at s.last) s.some c.if-tree.false))

pub returns : goal.returns
returns c = siblings_counted _ _ _ _ c.loop-tree.invariant.1 c.in-None.ensures.steps.0
