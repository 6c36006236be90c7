use mathlib.Core.Path.{◌≡◌, ◌∙◌}
use Rattle.lowering.specs.Meaning.{hoisted}
use Rattle.tree.specs.Within.{kid_at, list_at}
use Rattle.leaves.proofs.Hoisting.{looked_all, looked_found, looked_more}
use Rattle.leaves.proofs.has_hoisted.Goals as goal

pub returns-then-is_hoisted : goal.returns-then-is_hoisted
returns-then-is_hoisted c =
    let i = c.loop-tree.invariant in
    let s = c.in-Some.ensures.steps in
    let t = c.in-Some.tree in
    let h : c.is_hoisted.result ≡ hoisted (kid_at t.script.bytes.now t.part 0).rec (list_at t.script.bytes.now t.part 0) = c.is_hoisted.ensures in
    looked_found _ _ i.1 (rw i.0 at c.loop-tree.tree-iterator.within) s.1 (rw (s.0, i.0) at h) c.if-is_hoisted.true

pub loop-tree-preserved : goal.loop-tree-preserved
loop-tree-preserved c =
    let i = c.loop-tree.invariant in
    let s = c.in-Some.ensures.steps in
    let t = c.in-Some.tree in
    let h : c.is_hoisted.result ≡ hoisted (kid_at t.script.bytes.now t.part 0).rec (list_at t.script.bytes.now t.part 0) = c.is_hoisted.ensures in
    (s.2.script ∙ i.0, looked_more _ _ i.1 (rw i.0 at c.loop-tree.tree-iterator.within) s.1 (rw (s.0, i.0) at h) c.if-is_hoisted.false (rw i.0 at s.2.part))

pub returns : goal.returns
returns c = looked_all _ _ c.loop-tree.invariant.1 c.in-None.ensures.steps.0
