use mathlib.Core.Path.{sym, ◌∙◌}
use Rattle.script.proofs.RecordLaws.{all_done, all_not, all_next}
use Rattle.script.proofs.record_rules.all_of.Goals as goal

pub returns-then-not-has : goal.returns-then-not-has
returns-then-not-has c =
    let i = c.loop-tree.invariant in
    let s = c.in-Some.ensures.steps in
    sym (i.1 ∙ all_not _ _ (rw i.0 at s.last) s.some _ c.has.ensures c.if-not-has.true)

pub loop-tree-preserved : goal.loop-tree-preserved
loop-tree-preserved c =
    let i = c.loop-tree.invariant in
    let s = c.in-Some.ensures.steps in
    (s.script ∙ i.0, rw s.part (i.1 ∙ all_next _ _ (rw i.0 at s.last) s.some _ c.has.ensures c.if-not-has.false))

pub returns : goal.returns
returns c = let i = c.loop-tree.invariant in sym (i.1 ∙ all_done _ _ _ c.in-None.ensures.steps.0)
