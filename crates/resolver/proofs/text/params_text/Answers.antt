use Rattle.std.proofs.Common.{refl, ◌∙◌}
use Rattle.resolver.proofs.Texts.{params_start, params_again, params_done}
use Rattle.resolver.proofs.text.params_text.Goals as goal

pub loop-tree-init : goal.loop-tree-init
loop-tree-init c = rw c.into_iter-tree-iterator.ensures.into_iter_gives (refl, params_start c.args.params.now.within refl)

pub loop-tree-preserved : goal.loop-tree-preserved
loop-tree-preserved c =
    let i = c.loop-tree.invariant in
    let s = c.in-Some.ensures.steps in (
      s.2.script ∙ i.0,
      params_again i.1 (rw (s.0, i.0) at c.node.ensures.node) s.1 (rw i.0 at s.2.part)
          (rw (s.0, i.0, c.from-param.ensures) at (c.text.ensures.in_file c.in-Some.tree.within.layout)) c.with-t.ensures,
    )

pub returns-clause-value : goal.returns-clause-value
returns-clause-value c = params_done c.loop-tree.invariant.1 c.in-None.ensures.steps.0
