use mathlib.Core.Bool.{not}
use mathlib.Core.Path.{refl, ap, ◌∙◌}
use native.Mathlib.Omega.{arith}
use Rattle.tree.specs.declared.Trees.{Trees}
use Rattle.builder.proofs.Ended.{one_most}
use Rattle.rows.proofs.Kept.{going_start, going_on, noted_start, noted_more, noted_down}
use Rattle.rows.proofs.ends.ends_but.Goals as goal

pub loop-tree-init : goal.loop-tree-init
loop-tree-init g c = rw c.into_iter-tree-iterator.ensures.into_iter_gives (record { script = refl; going = going_start c.args.row.now.within; noted = λ out h. noted_start })

pub loop-tree-preserved : goal.loop-tree-preserved
loop-tree-preserved g c =
    let i = c.loop-tree.invariant in
    let s = c.in-Some.ensures.steps in
    let e = rw i.script at s.2.part in
    record {
      script = s.2.script ∙ i.script;
      going = going_on i.going s.1 e (rw c.from-top.ensures (one_most (not c.is_out.result)));
      noted = λ out h.
          let k = h c.in-Some.tree c.is_out.result (ap (λ (t : Trees). t.script) s.0 ∙ i.script) c.is_out.ensures ∙ ap (λ (t : Trees). out t.part) s.0 in
          rw s.0
          (noted_more i.going s.1 e (i.noted out h) (omega (arith, i.going.less, s.1, c.requires.n_in_bounds, c.loop-tree.auto.scratch)) k c.from-top.ensures);
    }

pub returns-then-tree-stop-clause-kept : goal.returns-then-tree-stop-clause-kept
returns-then-tree-stop-clause-kept g c out h = let i = c.loop-tree.invariant in noted_down i.going (i.noted out h) (rw c.in-Some.ensures.steps.0 at c.if-tree-stop.true)

pub returns-clause-kept : goal.returns-clause-kept
returns-clause-kept g c out h =
    let i = c.loop-tree.invariant in
    noted_down i.going (i.noted out h) (omega (arith, i.going.end, c.in-None.ensures.steps.0, c.requires.n_bound))
