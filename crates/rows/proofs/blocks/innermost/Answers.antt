use mathlib.Core.Path.{◌≡◌, ◌∙◌}
use Rattle.tree.specs.Trees.{node_of, kind_at}
use Rattle.rows.proofs.Innermost.{inner_less, inner_again}
use Rattle.rows.proofs.blocks.innermost.Goals as goal

pub loop-block-smaller : goal.loop-block-smaller
loop-block-smaller c =
    let i = c.loop-block.invariant in
    let o = c.in-Some.ensures in
    let b = c.in-Some.block in
    let four : kind_at b.script.bytes.now b.script.layout b.part ≡ 4 = o.1 in
    let kids : c.children.result.part ≡ (node_of b.script.bytes.now b.script.layout b.part).children = c.children.ensures.part in
    let s = o.0.script ∙ i.script in
    let k = c.children.ensures.script ∙ s in
    inner_less i o.0 (rw s at four) (rw s at kids) (rw k at c.list-inner.ensures.list)

pub loop-block-preserved : goal.loop-block-preserved
loop-block-preserved c =
    let i = c.loop-block.invariant in
    let o = c.in-Some.ensures in
    let b = c.in-Some.block in
    let four : kind_at b.script.bytes.now b.script.layout b.part ≡ 4 = o.1 in
    let kids : c.children.result.part ≡ (node_of b.script.bytes.now b.script.layout b.part).children = c.children.ensures.part in
    let s = o.0.script ∙ i.script in
    let k = c.children.ensures.script ∙ s in
    record {
      script = c.list-inner.ensures.script ∙ k;
      come = inner_again i o.0 (rw s at four) (rw s at kids) (rw k at c.list-inner.ensures.list);
    }
