use Rattle.std.proofs.Common.{◌∙◌, arith}
use Rattle.byte_writer.proofs.ParamLoops.{sized_done, sized_fits, sized_next}
use Rattle.byte_writer.proofs.Params.{size_of}
use Rattle.byte_writer.proofs.header.params_size.Goals as goal

pub overflow_add-size : goal.overflow_add-size
overflow_add-size c =
    let i = c.loop-tree.invariant in
    let s = c.in-Some.ensures.steps in
    let w = c.args.params.now.within in
    omega (arith, sized_fits _ _ c.args.wide i.1 s.1 (rw (s.0, i.0) at c.node.ensures.node) (size_of _ _ w.layout w.sound.short _ c.args.wide (rw (s.0, i.0) at c.param_size-size.ensures)), c.requires)

pub loop-tree-preserved : goal.loop-tree-preserved
loop-tree-preserved c =
    let i = c.loop-tree.invariant in
    let s = c.in-Some.ensures.steps in
    let w = c.args.params.now.within in
    (s.2.script ∙ i.0, sized_next _ _ c.args.wide i.1 s.1 (rw (s.0, i.0) at c.node.ensures.node) (size_of _ _ w.layout w.sound.short _ c.args.wide (rw (s.0, i.0) at c.param_size-size.ensures)) (rw i.0 at s.2.part))

pub returns : goal.returns
returns c = sized_done _ _ c.args.wide c.loop-tree.invariant.1 c.in-None.ensures.steps.0
