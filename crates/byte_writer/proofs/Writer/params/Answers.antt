use Rattle.std.proofs.Common.{refl, ◌∙◌, arith}
use Rattle.byte_writer.proofs.ParamLoops.{backward_start, backward_done, backward_fits, backward_room, backward_next}
use Rattle.byte_writer.proofs.Params.{size_of}
use Rattle.byte_writer.proofs.Writer.params.Goals as goal

pub loop-tree-init : goal.loop-tree-init
loop-tree-init c = rw c.into_iter-tree-iterator.ensures.into_iter_gives (record {
  same_script = refl;
  same_output = refl;
  same_file = refl;
  backward = backward_start _ _ c.args.wide c.args.params.now.within (omega (arith, c.params_size.ensures));
})

pub overflow_sub-begun : goal.overflow_sub-begun
overflow_sub-begun c =
    let i = c.loop-tree.invariant in
    let s = c.in-Some.ensures.steps in
    let w = c.args.params.now.within in
    backward_fits _ _ c.args.wide i.backward s.1 (rw (s.0, i.same_file) at c.node-root.ensures.node) (size_of _ _ w.layout w.sound.short _ c.args.wide (rw (s.0, i.same_file) at c.param_size-begun.ensures))

pub param-requires : goal.param-requires
param-requires c =
    let i = c.loop-tree.invariant in
    let s = c.in-Some.ensures.steps in
    let w = c.args.params.now.within in
    rw (i.same_script, ← c.requires.script)
    (record {
      layout = w.layout;
      short = w.sound.short;
      room = backward_room _ _ c.args.wide i.backward s.1 (rw (s.0, i.same_file) at c.node-root.ensures.node) (size_of _ _ w.layout w.sound.short _ c.args.wide (rw (s.0, i.same_file) at c.param_size-begun.ensures)) c.requires.room;
    })

pub loop-tree-preserved : goal.loop-tree-preserved
loop-tree-preserved c =
    let i = c.loop-tree.invariant in
    let s = c.in-Some.ensures.steps in
    let w = c.args.params.now.within in
    record {
      same_script = c.param.ensures.same_script ∙ i.same_script;
      same_output = c.param.ensures.same_output ∙ i.same_output;
      same_file = s.2.script ∙ i.same_file;
      backward = backward_next _ _ c.args.wide i.backward s.1 (rw (s.0, i.same_file) at c.node-root.ensures.node) (size_of _ _ w.layout w.sound.short _ c.args.wide (rw (s.0, i.same_file) at c.param_size-begun.ensures))
          (rw i.same_file at s.2.part) (rw (i.same_script, ← c.requires.script) at c.param.ensures.wrote);
    }

pub returns : goal.returns
returns c =
    let i = c.loop-tree.invariant in
    record {
      same_script = i.same_script;
      same_output = i.same_output;
      wrote = backward_done _ _ c.args.wide i.backward c.in-None.ensures.steps.0;
    }
