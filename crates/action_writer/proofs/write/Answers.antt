use Rattle.lowering.specs.Builder.{limits01}
use Rattle.zeros.proofs.Clearing.{cleared}
use Rattle.definition.specs.Compile.{lists_of, if_lowered}
use Rattle.resolver.specs.Lowered.{Lowered}
use Rattle.action_writer.proofs.Answers.{refused_leaves, resolved-is, is-measured, top-leaves}
use Rattle.action_writer.proofs.Ready.{writable}
use Rattle.action_writer.proofs.Top.{cleared_leaves}
use Rattle.action_writer.proofs.write.Goals as goal

pub returns-in_err-resolve : goal.returns-in_err-resolve
returns-in_err-resolve c =
    let l = c.new-lists.result in
    let h : Lowered l.script.bytes.now l.list.now = rw (c.new-lists.ensures.script.0, c.new-lists.ensures.list) c.requires in
    cleared_leaves (if_lowered (lists_of limits01 c.args.file.now)) c.args.output.now c.clear_bytes.ensures
    (rw (← c.new-lists.ensures.script.0) (refused_leaves h (c.resolve.ensures h) c.in_err-resolve.was _ c.from_residual.ensures.1 c.clear_bytes.new.bytes (cleared c.args.output.now c.clear_bytes.ensures)))

pub write_top-requires-clause-writable : goal.write_top-requires-clause-writable
write_top-requires-clause-writable c =
    let l = c.new-lists.result in
    let h : Lowered l.script.bytes.now l.list.now = rw (c.new-lists.ensures.script.0, c.new-lists.ensures.list) c.requires in
    writable h l.bytes (resolved-is h (c.resolve.ensures h) c.in_ok-resolve.was) l.script.layout l.ready.layout

pub write_top-requires-clause-measured : goal.write_top-requires-clause-measured
write_top-requires-clause-measured c =
    let l = c.new-lists.result in
    let h : Lowered l.script.bytes.now l.list.now = rw (c.new-lists.ensures.script.0, c.new-lists.ensures.list) c.requires in
    is-measured h l.bytes (resolved-is h (c.resolve.ensures h) c.in_ok-resolve.was)

pub returns : goal.returns
returns c =
    let l = c.new-lists.result in
    let h : Lowered l.script.bytes.now l.list.now = rw (c.new-lists.ensures.script.0, c.new-lists.ensures.list) c.requires in
    cleared_leaves (if_lowered (lists_of limits01 c.args.file.now)) c.args.output.now c.clear_bytes.ensures
    (rw (← c.new-lists.ensures.script.0) (top-leaves h l.bytes (resolved-is h (c.resolve.ensures h) c.in_ok-resolve.was) c.write_top.ensures))
