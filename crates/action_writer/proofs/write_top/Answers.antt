use Rattle.std.proofs.Common.{rules}
use Rattle.action_writer.proofs.Top.{top_refused, top_done}
use Rattle.action_writer.proofs.write_top.Goals as goal

pub returns-then-output-size : goal.returns-then-output-size
returns-then-output-size c = top_refused c.args.lists.now.script.bytes.now c.args.lists.now.list.now c.args.tables.now.sizes c.requires.measured c.args.output.now c.requires.output_value c.if-output-size.true

pub returns : goal.returns
returns c =
    top_done c.args.lists.now.script.bytes.now c.args.lists.now.list.now c.args.tables.now.sizes c.requires.measured c.args.output.now c.requires.output_value c.if-output-size.false
    (rw c.args.lists.now.counted at c.write_list.ensures.wrote) c.byte.ensures.wrote (search rules)
