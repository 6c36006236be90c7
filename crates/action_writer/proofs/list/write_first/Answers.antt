use Rattle.std.proofs.Common.{◌%◌, arith}
use Rattle.byte_writer.specs.Data.{value_data}
use Rattle.byte_writer.proofs.Frames.{framed_length}
use Rattle.action_writer.proofs.Building.{first_joins}
use Rattle.action_writer.proofs.list.write_first.Goals as goal

pub begin-begun-requires : goal.begin-begun-requires
begin-begun-requires c = omega (arith, c.requires.room, framed_length 150 (value_data c.args.w.now.script.bytes.now c.args.w.now.script.layout (c.args.entry.code % 16) c.args.entry.first c.args.entry.second))

pub write_later-requires : goal.write_later-requires
write_later-requires c =
    let f = framed_length 150 (value_data c.args.w.now.script.bytes.now c.args.w.now.script.layout (c.args.entry.code % 16) c.args.entry.first c.args.entry.second) in
    rw (c.begin-begun.ensures.room_left, c.begin-begun.ensures.begun)
    (record { room = omega (arith, c.requires.room, f); begun_bound = omega arith; short = omega (arith, c.requires.short) })

pub returns : goal.returns
returns c = first_joins c.args.w.now _ (rw (c.begin-begun.ensures.room_left, c.begin-begun.ensures.begun) at c.write_later.ensures)
