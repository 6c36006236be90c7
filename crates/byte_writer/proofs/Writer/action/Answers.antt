use borrow.Author.Tests.{le-ltb}
use Rattle.script_records.specs.declared.layout.ScriptFile.{ScriptFile}
use Rattle.byte_writer.specs.Data.{action_data, action_bytes}
use Rattle.byte_writer.proofs.Frames.{has_frame, frame_fits, framed_done}
use Rattle.byte_writer.proofs.Writer.action.Goals as goal

pub begin-begun-requires : goal.begin-begun-requires
unfolding action_bytes
begin-begun-requires c =
    let s = c.args.self.now.script in
    (has_frame c.args.self.now c.args.entry.code (action_data s.bytes.now s.layout c.args.list.now c.args.entry.code c.args.entry.first c.args.offset)
    (rw (le-ltb c.args.entry.code 128 c.if-entry-lt-LONG.false) at c.requires.room)).0

pub data-requires-clause-room : goal.data-requires-clause-room
unfolding action_bytes
data-requires-clause-room c =
    let s = c.args.self.now.script in
    rw c.begin-begun.ensures.room_left
    (has_frame c.args.self.now c.args.entry.code (action_data s.bytes.now s.layout c.args.list.now c.args.entry.code c.args.entry.first c.args.offset)
    (rw (le-ltb c.args.entry.code 128 c.if-entry-lt-LONG.false) at c.requires.room)).1

pub frame-requires : goal.frame-requires
unfolding action_bytes
frame-requires c =
    let f = frame_fits c.args.self.now c.begin-begun.ensures.room_left (λ (s : ScriptFile). action_data s.bytes.now s.layout c.args.list.now c.args.entry.code c.args.entry.first c.args.offset)
    c.data.ensures c.args.entry.code (rw (le-ltb c.args.entry.code 128 c.if-entry-lt-LONG.false) at c.requires.room) c.requires.short in
    rw c.begin-begun.ensures.begun (record { begun_bound = f.0; in_bounds = f.1.0; data_bound = f.1.1 })

pub returns-else-entry-lt-LONG : goal.returns-else-entry-lt-LONG
unfolding action_bytes
returns-else-entry-lt-LONG c =
    rw (le-ltb c.args.entry.code 128 c.if-entry-lt-LONG.false)
    (framed_done c.args.self.now c.begin-begun.ensures.room_left (λ (s : ScriptFile). action_data s.bytes.now s.layout c.args.list.now c.args.entry.code c.args.entry.first c.args.offset)
    c.data.ensures c.args.entry.code (rw c.begin-begun.ensures.begun at c.frame.ensures))
