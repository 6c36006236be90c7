use Rattle.std.proofs.Common.{◌≡◌, ap}
use Rattle.script_records.specs.declared.layout.ScriptFile.{ScriptFile}
use Rattle.list_slice.specs.File.{params_of}
use Rattle.tree.specs.Handle.{trees_of}
use Rattle.action_format.specs.Bytes.{Bytes}
use Rattle.byte_writer.specs.Header.{header_code, is_wide, function_in, header_data, function_data, function_bytes}
use Rattle.byte_writer.proofs.Frames.{has_frame, frame_fits, framed_done}
use Rattle.byte_writer.proofs.Functions.{function_is, data_is}
use Rattle.byte_writer.proofs.Writer.header.Goals as goal

pub begin-begun-requires : goal.begin-begun-requires
unfolding function_bytes
begin-begun-requires c =
    let s = c.args.self.now.script in
    (has_frame c.args.self.now (header_code (is_wide (function_in s.bytes.now c.args.k))) (function_data s.bytes.now s.layout c.args.k c.args.size) c.requires.room).0

pub header_data-requires : goal.header_data-requires
unfolding function_bytes
header_data-requires c =
    let s = c.args.self.now.script in
    let e : header_data s.bytes.now s.layout c.from-f.result (params_of (trees_of c.list.result)) c.args.size ≡ function_data s.bytes.now s.layout c.args.k c.args.size =
    data_is s.bytes.now s.layout c.args.k c.args.size c.requires.function c.row_at-row.ensures c.list.ensures.list c.from-f.ensures c.list.result.script (ap (λ (x : ScriptFile). x.bytes.now) c.list.ensures.script) in
    rw c.begin-begun.ensures.room_left (record {
      script = c.list.ensures.script;
      short = rw e c.requires.short;
      room = rw e (has_frame c.args.self.now (header_code (is_wide (function_in s.bytes.now c.args.k))) (function_data s.bytes.now s.layout c.args.k c.args.size) c.requires.room).1;
    })

pub frame-requires : goal.frame-requires
unfolding function_bytes
frame-requires c =
    let s = c.args.self.now.script in
    let e : header_data s.bytes.now s.layout c.from-f.result (params_of (trees_of c.list.result)) c.args.size ≡ function_data s.bytes.now s.layout c.args.k c.args.size =
    data_is s.bytes.now s.layout c.args.k c.args.size c.requires.function c.row_at-row.ensures c.list.ensures.list c.from-f.ensures c.list.result.script (ap (λ (x : ScriptFile). x.bytes.now) c.list.ensures.script) in
    let d : ScriptFile → Bytes = λ x. header_data x.bytes.now x.layout c.from-f.result (params_of (trees_of c.list.result)) c.args.size in
    let f = frame_fits c.args.self.now c.begin-begun.ensures.room_left d c.header_data.ensures (header_code (is_wide (function_in s.bytes.now c.args.k))) (rw e c.requires.room) (rw e c.requires.short) in
    rw c.begin-begun.ensures.begun (record { begun_bound = f.0; in_bounds = f.1.0; data_bound = f.1.1 })

pub returns : goal.returns
unfolding function_bytes
returns c =
    let s = c.args.self.now.script in
    let e : header_data s.bytes.now s.layout c.from-f.result (params_of (trees_of c.list.result)) c.args.size ≡ function_data s.bytes.now s.layout c.args.k c.args.size =
    data_is s.bytes.now s.layout c.args.k c.args.size c.requires.function c.row_at-row.ensures c.list.ensures.list c.from-f.ensures c.list.result.script (ap (λ (x : ScriptFile). x.bytes.now) c.list.ensures.script) in
    let q : c.from-f.result ≡ function_in s.bytes.now c.args.k =
    function_is s.bytes.now s.layout c.args.k c.args.size c.requires.function c.row_at-row.ensures c.list.ensures.list c.from-f.ensures in
    let d : ScriptFile → Bytes = λ x. header_data x.bytes.now x.layout c.from-f.result (params_of (trees_of c.list.result)) c.args.size in
    rw (← e, ← q) (framed_done c.args.self.now c.begin-begun.ensures.room_left d c.header_data.ensures (header_code (is_wide c.from-f.result)) (rw (c.begin-begun.ensures.begun, c.header_code.ensures) at c.frame.ensures))
