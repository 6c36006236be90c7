use Rattle.std.proofs.Common.{refl, ◌∙◌, arith}
use Rattle.action_writer.proofs.Building.{building_start, defines, header_room, body_room, function_next, action_room, action_next, first_next, later_fits, later_next}
use Rattle.action_writer.proofs.list.+write_list.Goals as goal

pub loop-e-init : goal.loop-e-init
loop-e-init t c = record { same_script = refl; same_output = refl; building = rw c.list_end-e.ensures (building_start (c.requires.writable.list _ c.requires.j_bound) c.args.w.now.output.now c.args.w.now.at) }

pub header-requires-clause-room : goal.header-requires-clause-room
header-requires-clause-room t c = rw (c.loop-e.invariant.same_script, c.entry_at-entry.ensures) (header_room (c.requires.writable.list _ c.requires.j_bound) c.args.w.now.output.now c.args.w.now.at c.requires.room c.loop-e.invariant.building (rw c.list_start-e-start.ensures at c.loop-e-test.true) (rw c.entry_at-entry.ensures at c.if-entry-eq-FUNCTION.true))

pub write_list-requires : goal.write_list-requires
write_list-requires t c =
    let d = defines (c.requires.writable.list _ c.requires.j_bound) c.args.w.now.output.now c.args.w.now.at c.requires.room c.loop-e.invariant.building (rw c.list_start-e-start.ensures at c.loop-e-test.true) (rw c.entry_at-entry.ensures at c.if-entry-eq-FUNCTION.true) in
    rw (c.header.ensures.same_script ∙ c.loop-e.invariant.same_script, c.entry_at-entry.ensures) (
      omega (arith, d.earlier, d.numbered, c.decreases),
      (c.requires.writable, (omega (arith, d.earlier, d.numbered, c.requires.j_bound), body_room (c.requires.writable.list _ c.requires.j_bound) c.args.w.now.output.now c.args.w.now.at c.requires.room c.loop-e.invariant.building (rw c.list_start-e-start.ensures at c.loop-e-test.true) (rw c.entry_at-entry.ensures at c.if-entry-eq-FUNCTION.true) (rw (c.loop-e.invariant.same_script, c.entry_at-entry.ensures) at c.header.ensures.wrote))),
    )

pub loop-e-preserved-then-entry-eq-FUNCTION : goal.loop-e-preserved-then-entry-eq-FUNCTION
loop-e-preserved-then-entry-eq-FUNCTION t c = record {
  same_script = c.write_list.ensures.same_script ∙ (c.header.ensures.same_script ∙ c.loop-e.invariant.same_script);
  same_output = c.write_list.ensures.same_output ∙ (c.header.ensures.same_output ∙ c.loop-e.invariant.same_output);
  building = function_next (c.requires.writable.list _ c.requires.j_bound) c.args.w.now.output.now c.args.w.now.at c.requires.room c.loop-e.invariant.building (rw c.list_start-e-start.ensures at c.loop-e-test.true) (rw c.entry_at-entry.ensures at c.if-entry-eq-FUNCTION.true) (rw (c.loop-e.invariant.same_script, c.entry_at-entry.ensures) at c.header.ensures.wrote) (rw (c.header.ensures.same_script ∙ c.loop-e.invariant.same_script, c.entry_at-entry.ensures) at c.write_list.ensures.wrote);
}

pub action-requires-clause-room : goal.action-requires-clause-room
action-requires-clause-room t c = rw (c.loop-e.invariant.same_script, c.entry_at-entry.ensures) (action_room (c.requires.writable.list _ c.requires.j_bound) c.args.w.now.output.now c.args.w.now.at c.requires.room c.loop-e.invariant.building (rw c.list_start-e-start.ensures at c.loop-e-test.true) (rw c.entry_at-entry.ensures at c.if-entry-eq-MARK.false) (rw c.entry_at-entry.ensures at c.if-entry-eq-FUNCTION.false) (rw c.entry_at-entry.ensures at c.if-entry-lt-FIRST_VALUE.true))

pub loop-e-preserved-then-entry-lt-FIRST_VALUE : goal.loop-e-preserved-then-entry-lt-FIRST_VALUE
loop-e-preserved-then-entry-lt-FIRST_VALUE t c = record {
  same_script = c.action.ensures.same_script ∙ c.loop-e.invariant.same_script;
  same_output = c.action.ensures.same_output ∙ c.loop-e.invariant.same_output;
  building = action_next (c.requires.writable.list _ c.requires.j_bound) c.args.w.now.output.now c.args.w.now.at c.requires.room c.loop-e.invariant.building (rw c.list_start-e-start.ensures at c.loop-e-test.true) (rw c.entry_at-entry.ensures at c.if-entry-eq-MARK.false) (rw c.entry_at-entry.ensures at c.if-entry-eq-FUNCTION.false) (rw c.entry_at-entry.ensures at c.if-entry-lt-FIRST_VALUE.true) (rw (c.loop-e.invariant.same_script, c.entry_at-entry.ensures) at c.action.ensures.wrote);
}

pub loop-e-preserved-then-entry-lt-LATER_VALUE : goal.loop-e-preserved-then-entry-lt-LATER_VALUE
loop-e-preserved-then-entry-lt-LATER_VALUE t c = record {
  same_script = c.write_first.ensures.same_script ∙ c.loop-e.invariant.same_script;
  same_output = c.write_first.ensures.same_output ∙ c.loop-e.invariant.same_output;
  building = first_next (c.requires.writable.list _ c.requires.j_bound) c.args.w.now.output.now c.args.w.now.at c.requires.room c.loop-e.invariant.building (rw c.list_start-e-start.ensures at c.loop-e-test.true) (rw c.entry_at-entry.ensures at c.if-entry-lt-FIRST_VALUE.false) (rw c.entry_at-entry.ensures at c.if-entry-lt-LATER_VALUE.true) (rw (c.loop-e.invariant.same_script, c.entry_at-entry.ensures) at c.write_first.ensures.wrote);
}

pub write_later-requires : goal.write_later-requires
write_later-requires t c =
    let f = later_fits (c.requires.writable.list _ c.requires.j_bound) c.args.w.now.output.now c.args.w.now.at c.requires.room c.loop-e.invariant.building (rw c.list_start-e-start.ensures at c.loop-e-test.true) (rw c.entry_at-entry.ensures at c.if-entry-lt-LATER_VALUE.false) in
    rw (c.loop-e.invariant.same_script, c.entry_at-entry.ensures) (record { room = f.0; begun_bound = f.1.0; short = f.1.1 })

pub loop-e-preserved : goal.loop-e-preserved
loop-e-preserved t c = record {
  same_script = c.write_later.ensures.same_script ∙ c.loop-e.invariant.same_script;
  same_output = c.write_later.ensures.same_output ∙ c.loop-e.invariant.same_output;
  building = later_next (c.requires.writable.list _ c.requires.j_bound) c.args.w.now.output.now c.args.w.now.at c.requires.room c.loop-e.invariant.building (rw c.list_start-e-start.ensures at c.loop-e-test.true) (rw c.entry_at-entry.ensures at c.if-entry-lt-LATER_VALUE.false) (rw (c.loop-e.invariant.same_script, c.entry_at-entry.ensures) at c.write_later.ensures.joined);
}
