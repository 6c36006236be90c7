use Rattle.std.proofs.Common.{◌≡◌}
use Rattle.action_writer.proofs.Building.{Building}
use Rattle.action_writer.proofs.list.+write_list.Given as goal

abbrev pub decreases-write_list : goal.decreases-write_list
decreases-write_list l = l.j

abbrev pub invariant-loop-e : goal.invariant-loop-e
invariant-loop-e l = record {
  same_script : l.w.script ≡ l.initial.w.script;
  same_output : l.w.output.ghost_name ≡ l.initial.w.output.ghost_name;
  building : Building l.initial.w.script.bytes.now l.initial.w.script.layout l.list l.tables.sizes l.tables.offsets l.j l.initial.w.output.now l.initial.w.at l.w.output.now l.e l.w.at l.begun;
}
