use Rattle.std.proofs.Common.{◌≡◌}
use Rattle.byte_writer.proofs.ParamLoops.{Backward}
use Rattle.byte_writer.proofs.Writer.params.Given as goal

abbrev pub invariant-loop-tree : goal.invariant-loop-tree
invariant-loop-tree l = record {
  same_script : l.self.script ≡ l.initial.self.script;
  same_output : l.self.output.ghost_name ≡ l.initial.self.output.ghost_name;
  same_file : l.tree-iterator.script ≡ l.params.script;
  backward : Backward l.params.script.bytes.now l.params.script.layout l.wide l.params.part l.initial.self.output.now l.initial.self.at l.end l.self.output.now l.begun l.tree-iterator.part;
}
