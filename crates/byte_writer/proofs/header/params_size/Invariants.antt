use Rattle.std.proofs.Common.{◌≡◌}
use Rattle.byte_writer.proofs.ParamLoops.{Sized}
use Rattle.byte_writer.proofs.header.params_size.Given as goal

abbrev pub invariant-loop-tree : goal.invariant-loop-tree
invariant-loop-tree l = (l.tree-iterator.script ≡ l.params.script) × Sized l.params.script.bytes.now l.params.script.layout l.wide l.params.part l.size l.tree-iterator.part
