use Rattle.std.proofs.Common.{◌≡◌}
use Rattle.resolver.proofs.Texts.{ParamsInv}
use Rattle.resolver.proofs.text.params_text.Given as goal

abbrev pub invariant-loop-tree : goal.invariant-loop-tree
invariant-loop-tree l = (l.tree-iterator.script ≡ l.params.script) × ParamsInv l.params.script.bytes.now l.params.script.layout l.params.part l.tree-iterator.part l.t
