use mathlib.Core.Path.{◌≡◌}
use Rattle.tree.proofs.Kids.{KidInv}
use Rattle.tree.proofs.Trees.kid.Given as goal

abbrev pub invariant-loop : goal.invariant-loop
invariant-loop l = (l.left.script ≡ l.self.script) × KidInv l.self.script.bytes.now l.self.script.layout l.self.part l.n l.left.part l.counter
