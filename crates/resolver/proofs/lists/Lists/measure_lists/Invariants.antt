use Rattle.resolver.proofs.Passing.{PassInv}
use Rattle.resolver.proofs.lists.Lists.measure_lists.Given as goal

abbrev pub invariant-loop-j : goal.invariant-loop-j
invariant-loop-j l = PassInv l.self.script.bytes.now l.self.list.now l.j l.near l.tables.sizes l.tables.offsets
