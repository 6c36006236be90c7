use Rattle.resolver.specs.Walk.{start_of, end_of}
use Rattle.resolver.proofs.Walking.{ClearInv}
use Rattle.resolver.proofs.lists.Lists.clear_list.Given as goal

abbrev pub invariant-loop-e : goal.invariant-loop-e
invariant-loop-e l = ClearInv l.self.script.bytes.now l.self.list.now (start_of l.self.list.now l.j) (end_of l.self.list.now l.j) l.e l.clear
