use Rattle.resolver.specs.Walk.{start_of, end_of}
use Rattle.resolver.proofs.Walking.{WalkInv}
use Rattle.resolver.proofs.lists.Lists.walk_list.Given as goal

abbrev pub invariant-loop-e : goal.invariant-loop-e
invariant-loop-e l = WalkInv l.self.script.bytes.now l.self.list.now l.sizes (start_of l.self.list.now l.j) (end_of l.self.list.now l.j) l.e l.k l.starts
