use Rattle.resolver.specs.Walk.{start_of, end_of}
use Rattle.resolver.proofs.Walking.{MarkInv}
use Rattle.resolver.proofs.lists.Lists.mark_list.Given as goal

abbrev pub invariant-loop-e : goal.invariant-loop-e
invariant-loop-e l = MarkInv l.self.list.now (start_of l.self.list.now l.j) (end_of l.self.list.now l.j) l.e l.position l.places
