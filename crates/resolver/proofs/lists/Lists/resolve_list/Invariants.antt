use Rattle.resolver.specs.Walk.{start_of, end_of}
use Rattle.resolver.proofs.Reaches.{ResolveInv}
use Rattle.resolver.proofs.lists.Lists.resolve_list.Given as goal

abbrev pub invariant-loop-e : goal.invariant-loop-e
invariant-loop-e l =
    ResolveInv l.self.list.now l.places.starts l.places.labels l.initial.offsets (start_of l.self.list.now l.j) (end_of l.self.list.now l.j) l.e l.position l.near l.offsets
