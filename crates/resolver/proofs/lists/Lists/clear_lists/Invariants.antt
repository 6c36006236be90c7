use Rattle.std.proofs.Common.{◌≡◌}
use Rattle.resolver.specs.Passes.{clear_lists}
use Rattle.resolver.proofs.lists.Lists.clear_lists.Given as goal

abbrev pub invariant-loop-j : goal.invariant-loop-j
invariant-loop-j l = l.clear ≡ clear_lists l.self.script.bytes.now l.self.list.now l.j
