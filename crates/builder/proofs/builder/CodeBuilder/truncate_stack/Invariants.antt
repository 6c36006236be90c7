use Prim.Native.Nat.{◌-◌}
use Rattle.builder.proofs.Pops.{PopsInv}
use Rattle.builder.proofs.builder.CodeBuilder.truncate_stack.Given as goal

abbrev pub invariant-loop : goal.invariant-loop
invariant-loop l = PopsInv (l.end - l.size) l.initial.self l.self (l.end - l.counter)
