use Rattle.action_reader.specs.Lists.{positions_of}
use Rattle.action_reader.proofs.Settle.{Settling}
use Rattle.action_reader.proofs.walk.Walk.settle_list.Given as goal

abbrev pub invariant-loop-top : goal.invariant-loop-top
invariant-loop-top l = Settling l.initial.list l.self (positions_of l.self) l.list l.low l.top
