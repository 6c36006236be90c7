use Rattle.std.proofs.Common.{arith}
use Rattle.resolver.proofs.Walking.{standing_at, walk_start, walk_stop, walk_again, walk_done}
use Rattle.resolver.proofs.lists.Lists.walk_list.Goals as goal

pub loop-e-init : goal.loop-e-init
loop-e-init c = rw c.end-e.ensures (walk_start _ _ _ _ (standing_at c.args.self.now c.requires) c.told-starts c.default-k.ensures)

pub returns-in_err-k : goal.returns-in_err-k
returns-in_err-k c =
    rw c.from_residual.ensures (walk_stop (standing_at c.args.self.now c.requires) c.loop-e.invariant (rw c.start-e-start.ensures at c.loop-e-test.true) c.walk_entry.ensures _ c.in_err-k.was)

pub loop-e-preserved : goal.loop-e-preserved
loop-e-preserved c = walk_again (standing_at c.args.self.now c.requires) c.loop-e.invariant (rw c.start-e-start.ensures at c.loop-e-test.true) c.walk_entry.ensures c.set_start.ensures c.in_ok-k.was

pub returns : goal.returns
returns c = walk_done (standing_at c.args.self.now c.requires) c.loop-e.invariant (omega (arith, c.loop-e.invariant.low, c.start-e-start.ensures)) c.set_start-2.ensures
