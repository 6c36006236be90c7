use Rattle.resolver.proofs.Walking.{standing_at, clear_start, clear_again}
use Rattle.resolver.proofs.lists.Lists.clear_list.Goals as goal

pub loop-e-init : goal.loop-e-init
loop-e-init c = rw c.end-e.ensures (clear_start (standing_at c.args.self.now c.requires))

pub loop-e-preserved : goal.loop-e-preserved
loop-e-preserved c = clear_again (standing_at c.args.self.now c.requires) c.loop-e.invariant (rw c.start-e-start.ensures at c.loop-e-test.true) c.entry_data-clear.ensures
