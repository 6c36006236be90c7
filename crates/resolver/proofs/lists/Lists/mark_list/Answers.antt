use Rattle.list_slice.specs.Words.{entry_at}
use Rattle.resolver.proofs.Walking.{standing_at, mark_start, mark_again}
use Rattle.resolver.proofs.lists.Lists.mark_list.Goals as goal

pub loop-e-init : goal.loop-e-init
loop-e-init c = rw c.end-e.ensures (mark_start _ _ _ _ (standing_at c.args.self.now c.requires).order c.told-places)

pub loop-e-preserved : goal.loop-e-preserved
unfolding entry_at
loop-e-preserved c =
    mark_again c.loop-e.invariant (rw c.start-e-start.ensures at c.loop-e-test.true) (rw c.entry_at-entry.ensures at c.mark_entry.ensures) (rw c.entry_at-entry.ensures at c.actions_added-position.ensures)
