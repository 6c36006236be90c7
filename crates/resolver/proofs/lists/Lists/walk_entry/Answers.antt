use Rattle.list_slice.specs.Words.{entry_at}
use Rattle.resolver.proofs.Walking.{step_done}
use Rattle.resolver.proofs.lists.Lists.walk_entry.Goals as goal

pub returns : goal.returns
unfolding entry_at
returns c = step_done c.requires.known c.args.sizes.now c.entry_data.ensures (rw c.entry_at-entry.ensures at c.body_of.ensures) c.args.k (rw c.entry_at-entry.ensures at c.with.ensures)
