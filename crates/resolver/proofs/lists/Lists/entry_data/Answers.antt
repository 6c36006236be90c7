use Rattle.resolver.proofs.Entries.{entry_operands, entry_done}
use Rattle.resolver.proofs.lists.Lists.entry_data.Goals as goal

pub kind_data-requires : goal.kind_data-requires
kind_data-requires c = rw c.entry_at-entry.ensures (entry_operands c.requires (rw c.entry_at-entry.ensures at c.kind_of.ensures))

pub returns : goal.returns
returns c = entry_done _ _ c.args.e (rw c.entry_at-entry.ensures at c.kind_data.ensures) (rw c.entry_at-entry.ensures at c.kind_of.ensures)
