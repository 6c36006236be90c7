use Rattle.action_writer.proofs.Building.{later_joins}
use Rattle.action_writer.proofs.list.write_later.Goals as goal

pub returns : goal.returns
returns c = later_joins c.value.ensures c.frame.ensures
