use Rattle.builder.proofs.Move.{move_done}
use Rattle.builder.proofs.move_list.move_list.Goals as goal

pub returns : goal.returns
returns c = move_done _ _ _ _ _ _ _ c.requires c.max-left.ensures c.copy_within.ensures.len c.copy_within.ensures.by_index (c.fill.ensures.after (λ y e. e))
