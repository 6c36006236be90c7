use Rattle.builder.proofs.FinishHolds.{labels_cleared, top_stands, lists_stand, finish_done}
use Rattle.builder.proofs.finish.into_actions.Goals as goal

pub label_positions-requires : goal.label_positions-requires
label_positions-requires c = top_stands _ _ c.requires.fine c.requires.base_value c.move_list-low.ensures (labels_cleared c.requires.fine c.move_list-low.ensures (c.fill.ensures.after (λ y e. e)))

pub function_positions-requires : goal.function_positions-requires
function_positions-requires c = lists_stand _ _ c.requires.fine c.requires.base_value c.move_list-low.ensures (labels_cleared c.requires.fine c.move_list-low.ensures (c.fill.ensures.after (λ y e. e))) c.label_positions.ensures

pub returns : goal.returns
returns c = λ F v n k. finish_done _ _ c.requires.fine c.requires.base_value c.move_list-low.ensures (labels_cleared c.requires.fine c.move_list-low.ensures (c.fill.ensures.after (λ y e. e))) c.label_positions.ensures c.function_positions.ensures F n (rw c.put.ensures at k)
