use Rattle.std.proofs.Common.{sym, ◌∙◌}
use Rattle.action_reader.proofs.Closing.{finish_step}
use Rattle.action_reader.proofs.reader.read_lists.Goals as goal

pub returns-in_err-end_list : goal.returns-in_err-end_list
returns-in_err-end_list c =
    let done = finish_step c.loop-walk.invariant.stands (sym c.is_over.ensures ∙ c.loop-walk-test.false) c.end_list.result c.end_list.new.list c.end_list.ensures c.end_list.auto.list in
    rw (c.from_residual-in_err-end_list.ensures, ← c.loop-walk.invariant.same) (rw c.in_err-end_list.was at done)

pub returns : goal.returns
returns c =
    let done = finish_step c.loop-walk.invariant.stands (sym c.is_over.ensures ∙ c.loop-walk-test.false) c.end_list.result c.end_list.new.list c.end_list.ensures c.end_list.auto.list in
    rw (← c.loop-walk.invariant.same) (rw c.in_ok-end_list.was at done)
