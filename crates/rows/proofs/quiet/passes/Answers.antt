use Rattle.rows.proofs.Passed.{not_some, at_expr, at_break, at_continue, at_block, at_list}
use Rattle.rows.proofs.quiet.passes.Goals as goal

pub returns-then-row : goal.returns-then-row
returns-then-row c = at_expr _ _ _ _ c.known_row-row.ensures c.if-row.true c.is_under.ensures c.then_some.ensures

pub returns-then-row-2 : goal.returns-then-row-2
returns-then-row-2 c = at_break _ _ _ _ c.known_row-row.ensures c.if-row-2.true (rw (not_some c.is_none.ensures) at c.then_some-then-row-2.ensures)

pub returns-then-row-3 : goal.returns-then-row-3
returns-then-row-3 c = at_continue _ _ _ _ c.known_row-row.ensures c.if-row-3.true (rw (not_some c.is_none-then-row-3.ensures) at c.then_some-then-row-3.ensures)

pub returns-then-row-4 : goal.returns-then-row-4
returns-then-row-4 c = at_block _ _ _ _ c.known_row-row.ensures c.if-row-4.true c.is_under-then-row-4.ensures c.then_some-then-row-4.ensures

pub returns : goal.returns
returns c = at_list _ _ _ _ c.known_row-row.ensures c.if-row.false c.if-row-2.false c.if-row-3.false c.if-row-4.false c.then_some-2.ensures
