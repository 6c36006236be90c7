use borrow.Author.Tests.{not-true, not-false}
use Rattle.action_reader.proofs.Beginning.{begin_none, begin_unfit, begin_other, begin_pool}
use Rattle.action_reader.proofs.begin.begin.Goals as goal

pub returns-in_err-h : goal.returns-in_err-h
returns-in_err-h c = rw c.from_residual.ensures (begin_none c.args.bytes.now c.in_err-h.ensures)

pub returns-then-not-h : goal.returns-then-not-h
returns-then-not-h c = begin_unfit c.args.bytes.now c.in_ok-h.h c.in_ok-h.ensures (not-true _ c.if-not-h.true)

pub returns-in_default : goal.returns-in_default
returns-in_default c = begin_other c.args.bytes.now c.in_ok-h.h c.in_ok-h.ensures c.in_default.not-Pool

pub returns : goal.returns
returns c = begin_pool c.args.bytes c.args.list.now c.in_ok-h.h c.in_ok-h.ensures (not-false _ c.if-not-h.false) c.in-Pool.strings c.in-Pool.is c.requires.in_bounds c.requires.list_value c.put.ensures
