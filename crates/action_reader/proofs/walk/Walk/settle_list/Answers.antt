use Rattle.action_reader.proofs.Settle.{rest_of, settle_again, settle_lost}
use Rattle.action_reader.proofs.walk.Walk.settle_list.Goals as goal

pub returns-in_err-first-clause-settled_as : goal.returns-in_err-first-clause-settled_as
returns-in_err-first-clause-settled_as c = λ low xs up ends g. rw c.from_residual.ensures (settle_lost c.loop-top.invariant c.requires.cap c.requires.down c.loop-top-test.true (rw (rest_of c.deref.ensures.0 c.args.self.now.span.first, c.entry_at-entry.ensures) at c.in_err-first.ensures) low xs up ends g)

pub loop-top-preserved : goal.loop-top-preserved
loop-top-preserved c = settle_again c.loop-top.invariant c.requires.cap c.requires.down c.loop-top-test.true (rw (rest_of c.deref.ensures.0 c.args.self.now.span.first, c.entry_at-entry.ensures) at c.in_ok-first.ensures) c.move_as.ensures c.move_as.auto.list
