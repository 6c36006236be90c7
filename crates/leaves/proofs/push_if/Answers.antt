use borrow.Author.Tests.{lt-ltb, le-ltb}
use Rattle.access.proofs.Chains.{runs_idle}
use Rattle.leaves.proofs.push_if.Goals as goal

pub returns-then-cases-gt0 : goal.returns-then-cases-gt0
returns-then-cases-gt0 c = λ F. rw (lt-ltb 0 c.args.cases c.if-cases-gt0.true) (c.push.ensures.runs F tt)

pub returns-else-cases-gt0 : goal.returns-else-cases-gt0
returns-else-cases-gt0 c = λ F. rw (le-ltb 0 c.args.cases c.if-cases-gt0.false) runs_idle
