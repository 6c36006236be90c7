use Rattle.access.proofs.Chains.{runs_idle}
use Rattle.leaves.proofs.jump_to.Goals as goal

pub returns-in-Some : goal.returns-in-Some
returns-in-Some c = λ F. rw c.in-Some.is (c.jump.ensures F)

pub returns-in_default : goal.returns-in_default
returns-in_default c = λ F. rw c.in_default.is runs_idle
