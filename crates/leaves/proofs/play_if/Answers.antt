use Rattle.access.proofs.Chains.{runs_idle}
use Rattle.leaves.proofs.play_if.Goals as goal

pub returns-then-play : goal.returns-then-play
returns-then-play c = λ F. rw c.if-play.true (c.action.ensures F)

pub returns-else-play : goal.returns-else-play
returns-else-play c = λ F. rw c.if-play.false runs_idle
