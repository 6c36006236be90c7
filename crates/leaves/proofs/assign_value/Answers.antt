use Rattle.leaves.proofs.assign_value.Goals as goal

pub returns-then-discard : goal.returns-then-discard
returns-then-discard c = λ F. rw c.if-discard.true (c.set_value.ensures F)

pub returns-else-discard : goal.returns-else-discard
returns-else-discard c = λ F. rw c.if-discard.false (c.get_and_set_value.ensures F)
