use Rattle.action_reader.proofs.Pushing.{top_left}
use Rattle.action_reader.proofs.walk.Walk.push.Goals as goal

pub returns-clause-value : goal.returns-clause-value
returns-clause-value c = λ vs v n. rw (c.advance.ensures, top_left (c.value_entries-self.ensures vs) v n)
