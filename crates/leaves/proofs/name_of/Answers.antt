use Rattle.leaves.proofs.Records.{named}
use Rattle.leaves.proofs.name_of.Goals as goal

pub returns : goal.returns
returns c = λ F i h t. rw c.from.ensures (named F i c.args.root h t)
