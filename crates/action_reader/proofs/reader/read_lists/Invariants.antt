use Rattle.std.proofs.Common.{◌≡◌}
use Rattle.action_reader.specs.View.{Stands}
use Rattle.action_reader.specs.Walked.{ahead}
use Rattle.action_reader.proofs.reader.read_lists.Given as goal

abbrev pub invariant-loop-walk : goal.invariant-loop-walk
invariant-loop-walk l = record { same : l.walk.bytes.now ≡ l.bytes; stands : Stands l.walk.bytes.now l.list l.walk }

abbrev pub decreases-loop-walk : goal.decreases-loop-walk
decreases-loop-walk l = ahead l.walk
