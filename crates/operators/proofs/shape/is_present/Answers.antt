use Rattle.script.specs.Resolve.{resolved}
use Rattle.operators.proofs.Shapes.{present_is}
use Rattle.operators.proofs.shape.is_present.Goals.{in-Absent, in_default}
use Rattle.operators.proofs.shape.is_present.Goals as goal

pub returns : goal.returns
unfolding resolved
returns c F = elim c.match-matches.branch [ in-Absent w ↦ rw (w.matches-is, w.in-Absent.is) | in_default w ↦ rw w.matches-is (present_is F c.args.root w.in_default.not-Absent) ]
