use native.Mathlib.Omega.{arith}
use Rattle.constants.proofs.HashLaws.{rounds_long, rounds_whole}
use Rattle.constants.proofs.rounds.Goals as goal

pub returns-then-n-gt-WHOLE : goal.returns-then-n-gt-WHOLE
returns-then-n-gt-WHOLE c = (rounds_long _ c.if-n-gt-WHOLE.true, omega arith)

pub returns : goal.returns
returns c = (rounds_whole _ c.if-n-gt-WHOLE.false, omega arith)
