use mathlib.Core.Path.{refl}
use Rattle.builder.proofs.Marks.{size_down}
use Rattle.builder.proofs.Runs.{counts}
use Rattle.builder.proofs.builder.CodeBuilder.assume_stack_delta.Goals as goal

pub returns-clause-list : goal.returns-clause-list
returns-clause-list c = refl

pub returns-clause-runs : goal.returns-clause-runs
returns-clause-runs c = λ F. counts refl (size_down F c.args.down c.args.self.now.fine c.saturating_sub-self.ensures)
