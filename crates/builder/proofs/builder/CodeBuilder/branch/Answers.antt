use mathlib.Core.List.{[]}
use Rattle.pcode.specs.Pcode.{Branching}
use Rattle.builder.proofs.Actions.{branch_says}
use Rattle.builder.proofs.Leaves.{emits}
use Rattle.builder.proofs.builder.CodeBuilder.branch.Goals as goal

pub emit-requires-clause-entry : goal.emit-requires-clause-entry
emit-requires-clause-entry c = emits (branch_says [] Branching.If c.args.label.0)

pub returns : goal.returns
returns c = λ F. c.emit.ensures.runs F _ _ (branch_says F Branching.If c.args.label.0) c.saturating_sub-size.ensures
