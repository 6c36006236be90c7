use mathlib.Core.List.{[]}
use Rattle.builder.proofs.Actions.{frame2_says}
use Rattle.builder.proofs.Leaves.{emits}
use Rattle.builder.proofs.builder.CodeBuilder.goto_frame2.Goals as goal

pub emit-requires-clause-entry : goal.emit-requires-clause-entry
emit-requires-clause-entry c = emits (frame2_says [] c.args.play c.from.ensures)

pub returns : goal.returns
returns c = λ F. c.emit.ensures.runs F _ _ (frame2_says F c.args.play c.from.ensures) c.saturating_sub-size.ensures
