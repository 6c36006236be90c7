use native.Mathlib.Omega.{arith}
use mathlib.Core.List.{[]}
use Rattle.builder.proofs.Actions.{frame_says}
use Rattle.builder.proofs.Leaves.{emits}
use Rattle.builder.proofs.builder.CodeBuilder.goto_frame.Goals as goal

pub emit-requires-clause-entry : goal.emit-requires-clause-entry
emit-requires-clause-entry c = emits (frame_says [] c.args.frame)

pub returns : goal.returns
returns c = λ F. c.emit.ensures.runs F _ _ (frame_says F c.args.frame) (omega arith)
