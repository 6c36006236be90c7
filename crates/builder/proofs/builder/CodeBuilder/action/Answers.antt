use mathlib.Core.List.{[]}
use Rattle.builder.proofs.Actions.{op_says}
use Rattle.builder.proofs.Leaves.{emits}
use Rattle.builder.proofs.builder.CodeBuilder.action.Goals as goal

pub emit-requires-clause-entry : goal.emit-requires-clause-entry
emit-requires-clause-entry c = emits (op_says [] c.args.o c.row_of-row.ensures.code)

pub returns : goal.returns
returns c = λ F. c.emit.ensures.runs F _ _ (op_says F c.args.o c.row_of-row.ensures.code) (rw c.row_of-row.ensures.delta at c.moved-size.ensures.value)
