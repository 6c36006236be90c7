use native.Mathlib.Omega.{arith}
use mathlib.Core.List.{[]}
use Rattle.builder.proofs.Actions.{store_says}
use Rattle.builder.proofs.Leaves.{emits}
use Rattle.builder.proofs.builder.CodeBuilder.store_register.Goals as goal

pub emit-requires-clause-entry : goal.emit-requires-clause-entry
emit-requires-clause-entry c = emits (store_says [] c.args.register c.from.ensures)

pub returns : goal.returns
returns c = λ F. c.emit.ensures.runs F _ _ (store_says F c.args.register c.from.ensures) (omega arith)
