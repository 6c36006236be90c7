use mathlib.Core.Path.{refl}
use native.Mathlib.Omega.{arith}
use Rattle.list_slice.specs.Entry.{Piece}
use Rattle.builder.proofs.Actions.{label_says}
use Rattle.builder.proofs.builder.CodeBuilder.goto_label.Goals as goal

pub emit-requires-clause-entry : goal.emit-requires-clause-entry
emit-requires-clause-entry c = record { piece = Piece.GotoLabel c.args.string; entry_is = refl; low = omega arith }

pub returns : goal.returns
returns c = record { keeps = c.emit.ensures.keeps; runs = λ F h. c.emit.ensures.runs F _ _ (label_says F c.args.string h) (omega arith) }
