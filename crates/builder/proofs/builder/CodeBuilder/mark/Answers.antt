use mathlib.Core.Path.{refl, sym}
use Rattle.codegen_state.proofs.Steps.{stays}
use Rattle.codegen_state.specs.Stop.{number_of}
use Rattle.builder.proofs.Marks.{mark_unmade, mark_again, mark_done}
use Rattle.builder.proofs.Runs.{counts}
use Rattle.builder.proofs.builder.CodeBuilder.mark.Goals as goal

pub returns-then-is_some : goal.returns-then-is_some
returns-then-is_some c = λ F. counts refl (stays (sym c.if-is_some.ensures) c.args.self.now.fine)

pub returns-then-self-l : goal.returns-then-self-l
returns-then-self-l c = λ F. counts refl (mark_unmade c.args.label.0 c.args.self.now.fine F c.args.stop (sym c.if-is_some.ensures) c.if-self-l.true)

pub returns-then-self-l-ne0 : goal.returns-then-self-l-ne0
returns-then-self-l-ne0 c = λ F. counts refl (mark_again c.args.label.0 c.args.self.now.fine c.if-self-l.false F c.args.stop (sym c.if-is_some.ensures) c.if-self-l-ne0.true)

pub returns : goal.returns
returns c = λ F. record { keeps = c.grow_marked.ensures.keeps; does = mark_done c.args.label.0 c.args.self.now.fine c.if-self-l.false c.if-self-l-ne0.false c.grow_marked.ensures.marked F (number_of c.args.stop) (sym c.if-is_some.ensures) }
