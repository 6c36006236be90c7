use mathlib.Core.Path.{refl, sym}
use native.Mathlib.Omega.{arith}
use Rattle.codegen_state.proofs.Steps.{stays}
use Rattle.builder.proofs.Elements.{labels_full, labels_done}
use Rattle.builder.proofs.Marks.{labelled_fine, label_full, label_done}
use Rattle.builder.proofs.Runs.{kept, counts}
use Rattle.builder.proofs.builder.CodeBuilder.create_labels.Goals as goal

pub returns-then-is_some : goal.returns-then-is_some
returns-then-is_some c = record { list = refl; label = refl; bound = omega (arith, c.args.self.now.fine.labels); keeps = kept refl; runs = λ F ms e. counts refl (stays (sym c.if-is_some.ensures) c.args.self.now.fine); one = λ k F. counts refl (stays (sym c.if-is_some.ensures) c.args.self.now.fine) }

pub returns-then-self-n-clause-list : goal.returns-then-self-n-clause-list
returns-then-self-n-clause-list c = refl

pub returns-then-self-n-clause-label : goal.returns-then-self-n-clause-label
returns-then-self-n-clause-label c = refl

pub returns-then-self-n-clause-bound : goal.returns-then-self-n-clause-bound
returns-then-self-n-clause-bound c = omega (arith, c.args.self.now.fine.labels)

pub returns-then-self-n-clause-keeps : goal.returns-then-self-n-clause-keeps
returns-then-self-n-clause-keeps c = kept refl

pub returns-then-self-n-clause-runs : goal.returns-then-self-n-clause-runs
returns-then-self-n-clause-runs c = λ F ms e. counts refl (labels_full F ms c.args.self.now.fine (sym c.if-is_some.ensures) e (omega (arith, c.if-self-n.true)))

pub returns-then-self-n-clause-one : goal.returns-then-self-n-clause-one
returns-then-self-n-clause-one c = λ k F. counts refl (label_full F c.args.self.now.fine (sym c.if-is_some.ensures) (omega (arith, k, c.if-self-n.true)))

pub invariant_of-self-2 : goal.invariant_of-self-2
invariant_of-self-2 c = record { fine = labelled_fine c.args.n c.args.self.now.fine (omega (arith, c.if-self-n.false, c.args.self.now.fine.labels)) }

pub returns : goal.returns
returns c = record { list = refl; label = refl; bound = omega (arith, c.args.self.now.fine.labels); keeps = kept refl; runs = λ F ms e. counts refl (labels_done F ms c.args.self.now.fine (sym c.if-is_some.ensures) e (omega (arith, c.if-self-n.false, c.args.self.now.fine.labels))); one = λ k F. counts refl (rw k (label_done F c.args.self.now.fine (sym c.if-is_some.ensures) (omega (arith, k, c.if-self-n.false, c.args.self.now.fine.labels)))) }
