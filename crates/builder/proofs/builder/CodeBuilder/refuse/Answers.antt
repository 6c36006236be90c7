use mathlib.Core.Path.{refl, ap}
use borrow.Author.Rules.{rules}
use Rattle.lowering.specs.Builder.{refuse}
use Rattle.codegen_state.specs.declared.BuilderState.{BuilderState}
use Rattle.codegen_state.specs.Stop.{number_of}
use Rattle.codegen_state.proofs.Steps.{stays}
use Rattle.builder.proofs.Leaves.{refuses}
use Rattle.builder.proofs.Runs.{counts}
use Rattle.builder.proofs.builder.CodeBuilder.refuse.Goals as goal

pub invariant_of-self : goal.invariant_of-self
invariant_of-self c = record { fine = rw c.refused_with-self.ensures (search rules) }

pub returns-then-is_none-clause-list : goal.returns-then-is_none-clause-list
returns-then-is_none-clause-list c = refl

pub returns-then-is_none-clause-runs : goal.returns-then-is_none-clause-runs
unfolding refuse
returns-then-is_none-clause-runs c =
    let e = c.refused_with-self.ensures in
    λ F. counts (ap (λ (s : BuilderState). s.constants) e) (rw e (refuses F (refuse {A = Unit {0}} (number_of c.args.stop)) tt c.args.stop c.args.self.now.fine c.if-is_none.ensures refl))

pub returns-else-is_none-clause-runs : goal.returns-else-is_none-clause-runs
returns-else-is_none-clause-runs c = λ F. counts refl (stays c.if-is_none.ensures c.args.self.now.fine)
