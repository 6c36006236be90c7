-- The definition's plan that the code's enum stands for.
use Rattle.lowering.specs.Operators as operators
use Rattle.operators.specs.declared.Plan.{Plan}
use Rattle.operators.specs.declared.Plan.TheVariants.{Trivial, TrivialNot, TrivialAssign, Assign, LogicalAnd, LogicalOr}

abbrev pub plan_of : Plan → operators.Plan
plan_of (Trivial o) = operators.trivial o
plan_of (TrivialNot o) = operators.trivial-not o
plan_of (TrivialAssign o) = operators.trivial-assign o
plan_of Assign = operators.assign
plan_of LogicalAnd = operators.logical-and
plan_of LogicalOr = operators.logical-or
