use Rattle.script.specs.Resolve.{resolved}
use Rattle.leaves.proofs.Records.{other_statement, no_statement}
use Rattle.leaves.proofs.is_expr.Goals as goal

pub returns-in-Expr : goal.returns-in-Expr
unfolding resolved
returns-in-Expr c F kids = rw (c.in-Statement.is, c.in-Expr.is)

pub returns-in_default-matches : goal.returns-in_default-matches
returns-in_default-matches c F kids = rw c.in-Statement.is (other_statement F kids _ c.in_default-matches.not-Expr)

pub returns-in_default : goal.returns-in_default
returns-in_default c F kids = no_statement F kids _ c.in_default.not-Statement
