use borrow.Author.Tests.{true-eqb}
use Rattle.tree.proofs.ByKind.{kind_none, last_kind}
use Rattle.tree.proofs.Nodes.{some_trees}
use native.Mathlib.Omega.{arith}
use Rattle.tree.proofs.Trees.kind.Goals as goal

pub returns-then-is_empty : goal.returns-then-is_empty
returns-then-is_empty c = kind_none _ _ _ (true-eqb _ 0 c.if-is_empty.ensures)

pub returns : goal.returns
returns c = last_kind _ _ _ (λ e. omega (arith, some_trees c.if-is_empty.ensures)) c.row.ensures
