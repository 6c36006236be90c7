use mathlib.Core.Path.{refl}
use borrow.Author.Tests.{true-eqb}
use Rattle.tree.proofs.ByKind.{rest_none}
use Rattle.tree.proofs.Trees.rest.Goals as goal

pub returns-then-is_empty : goal.returns-then-is_empty
returns-then-is_empty c = record { script = refl; part = rest_none _ _ _ (true-eqb _ 0 c.if-is_empty.ensures) }
