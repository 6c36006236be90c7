use borrow.Author.Tests.{eqb-false}
use Rattle.leaves.proofs.Records.{of_other_kind, of_no_child, no_child, of_other_child}
use Rattle.leaves.proofs.may_be_hoisted.Goals as goal

pub returns-then-kind : goal.returns-then-kind
returns-then-kind c h = of_other_kind _ _ _ c.args.t.now.within (rw c.kind.ensures at c.if-kind.true)

pub returns-then-t-lt2 : goal.returns-then-t-lt2
returns-then-t-lt2 c h = of_no_child _ _ _ c.args.t.now.within (no_child _ _ _ c.args.t.now.within c.if-t-lt2.true)

pub returns : goal.returns
returns c h = of_other_child _ _ _ c.args.t.now.within (rw c.known_row.ensures at (eqb-false c.known_row.result.kind 49 h))
