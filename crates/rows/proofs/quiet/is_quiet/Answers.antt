use Prim.Native.Nat.{◌<◌}
use mathlib.Core.Bool.{false}
use mathlib.Core.Path.{sym, ◌∙◌}
use native.Mathlib.Omega.{arith}
use Rattle.tree.proofs.Nodes.{row_known}
use Rattle.rows.proofs.Passed.{expr_passed, expr_there, not_some, break_passed}
use Rattle.rows.proofs.quiet.is_quiet.Goals as goal

pub is_under-requires : goal.is_under-requires
is_under-requires c =
    let t = c.args.tree.now in
    let z = expr_there _ _ _ t.within (sym c.kind-kind.ensures ∙ c.if-kind.true) false false in
    let i = t.within.inside in
    let e : 0 < t.part.end = omega (arith, z) in
    (e, row_known _ _ _ t.within _ (omega arith))

pub returns-then-kind : goal.returns-then-kind
returns-then-kind c = expr_passed _ _ _ c.args.tree.now.within (sym c.kind-kind.ensures ∙ c.if-kind.true) _ _ c.is_under.ensures

pub returns-then-saturating_sub-start : goal.returns-then-saturating_sub-start
returns-then-saturating_sub-start c =
    let e = break_passed _ _ _ c.args.tree.now.within (sym c.kind-kind.ensures ∙ c.if-kind-2.true) _ _ (rw (← c.start.ensures, ← c.saturating_sub.ensures) c.if-saturating_sub-start.true) in
    not_some c.is_none.ensures ∙ e
