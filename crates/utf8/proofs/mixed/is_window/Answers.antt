use mathlib.Core.Path.{sym, ◌∙◌}
use native.Mathlib.Omega.{arith}
use Rattle.utf8.proofs.Windows.{follows_more}
use Rattle.utf8.proofs.mixed.is_window.Goals as goal
use Rattle.utf8.proofs.mixed.is_window.Goals.{then-may_follow, else-may_follow}

pub loop-k-preserved : goal.loop-k-preserved
loop-k-preserved c =
    elim c.if-may_follow.branch [
      | then-may_follow w ↦ (omega arith, λ e. follows_more (c.loop-k.invariant.1 (omega arith)) (sym c.may_follow.ensures ∙ w.if-may_follow.true))
      | else-may_follow w ↦ (omega arith, λ e. absurd (omega arith))
    ]
