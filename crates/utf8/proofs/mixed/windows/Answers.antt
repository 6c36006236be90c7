use native.Mathlib.Omega.{arith}
use Rattle.utf8.proofs.Windows.{follows_on, past_to}
use Rattle.utf8.proofs.mixed.windows.Goals as goal

pub returns-then-not-is_mixed : goal.returns-then-not-is_mixed
returns-then-not-is_mixed c =
    let n = c.loop-i.invariant in
    past_to _ _ _ c.requires.1 (omega arith) (omega arith) (follows_on 16 n.0 n.2 (c.is_window.ensures c.loop-i-test.true)) c.last_start.ensures

pub loop-i-preserved : goal.loop-i-preserved
loop-i-preserved c =
    let n = c.loop-i.invariant in
    let h = c.is_mixed.ensures c.if-not-is_mixed.false in
    (omega arith, omega arith, follows_on 16 n.0 n.2 (c.is_window.ensures c.loop-i-test.true))

pub returns : goal.returns
returns c =
    let n = c.loop-i.invariant in
    past_to _ _ _ c.requires.1 n.0 (omega arith) n.2 c.last_start-2.ensures
