use Prim.Native.Nat.{◌+◌, ◌-◌}
use mathlib.Core.Path.{◌≡◌, ◌∙◌, sym}
use native.Mathlib.Omega.{arith}
use Rattle.rows.proofs.Passed.{passed_none, passed_end, passed_stop, passed_on}
use Rattle.rows.proofs.quiet.is_passed.Goals as goal

pub returns-then-e-start : goal.returns-then-e-start
returns-then-e-start c = rw (← c.start-start.ensures) (passed_end _ _ _ _ _ _ (omega arith) c.if-e-start.true ∙ sym c.loop.invariant.1)

pub returns-in_default : goal.returns-in_default
returns-in_default c =
    rw (← c.start-start.ensures) (passed_stop _ _ _ _ _ _ (omega arith) c.if-e-start.false c.passes.ensures c.in_default.is ∙ sym c.loop.invariant.1)

pub loop-preserved : goal.loop-preserved
loop-preserved c =
    let e : c.args.steps - (c.loop.counter + 1) ≡ c.args.steps - c.loop.counter - 1 = omega arith in
    rw (c.saturating_sub-e.ensures, e)
    (omega (arith, c.loop.invariant.0), c.loop.invariant.1 ∙ passed_on _ _ _ _ _ _ (omega arith) c.if-e-start.false c.passes.ensures c.in-Some.is)

pub returns : goal.returns
returns c = rw (← c.start-start.ensures) (passed_none _ _ _ _ _ _ (omega arith) ∙ sym c.loop.invariant.1)
