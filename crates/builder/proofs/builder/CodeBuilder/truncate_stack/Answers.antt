use mathlib.Core.Path.{refl}
use native.Mathlib.Omega.{arith}
use Rattle.builder.proofs.Pops.{pops_hold, pops_again, pops_done}
use Rattle.builder.proofs.builder.CodeBuilder.truncate_stack.Goals as goal

pub loop-init : goal.loop-init
loop-init c = pops_hold _ _

pub loop-preserved : goal.loop-preserved
loop-preserved c = pops_again c.loop.invariant (omega (arith, c.loop-test.true)) c.action.ensures

pub returns : goal.returns
returns c = pops_done c.loop.invariant (omega (arith, c.loop-test.false)) c.args.size refl
