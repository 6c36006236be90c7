use native.Mathlib.Omega.{arith}
use Rattle.utf8.proofs.Reading.{passed_ascii}
use Rattle.utf8.proofs.Windows.{closed_ascii}
use Rattle.utf8.proofs.ascii.blocks.Goals as goal

pub loop-i-preserved : goal.loop-i-preserved
loop-i-preserved g c =
    let a = c.is_ascii.ensures c.if-not-is_ascii.false in
    (passed_ascii _ c.loop-i.invariant.0 (omega arith) a, omega arith, λ q. closed_ascii _ (omega arith) a)
