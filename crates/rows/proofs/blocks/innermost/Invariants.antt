use Rattle.rows.proofs.Innermost.{InnerInv}
use Rattle.rows.proofs.blocks.innermost.Given as goal

abbrev pub invariant-loop-block : goal.invariant-loop-block
invariant-loop-block l = InnerInv l.row.script l.lp l.row l.inner

abbrev pub decreases-loop-block : goal.decreases-loop-block
decreases-loop-block l = l.inner.part.n
