-- The loop's invariant: up to i there is ASCII.
use Prim.Native.Nat.{◌-◌, ◌≤◌}
use Rattle.utf8.specs.Chars.{Passed, Closed}
use Rattle.utf8.proofs.ascii.blocks.Given as goal

abbrev pub invariant-loop-i : goal.invariant-loop-i
invariant-loop-i g l = Passed l.s l.start l.i × (l.i ≤ l.end) × (Closed l.s l.start → Closed l.s l.i)

abbrev pub decreases-loop-i : goal.decreases-loop-i
decreases-loop-i g l = l.end - l.i
