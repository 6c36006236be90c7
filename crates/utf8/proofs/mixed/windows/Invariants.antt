-- The loop's invariant: up to i + 3 each byte can stand where it does.
use Prim.Native.Nat.{◌+◌, ◌-◌, ◌≤◌}
use lib.ListN.{length}
use Rattle.utf8.specs.Chars.{Follows}
use Rattle.utf8.proofs.mixed.windows.Given as goal

abbrev pub invariant-loop-i : goal.invariant-loop-i
invariant-loop-i l = (l.start ≤ l.i) × (l.i + 19 ≤ length l.s) × Follows l.s l.start (l.i - l.start)

abbrev pub decreases-loop-i : goal.decreases-loop-i
decreases-loop-i l = length l.s - l.i
