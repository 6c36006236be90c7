-- The loop's invariant: up to i there are whole chars.
use Prim.Native.Nat.{◌-◌}
use lib.ListN.{length}
use Rattle.utf8.specs.Chars.{Passed}
use Rattle.utf8.proofs.chars.pass_chars.Given as goal

abbrev pub invariant-loop-i : goal.invariant-loop-i
invariant-loop-i l = Passed l.s l.start l.i

abbrev pub decreases-loop-i : goal.decreases-loop-i
decreases-loop-i l = length l.s - l.i
