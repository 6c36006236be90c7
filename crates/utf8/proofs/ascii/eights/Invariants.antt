-- The loop's invariant: up to i there is ASCII.
use Prim.Native.Nat.{◌-◌}
use lib.ListN.{length}
use Rattle.utf8.specs.Chars.{Passed}
use Rattle.utf8.proofs.ascii.eights.Given as goal

abbrev pub invariant-loop-word : goal.invariant-loop-word
invariant-loop-word l = Passed l.s l.start l.i

abbrev pub decreases-loop-word : goal.decreases-loop-word
decreases-loop-word l = length l.s - l.i
