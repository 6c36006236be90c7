-- The loop's invariant: `count` is k only where the first k bytes can stand where they do.
use Prim.Native.Nat.{◌≤◌}
use mathlib.Core.Path.{◌≡◌}
use Rattle.utf8.specs.Chars.{Follows}
use Rattle.utf8.proofs.mixed.is_window.Given as goal

abbrev pub invariant-loop-k : goal.invariant-loop-k
invariant-loop-k l = (l.count ≤ l.k) × (l.count ≡ l.k → Follows l.s l.i l.k)
