-- How many bytes there are.
use Prim.Native.Nat.{ℕ, ◌+◌}
use mathlib.Core.Path.{◌≡◌}
use mathlib.Core.List.{List, [], ◌∷◌}
use lib.ListN.{length, length-append}
use Rattle.action_format.specs.Bytes.{zero_ended}

pub ended_length : (s : List ℕ) → length (zero_ended s) ≡ length s + 1
unfolding zero_ended
ended_length s = length-append s (0 ∷ [])
