-- The marks so far are the bits so far.
use Rattle.std.proofs.Common.{◌≡◌, ◌<◌, get_or, length, ℕ, ◌/◌, ◌%◌, ◌^◌, false}
use Rattle.decode.specs.Decode.{is_one}
use Rattle.decode.proofs.FunctionFromRow.from.Given as goal

abbrev pub invariant-loop-i : goal.invariant-loop-i
invariant-loop-i l = (length l.mark-items ≡ 9) × ((k : ℕ) → k < l.i → get_or l.mark-items k false ≡ is_one (l.fn.r.c / 2 ^ k % 2))
