-- No more positions than entries so far.
use Rattle.std.proofs.Common.{◌≤◌, length}
use Rattle.listing_text.proofs.Printer.put_entries.Given as goal

abbrev pub invariant-loop-i : goal.invariant-loop-i
invariant-loop-i g l = l.position ≤ length l.yielded
