-- It stops before ten million.
use Rattle.std.proofs.Common.{◌<◌}
use Rattle.text_lines.proofs.number.Given as goal

abbrev pub invariant-loop-c : goal.invariant-loop-c
invariant-loop-c l = l.n < 10000000
