use Rattle.std.proofs.Common.{◌≡◌, length, take}
use Rattle.byte_writer.proofs.Writer.part.Given as goal

abbrev pub invariant-loop-i : goal.invariant-loop-i
invariant-loop-i l = record {
  long : length l.byte-items ≡ length l.bytes;
  done : take l.i l.byte-items ≡ take l.i l.bytes;
}
