use Rattle.std.proofs.Common.{◌≡◌, ◌-◌, ◌++◌, length, take}
use Rattle.action_format.specs.Bytes.{word}
use Rattle.byte_writer.proofs.Writer.word.Given as goal

abbrev pub invariant-loop-byte : goal.invariant-loop-byte
invariant-loop-byte l = record {
  long : length l.byte-items ≡ l.k;
  done : take l.byte-index l.byte-items ++ word (l.k - l.byte-index) l.rest ≡ word l.k l.n;
}
