use borrow.Author.Tests.{lt-ltb}
use native.Mathlib.Omega.{arith}
use Rattle.byte_writer.specs.Header.{marks_word, marks_data}
use Rattle.byte_writer.proofs.Writes.{writes_then, writes_number}
use Rattle.byte_writer.proofs.Writer.marks.Goals as goal

pub returns-then-f-gt1 : goal.returns-then-f-gt1
unfolding marks_data
returns-then-f-gt1 c =
    rw (lt-ltb 1 c.args.f.now.register_count c.if-f-gt1.true) (writes_then c.byte.ensures (writes_number 2 (marks_word c.args.f.now.marks) c.word.ensures (omega arith)))
