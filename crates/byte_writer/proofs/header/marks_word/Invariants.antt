use Rattle.byte_writer.proofs.Marks.{MarksLeft}
use Rattle.byte_writer.proofs.header.marks_word.Given as goal

abbrev pub invariant-loop-mark : goal.invariant-loop-mark
invariant-loop-mark l = MarksLeft l.fn.marks l.mark-iterator.iter.rest.now l.word
