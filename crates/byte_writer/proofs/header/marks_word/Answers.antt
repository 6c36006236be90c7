use Rattle.std.proofs.Common.{arith}
use Rattle.byte_writer.proofs.Marks.{marks_start, marks_fit, marks_next, marks_done}
use Rattle.byte_writer.proofs.header.marks_word.Goals as goal

pub loop-mark-init : goal.loop-mark-init
loop-mark-init c = rw (c.into_iter-mark-iterator.ensures.into_iter_gives, c.rev-mark-items.ensures.source, c.iter.ensures.rest) (marks_start c.args.marks (omega arith))

pub overflow_mul-word : goal.overflow_mul-word
overflow_mul-word c = omega (arith, marks_fit _ _ c.loop-mark.invariant c.in-Some.ensures.steps)

pub overflow_add-word : goal.overflow_add-word
overflow_add-word c = omega (arith, c.from.ensures, marks_fit _ _ c.loop-mark.invariant c.in-Some.ensures.steps)

pub loop-mark-preserved : goal.loop-mark-preserved
loop-mark-preserved c = rw c.from.ensures (marks_next _ _ c.loop-mark.invariant c.in-Some.ensures.steps)

pub returns : goal.returns
returns c = marks_done c.loop-mark.invariant c.in-None.ensures.steps.0
