use Rattle.std.proofs.Common.{◌%◌, ◌∙◌, refl, arith}
use lib.ListN.{length-set}
use Rattle.action_format.proofs.Readers.{word_length}
use Rattle.byte_writer.proofs.Loops.{number_next, number_done}
use Rattle.byte_writer.proofs.Writer.word.Goals as goal

pub overflow_add-end : goal.overflow_add-end
overflow_add-end c = omega (arith, word_length c.args.k c.args.n)

pub slice_bounds-byte-items-end : goal.slice_bounds-byte-items-end
slice_bounds-byte-items-end c = omega (arith, word_length c.args.k c.args.n)

pub loop-byte-preserved : goal.loop-byte-preserved
loop-byte-preserved c = record {
  long = length-set c.loop-byte.byte-items c.loop-byte.byte-index (c.loop-byte.rest % 256) ∙ c.loop-byte.invariant.long;
  done = number_next _ _ _ _ c.loop-byte.invariant.long c.loop-byte.invariant.done (omega (arith, c.loop-byte.invariant.long));
}

pub returns : goal.returns
returns c = record {
  same_script = refl;
  same_output = refl;
  wrote = number_done _ _ _ _ c.loop-byte.invariant.long c.loop-byte.invariant.done c.args.self.now.output.now c.args.self.now.at (omega (arith, c.loop-byte.invariant.long)) c.requires;
}
