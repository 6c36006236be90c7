use Rattle.std.proofs.Common.{refl, arith, ◌∙◌}
use Rattle.action_format.specs.Bytes.{word}
use Rattle.byte_writer.specs.Data.{frame}
use Rattle.byte_writer.proofs.Writes.{wrote_then}
use Rattle.byte_writer.proofs.Writer.frame.Goals as goal

pub word-requires : goal.word-requires
unfolding word
word-requires c = omega arith

pub word-requires-2 : goal.word-requires-2
unfolding word
word-requires-2 c = omega (arith, c.word.ensures.wrote.after, c.word.ensures.wrote.long)

pub returns : goal.returns
unfolding frame
returns c = record {
  same_script = c.word-2.ensures.same_script ∙ c.word.ensures.same_script;
  same_output = c.word-2.ensures.same_output ∙ c.word.ensures.same_output;
  same_place = refl;
  output = (wrote_then c.word.ensures.wrote c.word-2.ensures.wrote).output;
}
