use Rattle.std.proofs.Common.{◌∙◌, refl, arith}
use lib.ListN.{length-set}
use Rattle.byte_writer.proofs.Loops.{copied_next, copied_done}
use Rattle.byte_writer.proofs.Writer.part.Goals as goal

pub loop-i-preserved : goal.loop-i-preserved
loop-i-preserved c = record {
  long = length-set _ _ _ ∙ c.loop-i.invariant.long;
  done = copied_next _ _ _ c.loop-i.invariant.long c.loop-i.invariant.done (omega (arith, c.loop-i.invariant.long));
}

pub returns : goal.returns
returns c = record {
  same_script = refl;
  same_output = refl;
  wrote = copied_done _ _ _ c.loop-i.invariant.long c.loop-i.invariant.done c.args.self.now.output.now c.args.self.now.at (omega (arith, c.loop-i.invariant.long)) c.requires;
}
