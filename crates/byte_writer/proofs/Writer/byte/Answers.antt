use mathlib.Core.Path.{refl}
use lib.ListN.{length-set}
use Rattle.byte_writer.specs.Written.{written_at}
use Rattle.byte_writer.proofs.Writer.byte.Goals as goal

pub returns : goal.returns
unfolding written_at
returns c = record { same_script = refl; same_output = refl; wrote = record { after = refl; output = refl; long = length-set c.args.self.now.output.now c.args.self.now.at c.args.b } }
