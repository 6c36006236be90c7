use Rattle.lowering.specs.Builder as steps
use Rattle.builder.proofs.builder.CodeBuilder.mark_default.Goals as goal

pub returns : goal.returns
unfolding steps.mark_default
returns c = λ F. c.mark.ensures F
