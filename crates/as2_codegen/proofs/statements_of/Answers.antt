use mathlib.Core.Path.{ap}
use Rattle.as2_codegen.specs.Begin.{statements_part}
use Rattle.as2_codegen.proofs.Meets.{whole_within}
use Rattle.as2_codegen.proofs.statements_of.Goals as goal

pub invariant_of-result : goal.invariant_of-result
invariant_of-result c = record { within = rw c.new-script.ensures.bytes (whole_within c.args.file.now c.requires c.new-script.ensures.layout (rw (c.saturating_sub-n.ensures) (ap statements_part c.new-script.ensures.layout))) }
