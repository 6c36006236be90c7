use mathlib.Core.Path.{ap, ◌∙◌}
use Rattle.std.specs.Prelude.{unwrap_or}
use Rattle.hir.specs.declared.BinaryOperator.TheVariants as binary
use Rattle.decode.specs.Decode.{binary_operators}
use Rattle.script_records.proofs.TableReads.{item_or}
use Rattle.decode.proofs.binary_operator.Goals as goal

pub returns : goal.returns
unfolding binary_operators
returns c = c.unwrap_or.ensures ∙ (ap (λ o. unwrap_or o binary.Add) c.copied.ensures ∙ item_or binary_operators c.args.a c.get.result binary.Add c.get.ensures.lookup)
