use Rattle.builder.proofs.Runs.{keeps_then}
use Rattle.pcode.specs.Pcode.{op}
use Rattle.access.proofs.Accesses.{calls, falls}
use Rattle.access.proofs.call_register.Goals as goal

pub returns : goal.returns
returns c = λ F. let x = falls (op c.args.o) _ c.saturating_add.ensures (c.action_down.ensures F) in record {
  keeps = keeps_then c.push.ensures.keeps (keeps_then c.push-2.ensures.keeps x.keeps);
  does = calls F c.args.o c.args.n c.args.register (c.push.ensures.runs F tt).does (c.push-2.ensures.runs F tt).does x.does;
}
