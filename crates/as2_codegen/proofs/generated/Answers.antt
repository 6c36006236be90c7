use Rattle.tree.specs.Handle.{file_of}
use Rattle.as2_codegen.proofs.generated.Goals as goal

pub returns-clause-made : goal.returns-clause-made
returns-clause-made c = record { b = _; w = _; begun = c.begin-context.ensures.begun (file_of c.args.accepted.statements); does = c.generate_actions.ensures.does }
