use Rattle.std.proofs.Common.{rules}
use Rattle.builder.proofs.Body.{begun_fine}
use Rattle.builder.proofs.builder.CodeBuilder.begin_function.Goals as goal

pub invariant_of-self : goal.invariant_of-self
invariant_of-self c = record { fine = rw c.begun-self.ensures (begun_fine _ _ c.args.self.now.fine) }

pub returns-clause-keeps : goal.returns-clause-keeps
returns-clause-keeps c = record { list = search rules; pool = rw c.begun-self.ensures (search rules) }
