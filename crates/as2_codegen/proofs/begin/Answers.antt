use mathlib.Core.List.{[]}
use Rattle.as2_codegen.proofs.First.{begins}
use Rattle.as2_codegen.proofs.begin.Goals as goal

pub invariant_of-result : goal.invariant_of-result
invariant_of-result c = record { fine = rw c.put.ensures (begins c.args.list.now c.requires.in_bounds c.requires.list_value []).fine }

pub invariant_of-result-2 : goal.invariant_of-result-2
invariant_of-result-2 c = record { laid_out = c.requires.script_value; indexed = rw c.put.ensures (begins c.args.list.now c.requires.in_bounds c.requires.list_value c.args.script.bytes.now).named.indexed }

pub returns-clause-begun : goal.returns-clause-begun
returns-clause-begun c = λ F. rw c.put.ensures (begins c.args.list.now c.requires.in_bounds c.requires.list_value F)
