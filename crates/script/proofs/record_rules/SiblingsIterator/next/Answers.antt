use native.Mathlib.Omega.{arith}
use Rattle.script_records.proofs.Trees.{tree_less}
use Rattle.script.proofs.record_rules.SiblingsIterator.next.Goals as goal

pub returns-clause-goes : goal.returns-clause-goes
returns-clause-goes c = record { on = λ _. (tt, tt, (tree_less _ _ c.last_tree-tree.ensures (omega arith)).1); keeps = tt; rests = λ _. tt }
