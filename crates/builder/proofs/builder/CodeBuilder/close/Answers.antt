use mathlib.Core.Path.{refl, ◌∙◌}
use lib.ListN.{length-set}
use native.Mathlib.Omega.{arith}
use Rattle.builder.proofs.Ended.{closed_fine}
use Rattle.builder.proofs.Leaves.{room_action}
use Rattle.builder.proofs.Runs.{closed_pool, wrote}
use Rattle.builder.proofs.builder.CodeBuilder.close.Goals as goal

pub overflow_sub-state-2 : goal.overflow_sub-state-2
overflow_sub-state-2 c = omega (arith, room_action c.args.self.now.fine c.requires.actions_bound, c.args.self.now.fine.base)

pub invariant_of-self : goal.invariant_of-self
invariant_of-self c = record { fine = rw c.from.ensures (closed_fine c.args.up c.args.self.now.fine c.requires.going c.requires.actions_bound c.requires.ready (record { low = _; moved = _; moves = c.move_list-low.ensures; new = refl; words = c.put.ensures })) }

pub returns-clause-keeps : goal.returns-clause-keeps
returns-clause-keeps c = wrote (c.put.auto.list ∙ length-set _ _ _ ∙ c.move_list-low.auto.list) (rw c.from.ensures (closed_pool c.args.self.now.fine (room_action c.args.self.now.fine c.requires.actions_bound) (record { low = _; moved = _; moves = c.move_list-low.ensures; new = refl; words = c.put.ensures })))
