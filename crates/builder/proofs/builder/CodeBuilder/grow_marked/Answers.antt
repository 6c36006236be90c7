use mathlib.Core.Path.{refl, ◌∙◌}
use lib.ListN.{length-set}
use Rattle.builder.proofs.Marks.{mark_fine, room_mark}
use Rattle.builder.proofs.Runs.{marked_pool, wrote}
use Rattle.builder.proofs.builder.CodeBuilder.grow_marked.Goals as goal

pub grow-requires-clause-low_lt_top : goal.grow-requires-clause-low_lt_top
grow-requires-clause-low_lt_top c = room_mark c.args.label c.args.self.now.fine c.requires.label_bound c.requires.unmarked

pub invariant_of-self : goal.invariant_of-self
invariant_of-self c = record { fine = mark_fine c.args.label c.args.self.now.fine c.requires.label_bound c.requires.unmarked (record { new = c.grow.ensures.new; words = rw c.grow.ensures.words refl }) }

pub returns-clause-keeps : goal.returns-clause-keeps
returns-clause-keeps c = wrote (length-set _ _ _ ∙ c.grow.auto.list) (marked_pool c.args.self.now.fine (room_mark c.args.label c.args.self.now.fine c.requires.label_bound c.requires.unmarked) c.requires.label_bound (record { new = c.grow.ensures.new; words = rw c.grow.ensures.words refl }))
