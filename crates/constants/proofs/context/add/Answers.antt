use mathlib.Core.List.{[]}
use Rattle.constants.proofs.Added.{added_fine}
use Rattle.constants.proofs.context.add.Goals as goal

pub invariant_of-b : goal.invariant_of-b
invariant_of-b c = record { fine = added_fine [] _ _ c.args.s c.args.size c.args.h c.args.b.now.fine c.requires.room c.requires.h_bound c.requires.size_bound }
