use mir.Syntax.{w32}
use mir.ValLaws.{to_z-of_z}
use borrow.Author.Rules.{rules}
use Rattle.access.proofs.Texts.{cast_back}
use Rattle.leaves.proofs.push_count.Goals as goal

pub returns : goal.returns
returns c = λ F. rw (to_z-of_z w32 c.cast_signed.result (search rules), c.cast_signed.ensures, cast_back c.args.n (search rules)) at (c.push.ensures.runs F tt)
