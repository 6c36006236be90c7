use mir.Syntax.{w32}
use mir.ValLaws.{to_z-of_z}
use Rattle.leaves.proofs.Numbers.{is_least, not_least, negative_word}
use Rattle.leaves.proofs.negate_integer.Goals as goal

pub returns-in-Some : goal.returns-in-Some
returns-in-Some c = λ F.
    let h = rw (to_z-of_z w32 c.args.n c.ranges.n) at c.in-Some.ensures in
    rw (not_least c.args.n c.ranges.n h.0, ← negative_word c.args.n c.ranges.n, ← h.1) (rw (to_z-of_z w32 c.in-Some.m (rw h.1 h.0)) at (c.push.ensures.runs F tt))

pub returns-in-None : goal.returns-in-None
returns-in-None c = λ F. rw (is_least c.args.n c.ranges.n (rw (to_z-of_z w32 c.args.n c.ranges.n) at c.in-None.ensures)) (c.refuse.ensures.runs F)
