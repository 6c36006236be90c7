use Rattle.std.proofs.Common.{refl, add-one}
use Rattle.resolver.specs.Passes.{clear_lists}
use Rattle.resolver.proofs.lists.Lists.clear_lists.Goals as goal

pub loop-j-init : goal.loop-j-init
unfolding clear_lists
loop-j-init c = refl

pub loop-j-preserved : goal.loop-j-preserved
unfolding clear_lists
loop-j-preserved c = rw (add-one c.loop-j.j, c.clear_list-clear.ensures, c.loop-j.invariant)
