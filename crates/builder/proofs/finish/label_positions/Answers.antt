use mathlib.Core.Path.{ap}
use Rattle.builder.proofs.FinishWords.{places_holds, places_again, places_done}
use Rattle.builder.proofs.finish.label_positions.Goals as goal

pub loop-i-init : goal.loop-i-init
loop-i-init c = places_holds c.requires.whole

pub loop-i-preserved : goal.loop-i-preserved
loop-i-preserved c = places_again c.requires c.loop-i.invariant c.loop-i-test.true c.set_place_at.ensures (ap (λ x. x.code) c.entry_at-code.ensures) c.actions_added-position.ensures

pub returns : goal.returns
returns c = λ F. places_done c.loop-i.invariant c.loop-i-test.false F
