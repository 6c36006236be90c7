use Rattle.builder.proofs.FinishWords.{functions_holds, functions_again, functions_done, next_standing}
use Rattle.builder.proofs.finish.function_positions.Goals as goal

pub loop-i-init : goal.loop-i-init
loop-i-init c = functions_holds c.requires

pub label_positions-requires : goal.label_positions-requires
label_positions-requires c = next_standing c.loop-i.invariant c.loop-i-test.true

pub loop-i-preserved : goal.loop-i-preserved
loop-i-preserved c = functions_again c.loop-i.invariant c.loop-i-test.true c.label_positions.ensures

pub returns : goal.returns
returns c = functions_done c.loop-i.invariant c.loop-i-test.false
