-- What the passes find is what the definition says.
use Rattle.resolver.proofs.Sizing.{sized}
use Rattle.resolver.proofs.Answers.{resolves}
use Rattle.resolver.proofs.Passing.{answer_zero, answer_refused, answer_passed}
use Rattle.resolver.proofs.lists.Lists.resolve.Goals as goal

pub returns-then-not-clear_lists : goal.returns-then-not-clear_lists
returns-then-not-clear_lists c = λ h.
    let l = c.args.self.now in
    resolves h l.bytes (answer_zero _ _ (rw l.counted at c.clear_lists.ensures) c.if-not-clear_lists.true (sized h l.bytes) _ _)

pub returns-in_err-measure_lists : goal.returns-in_err-measure_lists
returns-in_err-measure_lists c = λ h.
    let l = c.args.self.now in
    resolves h l.bytes (answer_refused _ _ (rw l.counted at c.clear_lists.ensures) c.if-not-clear_lists.false c.measure_lists.ensures c.in_err-measure_lists.was _ c.from_residual.ensures.1 (sized h l.bytes))

pub returns : goal.returns
returns c = λ h.
    let l = c.args.self.now in
    resolves h l.bytes (answer_passed _ _ (rw l.counted at c.clear_lists.ensures) c.if-not-clear_lists.false c.measure_lists.ensures c.in_ok-measure_lists.was (sized h l.bytes))
