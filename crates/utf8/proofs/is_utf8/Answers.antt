use mathlib.Core.Path.{sym}
use native.Mathlib.Omega.{arith}
use Rattle.utf8.proofs.Reading.{at_end, passed_on, answer}
use Rattle.utf8.proofs.is_utf8.Goals as goal

pub returns-then-start-s : goal.returns-then-start-s
returns-then-start-s c =
    let p = passed_on c.loop-i.invariant (passed_on c.pass_windows.ensures c.eights-start.ensures) in
    answer p (at_end c.args.s.now c.eights-start.result (omega arith))

pub returns-then-next-start : goal.returns-then-next-start
returns-then-next-start c =
    let p = passed_on c.loop-i.invariant (passed_on c.pass_windows.ensures c.eights-start.ensures) in
    answer p (sym (c.pass_chars-next.ensures.refused c.if-next-start.true))

pub returns : goal.returns
returns c = answer c.loop-i.invariant (at_end c.args.s.now c.loop-i.i (omega arith))
