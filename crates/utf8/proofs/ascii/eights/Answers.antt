use mathlib.Core.Path.{◌≡◌}
use native.Mathlib.Omega.{arith}
use Rattle.utf8.proofs.Reading.{ascii_word, passed_ascii}
use Rattle.utf8.proofs.ascii.eights.Goals as goal

pub returns-then-n-lt8 : goal.returns-then-n-lt8
returns-then-n-lt8 c =
    let (h, a) = ascii_word _ _ c.in-Some.ensures.cases c.leading-n.ensures.0 c.leading-n.ensures.1 in
    passed_ascii _ c.loop-word.invariant h a

pub loop-word-preserved : goal.loop-word-preserved
loop-word-preserved c =
    let e : c.leading-n.result ≡ 8 = omega arith in
    let (h, a) = ascii_word _ _ c.in-Some.ensures.cases c.leading-n.ensures.0 c.leading-n.ensures.1 in
    passed_ascii 8 c.loop-word.invariant (omega arith) (rw (← e) a)
