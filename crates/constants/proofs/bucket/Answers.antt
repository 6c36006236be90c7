use native.Mathlib.Omega.{arith}
use Rattle.constants.proofs.HashLaws.{hash_short, hashed_none, hashed_more, hashed_all}
use Rattle.constants.proofs.bucket.Goals as goal

pub returns-then-n-lt4 : goal.returns-then-n-lt4
returns-then-n-lt4 c = (hash_short c.args.s.now c.if-n-lt4.true c.short_word-w.ensures.0 c.mixed.ensures.0, omega arith)

pub loop-k-init : goal.loop-k-init
loop-k-init c = hashed_none _

pub loop-k-preserved : goal.loop-k-preserved
loop-k-preserved c = hashed_more c.loop-k.invariant (omega (arith, c.loop-k-test.true, c.rounds-k-end.ensures.0)) c.word.ensures.0 c.word-in-loop-k.ensures.0 c.mixed-h.ensures

pub returns : goal.returns
returns c = (hashed_all c.loop-k.invariant (omega (arith, c.loop-k-test.false, c.rounds-k-end.ensures.0)), omega arith)
