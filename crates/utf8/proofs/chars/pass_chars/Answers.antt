use native.Mathlib.Omega.{arith}
use Rattle.utf8.proofs.Reading.{ascii_byte, passed_char, ran_further}
use Rattle.utf8.proofs.chars.pass_chars.Goals as goal

pub returns-then-s-i-lt128 : goal.returns-then-s-i-lt128
returns-then-s-i-lt128 c =
    let s = c.args.s.now in
    let p = c.loop-i.invariant in
    let q = passed_char 1 p (omega arith) (ascii_byte s c.loop-i.i (omega arith) c.if-s-i-lt128.true) in
    ran_further q (omega arith)
