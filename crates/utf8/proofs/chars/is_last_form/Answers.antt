-- What is left can start no char.
use mathlib.Core.Path.{refl, sym, ◌∙◌}
use lib.Dec.{ltb}
use lib.ListN.{get_or}
use Prim.Native.Nat.{◌<◌}
use native.Mathlib.Omega.{arith}
use borrow.Author.Tests.{ltb-true, ltb-false}
use Rattle.utf8.proofs.Forms.{by_test}
use Rattle.utf8.proofs.Reading.{no_first, outside, stands_not}
use Rattle.utf8.proofs.chars.is_last_form.Goals as goal

pub returns-then-not-within : goal.returns-then-not-within
returns-then-not-within c =
    let a = c.args in
    let p = c.requires in
    let s = a.s.now in
    let i = a.i in
    let b = get_or s i 0 in
    stands_not 4
    (by_test (ltb b 0xC2) (λ t. no_first s i p.0 0x80 0xC1 p.1 (omega (arith, ltb-true)) refl)
    (λ t.
    let two = outside 0xC2 0xDF b p.2 (omega (arith, ltb-false)) in
    let three = outside 0xE0 0xEF b p.3 (omega arith) in
    let four : 0xF4 < b = outside 0xF0 0xF4 b (sym c.within.ensures ∙ c.if-not-within.true) (omega arith) in
    no_first s i p.0 0xF5 0xFF (omega arith) (omega (arith, c.type_inv.s i)) refl))
