use Rattle.std.proofs.Common.{rules, tests, take, drop, ◌+◌, ◌-◌}
use native.Mathlib.Omega.{arith}
use Rattle.std.proofs.lemmas.Iterator.{YieldsList-from_slice}
use Rattle.std.proofs.lemmas.Iterator.Search.{all_from_yields_List}
use Rattle.utf8.specs.Utf8.{in_range, tail}
use Rattle.utf8.proofs.Reading.{char_cut, char_refused, char_tested}
use Rattle.utf8.proofs.chars.is_char.Goals as goal

pub returns-then-s-i : goal.returns-then-s-i
returns-then-s-i g c = let p = c.requires in char_cut _ _ _ p.length.0 p.length.1 p.first.0 p.first.1 (omega arith)

pub returns-then-not-goes_on : goal.returns-then-not-goes_on
returns-then-not-goes_on g c = let p = c.requires in char_refused _ _ _ p.length.0 p.length.1 p.first.0 p.first.1 (omega arith) c.if-not-goes_on.ensures

pub returns : goal.returns
returns g c =
    let p = c.requires in
    let s = c.args.s.now in
    let i = c.args.i in
    let rest = take (i + g.row.N - (i + 2)) (drop (i + 2) s) in
    char_tested s i _ p.length.0 p.length.1 p.first.0 p.first.1 (omega arith) c.if-not-goes_on.ensures
    (all_from_yields_List (λ b. in_range b tail) _ _ c.all.result c.all.ensures.ran (YieldsList-from_slice rest cc) (λ x b q k. search (rules, tests)))
