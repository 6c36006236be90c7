use Rattle.std.proofs.Common.{◌≡◌, ◌+◌, ◌-◌, ◌≤◌, ◌<◌, length, take, drop, rules, tests, arith}
use Rattle.std.proofs.lemmas.Grind.{common_steps}
use Rattle.std.proofs.lemmas.Iterator.{IsFirst-from_position, YieldsList-from_slice}
use Rattle.std.proofs.lemmas.Simd.{get_or-chunk}
use Rattle.utf8.proofs.Reading.{passed_none, passed_ascii}
use Rattle.utf8.proofs.ascii.bytes.Goals as goal

pub returns-in-Some : goal.returns-in-Some
returns-in-Some c =
    let s = c.args.s.now in
    let start = c.args.start in
    let n = c.in-Some.n in
    let rest = take (length s - start) (drop start s) in
    let f = IsFirst-from_position _ _ _ (λ x. 0x80 ≤ x) (λ x. x < 0x80) c.in-Some.ensures.ran (YieldsList-from_slice rest cc) (λ x q k. search (rules, tests)) (λ x q k. search (rules, tests)) in
    let m : length rest ≡ length s - start = grind (arith, common_steps) in
    let h : start + n ≤ length s = omega (arith, f.0) in
    passed_ascii n (passed_none s start c.requires) h (record { each = λ k l. let q : k < length s - start = omega (arith, f.0) in rw get_or-chunk at (f.2 k 0 (omega arith) l) })

pub returns-in-None : goal.returns-in-None
returns-in-None c =
    let s = c.args.s.now in
    let start = c.args.start in
    let e : start + (length s - start) ≡ length s = omega arith in
    rw (← e) (passed_ascii (length s - start) (passed_none s start c.requires) (omega arith) (record { each = λ k l. grind (arith, common_steps) }))
