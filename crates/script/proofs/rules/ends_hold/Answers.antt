-- The numbers that `all` goes over are those of the strings.
use Rattle.std.proofs.Common.{rules, tests, ℕ}
use mathlib.Core.Path.{refl, ◌∙◌}
use native.Mathlib.Omega.{arith}
use Rattle.std.proofs.lemmas.Iterator.{YieldsList-from_range}
use Rattle.std.proofs.lemmas.Iterator.Search.{all_from_yields_List}
use lib.Dec.{leb}
use Rattle.script_records.specs.Layout.{start_at, end_at}
use Rattle.script.proofs.RuleLaws.{below_range}
use Rattle.script.proofs.rules.ends_hold.Goals as goal

pub returns-then-all : goal.returns-then-all
returns-then-all c =
    let n = c.args.script.now.layout.strings in
    let F = c.args.script.now.bytes.now in
    let l = c.args.script.now.layout in
    let t = λ (i : ℕ). leb (start_at F l i) (end_at F l i) in
    let e = all_from_yields_List t _ _ c.all.result c.all.ensures.ran (YieldsList-from_range 0 n n refl (omega arith)) (λ x b q k. search (rules, tests)) ∙ below_range t n in
    rw (← e, c.if-all.true, c.start_at.ensures) refl

pub returns-else-all : goal.returns-else-all
returns-else-all c =
    let n = c.args.script.now.layout.strings in
    let F = c.args.script.now.bytes.now in
    let l = c.args.script.now.layout in
    let t = λ (i : ℕ). leb (start_at F l i) (end_at F l i) in
    let e = all_from_yields_List t _ _ c.all.result c.all.ensures.ran (YieldsList-from_range 0 n n refl (omega arith)) (λ x b q k. search (rules, tests)) ∙ below_range t n in
    rw (← e, c.if-all.false) refl
