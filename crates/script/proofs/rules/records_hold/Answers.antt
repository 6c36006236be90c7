-- The numbers that `all` goes over are those of the records.
use Rattle.std.proofs.Common.{rules, tests}
use mathlib.Core.Path.{refl, ◌∙◌}
use native.Mathlib.Omega.{arith}
use Rattle.std.proofs.lemmas.Iterator.{YieldsList-from_range}
use Rattle.std.proofs.lemmas.Iterator.Search.{all_from_yields_List}
use Rattle.script_records.specs.Layout.{rows_of}
use Rattle.script.specs.Rules.{record_holds}
use Rattle.script.proofs.RuleLaws.{below_range}
use Rattle.script.proofs.rules.records_hold.Goals as goal

pub returns-then-all : goal.returns-then-all
returns-then-all c =
    let n = c.args.script.now.layout.count in
    let t = record_holds c.args.script.now.layout.strings (rows_of c.args.script.now.bytes.now c.args.script.now.layout) in
    let e = all_from_yields_List t _ _ c.all.result c.all.ensures.ran (YieldsList-from_range 0 n n refl (omega arith)) (λ x b q k. search (rules, tests)) ∙ below_range t n in
    rw (← e, c.if-all.true, c.root_holds.ensures) refl

pub returns-else-all : goal.returns-else-all
returns-else-all c =
    let n = c.args.script.now.layout.count in
    let t = record_holds c.args.script.now.layout.strings (rows_of c.args.script.now.bytes.now c.args.script.now.layout) in
    let e = all_from_yields_List t _ _ c.all.result c.all.ensures.ran (YieldsList-from_range 0 n n refl (omega arith)) (λ x b q k. search (rules, tests)) ∙ below_range t n in
    rw (← e, c.if-all.false) refl
