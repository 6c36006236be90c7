-- The numbers that `all` goes over are those of the strings.
use Rattle.std.proofs.Common.{rules, tests, ℕ}
use mathlib.Core.Path.{refl, ◌∙◌}
use native.Mathlib.Omega.{arith}
use Rattle.std.proofs.lemmas.Iterator.{YieldsList-from_range}
use Rattle.std.proofs.lemmas.Iterator.Search.{all_from_yields_List}
use Rattle.script_records.specs.Layout.{string_at}
use Rattle.utf8.specs.Utf8.{utf8}
use Rattle.script.proofs.RuleLaws.{strings_all}
use Rattle.script.proofs.rules.strings_hold.Goals as goal

pub returns : goal.returns
returns c =
    let F = c.args.script.now.bytes.now in
    let l = c.args.script.now.layout in
    let n = l.strings in
    let t = λ (i : ℕ). utf8 (string_at F l i) in
    all_from_yields_List t _ _ c.all.result c.all.ensures.ran (YieldsList-from_range 0 n n refl (omega arith)) (λ x b q k. search (rules, tests)) ∙ strings_all F l
