-- The numbers that `all` goes over are those of the records.
use Rattle.std.proofs.Common.{rules, ℕ, tests}
use mathlib.Core.Path.{refl, ◌∙◌}
use native.Mathlib.Omega.{arith}
use Rattle.std.proofs.lemmas.Iterator.{YieldsList-from_range}
use Rattle.std.proofs.lemmas.Iterator.Search.{all_from_yields_List}
use Rattle.script_records.specs.Layout.{rows_of, row_in, supported}
use Rattle.script.specs.Rules.{all_supported}
use Rattle.script.proofs.RuleLaws.{below_range}
use Rattle.script.proofs.rules.kinds_supported.Goals as goal

pub returns : goal.returns
unfolding all_supported
returns c =
    let n = c.args.script.now.layout.count in
    let t = λ (i : ℕ). supported (row_in (rows_of c.args.script.now.bytes.now c.args.script.now.layout) i).kind in
    all_from_yields_List t _ _ c.all.result c.all.ensures.ran (YieldsList-from_range 0 n n refl (omega arith)) (λ x b q k. search (rules, tests)) ∙ below_range t n
