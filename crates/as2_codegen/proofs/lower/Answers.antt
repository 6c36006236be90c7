use native.Mathlib.Omega.{arith}
use mathlib.Core.Path.{◌∙◌}
use Rattle.as2_codegen.proofs.Copying.{cleared, cleared_long}
use Rattle.as2_codegen.proofs.lower.Goals as goal

pub returns : goal.returns
returns c =
    let words = c.generate.new.words in
    let e = c.fill.ensures.after (λ y e. e) in
    rw (cleared_long words (omega (arith, c.generate.auto.words, c.requires.in_bounds)) e ∙ c.generate.auto.words) at (c.in_default.ensures _ (cleared words (omega (arith, c.generate.auto.words, c.requires.in_bounds)) e))
