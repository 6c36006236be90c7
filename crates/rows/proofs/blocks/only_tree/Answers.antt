use mathlib.Core.Path.{refl, sym, ◌∙◌}
use Rattle.rows.proofs.Innermost.{only_start, only_out, only_in, only_found, none_found}
use Rattle.rows.proofs.blocks.only_tree.Goals as goal

pub loop-init : goal.loop-init
loop-init c = only_start _ _ _ c.args.row.now refl

pub returns-in_default : goal.returns-in_default
returns-in_default c = only_found c.args.row.now c.args.lp c.loop.found c.loop.invariant c.in_default.ensures.steps.0

pub loop-preserved-then-is_passed : goal.loop-preserved-then-is_passed
loop-preserved-then-is_passed c =
    let s = c.in-Some.ensures.steps in
    only_out _ _ _ c.loop.invariant s.1 s.2 (rw (s.0, c.loop.invariant.script) at (sym c.is_passed.ensures) ∙ c.if-is_passed.true)

pub loop-preserved : goal.loop-preserved
loop-preserved c =
    let s = c.in-Some.ensures.steps in
    rw s.0 (only_in _ _ _ c.loop.invariant s.1 s.2 (none_found _ c.if-is_some.ensures))
