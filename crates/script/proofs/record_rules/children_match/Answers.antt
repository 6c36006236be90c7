-- `children_match` meets its contract. The loop's invariant: what is left decides as the whole does.
use mathlib.Core.Path.{refl, sym, ◌∙◌}
use Rattle.script.proofs.RecordLaws.{match_short, match_ended, match_not, match_next}
use Rattle.script.proofs.record_rules.children_match.Goals as goal

pub loop-sort-init : goal.loop-sort-init
loop-sort-init c = rw (c.into_iter-sort-iterator.ensures.into_iter_gives, c.rev-sort-items.ensures.source, c.iter.ensures.rest, c.new-trees.ensures) (refl, refl)

pub returns-in_default : goal.returns-in_default
returns-in_default c =
    let i = c.loop-sort.invariant in
    sym (i.1 ∙ match_short _ _ _ _ c.in-Some.ensures.steps c.in_default.ensures.steps.0)

pub returns-then-not-is_sort : goal.returns-then-not-is_sort
returns-then-not-is_sort c =
    let i = c.loop-sort.invariant in
    let s = c.in-Some-next.ensures.steps in
    sym (i.1 ∙ match_not _ _ _ _ c.in-Some.ensures.steps (rw i.0 at s.last) s.some c.is_sort.ensures c.if-not-is_sort.true)

pub loop-sort-preserved : goal.loop-sort-preserved
loop-sort-preserved c =
    let i = c.loop-sort.invariant in
    let s = c.in-Some-next.ensures.steps in
    (s.script ∙ i.0, rw s.part (i.1 ∙ match_next _ _ _ _ c.in-Some.ensures.steps (rw i.0 at s.last) s.some c.is_sort.ensures c.if-not-is_sort.false))

pub returns : goal.returns
returns c =
    let i = c.loop-sort.invariant in
    match_ended _ _ _ _ _ c.in-None.ensures.steps.0 c.is_none.ensures c.next-2.ensures.steps ∙ sym i.1
