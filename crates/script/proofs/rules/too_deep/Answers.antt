-- `too_deep` meets its contract.
use Prim.Native.Nat.{ℕ, zero, suc, ◌<◌}
use mathlib.Core.Path.{◌≡◌, refl, sym}
use mathlib.Core.Bool.{false, true}
use native.Mathlib.Omega.{arith}
use Rattle.std.proofs.lemmas.Bool.{false≢true}
use Rattle.script.specs.Rules.{tree_in}
use Rattle.script.proofs.RuleLaws.{deep_start, deep_below, deep_pop, deep_full, deep_push, deep_end}
use Rattle.script.proofs.rules.too_deep.Goals as goal

none_left : (n : ℕ) → (0 < n → false ≡ true) → n ≡ 0
none_left zero h = refl
none_left (suc n) h = absurd (false≢true (h (omega arith)))

pub loop-start-init : goal.loop-start-init
unfolding tree_in
loop-start-init c = rw (c.push.ensures.items, c.new-starts.ensures) (deep_start _ _)

pub loop-start-preserved : goal.loop-start-preserved
loop-start-preserved c = deep_pop _ _ _ _ _ c.in-Some.ensures.items c.loop-start.invariant c.if-start-i.false

pub returns-then-len-eq128 : goal.returns-then-len-eq128
returns-then-len-eq128 c = sym (deep_full _ _ _ _ _ c.in-Some.ensures.items c.loop-start.invariant c.if-start-i.true (omega arith))

pub overflow_sub-i : goal.overflow_sub-i
overflow_sub-i c = deep_below _ _ _ _ _ c.in-Some.ensures.items c.loop-start.invariant

pub overflow_sub-i-then-start-i : goal.overflow_sub-i-then-start-i
overflow_sub-i-then-start-i c = let below = deep_below _ _ _ _ _ c.in-Some.ensures.items c.loop-start.invariant in omega arith

pub loop-start-smaller-then-start-i : goal.loop-start-smaller-then-start-i
loop-start-smaller-then-start-i c =
    let below = deep_below _ _ _ _ _ c.in-Some.ensures.items c.loop-start.invariant in
    omega (arith, c.in-Some.ensures.len, c.push-then-start-i.ensures.len, c.push-then-start-i-2.ensures.len)

pub loop-start-preserved-then-start-i : goal.loop-start-preserved-then-start-i
loop-start-preserved-then-start-i c =
    rw (c.push-then-start-i-2.ensures.items, c.push-then-start-i.ensures.items)
    (deep_push _ _ _ _ _ c.in-Some.ensures.items c.loop-start.invariant c.if-start-i.true (omega (arith, c.in-Some.ensures.len, c.loop-start.invariant.few)) c.last_tree-t.ensures)

pub returns : goal.returns
returns c = deep_end _ _ _ _ c.loop-start.invariant (none_left _ c.in_default.ensures.variant.1)
