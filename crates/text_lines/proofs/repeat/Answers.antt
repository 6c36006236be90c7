use Rattle.std.proofs.Common.{◌≡◌, ℕ, ◌+◌, ◌-◌, ◌%◌, ◌<◌, ◌≤◌, List, ◌++◌, length, take, slice_index, sym, ap, ◌∙◌, inl, inr, arith, zero-add, mod-eq_of_lt, length-take-le}
use Rattle.std.proofs.lemmas.Bool.{cases_lt}
use Rattle.std.proofs.lemmas.Grind.{common_steps}
use Rattle.std.proofs.lemmas.List.{get_or_append_left, get_or-take}
use native.Mathlib.Nat.{mod-add-mod, mod_self}
use Rattle.text_lines.proofs.repeat.Goals as goal

first_filled : (part first rest : List ℕ) (n : ℕ) → first ≡ take n part → n ≤ length part →
    (k : ℕ) → k < n → slice_index (first ++ rest) k ≡ slice_index part (k % length part)
first_filled part first rest n e le k h =
    let len : length first ≡ n = ap length e ∙ length-take-le n part le in
    let place : k % length part ≡ k = mod-eq_of_lt (omega arith) in
    get_or_append_left first rest 0 k (omega arith) ∙ ap (λ l. slice_index l k) e ∙ get_or-take n part k 0 h ∙ ap (slice_index part) (sym place)

-- behind whole parts the part begins anew
anew : (n j m : ℕ) → n % m ≡ 0 → (n + j) % m ≡ j % m
anew n j m h = sym (mod-add-mod n m j) ∙ ap (λ x. (x + j) % m) h ∙ ap (λ x. x % m) (zero-add j)

filled_more : (part old new : List ℕ) (d n m : ℕ) → d % m ≡ 0 → n ≤ d →
    ((k : ℕ) → k < d → slice_index old k ≡ slice_index part (k % m)) →
    ((k : ℕ) → k < d → slice_index new k ≡ slice_index old k) →
    ((k : ℕ) → d ≤ k → k < d + n → slice_index new k ≡ slice_index old (k - d)) →
    (k : ℕ) → k < d + n → slice_index new k ≡ slice_index part (k % m)
filled_more part old new d n m whole le filled below above k h = elim (cases_lt k d) [
  | inl b ↦ below k b ∙ filled k b
  | inr a ↦
      let same : d + (k - d) ≡ k = omega arith in
      let place : (k - d) % m ≡ k % m = sym (anew d (k - d) m whole) ∙ ap (λ x. x % m) same in
      above k a h ∙ filled (k - d) (omega arith) ∙ ap (slice_index part) place
]

pub loop-done-init : goal.loop-done-init
loop-done-init c =
    let n = c.min-done.result in
    let m = length c.args.part.now in
    record {
      in_bounds = grind (arith, common_steps);
      begun = grind (arith, common_steps);
      whole = λ h. let e : n ≡ m = grind (arith, common_steps) in ap (λ x. x % m) e ∙ mod_self m;
      filled = first_filled c.args.part.now c.copy_from_slice.new.self _ n c.copy_from_slice.ensures.after (omega arith);
    }

pub loop-done-preserved : goal.loop-done-preserved
loop-done-preserved c =
    let d = c.loop-done.done in
    let n = c.min-n.result in
    let m = length c.args.part.now in
    let copied = c.copy_within.ensures.by_index in
    let whole = c.loop-done.invariant.whole c.loop-done-test.true in
    record {
      in_bounds = omega arith;
      begun = omega arith;
      whole = λ h. let e : n ≡ d = omega arith in anew d n m whole ∙ ap (λ x. x % m) e ∙ whole;
      filled = filled_more c.args.part.now c.loop-done.to c.copy_within.new.self d n m whole (omega arith) c.loop-done.invariant.filled
          (λ k h. copied.1 k 0 h) (λ k a h. copied.0 k 0 a (omega arith) ∙ ap (slice_index c.loop-done.to) (zero-add (k - d)));
    }
