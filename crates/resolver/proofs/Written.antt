-- The bytes of a body, as a writer that walks its list appends them.
use Prim.Native.Nat.{ℕ, suc, ◌+◌, ◌<◌}
use mathlib.Core.Path.{◌≡◌, refl, sym, ap, ap₂, ◌∙◌}
use mathlib.Core.List.{List, [], ◌∷◌, ◌++◌, map, reverse, append_assoc, append-nil}
use native.Mathlib.Omega.{arith}
use native.Mathlib.Nat.{zero-add}
use lib.ListN.{length, length-map}
use Rattle.pcode.specs.Pcode.{Action, Item, action, mark}
use Rattle.script.specs.Write.{Bytes}
use Rattle.action_format.specs.ByPlace.{actions, place_of_label, rebranch}
use Rattle.action_format.specs.Lists.{Lists}
use Rattle.action_format.specs.ByList.{body_bytes, action_bytes_at, actions_bytes}
use Rattle.action_format.proofs.Landing.{by_actions}
use Rattle.list_slice.proofs.Read.{map_append}
use Rattle.definition.specs.Outcome.{by_place}
use Rattle.definition.specs.Demand3.{list_at}
use Rattle.resolver.specs.Lowered.{Lowered}
use Rattle.resolver.specs.Walk.{count_of, walked_bytes}
use Rattle.resolver.specs.Passes.{walked_at, number_at}
use Rattle.resolver.proofs.Whole.{walked_list}
use Rattle.definition.proofs.Branches.{list_by_place}
use Rattle.action_format.proofs.ByPlace.{actions_append, actions_reverse}
use Rattle.resolver.proofs.Sizing.{reverse_more, lists, rules}

bytes_last : (l : Lists) (k i : ℕ) (xs : List Action) (a : Action) → actions_bytes l k i (xs ++ (a ∷ [])) ≡ actions_bytes l k i xs ++ action_bytes_at l k (i + length xs) a
bytes_last l k i [] a = let z : i ≡ i + 0 = omega arith in append-nil (action_bytes_at l k i a) ∙ ap (λ (n : ℕ). action_bytes_at l k n a) z
bytes_last l k i (x ∷ xs) a =
    let z : suc i + length xs ≡ i + suc (length xs) = omega arith in
    ap (λ (r : List ℕ). action_bytes_at l k i x ++ r) (bytes_last l k (suc i) xs a ∙ ap (λ (n : ℕ). actions_bytes l k (suc i) xs ++ action_bytes_at l k n a) z)
    ∙ sym (append_assoc (action_bytes_at l k i x) (actions_bytes l k (suc i) xs) (action_bytes_at l k (i + suc (length xs)) a))

pub walked_bytes_are : (l : Lists) (k : ℕ) (f : ℕ → ℕ) (is : List Item) → walked_bytes l k f is ≡ actions_bytes l k 0 (map (rebranch f) (actions (reverse is)))
unfolding walked_bytes
walked_bytes_are l k f [] = refl
walked_bytes_are l k f (action a ∷ is) =
    let n : length (actions is) ≡ 0 + length (map (rebranch f) (actions (reverse is))) =
    sym (zero-add (length (map (rebranch f) (actions (reverse is)))) ∙ length-map (actions (reverse is)) (rebranch f) ∙ actions_reverse is) in
    ap₂ (λ (r : List ℕ) (m : ℕ). r ++ action_bytes_at l k m (rebranch f a)) (walked_bytes_are l k f is) n
    ∙ sym (bytes_last l k 0 (map (rebranch f) (actions (reverse is))) (rebranch f a))
    ∙ ap (actions_bytes l k 0) (sym (ap (λ (js : List Item). map (rebranch f) (actions js)) (reverse_more (action a) is)
    ∙ ap (map (rebranch f)) (actions_append (reverse is) (action a ∷ [])) ∙ map_append (rebranch f) (actions (reverse is)) (a ∷ [])))
walked_bytes_are l k f (mark m ∷ is) =
    walked_bytes_are l k f is ∙ ap (λ (xs : List Action). actions_bytes l k 0 (map (rebranch f) xs))
    (sym (ap actions (reverse_more (mark m) is) ∙ actions_append (reverse is) (mark m ∷ []) ∙ append-nil (actions (reverse is))))

module _ {F w : List ℕ} (h : Lowered F w) (bytes : Bytes F) where
  -- the body of the list at place j
  pub body_walked : (j : ℕ) → j < count_of w → body_bytes (by_place h.lists) (number_at (count_of w) j) ≡
      walked_bytes (by_place h.lists) (number_at (count_of w) j) (place_of_label (list_at h.lists (number_at (count_of w) j))) (walked_at F w j)
  body_walked j b =
      let k : ℕ = number_at (count_of w) j in
      let f : ℕ → ℕ = place_of_label (list_at h.lists k) in
      by_actions (lists h bytes) (rules h bytes) k
      ∙ ap (actions_bytes (lists h bytes) k 0) (list_by_place h.lists k ∙ ap (λ (is : List Item). map (rebranch f) (actions is)) (sym (walked_list h j b)))
      ∙ sym (walked_bytes_are (lists h bytes) k f (walked_at F w j))
