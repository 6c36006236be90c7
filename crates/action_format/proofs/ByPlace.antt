-- Lists by place: a label that is marked once leads to its mark, and no place is past the list's end.
use Prim.Native.Nat.{ℕ, zero, suc, ◌+◌, ◌≤◌}
use mathlib.Core.Path.{◌≡◌, refl, ap, ◌∙◌, subst}
use mathlib.Core.List.{List, [], ◌∷◌, ◌++◌, map, reverse, reverse-cons, append-nil}
use mathlib.Core.Option.{some}
use mathlib.Core.Bool.{Bool, true, false}
use native.Mathlib.Omega.{arith}
use lib.Dec.{eqb}
use lib.ListN.{length, get_elem?, length-append, length-map}
use Rattle.pcode.specs.Pcode.{Action, Item, action, mark}
use Rattle.action_format.specs.ByPlace.{actions, marked, first_or, place_of_label, rebranch, items_by_place}
use Rattle.action_format.proofs.Tests.{All, never, some_of}

-- items after others, and backwards

pub actions_append : (xs ys : List Item) → actions (xs ++ ys) ≡ actions xs ++ actions ys
actions_append [] ys = refl
actions_append (action a ∷ xs) ys = ap (λ (l : List Action). a ∷ l) (actions_append xs ys)
actions_append (mark m ∷ xs) ys = actions_append xs ys

pub actions_reverse : (is : List Item) → length (actions (reverse is)) ≡ length (actions is)
actions_reverse [] = refl
actions_reverse (action a ∷ is) =
    rw (reverse-cons (action a) is, actions_append (reverse is) (action a ∷ []), length-append (actions (reverse is)) (a ∷ []), actions_reverse is) (omega arith)
actions_reverse (mark l ∷ is) = rw (reverse-cons (mark l) is, actions_append (reverse is) (mark l ∷ []), append-nil (actions (reverse is))) (actions_reverse is)

pub marked_append : (n l : ℕ) (xs ys : List Item) → marked n l (xs ++ ys) ≡ marked n l xs ++ marked (n + length (actions xs)) l ys
marked_append n l [] ys = ap (λ (k : ℕ). marked k l ys) (omega arith)
marked_append n l (action a ∷ xs) ys = marked_append (suc n) l xs ys ∙ ap (λ (k : ℕ). marked (suc n) l xs ++ marked k l ys) (omega arith)
marked_append n l (mark m ∷ xs) ys = go (eqb m l) (marked_append n l xs ys)
  where
    go : (t : Bool) → marked n l (xs ++ ys) ≡ marked n l xs ++ marked (n + length (actions xs)) l ys →
        elim t as (λ _. List ℕ) [ true ↦ n ∷ marked n l (xs ++ ys) | false ↦ marked n l (xs ++ ys) ]
        ≡ elim t as (λ _. List ℕ) [ true ↦ n ∷ marked n l xs | false ↦ marked n l xs ] ++ marked (n + length (actions xs)) l ys
    go true e = ap (λ (r : List ℕ). n ∷ r) e
    go false e = e

pub marked_once : (is : List Item) (l p : ℕ) → marked 0 l is ≡ p ∷ [] → place_of_label is l ≡ p
marked_once is l p e = rw e

marks_inside : (n l : ℕ) (is : List Item) → All (λ p. p ≤ n + length (actions is)) (marked n l is)
marks_inside n l [] = tt
marks_inside n l (action a ∷ is) =
    let e : suc n + length (actions is) ≡ n + suc (length (actions is)) = omega arith in
    subst (λ (m : ℕ). All (λ p. p ≤ m) (marked (suc n) l is)) e (marks_inside (suc n) l is)
marks_inside n l (mark m ∷ is) = go (eqb m l) (marks_inside n l is)
  where
    go : (t : Bool) → All (λ p. p ≤ n + length (actions is)) (marked n l is) →
        All (λ p. p ≤ n + length (actions is)) (elim t as (λ _. List ℕ) [ true ↦ n ∷ marked n l is | false ↦ marked n l is ])
    go true h = (omega arith, h)
    go false h = h

pub place_inside : (is : List Item) (l : ℕ) → place_of_label is l ≤ length (items_by_place is)
place_inside is l = rw (length-map (actions is) (rebranch (place_of_label is))) (go (marked 0 l is) (marks_inside 0 l is))
  where
    go : (ps : List ℕ) → All (λ p. p ≤ 0 + length (actions is)) ps → first_or (length (actions is)) ps ≤ length (actions is)
    go [] h = omega arith
    go (p ∷ ps) h = omega (arith, h.0)

-- marks go, each branch names its label's place, all else stays
pub by_place_at : (is : List Item) (i : ℕ) (a : Action) → get_elem? (actions is) i ≡ some a → get_elem? (items_by_place is) i ≡ some (rebranch (place_of_label is) a)
by_place_at is i a e = go (actions is) i e
  where
    go : (xs : List Action) (i : ℕ) → get_elem? xs i ≡ some a → get_elem? (map (rebranch (place_of_label is)) xs) i ≡ some (rebranch (place_of_label is) a)
    go [] i e = never a e
    go (x ∷ xs) zero e = ap (λ (z : Action). some (rebranch (place_of_label is) z)) (some_of e)
    go (x ∷ xs) (suc i) e = go xs i e
