-- A list by place: each branch holds, instead of its label, the place where its list marks that label.
use Rattle.std.specs.Prelude.{ℕ, suc, List, [], ◌∷◌, map, true, false, eqb, length}
use Rattle.pcode.specs.Pcode.{Action, Item, plain, push, branch, define, action, mark}

-- marks go
abbrev pub actions : List Item → List Action
actions [] = []
actions (action a ∷ is) = a ∷ actions is
actions (mark l ∷ is) = actions is

-- the places where a list marks a label, so many of its actions having come before
abbrev pub marked : (before label : ℕ) → List Item → List ℕ
marked n l [] = []
marked n l (action a ∷ is) = marked (suc n) l is
marked n l (mark m ∷ is) = elim (eqb m l) [ true ↦ n ∷ marked n l is | false ↦ marked n l is ]

abbrev pub first_or : ℕ → List ℕ → ℕ
first_or n [] = n
first_or n (p ∷ ps) = p

-- a label that is not marked would lead to the list's end
abbrev pub place_of_label : List Item → (label : ℕ) → ℕ
place_of_label is l = first_or (length (actions is)) (marked 0 l is)

abbrev pub rebranch : (ℕ → ℕ) → Action → Action
rebranch f (plain p) = plain p
rebranch f (push vs) = push vs
rebranch f (branch b l) = branch b (f l)
rebranch f (define h n) = define h n

abbrev pub items_by_place : List Item → List Action
items_by_place is = map (rebranch (place_of_label is)) (actions is)
