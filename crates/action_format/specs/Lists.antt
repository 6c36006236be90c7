-- The lists of a script by place, and how they are numbered.
use Rattle.std.specs.Prelude.{ℕ, suc, ◌<◌, List, [], ◌∷◌, map, Bool, true, ◌&&◌, length, get_or}
use Rattle.pcode.specs.Pcode.{Value, Header, Branching, Plain, Action, Item, plain, push, branch, define}
use Rattle.action_format.specs.ByPlace.{items_by_place}

-- list 0, and the function lists from number 1 on
pub record Lists : Type 0 where
  pub top : List Action
  pub functions : List (List Action)

abbrev pub all_lists : Lists → List (List Action)
all_lists l = l.top ∷ l.functions

abbrev pub lists_by_place : (top : List Item) → (functions : List (List Item)) → Lists
lists_by_place t fs = record { top = items_by_place t; functions = map items_by_place fs }

abbrev pub all : {A : Type 0} → (A → Bool) → List A → Bool
all f [] = true
all f (x ∷ xs) = f x && all f xs

abbrev pub all_actions : (Action → Bool) → Lists → Bool
all_actions f l = all (all f) (all_lists l)

-- an action without a body
pub data Single : Type 0 where
  simple : Plain → Single
  pushing : List Value → Single
  branching : Branching → ℕ → Single

abbrev pub single : Single → Action
single (simple p) = plain p
single (pushing vs) = push vs
single (branching b p) = branch b p

-- the functions of a list are numbered as they finish: from n finished lists to m
pub data Numbered (ls : List (List Action)) : ℕ → List Action → ℕ → Type 0 where
  stop : {n : ℕ} → Numbered ls n [] n
  one : (a : Single) {xs : List Action} {n m : ℕ} → Numbered ls n xs m → Numbered ls n (single a ∷ xs) m
  function : {h : Header} {xs : List Action} {n m k : ℕ} → k < length ls → Numbered ls n (get_or ls k []) k → Numbered ls (suc k) xs m →
      Numbered ls n (define h (suc k) ∷ xs) m
