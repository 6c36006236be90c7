-- Reading list by list, with a stack of open bodies: what the bytes left give after what has been read.
use Rattle.std.specs.Prelude.{ℕ, suc, List, [], ◌∷◌, ◌++◌, length}
use Rattle.std.proofs.Math.Option.{Option, none, some, map}
use Rattle.pcode.specs.Pcode.{Header, Action, plain, push, branch, define}
use Rattle.action_format.specs.Lists.{Lists}
use Rattle.action_format.specs.Code.{Code, end, nest, flat}
use Rattle.action_format.specs.Bytes.{Bytes}
use Rattle.action_format.specs.Offsets.{sizes, after_record, moved, place_at_index, and_then, both}
use Rattle.action_format.specs.Decode.{read_list, ended}

-- a function whose body is being read: its header, the actions so far of the list around it, and the bytes after the body
pub record Open : Type 0 where
  pub header : Header
  pub around : List Action
  pub rest : Bytes

-- a list's own actions and the finished lists, with what is still to be read of that list

abbrev pub own_with : List Action → List (List Action) → Code → List Action
own_with own ls c = own ++ (flat (length ls) c).own

abbrev pub lists_with : List (List Action) → Code → List (List Action)
lists_with ls c = ls ++ (flat (length ls) c).lists

abbrev pub if_empty : {A : Type 0} → Bytes → Option A → Option A
if_empty [] x = x
if_empty (b ∷ r) x = none

-- the lists, branches by offset, from the actions of the present list, the finished lists and the bytes left
abbrev pub Rest : Type 0
Rest = List Action → List (List Action) → Bytes → Option Lists

-- a body ends where its bytes do: its list is finished, and its function is an action of the list around it
abbrev pub close : Rest → Open → Rest
close k f own ls r = if_empty r (k (f.around ++ (define f.header (suc (length ls)) ∷ [])) (ls ++ (own ∷ [])) f.rest)

abbrev pub lists_from : List Action → List (List Action) → Lists
lists_from t fs = record { top = t; functions = fs }

-- the top list ends in End
abbrev pub finish : Rest
finish own ls r = map (λ (c : Code). lists_from own ls) (ended end r)

abbrev pub after_list : Rest → Rest
after_list k own ls r = and_then (read_list r) (λ x. k (own_with own ls x.0) (lists_with ls x.0) x.1)

-- what comes after the present list, the innermost function first
abbrev pub ending : List Open → Rest
ending [] = finish
ending (f ∷ fs) = close (after_list (ending fs)) f

abbrev pub resume : List Open → Rest
resume fs = after_list (ending fs)

-- offsets to places, list by list

abbrev pub action_place : (sizes : List ℕ) → (i : ℕ) → Action → Option Action
action_place ss i (plain p) = some (plain p)
action_place ss i (push vs) = some (push vs)
action_place ss i (branch b o) = map (branch b) (and_then (moved (after_record ss i) o) (place_at_index ss))
action_place ss i (define h k) = some (define h k)

abbrev pub resolve_list : (sizes : List ℕ) → (i : ℕ) → List Action → Option (List Action)
resolve_list ss i [] = some []
resolve_list ss i (a ∷ xs) = both ◌∷◌ (action_place ss i a) (resolve_list ss (suc i) xs)

abbrev pub resolve_lists : (List Action → List ℕ) → List (List Action) → Option (List (List Action))
resolve_lists f [] = some []
resolve_lists f (xs ∷ ls) = both ◌∷◌ (resolve_list (f xs) 0 xs) (resolve_lists f ls)

-- the sizes of a list's actions, the functions' bodies in their places
abbrev pub list_sizes : List (List Action) → List Action → List ℕ
list_sizes ls xs = sizes (nest (suc (length ls)) ls xs)

abbrev pub resolve : Lists → Option Lists
resolve l = both lists_from (resolve_list (list_sizes l.functions l.top) 0 l.top) (resolve_lists (list_sizes l.functions) l.functions)
