-- A list with its functions' bodies in their places, from numbered lists and back.
use Rattle.std.specs.Prelude.{ℕ, zero, suc, ◌+◌, ◌-◌, List, [], ◌∷◌, ◌++◌, length, get_or}
use Rattle.pcode.specs.Pcode.{Header, Action, plain, push, branch, define}
use Rattle.action_format.specs.Lists.{Lists, Single, simple, pushing, branching, single}

pub data Code : Type 0 where
  end : Code
  act : Single → (rest : Code) → Code
  fun : Header → (body rest : Code) → Code

-- list k is number k - 1 of the function lists, and no list goes deeper than there are lists

abbrev pub add : (ℕ → Code) → Action → Code → Code
add body (plain p) c = act (simple p) c
add body (push vs) c = act (pushing vs) c
add body (branch b p) c = act (branching b p) c
add body (define h k) c = fun h (body k) c

abbrev pub nest_list : (ℕ → Code) → List Action → Code
nest_list body [] = end
nest_list body (a ∷ xs) = add body a (nest_list body xs)

unfoldable pub nest : (depth : ℕ) → List (List Action) → List Action → Code
nest zero ls xs = end
nest (suc d) ls xs = nest_list (λ k. nest d ls (get_or ls (k - 1) [])) xs

abbrev pub code : Lists → Code
code l = nest (suc (length l.functions)) l.functions l.top

-- and back: the list itself, and those that finish in it, n having finished before

pub record Flat : Type 0 where
  pub own : List Action
  pub lists : List (List Action)

abbrev pub flat : ℕ → Code → Flat
flat n end = record { own = []; lists = [] }
flat n (act a c) = record { own = single a ∷ (flat n c).own; lists = (flat n c).lists }
flat n (fun h b c) =
    record {
      own = define h (suc (n + length (flat n b).lists)) ∷ (flat (suc (n + length (flat n b).lists)) c).own;
      lists = (flat n b).lists ++ ((flat n b).own ∷ (flat (suc (n + length (flat n b).lists)) c).lists);
    }

abbrev pub lists_of_outcome : Code → Lists
lists_of_outcome c = record { top = (flat 0 c).own; functions = (flat 0 c).lists }
