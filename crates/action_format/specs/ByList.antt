-- The bytes list by list: bodies, where places begin in them, and the tests of refusals 10 and 11 at each action.
use Rattle.std.specs.Prelude.{ℕ, suc, List, [], ◌∷◌, ◌++◌, Bool, true, ◌&&◌, leb, length, get_or}
use Rattle.pcode.specs.Pcode.{Header, Action, plain, push, branch, define}
use Rattle.action_format.specs.Lists.{Lists, all_lists, simple, pushing, branching}
use Rattle.action_format.specs.Code.{Code, nest}
use Rattle.action_format.specs.Bytes.{Bytes, single_data, single_bytes, data_of_header, header_bytes, code_bytes}
use Rattle.action_format.specs.Offsets.{sizes, position, offset, reaches, by_offset}

-- list number k, its body, and its body's bytes

abbrev pub list_of : Lists → ℕ → List Action
list_of l k = get_or (all_lists l) k []

abbrev pub body : Lists → ℕ → Code
body l k = nest (suc (length l.functions)) l.functions (list_of l k)

abbrev pub body_bytes : Lists → ℕ → Bytes
body_bytes l k = code_bytes (by_offset (body l k))

-- in its body a place begins after the records of the list's actions before it, function bodies with them
abbrev pub begins : Lists → (list place : ℕ) → ℕ
begins l k p = position (sizes (body l k)) p

-- the record of action i of list k; a function's record counts the bytes of its list's body, which follow
abbrev pub action_bytes_at : Lists → (k i : ℕ) → Action → Bytes
action_bytes_at l k i (plain p) = single_bytes (simple p)
action_bytes_at l k i (push vs) = single_bytes (pushing vs)
action_bytes_at l k i (branch b p) = single_bytes (branching b (offset (begins l k (suc i)) (begins l k p)))
action_bytes_at l k i (define h j) = header_bytes h (length (body_bytes l j)) ++ body_bytes l j

abbrev pub actions_bytes : Lists → (k i : ℕ) → List Action → Bytes
actions_bytes l k i [] = []
actions_bytes l k i (a ∷ xs) = action_bytes_at l k i a ++ actions_bytes l k (suc i) xs

-- the tests of refusals 10 and 11 at action i of list k

abbrev pub header_short : Header → (size : ℕ) → Bool
header_short h n = leb (length (data_of_header h n)) 65535 && leb n 65535

abbrev pub action_short : Lists → Action → Bool
action_short l (plain p) = leb (length (single_data (simple p))) 65535
action_short l (push vs) = leb (length (single_data (pushing vs))) 65535
action_short l (branch b p) = true
action_short l (define h j) = header_short h (length (body_bytes l j))

abbrev pub action_near : Lists → (k i : ℕ) → Action → Bool
action_near l k i (plain p) = true
action_near l k i (push vs) = true
action_near l k i (branch b p) = reaches (begins l k (suc i)) (begins l k p)
action_near l k i (define h j) = true
