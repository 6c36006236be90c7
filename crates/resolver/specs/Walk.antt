-- The lists of the slice, walked in order: from the entry before a list's end down to the end of the list before it.
use Rattle.std.specs.Prelude.{ℕ, zero, suc, ◌+◌, ◌-◌, List, [], ◌∷◌, ◌++◌, map, length, get_or}
use Rattle.pcode.specs.Pcode.{Item, action, mark}
use Rattle.lowering.specs.Builder.{limits01}
use Rattle.action_format.specs.ByPlace.{actions, rebranch}
use Rattle.action_format.specs.Lists.{Lists}
use Rattle.action_format.specs.Bytes.{Bytes}
use Rattle.action_format.specs.ByList.{action_bytes_at}
use Rattle.list_slice.specs.Entry.{Piece, piece_of}
use Rattle.list_slice.specs.Words.{entry_at, run, trimmed, ends_in, pool_in}
use Rattle.list_slice.specs.Items.{References, gathered}
use Rattle.list_slice.specs.File.{in_file}

-- how many lists there are, and where the one at place j of the finishing order ends and begins

unfoldable pub count_of : List ℕ → ℕ
count_of w = length (trimmed (ends_in limits01 w))

abbrev pub end_of : List ℕ → ℕ → ℕ
end_of w j = get_or w (13312 + j) 0

abbrev pub start_of : List ℕ → ℕ → ℕ
start_of w zero = 0
start_of w (suc j) = end_of w j

-- list 0 finishes last of n
abbrev pub index_of : (n k : ℕ) → ℕ
index_of n zero = n - 1
index_of n (suc k) = k

-- where list k begins and ends
abbrev pub list_from : List ℕ → ℕ → ℕ
list_from w k = start_of w (index_of (count_of w) k)

abbrev pub list_end : List ℕ → ℕ → ℕ
list_end w k = end_of w (index_of (count_of w) k)

-- what entry e says, and what its references name
abbrev pub piece_at : List ℕ → ℕ → Piece
piece_at w e = piece_of (entry_at w e)

abbrev pub references_in : List ℕ → List ℕ → References
references_in F w = in_file F (pool_in limits01 w)

-- the items that n entries from e on say, the last item first: what has been walked when the walk of a list that ends at e + n has come down to e
unfoldable pub walked : List ℕ → List ℕ → (e n : ℕ) → List Item
walked F w e n = gathered (references_in F w) (map piece_of (run w e n))

-- the bytes of items, the last item first, of list k, whose labels stand at these places
unfoldable pub walked_bytes : Lists → (k : ℕ) → (place : ℕ → ℕ) → List Item → Bytes
walked_bytes l k place [] = []
walked_bytes l k place (action a ∷ is) = walked_bytes l k place is ++ action_bytes_at l k (length (actions is)) (rebranch place a)
walked_bytes l k place (mark m ∷ is) = walked_bytes l k place is
