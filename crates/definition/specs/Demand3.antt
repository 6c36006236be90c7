-- The words of demand 3, of calls that compile.
use Rattle.std.specs.Prelude.{ℕ, ◌≡◌, ◌⊎◌, List, [], ◌∷◌, ◌++◌, length, get_or}
use Rattle.std.proofs.Math.Option.{some}
use Rattle.std.proofs.Math.ListN.{get_elem?}
use Rattle.pcode.specs.Pcode.{Branching, Action, Item}
use Rattle.action_format.specs.ByPlace.{marked}
use Rattle.action_format.specs.Lists.{Lists, all_lists}
use Rattle.action_format.specs.ByList.{list_of, body_bytes, begins, action_bytes_at}
use Rattle.action_format.specs.Landing.{Stands, Lands}
use Rattle.definition.specs.Outcome.{by_place}

-- one's bytes are the beginning of the other's, or all of it
abbrev pub Begins : List ℕ → List ℕ → Type 0
Begins b b' = (rest : List ℕ) × (b ++ rest ≡ b')

-- as many lists, and those of the same number equally long and in agreement, action by action, in kind and every operand
abbrev pub Agree : Lists → Lists → Type 0
Agree l l' =
    (length (all_lists l) ≡ length (all_lists l')) ×
    ((k : ℕ) → (length (list_of l k) ≡ length (list_of l' k)) × ((i : ℕ) → get_elem? (list_of l k) i ≡ get_elem? (list_of l' k) i))

-- the same lists, once every branch names the place it leads to and marks are dropped
abbrev pub AreSameLists : List (List Item) → List (List Item) → Type 0
AreSameLists ls ls' = Agree (by_place ls) (by_place ls')

-- list number k of a call's lists, with its marks
abbrev pub list_at : List (List Item) → ℕ → List Item
list_at ls k = get_or ls k []

-- action i of list k is a branch to this label
pub record LandsAtItsMark (ls : List (List Item)) (k i : ℕ) (b : Branching) (label : ℕ) : Type 0 where
  -- its own list marks its label at exactly one place
  pub place : ℕ
  pub marked_once : marked 0 label (list_at ls k) ≡ place ∷ []
  -- the byte after its record, moved by its offset, is where that place begins in its own body
  pub lands : Lands (by_place ls) k i b place
  -- which is the first byte of one of that list's actions, or that body's end
  pub on :
      ((a : Action) × (get_elem? (list_of (by_place ls) k) place ≡ some a) × Stands (by_place ls) k place (action_bytes_at (by_place ls) k place a))
      ⊎ (begins (by_place ls) k place ≡ length (body_bytes (by_place ls) k))
