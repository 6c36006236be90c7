-- The bodies of the lists that the words hold, by the order in which the lists finish.
use Rattle.std.specs.Prelude.{ℕ, ◌-◌, List}
use Rattle.pcode.specs.Pcode.{Item}
use Rattle.lowering.specs.Builder.{limits01}
use Rattle.action_format.specs.ByPlace.{place_of_label}
use Rattle.action_format.specs.Lists.{Lists}
use Rattle.action_format.specs.Bytes.{Bytes}
use Rattle.action_format.specs.ByList.{body_bytes}
use Rattle.list_slice.specs.Compiled.{lists_in}
use Rattle.definition.specs.Outcome.{by_place}
use Rattle.definition.specs.Demand3.{list_at}
use Rattle.resolver.specs.Walk.{count_of, end_of, walked, walked_bytes}
use Rattle.resolver.specs.Passes.{number_at}

unfoldable pub held_lists : List ℕ → List ℕ → Lists
held_lists F w = by_place (lists_in limits01 F w)

-- the number of the list at place j
abbrev pub number_in : List ℕ → ℕ → ℕ
number_in w j = number_at (count_of w) j

unfoldable pub body_at : List ℕ → List ℕ → (j : ℕ) → Bytes
body_at F w j = body_bytes (held_lists F w) (number_in w j)

-- the items that the entries from i on say, the last item first, and their bytes

unfoldable pub items_from : List ℕ → List ℕ → (j i : ℕ) → List Item
items_from F w j i = walked F w i (end_of w j - i)

unfoldable pub bytes_of : List ℕ → List ℕ → (j : ℕ) → List Item → Bytes
bytes_of F w j is = walked_bytes (held_lists F w) (number_in w j) (place_of_label (list_at (lists_in limits01 F w) (number_in w j))) is
