-- A list that ends: where it stands, and how it is left.
use Rattle.std.specs.Prelude.{ℕ, ◌+◌, ◌-◌, ◌≤◌, ◌<◌, ◌≡◌, List, [], ◌∷◌, ◌++◌, map, true, false, Option, MatchOption, length, get_or, drop}
use Rattle.action_format.specs.Lists.{all}
use Rattle.list_slice.specs.Entry.{Entry, entry}
use Rattle.action_reader.specs.declared.walk.Walk.{Walk}
use Rattle.action_reader.specs.Walk.{settle, lands}
use Rattle.action_reader.specs.Layout.{layout}
use Rattle.action_reader.specs.Places.{Ordered}
use Rattle.action_reader.specs.State.{close_after}

-- a list that can end
pub record Ready (w : List ℕ) (s : Walk) : Type 0 where
  pub long : 16384 ≤ length w
  pub down : s.low ≤ s.top
  pub room : s.low < s.top
  pub whole : s.top ≤ s.span.base
  pub cap : s.span.base ≤ 4096
  pub from : s.span.first ≤ length s.table.items
  pub few : length s.table.items ≤ 1024
  pub ordered : Ordered s.table.items s.span.first (length s.table.items)
  pub more : s.lists < 1024

-- the entries of the present list are xs, above finished ones and below those of other open lists
pub record Given (w : List ℕ) (s : Walk) (low xs up : List Entry) (ends : List ℕ) : Type 0 where
  pub words : w ≡ layout low (xs ++ up) ends (length w)
  pub low_is : length low ≡ s.low
  pub up_is : length up + s.span.base ≡ 4096
  pub own_is : length xs + s.top ≡ s.span.base

abbrev pub positions_of : Walk → List ℕ
positions_of s = drop s.span.first s.table.items ++ (s.at ∷ [])

-- a branch leads to no place
abbrev pub Lost : Walk → List Entry → Type 0
Lost s xs = all (lands (positions_of s)) xs ≡ false

-- each branch has its place, and the entries have moved; they end below entry n
pub record Moved (s : Walk) (low xs up : List Entry) (ends : List ℕ) (n : ℕ) (w : List ℕ) : Type 0 where
  pub landed : all (lands (positions_of s)) xs ≡ true
  pub words : w ≡ layout (low ++ map (settle (positions_of s)) xs) up ends (length w)
  pub low_is : n ≡ length low + length xs

abbrev pub SettledAs : Walk → (low xs up : List Entry) → (ends : List ℕ) → Option ℕ → List ℕ → Type 0
SettledAs s low xs up ends r w = MatchOption r (Lost s xs) (λ n. Moved s low xs up ends n w)

-- the same, with the list's end in the table of ends
abbrev pub EndedAs : Walk → (low xs up : List Entry) → (ends : List ℕ) → Option ℕ → List ℕ → Type 0
EndedAs s low xs up ends r w = MatchOption r (Lost s xs) (λ n. Moved s low xs up (ends ++ (n ∷ [])) n w)

-- and the function whose body it is has its entry
pub record Closed (low xs up : List Entry) (ends : List ℕ) (s r : Walk) (w : List ℕ) : Type 0 where
  pub landed : all (lands (positions_of s)) xs ≡ true
  pub state : r ≡ close_after s (length low + length xs)
  pub words : w ≡ layout (low ++ map (settle (positions_of s)) xs) (entry 256 (s.lists + 1) (get_or s.table.items (s.span.first - 1) 0) ∷ up) (ends ++ ((length low + length xs) ∷ [])) (length w)

abbrev pub ClosedAs : {A : Type 0} → (low xs up : List Entry) → (ends : List ℕ) → (s r : Walk) → Option A → List ℕ → Type 0
ClosedAs low xs up ends s r o w = MatchOption o (Lost s xs) (λ _. Closed low xs up ends s r w)
