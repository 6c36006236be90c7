-- Positions in the table, and what is found among them.
use Rattle.std.specs.Prelude.{ℕ, ◌<◌, ◌≤◌, ◌≡◌, List, [], ◌∷◌, ◌++◌, Option, Some, cond, length, get_or}
use Rattle.record_reader.specs.Steps.{some_of}
use Rattle.action_reader.specs.Walk.{is_branch, seek}

-- the table rises from index to index
abbrev pub Ordered : List ℕ → (from to : ℕ) → Type 0
Ordered t from to = (i j : ℕ) → from ≤ i → i < j → j < to → get_or t i 0 < get_or t j 0

abbrev pub Rises : List ℕ → Type 0
Rises ps = Ordered ps 0 (length ps)

abbrev pub IsSeek : List ℕ → (stop x : ℕ) → Option ℕ → Type 0
IsSeek ps stop x r = r ≡ some_of (seek x (ps ++ (stop ∷ [])))

abbrev pub IsPlace : List ℕ → (stop code first : ℕ) → Option ℕ → Type 0
IsPlace ps stop code first r = r ≡ cond (is_branch code) (some_of (seek first (ps ++ (stop ∷ [])))) (Some first)
