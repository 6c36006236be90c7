-- A search in a list of strings.
use Rattle.std.specs.Prelude.{ℕ, suc, List, [], ◌∷◌, Bool, true, false}
use Rattle.std.proofs.Math.Option.{Option, none, some}
use Rattle.hir.specs.Hir.{Str}

-- the place of the first string that passes a test, counted from i
abbrev pub find : (Str → Bool) → ℕ → List Str → Option ℕ
find p i [] = none
find p i (s ∷ ss) = elim (p s) [ true ↦ some i | false ↦ find p (suc i) ss ]
