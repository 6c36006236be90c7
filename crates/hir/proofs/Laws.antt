-- Trees in a row keep their number and depth when their records are changed.
use Prim.Native.Nat.{ℕ}
use mathlib.Core.Path.{◌≡◌, refl}
use Rattle.hir.specs.Tree.{Forest, none, more, map_forest, count, depth}

module _ {A B : Type 0} (f : A → B) where
  pub map_count : (t : Forest A) → count (map_forest f t) ≡ count t
  unfolding map_forest count
  map_count none = refl
  map_count (more before r kids) = simp (map_count before, map_count kids)

  pub map_depth : (t : Forest A) → depth (map_forest f t) ≡ depth t
  unfolding map_forest depth
  map_depth none = refl
  map_depth (more before r kids) = simp (map_depth before, map_depth kids)

-- a chain of three records has depth 3, three records in a row have depth 1
abbrev pub chain : Forest ℕ
chain = more none 0 (more none 1 (more none 2 none))

abbrev pub row : Forest ℕ
row = more (more (more none 0 none) 1 none) 2 none

pub depths : (depth chain ≡ 3) × (depth row ≡ 1) × (count chain ≡ 3) × (count row ≡ 3)
unfolding depth count
depths = (refl, refl, refl, refl)
