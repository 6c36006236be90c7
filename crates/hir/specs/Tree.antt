-- Trees in a row. Each is a record and its children, which are trees in a row again.
use Rattle.std.specs.Prelude.{ℕ, suc, ◌+◌, max}

-- the trees before the last, the last one's record, and its children
pub data Forest (A : Type 0) : Type 0 where
  none : Forest A
  more : (before : Forest A) → (root : A) → (children : Forest A) → Forest A

-- the same trees with each record changed
unfoldable pub map_forest : {A B : Type 0} → (A → B) → Forest A → Forest B
map_forest f none = none
map_forest f (more before r kids) = more (map_forest f before) (f r) (map_forest f kids)

-- how many records there are
unfoldable pub count : {A : Type 0} → Forest A → ℕ
count none = 0
count (more before r kids) = count before + suc (count kids)

-- a tree without children has depth 1
unfoldable pub depth : {A : Type 0} → Forest A → ℕ
depth none = 0
depth (more before r kids) = max (depth before) (suc (depth kids))
