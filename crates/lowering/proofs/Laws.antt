-- What a tree of a row means is what its record says over what its children mean.
use Prim.Native.Nat.{ℕ, zero, suc}
use mathlib.Core.Path.{◌≡◌, refl, ap}
use Rattle.hir.specs.Hir.{Rec}
use Rattle.hir.specs.Tree.{Forest, more}
use Rattle.lowering.specs.Meaning.{nth, kid, list, width}
use Rattle.lowering.specs.Statement.{meaning, meanings}

-- a missing tree is like an absent one
pub kid_law : (n : ℕ) (f : Forest Rec) → kid n (meanings f) ≡ meaning (nth Rec.Absent n f) (meanings (list n f))
unfolding meanings
kid_law n Forest.none = refl
kid_law zero (more before r kids) = refl
kid_law (suc n) (more before r kids) = kid_law n before

pub list_law : (n : ℕ) (f : Forest Rec) → list n (meanings f) ≡ meanings (list n f)
unfolding meanings
list_law n Forest.none = refl
list_law zero (more before r kids) = refl
list_law (suc n) (more before r kids) = list_law n before

pub width_law : (f : Forest Rec) → width (meanings f) ≡ width f
unfolding meanings
width_law Forest.none = refl
width_law (more before r kids) = ap suc (width_law before)
