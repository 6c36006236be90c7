-- The codes of the actions without operands: each is another one, and none is End's or that of an action with operands.
use Prim.Native.Nat.{ℕ}
use mathlib.Core.Path.{◌≡◌, refl}
use mathlib.Core.List.{List, [], ◌∷◌, map}
use mathlib.Core.Bool.{Bool, true, false, not, ◌&&◌, ◌||◌}
use lib.Dec.{eqb}
use Rattle.pcode.specs.declared.Op.{Op}
use Rattle.pcode.specs.Pcode.{row_of, all_ops}

abbrev among : ℕ → List ℕ → Bool
among x [] = false
among x (y ∷ ys) = eqb x y || among x ys

abbrev distinct : List ℕ → Bool
distinct [] = true
distinct (x ∷ xs) = not (among x xs) && distinct xs

-- End, then GotoFrame, StoreRegister, ConstantPool, GotoLabel, DefineFunction2, Push, Jump, DefineFunction, If, GotoFrame2
pub codes_distinct : distinct (0x00 ∷ 0x81 ∷ 0x87 ∷ 0x88 ∷ 0x8C ∷ 0x8E ∷ 0x96 ∷ 0x99 ∷ 0x9B ∷ 0x9D ∷ 0x9F ∷ map (λ (o : Op). (row_of o).code) all_ops) ≡ true
codes_distinct = refl
