-- The definition at the names themselves, and at some that agree with one of them or with none; and `same_bytes` is equality.
-- Assumes nothing.
use mathlib.Core.Path.{◌≡◌, refl}
use mathlib.Core.Bool.{true}
use mathlib.Core.List.{List, [], ◌∷◌, map}
use mathlib.Core.Logic.{◌↔◌}
use Prim.Native.Nat.{ℕ}
use borrow.Author.Rules.{rules}
use Rattle.std.specs.Prelude.{Some, None}
use Rattle.std.specs.Str.{bytes_eq}
use Rattle.std.proofs.lemmas.Bool.Decides.{same_from_decides}
use Rattle.std.proofs.lemmas.Slice.Eq.{compares_Decides, bytes_eq-Decides}
use Rattle.special_properties.specs.Text.{bytes}
use Rattle.special_properties.specs.SpecialProperties.{names, same, same_bytes, to_ascii_lowercase, first_from, get_special_property}

-- each name has its own number: no two agree
pub numbered :
    map get_special_property names
    ≡ map Some (0 ∷ 1 ∷ 2 ∷ 3 ∷ 4 ∷ 5 ∷ 6 ∷ 7 ∷ 8 ∷ 9 ∷ 10 ∷ 11 ∷ 12 ∷ 13 ∷ 14 ∷ 15 ∷ 16 ∷ 17 ∷ 18 ∷ 19 ∷ 20 ∷ 21 ∷ [])
unfolding get_special_property first_from names same to_ascii_lowercase
numbered = refl

pub examples :
    map (λ s. get_special_property (bytes s)) ("_X" ∷ "_xScale" ∷ "_YMOUSE" ∷ "_" ∷ "_xx" ∷ "x" ∷ "_xscales" ∷ "" ∷ [])
    ≡ Some 0 ∷ Some 2 ∷ Some 21 ∷ None ∷ None ∷ None ∷ None ∷ None ∷ []
unfolding get_special_property first_from names same to_ascii_lowercase
examples = refl

pub same_bytes_equal : (a b : List ℕ) → same_bytes a b ≡ true ↔ a ≡ b
unfolding same
same_bytes_equal = compares_Decides same_bytes (search rules)

-- what the library's `==` says of two byte strings
pub bytes_compared : (a b : List ℕ) → bytes_eq a b ≡ same_bytes a b
bytes_compared a b = same_from_decides _ _ (bytes_eq-Decides a b) (same_bytes_equal a b)
