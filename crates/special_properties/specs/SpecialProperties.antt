-- The names that `special_properties.rs` numbers, and the fixed names null and undefined.
use Rattle.std.specs.Prelude.{ℕ, suc, ◌+◌, Bool, true, false, cond, ◌&&◌, List, [], ◌∷◌, Option, Some, None, eqb, leb}
use Rattle.special_properties.specs.Text.{bytes}

-- a property's number is its name's place, from 0
unfoldable pub names : List (List ℕ)
names =
    bytes "_x" ∷ bytes "_y" ∷ bytes "_xscale" ∷ bytes "_yscale" ∷ bytes "_currentframe" ∷ bytes "_totalframes"
    ∷ bytes "_alpha" ∷ bytes "_visible" ∷ bytes "_width" ∷ bytes "_height" ∷ bytes "_rotation" ∷ bytes "_target"
    ∷ bytes "_framesloaded" ∷ bytes "_name" ∷ bytes "_droptarget" ∷ bytes "_url" ∷ bytes "_highquality"
    ∷ bytes "_focusrect" ∷ bytes "_soundbuftime" ∷ bytes "_quality" ∷ bytes "_xmouse" ∷ bytes "_ymouse" ∷ []

-- two byte strings agree letter by letter, each letter folded first
unfoldable pub same : (ℕ → ℕ) → List ℕ → List ℕ → Bool
same fold [] [] = true
same fold [] (y ∷ ys) = false
same fold (x ∷ xs) [] = false
same fold (x ∷ xs) (y ∷ ys) = eqb (fold x) (fold y) && same fold xs ys

-- A to Z become a to z
unfoldable pub to_ascii_lowercase : ℕ → ℕ
to_ascii_lowercase b = cond (leb 65 b && leb b 90) (b + 32) b

-- how a script's name is compared with a property's
abbrev pub same_spelling : List ℕ → List ℕ → Bool
same_spelling = same to_ascii_lowercase

-- the place of the first string that agrees with s, counted from i
unfoldable pub first_from : ℕ → List (List ℕ) → List ℕ → Option ℕ
first_from i [] s = None
first_from i (x ∷ xs) s = cond (same_spelling s x) (Some i) (first_from (suc i) xs s)

unfoldable pub get_special_property : List ℕ → Option ℕ
get_special_property = first_from 0 names

-- the same bytes
abbrev pub same_bytes : List ℕ → List ℕ → Bool
same_bytes = same (λ b. b)

abbrev pub null : List ℕ
null = bytes "null"

abbrev pub undefined : List ℕ
undefined = bytes "undefined"
