-- The empty string of a property, and its number.
use Prim.Native.Nat.{ℕ, ◌-◌, ◌^◌, ◌<◌}
use mathlib.Core.Path.{◌≡◌, refl, ◌∙◌}
use mathlib.Core.Bool.{Bool, true, false, ◌||◌}
use mathlib.Core.List.{List, []}
use native.Mathlib.Omega.{arith}
use lib.Dec.{T, ltb}
use lib.IntN.{ℤ, pos, negsuc}
use mir.Syntax.{w32}
use mir.Val.{of_z, to_z}
use Rattle.std.proofs.lemmas.Int.{of_z-to_z}
use Rattle.decode.specs.Numbers.{unsigned}
use Rattle.script_records.specs.Layout.{layout_of}
use Rattle.list_slice.specs.File.{text_in, names_string}

-- the empty string of a property
pub no_text_lem : (F : List ℕ) → text_in F 4294967295 ≡ []
unfolding text_in
no_text_lem F = refl

pub no_text_named : (F : List ℕ) → T (names_string F 4294967295)
unfolding names_string
no_text_named F = go (ltb 4294967295 (layout_of F).strings)
  where
    go : (t : Bool) → T (t || true)
    go true = tt
    go false = tt

-- a word read as a signed number, and back
pub cast_back : (n : ℕ) → n < 2 ^ 32 → unsigned (to_z w32 n) ≡ n
cast_back n h = back (to_z w32 n) ∙ of_z-to_z w32 n h
  where
    back : (z : ℤ) → unsigned z ≡ of_z w32 z
    back (pos k) = refl
    back (negsuc k) = omega arith
