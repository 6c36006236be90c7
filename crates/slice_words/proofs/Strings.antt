-- Strings of a file are parts of it, and references name them.
use Prim.Native.Nat.{ℕ, ◌-◌, ◌≤◌}
use mathlib.Core.Path.{◌≡◌, refl}
use mathlib.Core.Bool.{Bool, true, false, cond}
use mathlib.Core.List.{List, []}
use native.Mathlib.Omega.{arith}
use lib.Dec.{eqb}
use lib.ListN.{length, length-take, length-drop}
use borrow.Author.Tests.{eqb-true}
use Rattle.script_records.specs.declared.layout.Layout.{Layout}
use Rattle.script_records.specs.Layout.{layout_of, start_at, string_at}
use Rattle.script_records.proofs.LayoutLaws.{end_short}
use Rattle.list_slice.specs.File.{no_string, text_in}

pub string_short : (F : List ℕ) (l : Layout) (i : ℕ) → length (string_at F l i) ≤ length F
unfolding string_at
string_short F l i = simp (length-take, length-drop) (omega arith)

-- the end offset of such an index would lie outside the file
no_string_at : (F : List ℕ) → length F ≤ 1048576 → [] ≡ string_at F (layout_of F) no_string
unfolding string_at
no_string_at F h =
    let z : 0 - start_at F (layout_of F) no_string ≡ 0 = omega arith in
    rw (← end_short F (layout_of F) no_string (omega arith), z)

-- the string of a reference, in a file of the allowed size
pub text_is : (F : List ℕ) (r : ℕ) → length F ≤ 1048576 → text_in F r ≡ string_at F (layout_of F) r
unfolding text_in
text_is F r h = go (eqb r no_string) refl
  where
    go : (t : Bool) → eqb r no_string ≡ t → cond t [] (string_at F (layout_of F) r) ≡ string_at F (layout_of F) r
    go true e = rw (eqb-true r no_string e) (no_string_at F h)
    go false e = refl
