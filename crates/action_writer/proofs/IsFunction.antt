-- A reference that names a function of an accepted file.
use Prim.Native.Nat.{ℕ, ◌<◌}
use mathlib.Core.Path.{◌≡◌}
use mathlib.Core.List.{List}
use mathlib.Core.Bool.{true}
use native.Mathlib.Omega.{arith}
use lib.Dec.{T, ltb, eqb, ltb→lt, eqb→eq}
use Rattle.script_records.specs.declared.layout.Layout.{Layout}
use Rattle.script_records.specs.Layout.{layout_of, row_in}
use Rattle.script.specs.Rules.{check_of, record_holds}
use Rattle.script.proofs.Written.{all_hold}
use Rattle.script.proofs.WrittenRows.{held_some, held_inside, held_parted}
use Rattle.action_format.proofs.Tests.{and_first, and_second}
use Rattle.list_slice.specs.File.{names_function}
use Rattle.tree.specs.Trees.{rows_in}
use Rattle.tree.proofs.Accepted.{accepted_rules, accepted_sound}
use Rattle.byte_writer.specs.Header.{IsFunction}

module _ (F : List ℕ) (l : Layout) (layout : l ≡ layout_of F) (accepted : check_of F ≡ 0) (k : ℕ) (t : T (names_function F k)) where
  known : k < (layout_of F).count
  unfolding names_function
  known = ltb→lt k (layout_of F).count (and_first (ltb k (layout_of F).count) (eqb (row_in (rows_in F) k).kind 49) t)

  kind_is : (row_in (rows_in F) k).kind ≡ 49
  unfolding names_function
  kind_is = eqb→eq (row_in (rows_in F) k).kind 49 (and_second (ltb k (layout_of F).count) (eqb (row_in (rows_in F) k).kind 49) t)

  holds : record_holds (layout_of F).strings (rows_in F) k ≡ true
  holds = all_hold F (accepted_rules F accepted) k known

  pub is_function : IsFunction F l k
  is_function = record {
    kind = kind_is;
    counted = held_some (layout_of F).strings (rows_in F) k holds;
    within = record {
      layout = layout;
      inside = omega (arith, held_inside (layout_of F).strings (rows_in F) k holds);
      known = omega (arith, known);
      whole = held_parted (layout_of F).strings (rows_in F) k holds;
      sound = accepted_sound F accepted;
    };
  }
