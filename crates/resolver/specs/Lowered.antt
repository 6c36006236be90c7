-- A list slice that lowering has filled.
use Rattle.std.specs.Prelude.{ℕ, ◌≡◌, List}
use Rattle.pcode.specs.Pcode.{Item}
use Rattle.script.specs.Rules.{check_of}
use Rattle.lowering.specs.Builder.{limits01}
use Rattle.lowering.specs.Statement as lowering
use Rattle.list_slice.specs.Compiled.{Holds}
use Rattle.definition.specs.Compile.{lists_of}

-- the words hold the lists of an accepted file
pub record Lowered (F w : List ℕ) : Type 0 where
  pub lists : List (List Item)
  pub holds : Holds limits01 F lists w
  pub from : lists_of limits01 F ≡ lowering.lists lists
  pub accepted : check_of F ≡ 0
