use mathlib.Core.Bool.{Bool}
use mathlib.Core.Path.{◌≡◌}
use Rattle.script_records.specs.declared.part.Part.{Part}
use Rattle.tree.specs.declared.Trees.{Trees}
use Rattle.rows.proofs.Kept.{Going, Noted}
use Rattle.rows.proofs.ends.ends_but.Given as goal

abbrev pub invariant-loop-tree : goal.invariant-loop-tree
invariant-loop-tree g l = record {
  script : l.tree-iterator.script ≡ l.row.script;
  going : Going l.row.script.bytes.now l.row.script.layout l.row.part l.tree-iterator.part l.top;
  noted : (out : Part → Bool) → ((t : Trees) (r : Bool) → t.script ≡ l.row.script → goal.F-post g l.is_out t r → r ≡ out t.part) →
      Noted l.row.script.bytes.now l.row.script.layout out l.row.part l.scratch l.tree-iterator.part l.top;
}
