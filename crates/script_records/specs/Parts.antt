-- Parts of the records: subtrees in a row, and the last of them.
use Rattle.std.specs.Prelude.{◌-◌, List}
use Rattle.hir.specs.Tree.{Forest}
use Rattle.script_records.specs.declared.layout.Row.{Row}
use Rattle.script_records.specs.declared.part.Part.{Part}
use Rattle.script_records.specs.declared.part.Tree.{Tree}
use Rattle.script_records.specs.Layout.{Words, row_in, span_at, forest}

abbrev pub trees_in : List Row → Part → Forest Words
trees_in rs p = forest rs p.end p.n

unfoldable pub last_tree : List Row → Part → Tree
last_tree rs p = record {
  row = row_in rs (p.end - 1);
  children = record { end = p.end - 1; n = span_at rs p.end p.n - 1 };
  before = record { end = p.end - span_at rs p.end p.n; n = p.n - span_at rs p.end p.n };
}
