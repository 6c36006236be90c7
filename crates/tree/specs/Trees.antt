-- The trees of a part of the records, with their strings resolved, and what the walk asks of them.
use Rattle.std.specs.Prelude.{ℕ, suc, ◌+◌, List, Option, None, Some, option_map, cond, eqb}
use Rattle.hir.specs.Hir.{Rec}
use Rattle.hir.specs.Tree.{Forest, more, map_forest}
use Rattle.hir.specs.declared.Record.{Record}
use Rattle.hir.specs.declared.Record.TheVariants as kind
use Rattle.script_records.specs.declared.layout.Layout.{Layout}
use Rattle.script_records.specs.declared.layout.Row.{Row}
use Rattle.script_records.specs.declared.part.Part.{Part}
use Rattle.script_records.specs.declared.part.Tree.{Tree}
use Rattle.script_records.specs.Layout.{words_of, layout_of, string_at, rows_of}
use Rattle.script_records.specs.Parts.{trees_in, last_tree}
use Rattle.decode.specs.Decode.{record_of}
use Rattle.script.specs.Resolve.{resolved}
use Rattle.lowering.specs.Meaning as meaning
use Rattle.list_slice.specs.File.{rec_in}
use Rattle.tree.specs.declared.Node.{Node}
use Rattle.tree.specs.declared.Element.{Element}
use Rattle.tree.specs.declared.Element.TheVariants.{Case, Default, Statement}
use Rattle.tree.specs.declared.Counts.{Counts}

-- the records of a file, and the trees of a part
abbrev pub rows_in : List ℕ → List Row
rows_in F = rows_of F (layout_of F)

unfoldable pub trees : List ℕ → Part → Forest Rec
trees F p = map_forest (rec_in F) (trees_in (rows_in F) p)

-- a decoded record with its strings
abbrev pub rec_of : List ℕ → Record → Rec
rec_of F r = resolved (string_at F (layout_of F)) r

abbrev pub made_node : Tree → Node Part
made_node t = record { root = record_of (words_of t.row); number = t.children.end; children = t.children; before = t.before }

abbrev pub no_node : Part → Node Part
no_node p = record { root = kind.Absent; number = 0; children = p; before = p }

unfoldable pub node_of : List ℕ → Layout → Part → Node Part
node_of F l p = cond (eqb p.n 0) (no_node p) (made_node (last_tree (rows_of F l) p))

-- the kind of the last tree, and that of an absent child where there is none
unfoldable pub kind_at : List ℕ → Layout → Part → ℕ
kind_at F l p = cond (eqb p.n 0) 96 (last_tree (rows_of F l) p).row.kind

abbrev pub element_of : Record → Element
element_of kind.Case = Case
element_of kind.Default = Default
element_of (kind.Statement k) = Statement
element_of (kind.Expr k) = Statement
element_of kind.Absent = Statement
element_of (kind.List n) = Statement
element_of (kind.ObjectField n) = Statement
element_of (kind.Parameter n r) = Statement
element_of kind.Other = Statement

-- the definition's element that the code's stands for
abbrev pub meant : Element → meaning.Element
meant Case = meaning.case
meant Default = meaning.default
meant Statement = meaning.statement

-- of trees in a row, how many there are, how many are Case or Default, how many Case, and how many labelled ones stand from the last Default on

abbrev pub is_labelled : meaning.Element → ℕ
is_labelled meaning.case = 1
is_labelled meaning.default = 1
is_labelled meaning.statement = 0

abbrev pub is_case : meaning.Element → ℕ
is_case meaning.case = 1
is_case meaning.default = 0
is_case meaning.statement = 0

unfoldable pub labelled : Forest Rec → ℕ
labelled Forest.none = 0
labelled (more before r kids) = labelled before + is_labelled (meaning.element r)

unfoldable pub cases : Forest Rec → ℕ
cases Forest.none = 0
cases (more before r kids) = cases before + is_case (meaning.element r)

abbrev pub from_default_at : meaning.Element → Option ℕ → Option ℕ
from_default_at meaning.case o = option_map suc o
from_default_at meaning.default o = Some 1
from_default_at meaning.statement o = o

unfoldable pub from_default_of : Forest Rec → Option ℕ
from_default_of Forest.none = None
from_default_of (more before r kids) = from_default_at (meaning.element r) (from_default_of before)

abbrev pub counts_of : Forest Rec → Counts
counts_of f = record { trees = meaning.width f; labels = labelled f; cases = cases f; from_default = from_default_of f }
