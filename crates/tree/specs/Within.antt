-- What the walk through an accepted file can rely on: at each part, and at each node.
use Rattle.std.specs.Prelude.{ℕ, ◌+◌, ◌-◌, ◌*◌, ◌≤◌, ◌<◌, min, ◌≡◌, List, [], Bool, true, T, leb, Option, length}
use Rattle.std.specs.Option.{option_map_or}
use Rattle.hir.specs.Hir.{Rec}
use Rattle.hir.specs.Tree.{Forest, more}
use Rattle.hir.specs.declared.ConstantKind.{ConstantKind}
use Rattle.hir.specs.declared.ConstantKind.TheVariants as constant
use Rattle.hir.specs.declared.ExprKind.{ExprKind}
use Rattle.hir.specs.declared.ExprKind.TheVariants as expr
use Rattle.hir.specs.declared.EnumeratorTarget.{EnumeratorTarget}
use Rattle.hir.specs.declared.EnumeratorTarget.TheVariants as target
use Rattle.hir.specs.declared.ForCondition.{ForCondition}
use Rattle.hir.specs.declared.ForCondition.TheVariants as loop
use Rattle.hir.specs.declared.StatementKind.{StatementKind}
use Rattle.hir.specs.declared.StatementKind.TheVariants as statement
use Rattle.hir.specs.declared.Record.{Record}
use Rattle.hir.specs.declared.Record.TheVariants as kind
use Rattle.script_records.specs.declared.layout.Layout.{Layout}
use Rattle.script_records.specs.declared.part.Part.{Part}
use Rattle.script_records.specs.Layout.{words_of, layout_of, string_at, row_in, span_at}
use Rattle.decode.specs.Decode.{record_of}
use Rattle.script.specs.Rules.{parted, max_bytes}
use Rattle.lowering.specs.Meaning.{Meaning, nth, kid, list}
use Rattle.lowering.specs.Statement.{meanings, header}
use Rattle.list_slice.specs.File.{names_string, names_function, header_in, params_of}
use Rattle.tree.specs.declared.Node.{Node}
use Rattle.tree.specs.Trees.{rows_in, trees, rec_of}

-- a decoded record's strings are strings of the file, and a function's number is that of its record

abbrev pub constant_named : List ℕ → ConstantKind → Bool
constant_named F (constant.String s) = names_string F s
constant_named F (constant.Identifier s) = names_string F s
constant_named F (constant.Float low high) = true
constant_named F (constant.Integer n) = true
constant_named F (constant.Boolean b) = true
constant_named F (constant.Register r) = true

abbrev pub expr_named : List ℕ → (number : ℕ) → ExprKind → Bool
expr_named F i (expr.Constant c) = constant_named F c
expr_named F i (expr.Function n r m) = names_function F i
expr_named F i (expr.Simple k) = true
expr_named F i (expr.Binary o) = true
expr_named F i (expr.Unary o) = true
expr_named F i expr.Call = true
expr_named F i expr.New = true
expr_named F i expr.DuplicateMovieClip = true
expr_named F i expr.Ternary = true
expr_named F i expr.InitObject = true
expr_named F i expr.InitArray = true
expr_named F i expr.Field = true
expr_named F i expr.Delete = true
expr_named F i expr.Void = true
expr_named F i (expr.GotoFrame p) = true
expr_named F i (expr.StartDrag l) = true
expr_named F i (expr.GetProperty p) = true
expr_named F i (expr.SetProperty p) = true

abbrev pub target_named : List ℕ → EnumeratorTarget → Bool
target_named F (target.Variable n d) = names_string F n
target_named F (target.Register r) = true

abbrev pub condition_named : List ℕ → ForCondition → Bool
condition_named F (loop.Enumerate t) = target_named F t
condition_named F loop.Classic = true

abbrev pub statement_named : List ℕ → StatementKind → Bool
statement_named F (statement.Declare n) = names_string F n
statement_named F (statement.ForIn c) = condition_named F c
statement_named F statement.Return = true
statement_named F statement.Throw = true
statement_named F statement.Expr = true
statement_named F statement.Block = true
statement_named F statement.While = true
statement_named F statement.If = true
statement_named F statement.Break = true
statement_named F statement.Continue = true
statement_named F statement.Switch = true

abbrev pub record_named : List ℕ → (number : ℕ) → Record → Bool
record_named F i (kind.Statement k) = statement_named F k
record_named F i (kind.Expr k) = expr_named F i k
record_named F i (kind.ObjectField n) = names_string F n
record_named F i (kind.Parameter n r) = names_string F n
record_named F i kind.Absent = true
record_named F i (kind.List n) = true
record_named F i kind.Case = true
record_named F i kind.Default = true
record_named F i kind.Other = true

-- of every record of the file
pub record Sound (F : List ℕ) : Type 0 where
  pub short : length F ≤ max_bytes
  pub few : (layout_of F).count < 65536
  pub areas : (layout_of F).records + 20 * (layout_of F).count ≤ length F
  pub named : (i : ℕ) → i < (layout_of F).count → T (record_named F i (record_of (words_of (row_in (rows_in F) i))))
  pub whole : (i : ℕ) → i < (layout_of F).count → parted (rows_in F) i ((row_in (rows_in F) i).size - 1) ≡ true

-- of a part that the walk has come to
pub record Within (F : List ℕ) (l : Layout) (p : Part) : Type 0 where
  pub layout : l ≡ layout_of F
  pub inside : p.n ≤ p.end
  pub known : p.end ≤ (layout_of F).count
  pub whole : parted (rows_in F) p.end p.n ≡ true
  pub sound : Sound F

-- the trees before the last
abbrev pub but_last : Forest Rec → Forest Rec
but_last Forest.none = Forest.none
but_last (more before r kids) = before

-- a record that is there
abbrev pub live : Record → ℕ
live (kind.Statement k) = 1
live (kind.Expr k) = 1
live kind.Absent = 0
live (kind.List n) = 1
live (kind.ObjectField n) = 1
live (kind.Parameter n r) = 1
live kind.Case = 1
live kind.Default = 1
live kind.Other = 1

-- the node of a part
pub record IsNode (F : List ℕ) (l : Layout) (p : Part) (r : Node Part) : Type 0 where
  pub root : nth Rec.Absent 0 (trees F p) ≡ rec_of F r.root
  pub kids : trees F r.children ≡ list 0 (trees F p)
  pub rest : trees F r.before ≡ but_last (trees F p)
  pub kids_within : Within F l r.children
  pub rest_within : Within F l r.before
  pub real : live r.root ≤ p.n
  pub apart : min 1 p.n + r.children.n + r.before.n ≤ p.n
  pub end : r.before.end ≡ p.end - span_at (rows_in F) p.end p.n
  pub n : r.before.n ≡ p.n - span_at (rows_in F) p.end p.n
  pub named : T (record_named F r.number r.root)
  pub function_header : (n : Option ℕ) (g m : ℕ) → r.root ≡ kind.Expr (expr.Function n g m) →
      header_in F r.number ≡ header (option_map_or (string_at F (layout_of F)) n []) g m (params_of (list 1 (trees F r.children))) (leb g 1)

-- what the trees of a part generate; the one n places before the last; the children of that one
abbrev pub meanings_at : List ℕ → Part → Forest Meaning
meanings_at F p = meanings (trees F p)

abbrev pub kid_at : List ℕ → Part → ℕ → Meaning
kid_at F p n = kid n (meanings_at F p)

abbrev pub list_at : List ℕ → Part → ℕ → Forest Meaning
list_at F p n = list n (meanings_at F p)

-- a part whose last tree is the one n places before the last; and its children
pub record IsKid (F : List ℕ) (l : Layout) (p : Part) (n : ℕ) (r : Part) : Type 0 where
  pub meaning : kid_at F p n ≡ kid_at F r 0
  pub means : list_at F p n ≡ list_at F r 0
  pub within : Within F l r
  pub fewer : r.n ≤ p.n

pub record IsList (F : List ℕ) (l : Layout) (p : Part) (n : ℕ) (r : Part) : Type 0 where
  pub means : list_at F p n ≡ meanings_at F r
  pub within : Within F l r
  pub fewer : r.n ≤ p.n
