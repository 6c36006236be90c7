-- The tree with its strings resolved: what lowering is defined over.
use Rattle.std.specs.Prelude.{ℕ, ◌+◌, ◌*◌, ◌^◌, List, Option, Some, None}
use Rattle.std.proofs.Math.Option as optional
use Rattle.std.proofs.Math.Option.{none, some}
use Rattle.hir.specs.Hir as tree
use Rattle.hir.specs.Hir.{Str, Rec}
use Rattle.hir.specs.Tree.{Forest, map_forest}
use Rattle.hir.specs.declared.ConstantKind.{ConstantKind}
use Rattle.hir.specs.declared.ConstantKind.TheVariants as constant
use Rattle.hir.specs.declared.ExprKind.{ExprKind}
use Rattle.hir.specs.declared.ExprKind.TheVariants as expr
use Rattle.hir.specs.declared.EnumeratorTarget.{EnumeratorTarget}
use Rattle.hir.specs.declared.EnumeratorTarget.TheVariants as target
use Rattle.hir.specs.declared.ForCondition.{ForCondition}
use Rattle.hir.specs.declared.ForCondition.TheVariants as loop
use Rattle.hir.specs.declared.StatementKind.{StatementKind}
use Rattle.hir.specs.declared.StatementKind.TheVariants as statement
use Rattle.hir.specs.declared.Record.{Record}
use Rattle.hir.specs.declared.Record.TheVariants as kind
use Rattle.script_records.specs.Layout.{layout_of, string_at}
use Rattle.script.specs.Rules.{tree_in}
use Rattle.decode.specs.Decode.{record_of}
use Rattle.decode.specs.Numbers.{unsigned}

-- a string is what `text` has at its index
module _ (text : ℕ → Str) where
  abbrev pub constant_over : ConstantKind → tree.ConstantKind
  constant_over (constant.String s) = tree.ConstantKind.String (text s)
  constant_over (constant.Identifier s) = tree.ConstantKind.Identifier (text s)
  constant_over (constant.Float low high) = tree.ConstantKind.Float (low + 2 ^ 32 * high)
  constant_over (constant.Integer n) = tree.ConstantKind.Integer (unsigned n)
  constant_over (constant.Boolean b) = tree.ConstantKind.Boolean b
  constant_over (constant.Register r) = tree.ConstantKind.Register r

  abbrev pub target_over : EnumeratorTarget → tree.EnumeratorTarget
  target_over (target.Variable n d) = tree.EnumeratorTarget.Variable (text n) d
  target_over (target.Register r) = tree.EnumeratorTarget.Register r

  abbrev pub condition_over : ForCondition → tree.ForCondition
  condition_over (loop.Enumerate t) = tree.Enumerate (target_over t)
  condition_over loop.Classic = tree.Classic

  abbrev pub name_over : Option ℕ → optional.Option Str
  name_over None = none
  name_over (Some i) = some (text i)

  abbrev pub expr_over : ExprKind → tree.ExprKind
  expr_over (expr.Constant c) = tree.Constant (constant_over c)
  expr_over (expr.Simple k) = tree.Simple k
  expr_over (expr.Binary o) = tree.Binary o
  expr_over (expr.Unary o) = tree.Unary o
  expr_over expr.Call = tree.Call
  expr_over expr.New = tree.New
  expr_over expr.DuplicateMovieClip = tree.DuplicateMovieClip
  expr_over expr.Ternary = tree.Ternary
  expr_over expr.InitObject = tree.InitObject
  expr_over expr.InitArray = tree.InitArray
  expr_over expr.Field = tree.Field
  expr_over expr.Delete = tree.Delete
  expr_over expr.Void = tree.Void
  expr_over (expr.Function n r m) = tree.Function (name_over n) r m
  expr_over (expr.GotoFrame p) = tree.GotoFrame p
  expr_over (expr.StartDrag l) = tree.StartDrag l
  expr_over (expr.GetProperty p) = tree.GetProperty (unsigned p)
  expr_over (expr.SetProperty p) = tree.SetProperty (unsigned p)

  abbrev pub statement_over : StatementKind → tree.StatementKind
  statement_over (statement.Declare n) = tree.Declare (text n)
  statement_over statement.Return = tree.Return
  statement_over statement.Throw = tree.Throw
  statement_over statement.Expr = tree.StatementKind.Expr
  statement_over statement.Block = tree.Block
  statement_over (statement.ForIn c) = tree.ForIn (condition_over c)
  statement_over statement.While = tree.While
  statement_over statement.If = tree.If
  statement_over statement.Break = tree.Break
  statement_over statement.Continue = tree.Continue
  statement_over statement.Switch = tree.Switch

  -- a list's number of children is the tree's
  unfoldable pub resolved : Record → Rec
  resolved (kind.Statement k) = tree.Statement (statement_over k)
  resolved (kind.Expr k) = Rec.Expr (expr_over k)
  resolved kind.Absent = tree.Absent
  resolved (kind.List n) = Rec.List
  resolved (kind.ObjectField n) = tree.ObjectField (text n)
  resolved (kind.Parameter n r) = tree.Parameter (text n) r
  resolved kind.Case = tree.Case
  resolved kind.Default = tree.Default
  resolved kind.Other = tree.Other

-- the script of a file: one tree, whose root is the list of its statements
unfoldable pub script_of : List ℕ → Forest Rec
script_of F = map_forest (λ w. resolved (string_at F (layout_of F)) (record_of w)) (tree_in F (layout_of F))
