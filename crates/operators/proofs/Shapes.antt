-- The code's shape of a record is the definition's.
use Prim.Native.Nat.{ℕ, zero, suc}
use mathlib.Core.Path.{◌≡◌, refl, ap, ◌∙◌}
use mathlib.Core.List.{List}
use mathlib.Core.Bool.{true}
use lib.Dec.{T}
use Rattle.std.specs.Prelude.{Some, None}
use Rattle.hir.specs.declared.ConstantKind.{ConstantKind}
use Rattle.hir.specs.declared.ConstantKind.TheVariants as constant
use Rattle.hir.specs.declared.ExprKind.{ExprKind}
use Rattle.hir.specs.declared.ExprKind.TheVariants as expr
use Rattle.hir.specs.declared.Record.{Record}
use Rattle.hir.specs.declared.Record.TheVariants as kind
use Rattle.script_records.specs.Layout.{layout_of, string_at}
use Rattle.script.specs.Resolve.{resolved, expr_over}
use Rattle.lowering.specs.Meaning as meaning
use Rattle.tree.specs.Trees.{rec_of}
use Rattle.tree.specs.Within.{constant_named, expr_named, record_named}
use Rattle.operators.specs.declared.shape.Shape.{Shape}
use Rattle.operators.specs.declared.shape.Shape.TheVariants.{Constant, NamedFunction}
use Rattle.operators.specs.Shapes.{constant_in, shape_in, literal_in, kind_shape, root_shape, constant_literal, shape_literal}

kind_is : (F : List ℕ) (k : ExprKind) → shape_in F (kind_shape k) ≡ meaning.shape (expr_over (string_at F (layout_of F)) k)
kind_is F (expr.Function None r m) = refl
kind_is F (expr.Function (Some n) r m) = refl
kind_is F _ = refl

-- a record's shape, and the literal of a shape
pub shape_is : (F : List ℕ) (r : Record) → shape_in F (root_shape r) ≡ meaning.shape_of (rec_of F r)
unfolding resolved
shape_is F (kind.Expr k) = kind_is F k
shape_is F _ = refl

constant_is : (F : List ℕ) (c : ConstantKind) → literal_in F (constant_literal c) ≡ meaning.literal_of_constant (constant_in F c)
constant_is F (constant.String s) = refl
constant_is F _ = refl

literal_at : (F : List ℕ) (s : Shape) → literal_in F (shape_literal s) ≡ meaning.literal (shape_in F s)
literal_at F (Constant c) = constant_is F c
literal_at F _ = refl

pub literal_is : (F : List ℕ) (r : Record) → literal_in F (shape_literal (root_shape r)) ≡ meaning.literal (meaning.shape_of (rec_of F r))
literal_is F r = literal_at F (root_shape r) ∙ ap meaning.literal (shape_is F r)

-- what a shape's strings name, its record's strings name
kind_named : (F : List ℕ) (i : ℕ) (k : ExprKind) → T (expr_named F i k) → (c : ConstantKind) → kind_shape k ≡ Constant c → T (constant_named F c)
kind_named F i (expr.Constant c) h d e = let x : c ≡ d = cc in rw (← x) h
kind_named F i (expr.Function None r m) h d e = cc
kind_named F i (expr.Function (Some n) r m) h d e = cc
kind_named F i _ h d e = cc

pub shape_named : (F : List ℕ) (i : ℕ) (r : Record) → T (record_named F i r) → (c : ConstantKind) → root_shape r ≡ Constant c → T (constant_named F c)
shape_named F i (kind.Expr k) h c e = kind_named F i k h c e
shape_named F i _ h c e = cc

-- a record that is there
pub present_is : (F : List ℕ) (r : Record) → (r ≡ kind.Absent → ⊥) → true ≡ meaning.present (rec_of F r)
unfolding resolved
present_is F kind.Absent h = absurd (h refl)
present_is F _ h = refl
