-- What the code's enums of a record's shape stand for.
use Rattle.std.specs.Prelude.{ℕ, ◌+◌, ◌*◌, List, Option, Some, None}
use Rattle.hir.specs.Hir as tree
use Rattle.hir.specs.declared.ConstantKind.{ConstantKind}
use Rattle.hir.specs.declared.ConstantKind.TheVariants as constant
use Rattle.hir.specs.declared.ExprKind.{ExprKind}
use Rattle.hir.specs.declared.ExprKind.TheVariants as expr
use Rattle.hir.specs.declared.Record.{Record}
use Rattle.hir.specs.declared.Record.TheVariants as kind
use Rattle.script_records.specs.Layout.{layout_of, string_at}
use Rattle.decode.specs.Numbers.{unsigned}
use Rattle.script.specs.Resolve.{constant_over}
use Rattle.lowering.specs.Meaning as meaning
use Rattle.operators.specs.declared.shape.Shape.{Shape}
use Rattle.operators.specs.declared.shape.Shape.TheVariants.{Constant, Field, NamedFunction, Other}
use Rattle.operators.specs.declared.shape.Literal.{Literal}
use Rattle.operators.specs.declared.shape.Literal.TheVariants.{String, Integer, Float}

abbrev pub constant_in : List ℕ → ConstantKind → tree.ConstantKind
constant_in F c = constant_over (string_at F (layout_of F)) c

abbrev pub shape_in : List ℕ → Shape → meaning.Shape
shape_in F (Constant c) = meaning.constant (constant_in F c)
shape_in F Field = meaning.field
shape_in F NamedFunction = meaning.named-function
shape_in F Other = meaning.other

abbrev pub literal_in : List ℕ → Option Literal → meaning.Literal
literal_in F (Some (String s)) = meaning.string (string_at F (layout_of F) s)
literal_in F (Some (Integer n)) = meaning.integer (unsigned n)
literal_in F (Some (Float low high)) = meaning.float (low + 0x1_0000_0000 * high)
literal_in F None = meaning.no_literal

abbrev pub kind_shape : ExprKind → Shape
kind_shape (expr.Constant c) = Constant c
kind_shape expr.Field = Field
kind_shape (expr.Function (Some n) r m) = NamedFunction
kind_shape _ = Other

abbrev pub root_shape : Record → Shape
root_shape (kind.Expr k) = kind_shape k
root_shape _ = Other

abbrev pub constant_literal : ConstantKind → Option Literal
constant_literal (constant.String s) = Some (String s)
constant_literal (constant.Integer n) = Some (Integer n)
constant_literal (constant.Float low high) = Some (Float low high)
constant_literal _ = None

abbrev pub shape_literal : Shape → Option Literal
shape_literal (Constant c) = constant_literal c
shape_literal _ = None
