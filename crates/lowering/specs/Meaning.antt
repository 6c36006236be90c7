-- What a tree generates, and what its parent looks at in its record.
use Rattle.std.specs.Prelude.{ℕ, zero, suc, ◌-◌, [], Bool, true, false, ◌&&◌}
use Rattle.std.proofs.Math.Option.{Option, none, some}
use Rattle.hir.specs.Hir.{Str, ConstantKind, ExprKind, StatementKind, Rec}
use Rattle.hir.specs.Tree.{Forest, more}
use Rattle.pcode.specs.Pcode.{Param}
use Rattle.lowering.specs.Builder.{M, Step, done}
use Rattle.lowering.specs.Access.{Access, Direct, ◌gives◌}

-- the labels that Break and Continue jump to
pub record Loop : Type 0 where
  pub break_label : Option ℕ
  pub continue_label : Option ℕ

-- a tree as an expression, whose value may be left out if it is discarded; as an access; and as a statement
pub record Meaning : Type 0 where
  pub rec : Rec
  pub gen_expr : (discard : Bool) → Step
  pub for_expr : M Access
  pub gen_statement : Loop → Step

-- no tree, which generates nothing: an accepted file has no need of it
abbrev pub missing : Meaning
missing = record { rec = Rec.Absent; gen_expr = λ d. done; for_expr = done gives Direct; gen_statement = λ loop. done }

-- of trees in a row: the one n places before the last, and its children
abbrev pub nth : {A : Type 0} → A → ℕ → Forest A → A
nth a n Forest.none = a
nth a zero (more before m kids) = m
nth a (suc n) (more before m kids) = nth a n before

abbrev pub kid : ℕ → Forest Meaning → Meaning
kid n ms = nth missing n ms

abbrev pub list : {A : Type 0} → ℕ → Forest A → Forest A
list n Forest.none = Forest.none
list zero (more before m kids) = kids
list (suc n) (more before m kids) = list n before

-- how many trees stand in a row
abbrev pub width : {A : Type 0} → Forest A → ℕ
width Forest.none = 0
width (more before m kids) = suc (width before)

-- an expression before it is generated
pub data Shape : Type 0 where
  constant : ConstantKind → Shape
  field named-function other : Shape

abbrev pub shape : ExprKind → Shape
shape (ExprKind.Constant c) = constant c
shape ExprKind.Field = field
shape (ExprKind.Function (some name) r m) = named-function
shape (ExprKind.Function none r m) = other
shape (ExprKind.Simple o) = other
shape (ExprKind.Binary o) = other
shape (ExprKind.Unary o) = other
shape ExprKind.Call = other
shape ExprKind.New = other
shape ExprKind.DuplicateMovieClip = other
shape ExprKind.Ternary = other
shape ExprKind.InitObject = other
shape ExprKind.InitArray = other
shape ExprKind.Delete = other
shape ExprKind.Void = other
shape (ExprKind.GotoFrame p) = other
shape (ExprKind.StartDrag l) = other
shape (ExprKind.GetProperty p) = other
shape (ExprKind.SetProperty p) = other

abbrev pub shape_of : Rec → Shape
shape_of (Rec.Expr k) = shape k
shape_of (Rec.Statement k) = other
shape_of Rec.Absent = other
shape_of Rec.List = other
shape_of Rec.Case = other
shape_of Rec.Default = other
shape_of Rec.Other = other
shape_of (Rec.ObjectField key) = other
shape_of (Rec.Parameter name r) = other

-- the constants that negation and GotoFrame look at
pub data Literal : Type 0 where
  string : Str → Literal
  integer float : ℕ → Literal
  no_literal : Literal

abbrev pub literal_of_constant : ConstantKind → Literal
literal_of_constant (ConstantKind.String s) = string s
literal_of_constant (ConstantKind.Integer v) = integer v
literal_of_constant (ConstantKind.Float v) = float v
literal_of_constant (ConstantKind.Identifier s) = no_literal
literal_of_constant (ConstantKind.Boolean b) = no_literal
literal_of_constant (ConstantKind.Register r) = no_literal

abbrev pub literal : Shape → Literal
literal (constant c) = literal_of_constant c
literal field = no_literal
literal named-function = no_literal
literal other = no_literal

abbrev pub is_named : Shape → Bool
is_named named-function = true
is_named (constant c) = false
is_named field = false
is_named other = false

-- an optional child that is there
abbrev pub present : Rec → Bool
present Rec.Absent = false
present (Rec.Expr k) = true
present (Rec.Statement k) = true
present Rec.List = true
present Rec.Case = true
present Rec.Default = true
present Rec.Other = true
present (Rec.ObjectField key) = true
present (Rec.Parameter name r) = true

-- a parameter, whose record holds its register plus 1, or 0 for none; and an object field's key
abbrev pub param : Rec → Param
param (Rec.Parameter name r) = record { name = name; register = r - 1 }
param (Rec.ObjectField key) = record { name = key; register = 0 }
param (Rec.Expr k) = record { name = []; register = 0 }
param (Rec.Statement k) = record { name = []; register = 0 }
param Rec.Absent = record { name = []; register = 0 }
param Rec.List = record { name = []; register = 0 }
param Rec.Case = record { name = []; register = 0 }
param Rec.Default = record { name = []; register = 0 }
param Rec.Other = record { name = []; register = 0 }

-- a switch's list
pub data Element : Type 0 where
  case default statement : Element

abbrev pub element : Rec → Element
element Rec.Case = case
element Rec.Default = default
element (Rec.Statement k) = statement
element (Rec.Expr k) = statement
element Rec.Absent = statement
element Rec.List = statement
element Rec.Other = statement
element (Rec.ObjectField key) = statement
element (Rec.Parameter name r) = statement

-- an expression that is a whole statement
abbrev pub is_expr : StatementKind → Bool
is_expr StatementKind.Expr = true
is_expr (StatementKind.Declare name) = false
is_expr StatementKind.Return = false
is_expr StatementKind.Throw = false
is_expr StatementKind.Block = false
is_expr (StatementKind.ForIn c) = false
is_expr StatementKind.While = false
is_expr StatementKind.If = false
is_expr StatementKind.Break = false
is_expr StatementKind.Continue = false
is_expr StatementKind.Switch = false

-- a named function expression that is a whole statement
abbrev pub hoisted : Rec → Forest Meaning → Bool
hoisted (Rec.Statement k) kids = is_expr k && is_named (shape_of (kid 0 kids).rec)
hoisted (Rec.Expr k) kids = false
hoisted Rec.Absent kids = false
hoisted Rec.List kids = false
hoisted Rec.Case kids = false
hoisted Rec.Default kids = false
hoisted Rec.Other kids = false
hoisted (Rec.ObjectField key) kids = false
hoisted (Rec.Parameter name r) kids = false
