-- The decoded record (`hir.rs`) of a record's words, by document 01's numbers. Of words that keep the rules nothing is lost; of others a bool is
-- whether it is not 0, and a number too large for its type is cut to it.
use Rattle.std.specs.Prelude.{ℕ, ◌-◌, ◌/◌, ◌%◌, ◌^◌, List, [], ◌∷◌, Option, Some, None, Bool, not, cond, ltb, eqb, ℤ, pos, negsuc, get_or}
use Rattle.hir.specs.declared.Affix.{Affix}
use Rattle.hir.specs.declared.Affix.TheVariants.{Postfix, Prefix}
use Rattle.hir.specs.declared.UnaryOperator.{UnaryOperator}
use Rattle.hir.specs.declared.UnaryOperator.TheVariants as unary
use Rattle.hir.specs.declared.BinaryOperator.{BinaryOperator}
use Rattle.hir.specs.declared.BinaryOperator.TheVariants as binary
use Rattle.hir.specs.declared.SimpleKind.TheVariants as simple
use Rattle.hir.specs.declared.ConstantKind.{ConstantKind}
use Rattle.hir.specs.declared.ConstantKind.TheVariants as constant
use Rattle.hir.specs.declared.ExprKind.{ExprKind}
use Rattle.hir.specs.declared.ExprKind.TheVariants as expr
use Rattle.hir.specs.declared.EnumeratorTarget.TheVariants as target
use Rattle.hir.specs.declared.ForCondition.{ForCondition}
use Rattle.hir.specs.declared.ForCondition.TheVariants as loop
use Rattle.hir.specs.declared.StatementKind.{StatementKind}
use Rattle.hir.specs.declared.StatementKind.TheVariants as statement
use Rattle.hir.specs.declared.Record.{Record}
use Rattle.hir.specs.declared.Record.TheVariants as kind
use Rattle.decode.specs.declared.Function.{Function}
use Rattle.script_records.specs.Layout.{Words, supported}

-- a word in two's complement
unfoldable pub signed : ℕ → ℤ
signed w = cond (ltb w (2 ^ 31)) (pos w) (negsuc (2 ^ 32 - 1 - w))

abbrev pub is_one : ℕ → Bool
is_one a = not (eqb a 0)

-- BinaryOperator, by its place
unfoldable pub binary_operators : List BinaryOperator
binary_operators =
    binary.Add ∷ binary.Assign ∷ binary.AddAssign ∷ binary.Sub ∷ binary.SubAssign ∷ binary.Divide ∷ binary.DivideAssign ∷ binary.Multiply ∷
    binary.MultiplyAssign ∷ binary.Modulo ∷ binary.ModuloAssign ∷ binary.BitAnd ∷ binary.BitAndAssign ∷ binary.BitOr ∷ binary.BitOrAssign ∷
    binary.BitXor ∷ binary.BitXorAssign ∷ binary.BitShiftLeft ∷ binary.BitShiftLeftAssign ∷ binary.BitShiftRight ∷ binary.BitShiftRightAssign ∷
    binary.BitShiftRightUnsigned ∷ binary.BitShiftRightUnsignedAssign ∷ binary.Equal ∷ binary.StrictEqual ∷ binary.NotEqual ∷ binary.StrictNotEqual ∷
    binary.LessThan ∷ binary.LessThanEqual ∷ binary.GreaterThan ∷ binary.GreaterThanEqual ∷ binary.LogicalAnd ∷ binary.LogicalOr ∷
    binary.InstanceOf ∷ binary.StringEqual ∷ binary.StringGreaterThan ∷ binary.StringGreaterThanEqual ∷ binary.StringLessThan ∷
    binary.StringLessThanEqual ∷ binary.StringNotEqual ∷ binary.BooleanAnd ∷ binary.BooleanOr ∷ binary.StringAdd ∷ []

abbrev pub affix_of : ℕ → Affix
affix_of b = cond (is_one b) Prefix Postfix

unfoldable pub unary_of : ℕ → ℕ → UnaryOperator
unary_of a b =
    get_or (unary.Sub ∷ unary.Add ∷ unary.BitNot ∷ unary.Increment (affix_of b) ∷ unary.Decrement (affix_of b) ∷ []) a unary.LogicalNot

-- ConstantKind, by its place, and its value's words
unfoldable pub constant_of : Words → ConstantKind
constant_of w =
    get_or (constant.String w.b ∷ constant.Identifier w.b ∷ constant.Float w.b w.c ∷ constant.Integer (signed w.b) ∷
    constant.Boolean (is_one w.b) ∷ []) w.a (constant.Register (w.b % 256))

-- ForCondition: Enumerate of a variable, a declared variable or a register, or Classic
unfoldable pub condition_of : Words → ForCondition
condition_of w =
    cond (is_one w.a) loop.Classic
    (loop.Enumerate (cond (ltb w.b 2) (target.Variable w.c (is_one w.b)) (target.Register (w.c % 256))))

-- StatementKind and ExprKind by their places, for those that their place says all of; any of them stands at the places of the others
unfoldable pub statement_kinds : List StatementKind
statement_kinds =
    statement.Break ∷ statement.Return ∷ statement.Throw ∷ statement.Expr ∷ statement.Block ∷ statement.Break ∷ statement.While ∷ statement.If ∷
    statement.Break ∷ statement.Continue ∷ statement.Break ∷ statement.Break ∷ statement.Break ∷ statement.Break ∷ statement.Break ∷
    statement.Switch ∷ []

unfoldable pub expr_kinds : List ExprKind
expr_kinds =
    expr.Call ∷ expr.Call ∷ expr.New ∷ expr.DuplicateMovieClip ∷ expr.Simple simple.AsciiToChar ∷ expr.Simple simple.MBAsciiToChar ∷
    expr.Simple simple.CallFrame ∷ expr.Simple simple.GetTime ∷ expr.Call ∷ expr.Call ∷ expr.Ternary ∷ expr.InitObject ∷ expr.InitArray ∷
    expr.Field ∷ expr.Simple simple.TypeOf ∷ expr.Delete ∷ expr.Void ∷ expr.Call ∷ expr.Simple simple.GetVariable ∷ expr.Simple simple.SetVariable ∷
    expr.Call ∷ expr.Call ∷ expr.Simple simple.CastToInteger ∷ expr.Simple simple.CastToNumber ∷ expr.Simple simple.CastToString ∷
    expr.Simple simple.CastToObject ∷ expr.Simple simple.StringLength ∷ expr.Simple simple.MBStringLength ∷ expr.Simple simple.CharToAscii ∷
    expr.Simple simple.MBCharToAscii ∷ expr.Simple simple.Substring ∷ expr.Simple simple.MBSubstring ∷ expr.Simple simple.NextFrame ∷
    expr.Simple simple.PreviousFrame ∷ expr.Simple simple.Play ∷ expr.Simple simple.Stop ∷ expr.Simple simple.StopSounds ∷ expr.Call ∷
    expr.Simple simple.EndDrag ∷ expr.Simple simple.GetTargetPath ∷ expr.Simple simple.Trace ∷ expr.Simple simple.RemoveSprite ∷
    expr.Simple simple.GetRandomNumber ∷ expr.Call ∷ expr.Call ∷ expr.Simple simple.ToggleQuality ∷ []

abbrev pub when : ℕ → ℕ → Record → Record → Record
when n k r otherwise = cond (eqb k n) r otherwise

-- the records whose kind says all of them
unfoldable pub plain_of : ℕ → Record
plain_of k =
    cond (not (supported k)) kind.Other
    (cond (ltb k 16) (kind.Statement (get_or statement_kinds k statement.Break))
    (cond (ltb k 32) kind.Other
    (cond (ltb k 78) (kind.Expr (get_or expr_kinds (k - 32) expr.Call))
    (when 96 k kind.Absent (when 100 k kind.Case (when 101 k kind.Default kind.Other))))))

-- a function's name, whose word is its index plus 1, or 0 for none
abbrev pub name_of : ℕ → Option ℕ
name_of a = cond (eqb a 0) None (Some (a - 1))

-- Declare, ForIn; Constant, BinaryOperator, UnaryOperator, Function, GotoFrame, StartDrag, GetProperty, SetProperty; list, object field, parameter
unfoldable pub record_of : Words → Record
record_of w =
    when 0 w.kind (kind.Statement (statement.Declare w.a))
    (when 5 w.kind (kind.Statement (statement.ForIn (condition_of w)))
    (when 32 w.kind (kind.Expr (expr.Constant (constant_of w)))
    (when 40 w.kind (kind.Expr (expr.Binary (get_or binary_operators w.a binary.Add)))
    (when 41 w.kind (kind.Expr (expr.Unary (unary_of w.a w.b)))
    (when 49 w.kind (kind.Expr (expr.Function (name_of w.a) (w.b % 256) (w.c % 512)))
    (when 52 w.kind (kind.Expr (expr.GotoFrame (is_one w.a)))
    (when 69 w.kind (kind.Expr (expr.StartDrag (is_one w.a)))
    (when 75 w.kind (kind.Expr (expr.GetProperty (signed w.a)))
    (when 76 w.kind (kind.Expr (expr.SetProperty (signed w.a)))
    (when 97 w.kind (kind.List w.a)
    (when 98 w.kind (kind.ObjectField w.a)
    (when 99 w.kind (kind.Parameter w.a (w.b % 512)) (plain_of w.kind)))))))))))))

-- bits 0 to 8
abbrev pub marks_of : ℕ → List Bool
marks_of c =
    is_one (c % 2) ∷ is_one (c / 2 % 2) ∷ is_one (c / 4 % 2) ∷ is_one (c / 8 % 2) ∷ is_one (c / 16 % 2) ∷ is_one (c / 32 % 2) ∷ is_one (c / 64 % 2) ∷
    is_one (c / 128 % 2) ∷ is_one (c / 256 % 2) ∷ []

unfoldable pub function_of : Words → Function
function_of w = record { name = name_of w.a; register_count = w.b % 256; marks = marks_of w.c }
