-- Document 01's kind and values for every case of a decoded record.
use Rattle.std.specs.Prelude.{ℕ, ◌+◌, ◌-◌, ◌*◌, ◌^◌, List, [], ◌∷◌, Option, Some, None, Bool, true, false, ℤ, pos, negsuc}
use Rattle.hir.specs.declared.Affix.{Affix}
use Rattle.hir.specs.declared.Affix.TheVariants.{Postfix, Prefix}
use Rattle.hir.specs.declared.UnaryOperator.{UnaryOperator}
use Rattle.hir.specs.declared.UnaryOperator.TheVariants as unary
use Rattle.hir.specs.declared.BinaryOperator.{BinaryOperator}
use Rattle.hir.specs.declared.BinaryOperator.TheVariants as binary
use Rattle.hir.specs.declared.SimpleKind.{SimpleKind}
use Rattle.hir.specs.declared.SimpleKind.TheVariants as simple
use Rattle.hir.specs.declared.ConstantKind.{ConstantKind}
use Rattle.hir.specs.declared.ConstantKind.TheVariants as constant
use Rattle.hir.specs.declared.ExprKind.{ExprKind}
use Rattle.hir.specs.declared.ExprKind.TheVariants as expr
use Rattle.hir.specs.declared.EnumeratorTarget.TheVariants as target
use Rattle.hir.specs.declared.ForCondition.{ForCondition}
use Rattle.hir.specs.declared.ForCondition.TheVariants as loop
use Rattle.hir.specs.declared.StatementKind.{StatementKind}
use Rattle.hir.specs.declared.StatementKind.TheVariants as statement
use Rattle.hir.specs.declared.Record.{Record}
use Rattle.hir.specs.declared.Record.TheVariants as kind
use Rattle.decode.specs.declared.Function.{Function}
use Rattle.script_records.specs.Layout.{Words}

abbrev pub words : ℕ → ℕ → ℕ → ℕ → Words
words k a b c = record { kind = k; a = a; b = b; c = c }

abbrev pub bit : Bool → ℕ
bit true = 1
bit false = 0

-- a number in two's complement
abbrev pub unsigned : ℤ → ℕ
unsigned (pos n) = n
unsigned (negsuc n) = 2 ^ 32 - 1 - n

abbrev pub affix_place : Affix → ℕ
affix_place Postfix = 0
affix_place Prefix = 1

abbrev pub unary_words : UnaryOperator → Words
unary_words unary.Sub = words 41 0 0 0
unary_words unary.Add = words 41 1 0 0
unary_words unary.BitNot = words 41 2 0 0
unary_words (unary.Increment x) = words 41 3 (affix_place x) 0
unary_words (unary.Decrement x) = words 41 4 (affix_place x) 0
unary_words unary.LogicalNot = words 41 5 0 0

abbrev pub binary_place : BinaryOperator → ℕ
binary_place binary.Add = 0
binary_place binary.Assign = 1
binary_place binary.AddAssign = 2
binary_place binary.Sub = 3
binary_place binary.SubAssign = 4
binary_place binary.Divide = 5
binary_place binary.DivideAssign = 6
binary_place binary.Multiply = 7
binary_place binary.MultiplyAssign = 8
binary_place binary.Modulo = 9
binary_place binary.ModuloAssign = 10
binary_place binary.BitAnd = 11
binary_place binary.BitAndAssign = 12
binary_place binary.BitOr = 13
binary_place binary.BitOrAssign = 14
binary_place binary.BitXor = 15
binary_place binary.BitXorAssign = 16
binary_place binary.BitShiftLeft = 17
binary_place binary.BitShiftLeftAssign = 18
binary_place binary.BitShiftRight = 19
binary_place binary.BitShiftRightAssign = 20
binary_place binary.BitShiftRightUnsigned = 21
binary_place binary.BitShiftRightUnsignedAssign = 22
binary_place binary.Equal = 23
binary_place binary.StrictEqual = 24
binary_place binary.NotEqual = 25
binary_place binary.StrictNotEqual = 26
binary_place binary.LessThan = 27
binary_place binary.LessThanEqual = 28
binary_place binary.GreaterThan = 29
binary_place binary.GreaterThanEqual = 30
binary_place binary.LogicalAnd = 31
binary_place binary.LogicalOr = 32
binary_place binary.InstanceOf = 33
binary_place binary.StringEqual = 34
binary_place binary.StringGreaterThan = 35
binary_place binary.StringGreaterThanEqual = 36
binary_place binary.StringLessThan = 37
binary_place binary.StringLessThanEqual = 38
binary_place binary.StringNotEqual = 39
binary_place binary.BooleanAnd = 40
binary_place binary.BooleanOr = 41
binary_place binary.StringAdd = 42

abbrev pub simple_kind : SimpleKind → ℕ
simple_kind simple.AsciiToChar = 36
simple_kind simple.MBAsciiToChar = 37
simple_kind simple.CallFrame = 38
simple_kind simple.GetTime = 39
simple_kind simple.TypeOf = 46
simple_kind simple.GetVariable = 50
simple_kind simple.SetVariable = 51
simple_kind simple.CastToInteger = 54
simple_kind simple.CastToNumber = 55
simple_kind simple.CastToString = 56
simple_kind simple.CastToObject = 57
simple_kind simple.StringLength = 58
simple_kind simple.MBStringLength = 59
simple_kind simple.CharToAscii = 60
simple_kind simple.MBCharToAscii = 61
simple_kind simple.Substring = 62
simple_kind simple.MBSubstring = 63
simple_kind simple.NextFrame = 64
simple_kind simple.PreviousFrame = 65
simple_kind simple.Play = 66
simple_kind simple.Stop = 67
simple_kind simple.StopSounds = 68
simple_kind simple.EndDrag = 70
simple_kind simple.GetTargetPath = 71
simple_kind simple.Trace = 72
simple_kind simple.RemoveSprite = 73
simple_kind simple.GetRandomNumber = 74
simple_kind simple.ToggleQuality = 77

abbrev pub constant_words : ConstantKind → Words
constant_words (constant.String s) = words 32 0 s 0
constant_words (constant.Identifier s) = words 32 1 s 0
constant_words (constant.Float low high) = words 32 2 low high
constant_words (constant.Integer n) = words 32 3 (unsigned n) 0
constant_words (constant.Boolean b) = words 32 4 (bit b) 0
constant_words (constant.Register r) = words 32 5 r 0

abbrev pub condition_words : ForCondition → Words
condition_words (loop.Enumerate (target.Variable n d)) = words 5 0 (bit d) n
condition_words (loop.Enumerate (target.Register r)) = words 5 0 2 r
condition_words loop.Classic = words 5 1 0 0

-- a name's index plus 1, or 0 for none
abbrev pub name_number : Option ℕ → ℕ
name_number None = 0
name_number (Some i) = i + 1

abbrev pub expr_words : ExprKind → Words
expr_words (expr.Constant c) = constant_words c
expr_words (expr.Simple s) = words (simple_kind s) 0 0 0
expr_words (expr.Binary o) = words 40 (binary_place o) 0 0
expr_words (expr.Unary o) = unary_words o
expr_words expr.Call = words 33 0 0 0
expr_words expr.New = words 34 0 0 0
expr_words expr.DuplicateMovieClip = words 35 0 0 0
expr_words expr.Ternary = words 42 0 0 0
expr_words expr.InitObject = words 43 0 0 0
expr_words expr.InitArray = words 44 0 0 0
expr_words expr.Field = words 45 0 0 0
expr_words expr.Delete = words 47 0 0 0
expr_words expr.Void = words 48 0 0 0
expr_words (expr.Function n r m) = words 49 (name_number n) r m
expr_words (expr.GotoFrame p) = words 52 (bit p) 0 0
expr_words (expr.StartDrag l) = words 69 (bit l) 0 0
expr_words (expr.GetProperty p) = words 75 (unsigned p) 0 0
expr_words (expr.SetProperty p) = words 76 (unsigned p) 0 0

abbrev pub statement_words : StatementKind → Words
statement_words (statement.Declare n) = words 0 n 0 0
statement_words statement.Return = words 1 0 0 0
statement_words statement.Throw = words 2 0 0 0
statement_words statement.Expr = words 3 0 0 0
statement_words statement.Block = words 4 0 0 0
statement_words (statement.ForIn c) = condition_words c
statement_words statement.While = words 6 0 0 0
statement_words statement.If = words 7 0 0 0
statement_words statement.Break = words 8 0 0 0
statement_words statement.Continue = words 9 0 0 0
statement_words statement.Switch = words 15 0 0 0

-- Other stands for no kind that is kept: 16 is none
unfoldable pub words_for : Record → Words
words_for (kind.Statement k) = statement_words k
words_for (kind.Expr k) = expr_words k
words_for kind.Absent = words 96 0 0 0
words_for (kind.List n) = words 97 n 0 0
words_for (kind.ObjectField n) = words 98 n 0 0
words_for (kind.Parameter n r) = words 99 n r 0
words_for kind.Case = words 100 0 0 0
words_for kind.Default = words 101 0 0 0
words_for kind.Other = words 16 0 0 0

-- marks as bits, the lowest first
unfoldable pub marks_number : List Bool → ℕ
marks_number [] = 0
marks_number (m ∷ ms) = bit m + 2 * marks_number ms

abbrev pub function_words : Function → Words
function_words f = words 49 (name_number f.name) f.register_count (marks_number f.marks)
