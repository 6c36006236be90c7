-- The tables of `statement.rs`: how a binary operator is generated, and which action a simple expression ends in.
use Rattle.hir.specs.declared.BinaryOperator.{BinaryOperator}
use Rattle.hir.specs.declared.BinaryOperator.TheVariants as binary
use Rattle.hir.specs.declared.SimpleKind.{SimpleKind}
use Rattle.hir.specs.declared.SimpleKind.TheVariants as simple
use Rattle.pcode.specs.declared.Op.{Op}
use Rattle.pcode.specs.declared.Op.TheVariants as op

-- the operands and an action, perhaps a Not, perhaps an assignment (`trivial`, `trivial_assign`); or one of three others
pub data Plan : Type 0 where
  trivial trivial-not trivial-assign : Op → Plan
  assign logical-and logical-or : Plan

abbrev pub plan : BinaryOperator → Plan
plan binary.Add = trivial op.Add2
plan binary.Assign = assign
plan binary.AddAssign = trivial-assign op.Add2
plan binary.Sub = trivial op.Subtract
plan binary.SubAssign = trivial-assign op.Subtract
plan binary.Divide = trivial op.Divide
plan binary.DivideAssign = trivial-assign op.Divide
plan binary.Multiply = trivial op.Multiply
plan binary.MultiplyAssign = trivial-assign op.Multiply
plan binary.Modulo = trivial op.Modulo
plan binary.ModuloAssign = trivial-assign op.Modulo
plan binary.BitAnd = trivial op.BitAnd
plan binary.BitAndAssign = trivial-assign op.BitAnd
plan binary.BitOr = trivial op.BitOr
plan binary.BitOrAssign = trivial-assign op.BitOr
plan binary.BitXor = trivial op.BitXor
plan binary.BitXorAssign = trivial-assign op.BitXor
plan binary.BitShiftLeft = trivial op.BitLShift
plan binary.BitShiftLeftAssign = trivial-assign op.BitLShift
plan binary.BitShiftRight = trivial op.BitRShift
plan binary.BitShiftRightAssign = trivial-assign op.BitRShift
plan binary.BitShiftRightUnsigned = trivial op.BitURShift
plan binary.BitShiftRightUnsignedAssign = trivial-assign op.BitURShift
plan binary.Equal = trivial op.Equals2
plan binary.StrictEqual = trivial op.StrictEquals
plan binary.NotEqual = trivial-not op.Equals2
plan binary.StrictNotEqual = trivial-not op.StrictEquals
plan binary.LessThan = trivial op.Less2
plan binary.LessThanEqual = trivial-not op.Greater
plan binary.GreaterThan = trivial op.Greater
plan binary.GreaterThanEqual = trivial-not op.Less2
plan binary.LogicalAnd = logical-and
plan binary.LogicalOr = logical-or
plan binary.InstanceOf = trivial op.InstanceOf
plan binary.StringEqual = trivial op.StringEquals
plan binary.StringGreaterThan = trivial op.StringGreater
plan binary.StringGreaterThanEqual = trivial-not op.StringLess
plan binary.StringLessThan = trivial op.StringLess
plan binary.StringLessThanEqual = trivial-not op.StringGreater
plan binary.StringNotEqual = trivial-not op.StringEquals
plan binary.BooleanAnd = trivial op.And
plan binary.BooleanOr = trivial op.Or
plan binary.StringAdd = trivial op.StringAdd

abbrev pub simple_action : SimpleKind → Op
simple_action simple.AsciiToChar = op.AsciiToChar
simple_action simple.MBAsciiToChar = op.MBAsciiToChar
simple_action simple.CallFrame = op.Call
simple_action simple.GetTime = op.GetTime
simple_action simple.TypeOf = op.TypeOf
simple_action simple.GetVariable = op.GetVariable
simple_action simple.SetVariable = op.SetVariable
simple_action simple.CastToInteger = op.ToInteger
simple_action simple.CastToNumber = op.ToNumber
simple_action simple.CastToString = op.ToString
simple_action simple.CastToObject = op.CastOp
simple_action simple.StringLength = op.StringLength
simple_action simple.MBStringLength = op.MBStringLength
simple_action simple.CharToAscii = op.CharToAscii
simple_action simple.MBCharToAscii = op.MBCharToAscii
simple_action simple.Substring = op.StringExtract
simple_action simple.MBSubstring = op.MBStringExtract
simple_action simple.NextFrame = op.NextFrame
simple_action simple.PreviousFrame = op.PrevFrame
simple_action simple.Play = op.Play
simple_action simple.Stop = op.Stop
simple_action simple.StopSounds = op.StopSounds
simple_action simple.EndDrag = op.EndDrag
simple_action simple.GetTargetPath = op.TargetPath
simple_action simple.Trace = op.Trace
simple_action simple.RemoveSprite = op.RemoveSprite
simple_action simple.GetRandomNumber = op.RandomNumber
simple_action simple.ToggleQuality = op.ToggleQuality
