-- The actions without operands: each is found by its code.
use mathlib.Core.Path.{◌≡◌, refl}
use mathlib.Core.List.{◌++◌}
use mathlib.Core.Option.{some}
use lib.Dec.{leb-zero}
use lib.ListN.{length}
use Rattle.pcode.specs.declared.Op.{Op}
use Rattle.pcode.specs.declared.Op.TheVariants.{NextFrame, PrevFrame, Play, Stop, ToggleQuality, StopSounds, Subtract, Multiply, Divide, And, Or, Not, StringEquals, StringLength, StringExtract, Pop, ToInteger, GetVariable, SetVariable, StringAdd, GetProperty, SetProperty, CloneSprite, RemoveSprite, Trace, StartDrag, EndDrag, StringLess, Throw, CastOp, RandomNumber, MBStringLength, CharToAscii, AsciiToChar, GetTime, MBStringExtract, MBCharToAscii, MBAsciiToChar, Delete, Delete2, DefineLocal, CallFunction, Return, Modulo, NewObject, DefineLocal2, InitArray, InitObject, TypeOf, TargetPath, Add2, Less2, Equals2, ToNumber, ToString, PushDuplicate, GetMember, SetMember, Increment, Decrement, CallMethod, NewMethod, InstanceOf, Enumerate2, BitAnd, BitOr, BitXor, BitLShift, BitRShift, BitURShift, StrictEquals, Greater, StringGreater, Call}
use Rattle.pcode.specs.Pcode.{op}
use Rattle.action_format.specs.Lists.{simple}
use Rattle.action_format.specs.Bytes.{Bytes, word, single_bytes}
use Rattle.action_format.specs.Readers.{read_byte, word_reader, read_bytes}
use Rattle.action_format.specs.Decode.{alone, read_record}

pub op_law : (o : Op) (r : Bytes) → read_record (single_bytes (simple (op o)) ++ r) ≡ some (alone (simple (op o)), r)
unfolding read_record read_byte word word_reader read_bytes
op_law NextFrame r = refl
op_law PrevFrame r = refl
op_law Play r = refl
op_law Stop r = refl
op_law ToggleQuality r = refl
op_law StopSounds r = refl
op_law Subtract r = refl
op_law Multiply r = refl
op_law Divide r = refl
op_law And r = refl
op_law Or r = refl
op_law Not r = refl
op_law StringEquals r = refl
op_law StringLength r = refl
op_law StringExtract r = refl
op_law Pop r = refl
op_law ToInteger r = refl
op_law GetVariable r = refl
op_law SetVariable r = refl
op_law StringAdd r = refl
op_law GetProperty r = refl
op_law SetProperty r = refl
op_law CloneSprite r = refl
op_law RemoveSprite r = refl
op_law Trace r = refl
op_law StartDrag r = refl
op_law EndDrag r = refl
op_law StringLess r = refl
op_law Throw r = refl
op_law CastOp r = refl
op_law RandomNumber r = refl
op_law MBStringLength r = refl
op_law CharToAscii r = refl
op_law AsciiToChar r = refl
op_law GetTime r = refl
op_law MBStringExtract r = refl
op_law MBCharToAscii r = refl
op_law MBAsciiToChar r = refl
op_law Delete r = refl
op_law Delete2 r = refl
op_law DefineLocal r = refl
op_law CallFunction r = refl
op_law Return r = refl
op_law Modulo r = refl
op_law NewObject r = refl
op_law DefineLocal2 r = refl
op_law InitArray r = refl
op_law InitObject r = refl
op_law TypeOf r = refl
op_law TargetPath r = refl
op_law Add2 r = refl
op_law Less2 r = refl
op_law Equals2 r = refl
op_law ToNumber r = refl
op_law ToString r = refl
op_law PushDuplicate r = refl
op_law GetMember r = refl
op_law SetMember r = refl
op_law Increment r = refl
op_law Decrement r = refl
op_law CallMethod r = refl
op_law NewMethod r = refl
op_law InstanceOf r = refl
op_law Enumerate2 r = refl
op_law BitAnd r = refl
op_law BitOr r = refl
op_law BitXor r = refl
op_law BitLShift r = refl
op_law BitRShift r = refl
op_law BitURShift r = refl
op_law StrictEquals r = refl
op_law Greater r = refl
op_law StringGreater r = refl
op_law Call r = rw (leb-zero (length r))
