-- The codes of actions without operands are none of the others'.
use Prim.Native.Nat.{ℕ, ◌<◌}
use mathlib.Core.Path.{◌≡◌, refl}
use mathlib.Core.Bool.{Bool, true, not, ◌&&◌}
use lib.Dec.{ltb, eqb}
use borrow.Author.Tests.{ltb-true, eqb-false, not-true}
use Rattle.pcode.specs.declared.Op.{Op}
use Rattle.pcode.specs.declared.Op.TheVariants.{NextFrame, PrevFrame, Play, Stop, ToggleQuality, StopSounds, Subtract, Multiply, Divide, And, Or, Not, StringEquals, StringLength, StringExtract, Pop, ToInteger, GetVariable, SetVariable, StringAdd, GetProperty, SetProperty, CloneSprite, RemoveSprite, Trace, StartDrag, EndDrag, StringLess, Throw, CastOp, RandomNumber, MBStringLength, CharToAscii, AsciiToChar, GetTime, MBStringExtract, MBCharToAscii, MBAsciiToChar, Delete, Delete2, DefineLocal, CallFunction, Return, Modulo, NewObject, DefineLocal2, InitArray, InitObject, TypeOf, TargetPath, Add2, Less2, Equals2, ToNumber, ToString, PushDuplicate, GetMember, SetMember, Increment, Decrement, CallMethod, NewMethod, InstanceOf, Enumerate2, BitAnd, BitOr, BitXor, BitLShift, BitRShift, BitURShift, StrictEquals, Greater, StringGreater, Call}
use Rattle.pcode.specs.Pcode.{row_of}
use Rattle.script.proofs.WrittenRows.{first, second}

abbrev pub none_of : ℕ → Bool
none_of c =
    ltb c 256 && (not (eqb c 0x81) && (not (eqb c 0x87) && (not (eqb c 0x88) && (not (eqb c 0x8C) && (not (eqb c 0x99) && (not (eqb c 0x9D) && (not (eqb c 0x9F))))))))

pub op_code : (o : Op) → none_of (row_of o).code ≡ true
op_code NextFrame = refl
op_code PrevFrame = refl
op_code Play = refl
op_code Stop = refl
op_code ToggleQuality = refl
op_code StopSounds = refl
op_code Subtract = refl
op_code Multiply = refl
op_code Divide = refl
op_code And = refl
op_code Or = refl
op_code Not = refl
op_code StringEquals = refl
op_code StringLength = refl
op_code StringExtract = refl
op_code Pop = refl
op_code ToInteger = refl
op_code GetVariable = refl
op_code SetVariable = refl
op_code StringAdd = refl
op_code GetProperty = refl
op_code SetProperty = refl
op_code CloneSprite = refl
op_code RemoveSprite = refl
op_code Trace = refl
op_code StartDrag = refl
op_code EndDrag = refl
op_code StringLess = refl
op_code Throw = refl
op_code CastOp = refl
op_code RandomNumber = refl
op_code MBStringLength = refl
op_code CharToAscii = refl
op_code AsciiToChar = refl
op_code GetTime = refl
op_code MBStringExtract = refl
op_code MBCharToAscii = refl
op_code MBAsciiToChar = refl
op_code Delete = refl
op_code Delete2 = refl
op_code DefineLocal = refl
op_code CallFunction = refl
op_code Return = refl
op_code Modulo = refl
op_code NewObject = refl
op_code DefineLocal2 = refl
op_code InitArray = refl
op_code InitObject = refl
op_code TypeOf = refl
op_code TargetPath = refl
op_code Add2 = refl
op_code Less2 = refl
op_code Equals2 = refl
op_code ToNumber = refl
op_code ToString = refl
op_code PushDuplicate = refl
op_code GetMember = refl
op_code SetMember = refl
op_code Increment = refl
op_code Decrement = refl
op_code CallMethod = refl
op_code NewMethod = refl
op_code InstanceOf = refl
op_code Enumerate2 = refl
op_code BitAnd = refl
op_code BitOr = refl
op_code BitXor = refl
op_code BitLShift = refl
op_code BitRShift = refl
op_code BitURShift = refl
op_code StrictEquals = refl
op_code Greater = refl
op_code StringGreater = refl
op_code Call = refl

-- what the test says
pub record OpCode (c : ℕ) : Type 0 where
  pub small : c < 256
  pub not_frame : c ≡ 0x81 → ⊥
  pub not_store : c ≡ 0x87 → ⊥
  pub not_pool : c ≡ 0x88 → ⊥
  pub not_label : c ≡ 0x8C → ⊥
  pub not_jump : c ≡ 0x99 → ⊥
  pub not_if : c ≡ 0x9D → ⊥
  pub not_frame2 : c ≡ 0x9F → ⊥

pub op_says : (c : ℕ) → none_of c ≡ true → OpCode c
op_says c h =
    let a = second (ltb c 256) _ h in
    let b = second (not (eqb c 0x81)) _ a in
    let d = second (not (eqb c 0x87)) _ b in
    let e = second (not (eqb c 0x88)) _ d in
    let f = second (not (eqb c 0x8C)) _ e in
    let g = second (not (eqb c 0x99)) _ f in
    record {
      small = ltb-true c 256 (first (ltb c 256) _ h);
      not_frame = eqb-false c 0x81 (not-true _ (first (not (eqb c 0x81)) _ a));
      not_store = eqb-false c 0x87 (not-true _ (first (not (eqb c 0x87)) _ b));
      not_pool = eqb-false c 0x88 (not-true _ (first (not (eqb c 0x88)) _ d));
      not_label = eqb-false c 0x8C (not-true _ (first (not (eqb c 0x8C)) _ e));
      not_jump = eqb-false c 0x99 (not-true _ (first (not (eqb c 0x99)) _ f));
      not_if = eqb-false c 0x9D (not-true _ (first (not (eqb c 0x9D)) _ g));
      not_frame2 = eqb-false c 0x9F (not-true _ (second (not (eqb c 0x9D)) _ g));
    }
