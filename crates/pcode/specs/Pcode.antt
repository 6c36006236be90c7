-- The actions of `pcode.rs` that lowering emits, and `stack_delta`.
use Rattle.std.specs.Prelude.{ℕ, ◌+◌, ◌-◌, List, [], ◌∷◌, Bool}
use Rattle.hir.specs.Hir.{Str}
use Rattle.pcode.specs.declared.Op.{Op}
use Rattle.pcode.specs.declared.Op.TheVariants.{NextFrame, PrevFrame, Play, Stop, ToggleQuality, StopSounds, Subtract, Multiply, Divide, And, Or, Not, StringEquals, StringLength, StringExtract, Pop, ToInteger, GetVariable, SetVariable, StringAdd, GetProperty, SetProperty, CloneSprite, RemoveSprite, Trace, StartDrag, EndDrag, StringLess, Throw, CastOp, RandomNumber, MBStringLength, CharToAscii, AsciiToChar, GetTime, MBStringExtract, MBCharToAscii, MBAsciiToChar, Delete, Delete2, DefineLocal, CallFunction, Return, Modulo, NewObject, DefineLocal2, InitArray, InitObject, TypeOf, TargetPath, Add2, Less2, Equals2, ToNumber, ToString, PushDuplicate, GetMember, SetMember, Increment, Decrement, CallMethod, NewMethod, InstanceOf, Enumerate2, BitAnd, BitOr, BitXor, BitLShift, BitRShift, BitURShift, StrictEquals, Greater, StringGreater, Call}

-- what a Push pushes; an Integer is its word, a Float its 64 bits
pub data Value : Type 0 where
  Null Undefined True False : Value
  String : Str → Value
  Integer Float Register Constant : ℕ → Value

-- a parameter without a register has register 0
pub record Param : Type 0 where
  pub name : Str
  pub register : ℕ

-- a function without a name has the empty string; the marks are bits 0 to 8, the nine preload and suppress marks in declaration order
pub data Header : Type 0 where
  DefineFunction : (name : Str) → (params : List Str) → Header
  DefineFunction2 : (name : Str) → (params : List Param) → (registers marks : ℕ) → Header

pub data Branching : Type 0 where
  Jump If : Branching

-- the actions that neither push, nor branch, nor have a body
pub data Plain : Type 0 where
  op : Op → Plain
  ConstantPool : List Str → Plain
  StoreRegister GotoFrame : ℕ → Plain
  GotoFrame2 : (play : Bool) → Plain
  GotoLabel : Str → Plain

-- a branch holds a label or, by place, the place; a function holds its body's list number
pub data Action : Type 0 where
  plain : Plain → Action
  push : List Value → Action
  branch : Branching → ℕ → Action
  define : Header → (list : ℕ) → Action

-- what a list holds under construction: actions, and marks before the places of their labels
pub data Item : Type 0 where
  action : Action → Item
  mark : (label : ℕ) → Item

-- a change of the tracked stack size, which never falls below 0
pub data Delta : Type 0 where
  up down : ℕ → Delta

abbrev pub moved : Delta → ℕ → ℕ
moved (up n) size = size + n
moved (down n) size = size - n

-- an action's code and its `stack_delta`; the callers of CallFunction, CallMethod, InitArray, InitObject, NewMethod and
-- StartDrag say theirs
pub record Row : Type 0 where
  pub code : ℕ
  pub delta : Delta

abbrev pub row : ℕ → Delta → Row
row c d = record { code = c; delta = d }

abbrev pub row_of : Op → Row
row_of NextFrame = row 0x04 (up 0)
row_of PrevFrame = row 0x05 (up 0)
row_of Play = row 0x06 (up 0)
row_of Stop = row 0x07 (up 0)
row_of ToggleQuality = row 0x08 (up 0)
row_of StopSounds = row 0x09 (up 0)
row_of Subtract = row 0x0B (down 1)
row_of Multiply = row 0x0C (down 1)
row_of Divide = row 0x0D (down 1)
row_of And = row 0x10 (down 1)
row_of Or = row 0x11 (down 1)
row_of Not = row 0x12 (up 0)
row_of StringEquals = row 0x13 (down 1)
row_of StringLength = row 0x14 (up 0)
row_of StringExtract = row 0x15 (down 2)
row_of Pop = row 0x17 (down 1)
row_of ToInteger = row 0x18 (up 0)
row_of GetVariable = row 0x1C (up 0)
row_of SetVariable = row 0x1D (down 2)
row_of StringAdd = row 0x21 (down 1)
row_of GetProperty = row 0x22 (down 1)
row_of SetProperty = row 0x23 (down 3)
row_of CloneSprite = row 0x24 (down 3)
row_of RemoveSprite = row 0x25 (down 1)
row_of Trace = row 0x26 (down 1)
row_of StartDrag = row 0x27 (up 0)
row_of EndDrag = row 0x28 (up 0)
row_of StringLess = row 0x29 (down 1)
row_of Throw = row 0x2A (down 1)
row_of CastOp = row 0x2B (down 1)
row_of RandomNumber = row 0x30 (up 0)
row_of MBStringLength = row 0x31 (up 0)
row_of CharToAscii = row 0x32 (up 0)
row_of AsciiToChar = row 0x33 (up 0)
row_of GetTime = row 0x34 (up 1)
row_of MBStringExtract = row 0x35 (down 2)
row_of MBCharToAscii = row 0x36 (up 0)
row_of MBAsciiToChar = row 0x37 (up 0)
row_of Delete = row 0x3A (down 2)
row_of Delete2 = row 0x3B (down 1)
row_of DefineLocal = row 0x3C (down 2)
row_of CallFunction = row 0x3D (up 0)
row_of Return = row 0x3E (down 1)
row_of Modulo = row 0x3F (down 1)
row_of NewObject = row 0x40 (up 1)
row_of DefineLocal2 = row 0x41 (down 1)
row_of InitArray = row 0x42 (up 0)
row_of InitObject = row 0x43 (up 0)
row_of TypeOf = row 0x44 (up 0)
row_of TargetPath = row 0x45 (up 0)
row_of Add2 = row 0x47 (down 1)
row_of Less2 = row 0x48 (down 1)
row_of Equals2 = row 0x49 (down 1)
row_of ToNumber = row 0x4A (up 0)
row_of ToString = row 0x4B (up 0)
row_of PushDuplicate = row 0x4C (up 1)
row_of GetMember = row 0x4E (down 1)
row_of SetMember = row 0x4F (down 3)
row_of Increment = row 0x50 (up 0)
row_of Decrement = row 0x51 (up 0)
row_of CallMethod = row 0x52 (up 0)
row_of NewMethod = row 0x53 (up 0)
row_of InstanceOf = row 0x54 (down 1)
row_of Enumerate2 = row 0x55 (up 0)
row_of BitAnd = row 0x60 (down 1)
row_of BitOr = row 0x61 (down 1)
row_of BitXor = row 0x62 (down 1)
row_of BitLShift = row 0x63 (down 1)
row_of BitRShift = row 0x64 (down 1)
row_of BitURShift = row 0x65 (down 1)
row_of StrictEquals = row 0x66 (down 1)
row_of Greater = row 0x67 (down 1)
row_of StringGreater = row 0x68 (down 1)
row_of Call = row 0x9E (down 1)

abbrev pub all_ops : List Op
all_ops =
    NextFrame ∷ PrevFrame ∷ Play ∷ Stop ∷ ToggleQuality ∷ StopSounds ∷ Subtract ∷ Multiply ∷ Divide ∷ And ∷
    Or ∷ Not ∷ StringEquals ∷ StringLength ∷ StringExtract ∷ Pop ∷ ToInteger ∷ GetVariable ∷ SetVariable ∷ StringAdd ∷
    GetProperty ∷ SetProperty ∷ CloneSprite ∷ RemoveSprite ∷ Trace ∷ StartDrag ∷ EndDrag ∷ StringLess ∷ Throw ∷ CastOp ∷
    RandomNumber ∷ MBStringLength ∷ CharToAscii ∷ AsciiToChar ∷ GetTime ∷ MBStringExtract ∷ MBCharToAscii ∷ MBAsciiToChar ∷ Delete ∷ Delete2 ∷
    DefineLocal ∷ CallFunction ∷ Return ∷ Modulo ∷ NewObject ∷ DefineLocal2 ∷ InitArray ∷ InitObject ∷ TypeOf ∷ TargetPath ∷
    Add2 ∷ Less2 ∷ Equals2 ∷ ToNumber ∷ ToString ∷ PushDuplicate ∷ GetMember ∷ SetMember ∷ Increment ∷ Decrement ∷
    CallMethod ∷ NewMethod ∷ InstanceOf ∷ Enumerate2 ∷ BitAnd ∷ BitOr ∷ BitXor ∷ BitLShift ∷ BitRShift ∷ BitURShift ∷
    StrictEquals ∷ Greater ∷ StringGreater ∷ Call ∷ []
