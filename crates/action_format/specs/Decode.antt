-- Reading action bytes: the lists that write to them, if any do.
use Rattle.std.specs.Prelude.{ℕ, zero, suc, List, [], ◌∷◌, ◌++◌, map, Bool, true, false, ◌&&◌, leb, length}
use Rattle.std.proofs.Math.Option.{Option, none, some}
use Rattle.pcode.specs.declared.Op.{Op}
use Rattle.pcode.specs.Pcode.{Value, Param, Header, Branching, Null, Undefined, True, False, String, Integer, Float, Register, Constant, DefineFunction, DefineFunction2, Jump, If, op, ConstantPool, StoreRegister, GotoFrame, GotoFrame2, GotoLabel, row_of, all_ops}
use Rattle.action_format.specs.Lists.{Lists, Single, simple, pushing, branching}
use Rattle.action_format.specs.Strings.{zero_free}
use Rattle.action_format.specs.Rules.{Limits, shaped}
use Rattle.action_format.specs.Code.{Code, end, act, fun, lists_of_outcome}
use Rattle.action_format.specs.Bytes.{Bytes, stored}
use Rattle.action_format.specs.Offsets.{and_then, from_offset}
use Rattle.action_format.specs.Readers.{P, bind, ◌>>=◌, pure, fail, given, pure_if, read_byte, word_reader, read_string, read_flag, read_bytes, read_inside, read_many, read_all, dispatch}

-- values

abbrev pub truth : Bool → Value
truth false = False
truth true = True

-- a constant index in two bytes is 256 or more
abbrev pub value_readers : List (ℕ × P Value)
value_readers =
    (0, (do s ← read_string; pure (String s))) ∷
    (2, pure Null) ∷
    (3, pure Undefined) ∷
    (4, (do r ← read_byte; pure (Register r))) ∷
    (5, (do b ← read_flag; pure (truth b))) ∷
    (6, (do v ← word_reader 8; pure (Float (stored v)))) ∷
    (7, (do v ← word_reader 4; pure (Integer v))) ∷
    (8, (do i ← read_byte; pure (Constant i))) ∷
    (9, (do i ← word_reader 2; pure_if (leb 256 i) (Constant i))) ∷ []

unfoldable pub read_value : P Value
read_value = read_byte >>= dispatch value_readers

-- a record: an action without a body, or a function's header and its body's byte count
pub data Record : Type 0 where
  alone : Single → Record
  header : Header → (size : ℕ) → Record

-- the data of a record that has a length
abbrev pub in_record : {A : Type 0} → P A → P A
in_record p = do
  n ← word_reader 2
  d ← read_bytes n
  read_inside p d

abbrev pub op_reader : Op → (long : Bool) → P Record
op_reader o false = pure (alone (simple (op o)))
op_reader o true = in_record (pure (alone (simple (op o))))

abbrev pub op_readers : List Op → List (ℕ × P Record)
op_readers = map (λ (o : Op). ((row_of o).code, op_reader o (leb 0x80 (row_of o).code)))

abbrev pub read_pool : P Record
read_pool = do
  n ← word_reader 2
  ss ← read_many read_string n
  pure (alone (simple (ConstantPool ss)))

abbrev pub read_push : P Record
read_push d = bind (read_all read_value (length d) d) (λ vs. pure (alone (pushing vs)))

abbrev pub read_branch : Branching → P Record
read_branch b = do
  o ← word_reader 2
  pure (alone (branching b o))

abbrev pub read_function : P Record
read_function = do
  n ← read_string
  k ← word_reader 2
  ps ← read_many read_string k
  size ← word_reader 2
  pure (header (DefineFunction n ps) size)

abbrev pub read_param : P Param
read_param = do
  r ← read_byte
  n ← read_string
  pure (record { name = n; register = r })

abbrev pub read_function2 : P Record
read_function2 = do
  n ← read_string
  k ← word_reader 2
  r ← read_byte
  m ← word_reader 2
  ps ← read_many read_param k
  size ← word_reader 2
  pure (header (DefineFunction2 n ps r m) size)

abbrev pub data_readers : List (ℕ × P Record)
data_readers =
    (0x81, in_record (do n ← word_reader 2; pure (alone (simple (GotoFrame n))))) ∷
    (0x87, in_record (do r ← read_byte; pure (alone (simple (StoreRegister r))))) ∷
    (0x88, in_record read_pool) ∷
    (0x8C, in_record (do s ← read_string; pure (alone (simple (GotoLabel s))))) ∷
    (0x8E, in_record read_function2) ∷
    (0x96, in_record read_push) ∷
    (0x99, in_record (read_branch Jump)) ∷
    (0x9B, in_record read_function) ∷
    (0x9D, in_record (read_branch If)) ∷
    (0x9F, in_record (do p ← read_flag; pure (alone (simple (GotoFrame2 p))))) ∷ []

unfoldable pub read_record : P Record
read_record = read_byte >>= dispatch (op_readers all_ops ++ data_readers)

-- a list: as many records as can be read, each function's body by its count

abbrev pub next : P Code → Record → P Code
next read (alone a) = do
  c ← read
  pure (act a c)
next read (header h size) = do
  d ← read_bytes size
  b ← read_inside read d
  c ← read
  pure (fun h b c)

abbrev pub continue : P Code → Option (Record × Bytes) → P Code
continue read none r = some (end, r)
continue read (some x) r = next read x.0 x.1

unfoldable pub read_code : (most : ℕ) → P Code
read_code zero = fail
read_code (suc n) = λ r. continue (read_code n) (read_record r) r

-- no list has more actions than bytes
abbrev pub read_list : P Code
read_list r = read_code (suc (length r)) r

-- the top list, which ends in End as the last byte

abbrev pub ended : Code → Bytes → Option Code
ended c [] = none
ended c (zero ∷ []) = some c
ended c (zero ∷ (b ∷ r)) = none
ended c (suc b ∷ r) = none

abbrev pub read_top : Bytes → Option Code
read_top b = and_then (read_list b) (λ x. ended x.0 x.1)

-- the rules of lists are tested last
abbrev pub tested : Limits → Lists → Option Lists
tested limits l = given (shaped limits l && zero_free l) (some l)

unfoldable pub decode : Limits → Bytes → Option Lists
decode limits b = and_then (and_then (read_top b) from_offset) (λ c. tested limits (lists_of_outcome c))
