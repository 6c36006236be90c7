-- The bytes of records (document 01, 'Action bytes').
use Rattle.std.specs.Prelude.{ℕ, zero, suc, ◌/◌, ◌%◌, List, [], ◌∷◌, ◌++◌, Bool, true, false, leb, length}
use Rattle.hir.specs.Hir.{Str}
use Rattle.pcode.specs.Pcode.{Value, Param, Header, Branching, Plain, Null, Undefined, True, False, String, Integer, Float, Register, Constant, DefineFunction, DefineFunction2, Jump, If, op, ConstantPool, StoreRegister, GotoFrame, GotoFrame2, GotoLabel, row_of}
use Rattle.action_format.specs.Lists.{Single, simple, pushing, branching}
use Rattle.action_format.specs.Code.{Code, end, act, fun}

abbrev pub Bytes : Type 0
Bytes = List ℕ

-- a number in k bytes, least significant first
unfoldable pub word : (k : ℕ) → ℕ → Bytes
word zero n = []
word (suc k) n = n % 256 ∷ word k (n / 256)

unfoldable pub zero_ended : Str → Bytes
zero_ended s = s ++ (0 ∷ [])

abbrev pub join : {A : Type 0} → (A → Bytes) → List A → Bytes
join f [] = []
join f (x ∷ xs) = f x ++ join f xs

-- a float's 64 bits as the number whose eight bytes are stored; it is its own inverse
unfoldable pub stored : ℕ → ℕ
stored bits = bits

-- values: the type, then the value

abbrev pub constant_bytes : ℕ → (wide : Bool) → Bytes
constant_bytes i false = 8 ∷ i ∷ []
constant_bytes i true = 9 ∷ word 2 i

abbrev pub flag : Bool → ℕ
flag false = 0
flag true = 1

abbrev pub value_bytes : Value → Bytes
value_bytes (String s) = 0 ∷ zero_ended s
value_bytes Null = 2 ∷ []
value_bytes Undefined = 3 ∷ []
value_bytes (Register r) = 4 ∷ r ∷ []
value_bytes False = 5 ∷ flag false ∷ []
value_bytes True = 5 ∷ flag true ∷ []
value_bytes (Float bits) = 6 ∷ word 8 (stored bits)
value_bytes (Integer v) = 7 ∷ word 4 v
value_bytes (Constant i) = constant_bytes i (leb 256 i)

-- records: codes from 0x80 on carry the length of their data

abbrev pub framed : ℕ → Bytes → (long : Bool) → Bytes
framed c d false = c ∷ []
framed c d true = c ∷ (word 2 (length d) ++ d)

abbrev pub bytes_of_record : (code : ℕ) → (data' : Bytes) → Bytes
bytes_of_record c d = framed c d (leb 0x80 c)

abbrev pub plain_code : Plain → ℕ
plain_code (op o) = (row_of o).code
plain_code (ConstantPool ss) = 0x88
plain_code (StoreRegister r) = 0x87
plain_code (GotoFrame n) = 0x81
plain_code (GotoFrame2 p) = 0x9F
plain_code (GotoLabel s) = 0x8C

abbrev pub plain_data : Plain → Bytes
plain_data (op o) = []
plain_data (ConstantPool ss) = word 2 (length ss) ++ join zero_ended ss
plain_data (StoreRegister r) = r ∷ []
plain_data (GotoFrame n) = word 2 n
plain_data (GotoFrame2 p) = flag p ∷ []
plain_data (GotoLabel s) = zero_ended s

abbrev pub branch_code : Branching → ℕ
branch_code Jump = 0x99
branch_code If = 0x9D

-- a branch holds its offset
abbrev pub single_code : Single → ℕ
single_code (simple p) = plain_code p
single_code (pushing vs) = 0x96
single_code (branching b o) = branch_code b

abbrev pub single_data : Single → Bytes
single_data (simple p) = plain_data p
single_data (pushing vs) = join value_bytes vs
single_data (branching b o) = word 2 o

abbrev pub single_bytes : Single → Bytes
single_bytes a = bytes_of_record (single_code a) (single_data a)

-- a function's record ends in its body's byte count; the nine marks are bits 0 to 8 of the two flag bytes

abbrev pub code_of_header : Header → ℕ
code_of_header (DefineFunction n ps) = 0x9B
code_of_header (DefineFunction2 n ps r m) = 0x8E

abbrev pub param_bytes : Param → Bytes
param_bytes p = p.register ∷ zero_ended p.name

abbrev pub data_of_header : Header → (size : ℕ) → Bytes
data_of_header (DefineFunction n ps) size = zero_ended n ++ (word 2 (length ps) ++ (join zero_ended ps ++ word 2 size))
data_of_header (DefineFunction2 n ps r m) size = zero_ended n ++ (word 2 (length ps) ++ (r ∷ (word 2 m ++ (join param_bytes ps ++ word 2 size))))

abbrev pub header_bytes : Header → (size : ℕ) → Bytes
header_bytes h size = bytes_of_record (code_of_header h) (data_of_header h size)

-- a list's records in order, each function's with its body after it
unfoldable pub code_bytes : Code → Bytes
code_bytes end = []
code_bytes (act a c) = single_bytes a ++ code_bytes c
code_bytes (fun h b c) = header_bytes h (length (code_bytes b)) ++ (code_bytes b ++ code_bytes c)
