-- An entry of the list slice: three words that say an action, one pushed value or a mark.
use Rattle.std.specs.Prelude.{ℕ, ◌+◌, ◌*◌, ◌/◌, ◌%◌, ◌^◌, List, [], ◌∷◌, ◌++◌, map, Bool, true, false, not, cond, eqb}
use Rattle.pcode.specs.declared.Op.{Op}
use Rattle.pcode.specs.Pcode.{Branching, Jump, If, row_of, all_ops}

pub record Entry : Type 0 where
  pub code : ℕ
  pub first : ℕ
  pub second : ℕ

abbrev pub entry : ℕ → ℕ → ℕ → Entry
entry c a b = record { code = c; first = a; second = b }

-- what a Push pushes; a string is its reference, a Float its 64 bits
pub data Pushed : Type 0 where
  Null Undefined : Pushed
  Boolean : Bool → Pushed
  String Register Float Integer Constant : ℕ → Pushed

-- what an entry says; strings, pools and functions are references. A value is the first of its Push or a later one
pub data Piece : Type 0 where
  op : Op → Piece
  ConstantPool StoreRegister GotoFrame GotoLabel : ℕ → Piece
  GotoFrame2 : (play : Bool) → Piece
  branch : Branching → ℕ → Piece
  function : (list reference : ℕ) → Piece
  mark : (label : ℕ) → Piece
  value : (first : Bool) → Pushed → Piece

abbrev pub bit : Bool → ℕ
bit false = 0
bit true = 1

-- a value's code: document 01's type number above a base that tells the first value of a Push from a later one
abbrev pub base : (first : Bool) → ℕ
base true = 0x110
base false = 0x120

-- a float is its low word and its high word
abbrev pub value_entry : (base : ℕ) → Pushed → Entry
value_entry n (String r) = entry (n + 0) r 0
value_entry n Null = entry (n + 2) 0 0
value_entry n Undefined = entry (n + 3) 0 0
value_entry n (Register r) = entry (n + 4) r 0
value_entry n (Boolean b) = entry (n + 5) (bit b) 0
value_entry n (Float v) = entry (n + 6) (v % 2 ^ 32) (v / 2 ^ 32)
value_entry n (Integer v) = entry (n + 7) v 0
value_entry n (Constant i) = entry (n + 8) i 0

abbrev pub branch_code : Branching → ℕ
branch_code Jump = 0x99
branch_code If = 0x9D

-- an action's code is that of its record, but a function's is 256
abbrev pub entry_of : Piece → Entry
entry_of (op o) = entry (row_of o).code 0 0
entry_of (ConstantPool n) = entry 0x88 n 0
entry_of (StoreRegister r) = entry 0x87 r 0
entry_of (GotoFrame n) = entry 0x81 n 0
entry_of (GotoFrame2 p) = entry 0x9F (bit p) 0
entry_of (GotoLabel r) = entry 0x8C r 0
entry_of (branch b l) = entry (branch_code b) l 0
entry_of (function n r) = entry 256 n r
entry_of (mark l) = entry 257 l 0
entry_of (value first v) = value_entry (base first) v

unfoldable pub entries_of : List Piece → List Entry
entries_of = map entry_of

-- and back: what each code says with the words a and b

abbrev pub is_one : ℕ → Bool
is_one a = not (eqb a 0)

abbrev pub values_by_code : (first : Bool) → (base a b : ℕ) → List (ℕ × Piece)
values_by_code f n a b =
    (n + 0, value f (String a)) ∷
    (n + 2, value f Null) ∷
    (n + 3, value f Undefined) ∷
    (n + 4, value f (Register a)) ∷
    (n + 5, value f (Boolean (is_one a))) ∷
    (n + 6, value f (Float (a + 2 ^ 32 * b))) ∷
    (n + 7, value f (Integer a)) ∷
    (n + 8, value f (Constant a)) ∷ []

abbrev pub by_code : (a b : ℕ) → List (ℕ × Piece)
by_code a b =
    (0x81, GotoFrame a) ∷
    (0x87, StoreRegister a) ∷
    (0x88, ConstantPool a) ∷
    (0x8C, GotoLabel a) ∷
    (0x99, branch Jump a) ∷
    (0x9D, branch If a) ∷
    (0x9F, GotoFrame2 (is_one a)) ∷
    (256, function a b) ∷
    (257, mark a) ∷
    (values_by_code true 0x110 a b ++ (values_by_code false 0x120 a b ++ map (λ (o : Op). ((row_of o).code, op o)) all_ops))

-- a code that no entry has reads as a mark
abbrev pub find : (code a : ℕ) → List (ℕ × Piece) → Piece
find c a [] = mark a
find c a (x ∷ rest) = cond (eqb c x.0) x.1 (find c a rest)

unfoldable pub piece_of : Entry → Piece
piece_of e = find e.code e.first (by_code e.first e.second)
