-- Lists and their bytes: document 01's scripts, each kind of record, and the edges of the refusals.
use Prim.Native.Nat.{ℕ}
use mathlib.Core.Path.{◌≡◌, refl}
use mathlib.Core.List.{List, [], ◌∷◌, ◌++◌, map}
use mathlib.Core.Bool.{true, false}
use mathlib.Core.Option.{none, some, Option-elim}
use lib.ListN.{replicate}
use Rattle.hir.specs.Hir.{Str}
use Rattle.pcode.specs.declared.Op.TheVariants.{GetVariable, SetVariable, Not, Pop, Call}
use Rattle.pcode.specs.Pcode.{Action, Null, Undefined, True, False, String, Integer, Float, Register, Constant, DefineFunction, DefineFunction2, Jump, If, op, ConstantPool, StoreRegister, GotoFrame, GotoFrame2, GotoLabel, plain, push, branch, define, action, mark}
use Rattle.utf8.specs.Utf8.{started, next, completes, utf8}
use Rattle.action_format.specs.Lists.{Lists, lists_by_place}
use Rattle.action_format.specs.Rules.{Limits, limits_01}
use Rattle.action_format.specs.Code.{nest}
use Rattle.action_format.specs.Bytes.{Bytes, word, zero_ended, stored, code_bytes}
use Rattle.action_format.specs.Offsets.{position, place_at_index}
use Rattle.action_format.specs.Encode.{Answer, bytes, refused, encode}
use Rattle.action_format.specs.Readers.{read_byte, word_reader, read_string, read_bytes}
use Rattle.action_format.specs.Decode.{read_value, read_record, read_code, decode}

abbrev only : List Action → Lists
only xs = record { top = xs; functions = [] }

abbrev pool : List Str → Action
pool ss = plain (ConstantPool ss)

-- a row: lists, the room for their bytes, and the answer

pub record Row : Type 0 where
  pub lists : Lists
  pub room : ℕ
  pub answer : Answer

abbrev row : Lists → ℕ → Answer → Row
row l n a = record { lists = l; room = n; answer = a }

abbrev answered : List Row → Type 0
answered rows = map (λ (r : Row). encode r.lists r.room) rows ≡ map (λ (r : Row). r.answer) rows

-- scripts S1, S2 and S3, whose offsets are 5 and -17
abbrev S1 : Row
S1 = row (lists_by_place (action (pool []) ∷ []) []) 6 (bytes (0x88 ∷ 2 ∷ 0 ∷ 0 ∷ 0 ∷ 0 ∷ []))

abbrev S2 : Row
S2 = row (lists_by_place (action (pool ((0x61 ∷ []) ∷ [])) ∷ action (push (Constant 0 ∷ Integer 80 ∷ [])) ∷ action (plain (op SetVariable)) ∷ []) []) 100
    (bytes (0x88 ∷ 4 ∷ 0 ∷ 1 ∷ 0 ∷ 0x61 ∷ 0 ∷ 0x96 ∷ 7 ∷ 0 ∷ 8 ∷ 0 ∷ 7 ∷ 0x50 ∷ 0 ∷ 0 ∷ 0 ∷ 0x1D ∷ 0 ∷ []))

abbrev S3 : Row
S3 = row (lists_by_place (action (pool ((0x62 ∷ []) ∷ [])) ∷ mark 0 ∷ action (push (Constant 0 ∷ [])) ∷ action (plain (op GetVariable)) ∷
    action (plain (op Not)) ∷ action (branch If 1) ∷ action (branch Jump 0) ∷ mark 1 ∷ []) []) 100
    (bytes (0x88 ∷ 4 ∷ 0 ∷ 1 ∷ 0 ∷ 0x62 ∷ 0 ∷ 0x96 ∷ 2 ∷ 0 ∷ 8 ∷ 0 ∷ 0x1C ∷ 0x12 ∷ 0x9D ∷ 2 ∷ 0 ∷ 5 ∷ 0 ∷ 0x99 ∷ 2 ∷ 0 ∷ 0xEF ∷ 0xFF ∷ 0 ∷ []))

-- each value, 1.5 among them
abbrev values_row : Row
values_row = row (only (pool [] ∷ push (String (0x61 ∷ []) ∷ Null ∷ Undefined ∷ Register 3 ∷ False ∷ True ∷ Float 0x3FF8000000000000 ∷ Integer 0xFFFFFFFE ∷ []) ∷ [])) 100
    (bytes (0x88 ∷ 2 ∷ 0 ∷ 0 ∷ 0 ∷ 0x96 ∷ 25 ∷ 0 ∷ 0 ∷ 0x61 ∷ 0 ∷ 2 ∷ 3 ∷ 4 ∷ 3 ∷ 5 ∷ 0 ∷ 5 ∷ 1 ∷ 6 ∷ 0 ∷ 0 ∷ 0 ∷ 0 ∷ 0 ∷ 0 ∷ 0xF8 ∷ 0x3F ∷ 7 ∷ 0xFE ∷ 0xFF ∷ 0xFF ∷ 0xFF ∷ 0 ∷ []))

-- constants 255 and 256
abbrev constants_row : Row
constants_row = row (only (pool (replicate 257 []) ∷ push (Constant 255 ∷ Constant 256 ∷ []) ∷ [])) 1000
    (bytes (0x88 ∷ 3 ∷ 1 ∷ 1 ∷ 1 ∷ (replicate 257 0 ++ (0x96 ∷ 5 ∷ 0 ∷ 8 ∷ 0xFF ∷ 9 ∷ 0 ∷ 1 ∷ 0 ∷ []))))

-- each other record without a body
abbrev records_row : Row
records_row = row (only (pool [] ∷ plain (StoreRegister 3) ∷ plain (GotoFrame 258) ∷ plain (GotoFrame2 true) ∷ plain (GotoFrame2 false) ∷ plain (GotoLabel (0x61 ∷ [])) ∷ plain (op Call) ∷ [])) 100
    (bytes (0x88 ∷ 2 ∷ 0 ∷ 0 ∷ 0 ∷ 0x87 ∷ 1 ∷ 0 ∷ 3 ∷ 0x81 ∷ 2 ∷ 0 ∷ 2 ∷ 1 ∷ 0x9F ∷ 1 ∷ 0 ∷ 1 ∷ 0x9F ∷ 1 ∷ 0 ∷ 0 ∷ 0x8C ∷ 2 ∷ 0 ∷ 0x61 ∷ 0 ∷ 0x9E ∷ 0 ∷ 0 ∷ 0 ∷ []))

-- list 2 holds list 1, which finishes first; list 3 jumps over the first of its two actions to its own end; the marks are bits 0 and 8
abbrev functions_row : Row
functions_row = row (record {
  top = pool [] ∷ define (DefineFunction (0x66 ∷ []) ((0x70 ∷ []) ∷ (0x71 ∷ []) ∷ [])) 2 ∷
      define (DefineFunction2 [] (record { name = 0x72 ∷ []; register = 4 } ∷ []) 5 0x101) 3 ∷ plain (op Pop) ∷ [];
  functions = (plain (op Not) ∷ []) ∷ (define (DefineFunction [] []) 1 ∷ []) ∷ (branch Jump 2 ∷ plain (op Pop) ∷ []) ∷ [];
}) 100
    (bytes (0x88 ∷ 2 ∷ 0 ∷ 0 ∷ 0 ∷
    0x9B ∷ 10 ∷ 0 ∷ 0x66 ∷ 0 ∷ 2 ∷ 0 ∷ 0x70 ∷ 0 ∷ 0x71 ∷ 0 ∷ 9 ∷ 0 ∷
    0x9B ∷ 5 ∷ 0 ∷ 0 ∷ 0 ∷ 0 ∷ 1 ∷ 0 ∷
    0x12 ∷
    0x8E ∷ 11 ∷ 0 ∷ 0 ∷ 1 ∷ 0 ∷ 5 ∷ 1 ∷ 1 ∷ 4 ∷ 0x72 ∷ 0 ∷ 6 ∷ 0 ∷
    0x99 ∷ 2 ∷ 0 ∷ 1 ∷ 0 ∷ 0x17 ∷
    0x17 ∷ 0 ∷ []))

abbrev readable : List Row
readable = S1 ∷ S2 ∷ S3 ∷ values_row ∷ constants_row ∷ records_row ∷ functions_row ∷ []

-- a string of n letters in a record of n + 4 bytes, and a branch over it
abbrev label : ℕ → Action
label n = plain (GotoLabel (replicate n 0x61))

abbrev forwards : ℕ → Lists
forwards n = only (pool [] ∷ branch If 3 ∷ label n ∷ [])

abbrev in_body : List Action → Lists
in_body xs = record { top = pool [] ∷ define (DefineFunction [] []) 1 ∷ []; functions = xs ∷ [] }

-- with no room, 12 says that 9 to 11 do not apply; the refusals come in order
abbrev edges : List Row
edges =
    row S1.lists 5 (refused 12) ∷
    row (forwards 32763) 0 (refused 12) ∷
    row (forwards 32764) 0 (refused 11) ∷
    row (forwards 65535) 0 (refused 10) ∷
    row (in_body (label 32000 ∷ label 33528 ∷ [])) 0 (refused 10) ∷
    row (only (pool [] ∷ push (String (0 ∷ []) ∷ []) ∷ label 65535 ∷ [])) 0 (refused 9) ∷
    -- 9 looks at every kind of string
    row (only (pool ((0 ∷ []) ∷ []) ∷ [])) 9 (refused 9) ∷
    row (only (pool [] ∷ plain (GotoLabel (0x61 ∷ 0 ∷ [])) ∷ [])) 100 (refused 9) ∷
    row (in_body (define (DefineFunction (0 ∷ []) []) 1 ∷ [])) 100 (refused 9) ∷
    row (in_body (define (DefineFunction [] ((0 ∷ []) ∷ [])) 1 ∷ [])) 100 (refused 9) ∷
    row (in_body (define (DefineFunction2 [] (record { name = 0 ∷ []; register = 0 } ∷ []) 2 0) 1 ∷ [])) 100 (refused 9) ∷ []

table : answered (readable ++ edges)
unfolding encode nest word zero_ended stored code_bytes position
table = refl

-- reading

abbrev answer_bytes : Answer → Bytes
answer_bytes (bytes b) = b
answer_bytes (refused n) = []

read_back : map (λ (r : Row). decode limits_01 (answer_bytes r.answer)) readable ≡ map (λ (r : Row). some r.lists) readable
unfolding decode utf8 completes next started Option-elim word zero_ended stored code_bytes position read_byte word_reader read_string read_bytes read_value read_record read_code place_at_index
read_back = refl

-- a record after an empty pool, with End
abbrev after_pool : Bytes → Bytes
after_pool b = 0x88 ∷ 2 ∷ 0 ∷ 0 ∷ 0 ∷ (b ++ (0 ∷ []))

-- a pool of one string, with End
abbrev one_string : Str → Bytes → Bytes
one_string s b = 0x88 ∷ 4 ∷ 0 ∷ 1 ∷ 0 ∷ (s ++ (0 ∷ (b ++ (0 ∷ []))))

abbrev refused_bytes : List Bytes
refused_bytes =
    [] ∷
    -- no pool, no End, a byte after End, a number that is no byte
    (0 ∷ []) ∷
    (0x88 ∷ 2 ∷ 0 ∷ 0 ∷ 0 ∷ []) ∷
    (after_pool [] ++ (0 ∷ [])) ∷
    after_pool (0x87 ∷ 1 ∷ 0 ∷ 256 ∷ []) ∷
    -- a code that lowering does not emit, a second pool, one in a function
    after_pool (0x0A ∷ []) ∷
    after_pool (0x88 ∷ 2 ∷ 0 ∷ 0 ∷ 0 ∷ []) ∷
    after_pool (0x9B ∷ 5 ∷ 0 ∷ 0 ∷ 0 ∷ 0 ∷ 5 ∷ 0 ∷ 0x88 ∷ 2 ∷ 0 ∷ 0 ∷ 0 ∷ []) ∷
    -- data longer and shorter than the operands
    after_pool (0x87 ∷ 2 ∷ 0 ∷ 3 ∷ 3 ∷ []) ∷
    after_pool (0x81 ∷ 1 ∷ 0 ∷ 3 ∷ []) ∷
    after_pool (0x9E ∷ 1 ∷ 0 ∷ 3 ∷ []) ∷
    -- an empty Push, type 1, a boolean of 2, a GotoFrame2 of 2
    after_pool (0x96 ∷ 0 ∷ 0 ∷ []) ∷
    after_pool (0x96 ∷ 5 ∷ 0 ∷ 1 ∷ 0 ∷ 0 ∷ 0 ∷ 0 ∷ []) ∷
    after_pool (0x96 ∷ 2 ∷ 0 ∷ 5 ∷ 2 ∷ []) ∷
    after_pool (0x9F ∷ 1 ∷ 0 ∷ 2 ∷ []) ∷
    -- a constant below 256 in type 9, one that the pool does not have
    one_string (0x61 ∷ []) (0x96 ∷ 3 ∷ 0 ∷ 9 ∷ 0 ∷ 0 ∷ []) ∷
    one_string (0x61 ∷ []) (0x96 ∷ 2 ∷ 0 ∷ 8 ∷ 1 ∷ []) ∷
    -- a branch into a record, past the end, before the beginning
    after_pool (0x99 ∷ 2 ∷ 0 ∷ 0xFF ∷ 0xFF ∷ []) ∷
    after_pool (0x99 ∷ 2 ∷ 0 ∷ 1 ∷ 0 ∷ []) ∷
    after_pool (0x99 ∷ 2 ∷ 0 ∷ 0xF5 ∷ 0xFF ∷ []) ∷
    -- a body that ends inside a record, and one past the end
    after_pool (0x9B ∷ 5 ∷ 0 ∷ 0 ∷ 0 ∷ 0 ∷ 1 ∷ 0 ∷ 0x87 ∷ 1 ∷ 0 ∷ 3 ∷ []) ∷
    after_pool (0x9B ∷ 5 ∷ 0 ∷ 0 ∷ 0 ∷ 0 ∷ 9 ∷ 0 ∷ []) ∷
    -- a reserved flag, one register
    after_pool (0x8E ∷ 8 ∷ 0 ∷ 0 ∷ 0 ∷ 0 ∷ 2 ∷ 0 ∷ 2 ∷ 0 ∷ 0 ∷ []) ∷
    after_pool (0x8E ∷ 8 ∷ 0 ∷ 0 ∷ 0 ∷ 0 ∷ 1 ∷ 0 ∷ 0 ∷ 0 ∷ 0 ∷ []) ∷
    -- a string that is not UTF-8
    one_string (0xFF ∷ []) [] ∷ []

not_read : map (decode limits_01) refused_bytes ≡ map (λ _. none) refused_bytes
unfolding decode utf8 completes next started Option-elim word zero_ended stored code_bytes position read_byte word_reader read_string read_bytes read_value read_record read_code place_at_index
not_read = refl

-- the limits are met: 2 actions with the pool, 3 values
within_limits : map (λ (n : Limits). decode n (after_pool (0x96 ∷ 3 ∷ 0 ∷ 2 ∷ 2 ∷ 2 ∷ []))) (
    record { actions = 2; values = 3 } ∷
    record { actions = 1; values = 3 } ∷
    record { actions = 2; values = 2 } ∷ []) ≡ some (only (pool [] ∷ push (Null ∷ Null ∷ Null ∷ []) ∷ [])) ∷ none ∷ none ∷ []
unfolding decode utf8 completes next started Option-elim word zero_ended stored code_bytes position read_byte word_reader read_string read_bytes read_value read_record read_code place_at_index
within_limits = refl

-- the edges of RFC 3629's grammar
well_formed : map utf8 (
    (0x7F ∷ 0xC2 ∷ 0x80 ∷ []) ∷ (0xE0 ∷ 0xA0 ∷ 0x80 ∷ 0xED ∷ 0x9F ∷ 0xBF ∷ []) ∷ (0xEE ∷ 0x80 ∷ 0x80 ∷ 0xF0 ∷ 0x90 ∷ 0x80 ∷ 0x80 ∷ 0xF4 ∷ 0x8F ∷ 0xBF ∷ 0xBF ∷ []) ∷
    (0x80 ∷ []) ∷ (0xC1 ∷ 0x80 ∷ []) ∷ (0xC2 ∷ []) ∷ (0xE0 ∷ 0x9F ∷ 0xBF ∷ []) ∷ (0xED ∷ 0xA0 ∷ 0x80 ∷ []) ∷ (0xF0 ∷ 0x8F ∷ 0xBF ∷ 0xBF ∷ []) ∷ (0xF4 ∷ 0x90 ∷ 0x80 ∷ 0x80 ∷ []) ∷
    (0xF5 ∷ 0x80 ∷ 0x80 ∷ 0x80 ∷ []) ∷ []) ≡ true ∷ true ∷ true ∷ false ∷ false ∷ false ∷ false ∷ false ∷ false ∷ false ∷ false ∷ []
unfolding utf8 completes next started Option-elim
well_formed = refl
