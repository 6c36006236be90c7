-- The data bytes of entries, by their words.
use Rattle.std.specs.Prelude.{ℕ, ◌+◌, ◌-◌, ◌*◌, ◌≤◌, ◌<◌, ◌≡◌, List, [], ◌∷◌, map, Bool, true, cond, ◌&&◌, T, ltb, eqb, length, take}
use Rattle.hir.specs.Hir.{Str}
use Rattle.pcode.specs.Pcode.{Param}
use Rattle.script_records.specs.declared.layout.Layout.{Layout}
use Rattle.script_records.specs.Layout.{layout_of}
use Rattle.script.specs.Rules.{check_of}
use Rattle.lowering.specs.Builder.{limits01}
use Rattle.action_format.specs.Strings.{no_zero, header_strings}
use Rattle.action_format.specs.Bytes.{data_of_header}
use Rattle.action_format.specs.Lists.{all}
use Rattle.list_slice.specs.Entry.{Entry, Piece, entry_of}
use Rattle.list_slice.specs.Words.{entry_at, pool_in}
use Rattle.list_slice.specs.File.{text_in, header_in, names_function}
use Rattle.list_slice.specs.Compiled.{piece_named}
use Rattle.resolver.specs.declared.text.Text.{Text}
use Rattle.resolver.specs.declared.text.Data.{Data}
use Rattle.resolver.specs.Walk.{piece_at}

-- an accepted file and its layout
pub record Ready (F : List ℕ) (l : Layout) : Type 0 where
  pub layout : l ≡ layout_of F
  pub accepted : check_of F ≡ 0

-- strings that can be added to
pub record Few (t : Text) : Type 0 where
  pub small : t.bytes ≤ t.count * 1048577
  pub few : t.count ≤ 131072

abbrev pub with_text : Str → Text → Text
with_text s t = record { bytes = t.bytes + length s + 1; count = t.count + 1; clear = no_zero s && t.clear }

abbrev pub no_text : Text
no_text = record { bytes = 0; count = 0; clear = true }

abbrev pub texts_of : List Str → Text
texts_of [] = no_text
texts_of (s ∷ ss) = with_text s (texts_of ss)

abbrev pub param_names : List Param → List Str
param_names = map (λ (p : Param). p.name)

abbrev pub data_of : ℕ → Bool → Data
data_of n c = record { bytes = n; clear = c }

abbrev pub function_data : List ℕ → ℕ → Data
function_data F r = data_of (length (data_of_header (header_in F r) 0)) (all no_zero (header_strings (header_in F r)))

-- a string's bytes, its zero byte and so many more
abbrev pub string_data : Str → ℕ → Data
string_data s n = data_of (n + (length s + 1)) (no_zero s)

abbrev pub pool_data : List Str → Data
pool_data ss = data_of (2 + (texts_of ss).bytes) (texts_of ss).clear

abbrev pub constant_data : ℕ → Data
constant_data i = data_of (cond (ltb i 256) 2 3) true

abbrev pub fixed_data : ℕ → Data
fixed_data n = data_of n true

abbrev pub when : ℕ → ℕ → Data → Data → Data
when n k d otherwise = cond (eqb k n) d otherwise

-- a later value of a Push has the data of a first one
abbrev pub kind_of : ℕ → ℕ
kind_of c = cond (ltb c 0x120) c (c - 16)

abbrev pub data_in : List ℕ → List ℕ → (kind first second : ℕ) → Data
data_in F w k a b =
    when 0x81 k (fixed_data 2)
    (when 0x87 k (fixed_data 1)
    (when 0x88 k (pool_data (map (text_in F) (take a (pool_in limits01 w))))
    (when 0x8C k (string_data (text_in F a) 0)
    (when 0x99 k (fixed_data 2)
    (when 0x9D k (fixed_data 2)
    (when 0x9F k (fixed_data 1)
    (when 256 k (function_data F b)
    (when 0x110 k (string_data (text_in F a) 1)
    (when 0x112 k (fixed_data 1)
    (when 0x113 k (fixed_data 1)
    (when 0x114 k (fixed_data 2)
    (when 0x115 k (fixed_data 2)
    (when 0x116 k (fixed_data 9)
    (when 0x117 k (fixed_data 5)
    (when 0x118 k (constant_data a) (fixed_data 0))))))))))))))))

-- the words of a pool and of a function in their ranges
pub record Operands (F w : List ℕ) (kind first second : ℕ) : Type 0 where
  pub long : 16384 ≤ length w
  pub pool : kind ≡ 0x88 → first ≤ 2048
  pub function : kind ≡ 256 → T (names_function F second)

unfoldable pub entry_data : List ℕ → List ℕ → Entry → Data
entry_data F w e = data_in F w (kind_of e.code) e.first e.second

-- a pool's count, a label and a list number in their ranges
abbrev pub Operand : Piece → Type 0
Operand (Piece.ConstantPool n) = n ≤ 2048
Operand (Piece.branch b l) = l < 1024
Operand (Piece.function n f) = n < 1024
Operand (Piece.op o) = Unit
Operand (Piece.StoreRegister n) = Unit
Operand (Piece.GotoFrame n) = Unit
Operand (Piece.GotoFrame2 p) = Unit
Operand (Piece.GotoLabel s) = Unit
Operand (Piece.mark l) = Unit
Operand (Piece.value first v) = Unit

-- entry e is that of a piece whose references name strings and functions of the file
pub record Known (F w : List ℕ) (e : ℕ) : Type 0 where
  pub long : 16384 ≤ length w
  pub inside : e < 4096
  pub written : entry_of (piece_at w e) ≡ entry_at w e
  pub named : T (piece_named F (piece_at w e))
  pub operand : Operand (piece_at w e)
