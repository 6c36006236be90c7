-- The header of a function, from its record in the file.
use Rattle.std.specs.Prelude.{ℕ, ◌+◌, ◌-◌, ◌*◌, ◌≤◌, ◌≡◌, List, [], ◌∷◌, ◌++◌, Bool, true, false, ltb, length, get_or, Option, unwrap_or}
use Rattle.pcode.specs.Pcode as pcode
use Rattle.decode.specs.declared.Function.{Function}
use Rattle.script_records.specs.declared.layout.Layout.{Layout}
use Rattle.script_records.specs.declared.part.Part.{Part}
use Rattle.script_records.specs.Layout.{row_in, words_of}
use Rattle.decode.specs.Numbers.{bit}
use Rattle.decode.specs.Decode.{function_of}
use Rattle.lowering.specs.Meaning.{list}
use Rattle.list_slice.specs.File.{no_string, params_of}
use Rattle.action_format.specs.Bytes.{Bytes, word, zero_ended, join}
use Rattle.tree.specs.Trees.{rows_in, trees}
use Rattle.tree.specs.Within.{Within}
use Rattle.slice_words.specs.References.{text_at}
use Rattle.byte_writer.specs.Data.{framed}

-- the reference of a function's name
abbrev pub name_reference : Option ℕ → ℕ
name_reference n = unwrap_or n no_string

-- a parameter of DefineFunction2 has its register before its name
unfoldable pub param_data : (wide : Bool) → pcode.Param → Bytes
param_data true p = word 1 p.register ++ zero_ended p.name
param_data false p = zero_ended p.name

unfoldable pub params_data : (wide : Bool) → List pcode.Param → Bytes
params_data wide ps = join (param_data wide) ps

-- the nine marks as bits 0 to 8
unfoldable pub marks_word : List Bool → ℕ
marks_word ms =
    bit (get_or ms 0 false) + 2 * (bit (get_or ms 1 false) + 2 * (bit (get_or ms 2 false) + 2 * (bit (get_or ms 3 false) + 2 * (bit (get_or ms 4 false) +
    2 * (bit (get_or ms 5 false) + 2 * (bit (get_or ms 6 false) + 2 * (bit (get_or ms 7 false) + 2 * bit (get_or ms 8 false))))))))

-- only DefineFunction2 has them, after its register count
unfoldable pub marks_data : (wide : Bool) → (registers : ℕ) → List Bool → Bytes
marks_data true r ms = r ∷ word 2 (marks_word ms)
marks_data false r ms = []

abbrev pub header_code : (wide : Bool) → ℕ
header_code true = 0x8E
header_code false = 0x9B

-- a function, its parameters, and its body's byte count
unfoldable pub header_data : List ℕ → Layout → Function → List pcode.Param → (size : ℕ) → Bytes
header_data F l f ps size =
    let wide = ltb 1 f.register_count in
    zero_ended (text_at F l (name_reference f.name)) ++
    (word 2 (length ps) ++ (marks_data wide f.register_count f.marks ++ (params_data wide ps ++ word 2 size)))

abbrev pub function_in : List ℕ → (k : ℕ) → Function
function_in F k = function_of (words_of (row_in (rows_in F) k))

abbrev pub is_wide : Function → Bool
is_wide f = ltb 1 f.register_count

-- of record k, whose children are the parameters and the body

abbrev pub kids_of : List ℕ → ℕ → Part
kids_of F k = record { end = k; n = (row_in (rows_in F) k).size - 1 }

abbrev pub params_at : List ℕ → ℕ → List pcode.Param
params_at F k = params_of (list 1 (trees F (kids_of F k)))

unfoldable pub function_data : List ℕ → Layout → (k size : ℕ) → Bytes
function_data F l k size = header_data F l (function_in F k) (params_at F k) size

unfoldable pub function_bytes : List ℕ → Layout → (k size : ℕ) → Bytes
function_bytes F l k size = framed (header_code (is_wide (function_in F k))) (function_data F l k size)

-- record k is a function's, in a file whose tree can be walked
pub record IsFunction (F : List ℕ) (l : Layout) (k : ℕ) : Type 0 where
  pub kind : (row_in (rows_in F) k).kind ≡ 49
  pub counted : 1 ≤ (row_in (rows_in F) k).size
  pub within : Within F l (kids_of F k)
