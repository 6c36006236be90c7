-- Slices word by word: document 01's S3, a script with a function, a float and a property, and a list read from bytes.
use Prim.Native.Nat.{ℕ, ◌-◌}
use mathlib.Core.Path.{◌≡◌, refl}
use mathlib.Core.List.{List, [], ◌∷◌, ◌++◌, map}
use mathlib.Core.Bool.{true, false}
use mathlib.Core.Option.{some, Option-elim}
use native.Mathlib.Bridge.{le_by_compare, IsLe}
use Rattle.hir.specs.Tree.{Forest, none, more, map_forest, count}
use Rattle.pcode.specs.declared.Op.{Op}
use Rattle.pcode.specs.declared.Op.TheVariants as op
use Rattle.pcode.specs.Pcode.{Value, Plain, Action, Item, Branching, DefineFunction}
use Rattle.script_records.specs.Layout.{Words, word_at, layout_of, end_at, string_at, row_at, rows_from, rows_of, span_at, forest_in, forest}
use Rattle.decode.specs.Decode.{signed, binary_operators, unary_of, constant_of, condition_of, statement_kinds, expr_kinds, plain_of, record_of}
use Rattle.script.specs.Rules.{tree_in}
use Rattle.script.specs.Resolve.{resolved, script_of}
use Rattle.script.specs.Write as file
use Rattle.script.specs.Write.{bytes_of, ends_from, rows_of_trees, record_words, write}
use Rattle.special_properties.specs.Text.{bytes}
use Rattle.special_properties.specs.SpecialProperties.{names, same, to_ascii_lowercase, first_from, get_special_property}
use Rattle.lowering.specs.Builder.{limits01, ◌>>=◌, ◌>>◌, pure, refuse, create_label, stack_size, assume_stack_delta, action_with_stack_delta, mark_label, mark_default, push, add, define_function}
use Rattle.lowering.specs.Meaning.{list}
use Rattle.lowering.specs.Statement.{Lists, lists, meanings, generate_actions, script_to_actions}
use Rattle.utf8.specs.Utf8.{utf8, completes, next, started}
use Rattle.action_format.specs.Lists as format
use Rattle.action_format.specs.Rules.{limits_01}
use Rattle.action_format.specs.Code.{nest}
use Rattle.action_format.specs.Bytes.{Bytes, word, zero_ended, stored, code_bytes}
use Rattle.action_format.specs.Offsets.{position, place_at_index}
use Rattle.action_format.specs.Readers.{read_byte, word_reader, read_string, read_bytes}
use Rattle.action_format.specs.Decode.{read_value, read_record, read_code, decode}
use Rattle.list_slice.specs.Entry.{Piece, ConstantPool, branch, function, mark, value, Constant, Integer, Float, entries_of}
use Rattle.list_slice.specs.Entry as entry
use Rattle.list_slice.specs.Words as words
use Rattle.list_slice.specs.Words.{zeros_of, area, entry_words, joined, slice_words}
use Rattle.list_slice.specs.Items.{gathered, items_of}
use Rattle.list_slice.specs.File.{text_in, names_string, rec_in, record_in, children_in, params_of, header_in, names_function}
use Rattle.list_slice.specs.Compiled.{label_word, labels_from, label_words, finishing, Holds}
use Rattle.list_slice.specs.Read.{placed, values_from, placed_in_order, pieces_read, entries_read, read_words, in_bytes}
use Rattle.list_slice.proofs.Determined.{slice_holds}

-- a file's records, children before their parent, first to last

abbrev Tree : Type 0
Tree = Forest Words → Forest Words

infixl 40 ◌and◌
abbrev ◌and◌ : Forest Words → Tree → Forest Words
before and t = t before

abbrev node : (kind a b c : ℕ) → Forest Words → Tree
node k a b c kids before = more before (record { kind = k; a = a; b = b; c = c }) kids

abbrev leaf : (kind a b c : ℕ) → Tree
leaf k a b c = node k a b c none

abbrev items : List (List Item) → Lists
items = lists

-- what lowering gives for a file
abbrev lowered : List ℕ → Lists
lowered F = script_to_actions limits01 (list 0 (script_of F))

abbrev act : Action → Item
act = Item.action

abbrev single : Op → Item
single o = act (Action.plain (Plain.op o))

abbrev top_of : List (List Item) → List Item
top_of [] = []
top_of (is ∷ ls) = is

-- S3, `while (b) {}`, whose file has the one string `b`

abbrev S3File : List ℕ
S3File = write (bytes "b" ∷ []) (none and node 97 1 0 0 (none and node 6 0 0 0 (none and leaf 32 1 0 0 and node 4 0 0 0 (none and leaf 97 0 0 0))))

abbrev S3Lists : List (List Item)
S3Lists = (act (Action.plain (Plain.ConstantPool (bytes "b" ∷ []))) ∷ Item.mark 0 ∷ act (Action.push (Value.Constant 0 ∷ [])) ∷ single op.GetVariable ∷
    single op.Not ∷ act (Action.branch Branching.If 1) ∷ act (Action.branch Branching.Jump 0) ∷ Item.mark 1 ∷ []) ∷ []

S3Lowered : lowered S3File ≡ items S3Lists
unfolding names same to_ascii_lowercase first_from get_special_property ◌>>=◌ ◌>>◌ pure refuse create_label stack_size assume_stack_delta action_with_stack_delta mark_label mark_default push add define_function meanings generate_actions script_to_actions word_at layout_of end_at string_at row_at rows_from rows_of span_at forest_in forest signed binary_operators unary_of constant_of condition_of statement_kinds expr_kinds plain_of record_of tree_in resolved script_of bytes_of ends_from rows_of_trees record_words write map_forest count file.text
S3Lowered = refl

-- the last item first: mark 1, Jump, If, Not, GetVariable, the value, mark 0, the pool of one string
abbrev S3Pieces : List (List Piece)
S3Pieces = (mark 1 ∷ branch Branching.Jump 0 ∷ branch Branching.If 1 ∷ entry.op op.Not ∷ entry.op op.GetVariable ∷ value true (Constant 0) ∷ mark 0 ∷ ConstantPool 1 ∷ []) ∷ []

abbrev S3Slice : List ℕ
S3Slice = slice_words limits01 (map entries_of S3Pieces) (label_words 1024 S3Lists) (0 ∷ []) 16384

-- all 16,384 words
S3Words : S3Slice ≡
    (257 ∷ 1 ∷ 0 ∷
    0x99 ∷ 0 ∷ 0 ∷
    0x9D ∷ 1 ∷ 0 ∷
    0x12 ∷ 0 ∷ 0 ∷
    0x1C ∷ 0 ∷ 0 ∷
    0x118 ∷ 0 ∷ 0 ∷
    257 ∷ 0 ∷ 0 ∷
    0x88 ∷ 1 ∷ 0 ∷ []) ++ (zeros_of (12288 - 24) ++
    ((2 ∷ 7 ∷ []) ++ (zeros_of (1024 - 2) ++
    ((8 ∷ []) ++ (zeros_of (1024 - 1) ++
    ((0 ∷ []) ++ zeros_of (2048 - 1)))))))
unfolding area entry_words joined words.ends_from slice_words entries_of label_word labels_from zeros_of
S3Words = refl

-- the reference of the pool's one string is the file's string 0
S3Holds : Holds limits01 S3File S3Lists S3Slice
unfolding IsLe joined entries_of gathered items_of text_in names_string word_at layout_of end_at string_at row_at rows_from rows_of bytes_of ends_from rows_of_trees record_words write count file.text labels_from
S3Holds = slice_holds limits01 S3File S3Lists S3Pieces (0 ∷ []) 16384 (record {
  entries_fit = le_by_compare 8 4096 tt;
  lists_fit = le_by_compare 1 1024 tt;
  labels_fit = le_by_compare 1024 1024 tt;
  pool_fits = le_by_compare 1 2048 tt;
  slice_fits = le_by_compare 16384 16384 tt;
  last_filled = le_by_compare 1 8 tt;
}) refl refl tt

-- `function g(p) { 1.5; } _X;`: the strings are `g`, `p` and `_X`, the function is record 5, and the property's target is the empty string of no string

abbrev function_file : List ℕ
function_file = write (bytes "g" ∷ bytes "p" ∷ bytes "_X" ∷ []) (none and node 97 2 0 0 (none and
    node 3 0 0 0 (none and node 49 1 0 0 (none and node 97 1 0 0 (none and leaf 99 1 0 0) and
    node 97 1 0 0 (none and node 3 0 0 0 (none and leaf 32 2 0 0x3FF80000)))) and
    node 3 0 0 0 (none and leaf 32 1 2 0)))

abbrev function_lists : List (List Item)
function_lists =
    (act (Action.plain (Plain.ConstantPool (bytes "" ∷ []))) ∷ act (Action.define (DefineFunction (bytes "g") (bytes "p" ∷ [])) 1) ∷
    act (Action.push (Value.Constant 0 ∷ Value.Integer 0 ∷ [])) ∷ single op.GetProperty ∷ single op.Pop ∷ []) ∷
    (act (Action.push (Value.Float 0x3FF8000000000000 ∷ [])) ∷ single op.Pop ∷ []) ∷ []

function_lowered : lowered function_file ≡ items function_lists
unfolding names same to_ascii_lowercase first_from get_special_property ◌>>=◌ ◌>>◌ pure refuse create_label stack_size assume_stack_delta action_with_stack_delta mark_label mark_default push add define_function meanings generate_actions script_to_actions word_at layout_of end_at string_at row_at rows_from rows_of span_at forest_in forest signed binary_operators unary_of constant_of condition_of statement_kinds expr_kinds plain_of record_of tree_in resolved script_of bytes_of ends_from rows_of_trees record_words write map_forest count file.text
function_lowered = refl

-- list 1 finishes before the top list
abbrev function_pieces : List (List Piece)
function_pieces =
    (entry.op op.Pop ∷ value true (Float 0x3FF8000000000000) ∷ []) ∷
    (entry.op op.Pop ∷ entry.op op.GetProperty ∷ value false (Integer 0) ∷ value true (Constant 0) ∷ function 1 5 ∷ ConstantPool 1 ∷ []) ∷ []

abbrev function_slice : List ℕ
function_slice = slice_words limits01 (map entries_of function_pieces) (label_words 1024 function_lists) (0xFFFFFFFF ∷ []) 16384

function_words_lem : function_slice ≡
    (0x17 ∷ 0 ∷ 0 ∷
    0x116 ∷ 0 ∷ 0x3FF80000 ∷
    0x17 ∷ 0 ∷ 0 ∷
    0x22 ∷ 0 ∷ 0 ∷
    0x127 ∷ 0 ∷ 0 ∷
    0x118 ∷ 0 ∷ 0 ∷
    256 ∷ 1 ∷ 5 ∷
    0x88 ∷ 1 ∷ 0 ∷ []) ++ (zeros_of (12288 - 24) ++
    (zeros_of 1024 ++
    ((2 ∷ 8 ∷ []) ++ (zeros_of (1024 - 2) ++
    ((0xFFFFFFFF ∷ []) ++ zeros_of (2048 - 1))))))
unfolding area entry_words joined words.ends_from slice_words entries_of label_word labels_from zeros_of
function_words_lem = refl

function_holds : Holds limits01 function_file function_lists function_slice
unfolding IsLe joined entries_of gathered items_of text_in names_string rec_in record_in children_in params_of header_in names_function word_at layout_of end_at string_at row_at rows_from rows_of span_at forest_in forest signed binary_operators unary_of constant_of condition_of statement_kinds expr_kinds plain_of record_of resolved bytes_of ends_from rows_of_trees record_words write map_forest count file.text labels_from
function_holds = slice_holds limits01 function_file function_lists function_pieces (0xFFFFFFFF ∷ []) 16384 (record {
  entries_fit = le_by_compare 8 4096 tt;
  lists_fit = le_by_compare 2 1024 tt;
  labels_fit = le_by_compare 1024 1024 tt;
  pool_fits = le_by_compare 1 2048 tt;
  slice_fits = le_by_compare 16384 16384 tt;
  last_filled = le_by_compare 1 6 tt;
}) refl refl tt

-- bytes with two Push actions side by side, of which the second pushes Null and a string; a function, a GotoLabel and a Jump to place 1

abbrev read_bytes_row : Bytes
read_bytes_row =
    0x88 ∷ 2 ∷ 0 ∷ 0 ∷ 0 ∷
    0x96 ∷ 5 ∷ 0 ∷ 7 ∷ 1 ∷ 0 ∷ 0 ∷ 0 ∷
    0x96 ∷ 5 ∷ 0 ∷ 2 ∷ 0 ∷ 0x61 ∷ 0x62 ∷ 0 ∷
    0x9B ∷ 8 ∷ 0 ∷ 0x66 ∷ 0 ∷ 1 ∷ 0 ∷ 0x70 ∷ 0 ∷ 1 ∷ 0 ∷ 0x12 ∷
    0x8C ∷ 2 ∷ 0 ∷ 0x6C ∷ 0 ∷
    0x99 ∷ 2 ∷ 0 ∷ 0xDA ∷ 0xFF ∷
    0 ∷ []

abbrev read_lists : format.Lists
read_lists = record {
  top = Action.plain (Plain.ConstantPool []) ∷ Action.push (Value.Integer 1 ∷ []) ∷ Action.push (Value.Null ∷ Value.String (bytes "ab") ∷ []) ∷
      Action.define (DefineFunction (bytes "f") (bytes "p" ∷ [])) 1 ∷ Action.plain (Plain.GotoLabel (bytes "l")) ∷ Action.branch Branching.Jump 1 ∷ [];
  functions = (Action.plain (Plain.op op.Not) ∷ []) ∷ [];
}

read_decoded : decode limits_01 read_bytes_row ≡ some read_lists
unfolding decode utf8 completes next started Option-elim word zero_ended stored code_bytes position read_byte word_reader read_string read_bytes read_value read_record read_code place_at_index
read_decoded = refl

-- the positions: the function's record at byte 21, the strings at 18 and 36, the pool at 0
read_words_lem : read_words limits01 read_lists 16384 ≡
    (0x12 ∷ 0 ∷ 0 ∷
    0x99 ∷ 1 ∷ 0 ∷
    0x8C ∷ 36 ∷ 0 ∷
    256 ∷ 1 ∷ 21 ∷
    0x120 ∷ 18 ∷ 0 ∷
    0x112 ∷ 0 ∷ 0 ∷
    0x117 ∷ 1 ∷ 0 ∷
    0x88 ∷ 0 ∷ 0 ∷ []) ++ (zeros_of (12288 - 24) ++
    (zeros_of 1024 ++
    ((1 ∷ 8 ∷ []) ++ (zeros_of (1024 - 2) ++
    zeros_of 2048))))
unfolding area entry_words joined words.ends_from slice_words entries_of zeros_of placed values_from placed_in_order pieces_read entries_read read_words nest word zero_ended stored code_bytes
read_words_lem = refl

-- the words and the bytes say the lists
read_said : map (items_of (in_bytes read_bytes_row)) (pieces_read read_lists) ≡ finishing (map (map Item.action) (format.all_lists read_lists))
unfolding gathered items_of placed values_from placed_in_order pieces_read nest word zero_ended stored code_bytes read_byte word_reader read_string read_bytes read_value read_record
read_said = refl

-- S3 read back from its bytes: places in the branches, no marks, and the end 6
S3ReadWords : read_words limits01 (format.lists_by_place (top_of S3Lists) []) 16384 ≡
    (0x99 ∷ 1 ∷ 0 ∷
    0x9D ∷ 6 ∷ 0 ∷
    0x12 ∷ 0 ∷ 0 ∷
    0x1C ∷ 0 ∷ 0 ∷
    0x118 ∷ 0 ∷ 0 ∷
    0x88 ∷ 0 ∷ 0 ∷ []) ++ (zeros_of (12288 - 18) ++
    (zeros_of 1024 ++
    ((6 ∷ []) ++ (zeros_of (1024 - 1) ++
    zeros_of 2048))))
unfolding area entry_words joined words.ends_from slice_words entries_of zeros_of placed values_from placed_in_order pieces_read entries_read read_words nest word zero_ended stored code_bytes
S3ReadWords = refl

-- limits of 1 each and a slice of 20 words: the areas scale, and the rest is zeros
small_words : slice_words (record { actions = 1; values = 1; labels = 1 }) (map entries_of ((mark 0 ∷ value true (Integer 7) ∷ ConstantPool 0 ∷ []) ∷ [])) (5 ∷ []) [] 20 ≡
    257 ∷ 0 ∷ 0 ∷ 0x117 ∷ 7 ∷ 0 ∷ 0x88 ∷ 0 ∷ 0 ∷ 5 ∷ 3 ∷ 0 ∷ zeros_of 8
unfolding area entry_words joined words.ends_from slice_words entries_of zeros_of
small_words = refl
