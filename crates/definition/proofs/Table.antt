-- The starred scripts of document 01 and scripts for 'Where a port goes astray', from the tree to lists with marks and bytes: one table.
use Prim.Native.Nat.{ℕ, zero, suc}
use mathlib.Core.Path.{◌≡◌, refl}
use mathlib.Core.List.{List, [], ◌∷◌, map}
use mathlib.Core.Option.{none, Option-elim}
use native.Mathlib.Omega.{arith}
use lib.Dec.{T, ltb, ltb→lt}
use Rattle.hir.specs.Hir.{Rec, StatementKind}
use Rattle.hir.specs.Tree.{Forest, map_forest, depth}
use Rattle.pcode.specs.declared.Op.TheVariants as op
use Rattle.pcode.specs.Pcode.{Constant, DefineFunction}
use Rattle.special_properties.specs.SpecialProperties.{names, same, to_ascii_lowercase, first_from, get_special_property}
use Rattle.utf8.specs.Utf8.{started, next, completes, utf8}
use Rattle.script_records.specs.Layout.{word_at, layout_of, end_at, string_at, strings_from, strings_of, row_at, rows_from, rows_of, span_at, forest_in, forest}
use Rattle.decode.specs.Decode.{signed, binary_operators, constant_of, statement_kinds, plain_of, record_of}
use Rattle.script.specs.Forms.{form_of, all_of, matches, trees, fits}
use Rattle.script.specs.Rules.{all_below, parted_in, parted, record_holds, root_holds, rules_hold, all_utf8, all_supported, tree_in, check_of}
use Rattle.script.specs.Resolve.{resolved, script_of}
use Rattle.script.specs.Write.{Bytes}
use Rattle.lowering.specs.Builder.{limits01, ◌>>=◌, ◌>>◌, pure, refuse, create_label, stack_size, assume_stack_delta, action_with_stack_delta, mark_label, mark_default, push, add, define_function}
use Rattle.lowering.specs.Statement as lowering
use Rattle.lowering.specs.Statement.{meanings, generate_actions, script_to_actions}
use Rattle.lowering.proofs.Table as lowered
use Rattle.lowering.proofs.Table.{one, ◌and◌, no_tree, name, block, whole, statement, function, pool, pushes, act, if, jump, mark, define}
use Rattle.action_format.specs.Lists.{all}
use Rattle.action_format.specs.Code.{nest}
use Rattle.action_format.specs.Bytes.{word, zero_ended, stored, code_bytes}
use Rattle.action_format.specs.Offsets.{position}
use Rattle.action_format.specs.Encode.{encode}
use Rattle.action_format.proofs.Tests.{and_first, and_second}
use Rattle.definition.specs.Outcome.{Outcome, compiled, refused}
use Rattle.definition.specs.Compile.{lowered_with, if_lowered, compile_with, compile_of}

pub record Row : Type 0 where
  pub script : Forest Rec
  pub outcome : Outcome

-- what a row of lowering's table expects, with the bytes
abbrev pub with_bytes : List ℕ → lowering.Lists → Outcome
with_bytes b (lowering.lists ls) = compiled b ls
with_bytes b (lowering.refusal n) = refused n

abbrev pub row : lowered.Row → List ℕ → Row
row r b = record { script = r.script; outcome = with_bytes b r.expected }

-- S7, S8 and S9 are refused in lowering, and have no bytes
abbrev pub no_bytes : lowered.Row → Row
no_bytes r = row r []

abbrev pub S1 : Row
S1 = row lowered.S1
    (0x88 ∷ 0x02 ∷ 0x00 ∷ 0x00 ∷ 0x00 ∷ 0x00 ∷ [])

abbrev pub S2 : Row
S2 = row lowered.S2
    (0x88 ∷ 0x04 ∷ 0x00 ∷ 0x01 ∷ 0x00 ∷ 0x61 ∷ 0x00 ∷ 0x96 ∷ 0x07 ∷ 0x00 ∷ 0x08 ∷ 0x00 ∷ 0x07 ∷ 0x50 ∷ 0x00 ∷ 0x00 ∷ 0x00 ∷ 0x1D ∷ 0x00 ∷ [])

-- the If's offset is 5, the Jump's -17
abbrev pub S3 : Row
S3 = row lowered.S3
    (0x88 ∷ 0x04 ∷ 0x00 ∷ 0x01 ∷ 0x00 ∷ 0x62 ∷ 0x00 ∷ 0x96 ∷ 0x02 ∷ 0x00 ∷ 0x08 ∷ 0x00 ∷ 0x1C ∷ 0x12 ∷ 0x9D ∷ 0x02 ∷ 0x00 ∷ 0x05 ∷ 0x00 ∷ 0x99 ∷
    0x02 ∷ 0x00 ∷ 0xEF ∷ 0xFF ∷ 0x00 ∷ [])

-- frames 0, 0, 1, 65534, 65535
abbrev pub S4 : Row
S4 = row lowered.S4
    (0x88 ∷ 0x02 ∷ 0x00 ∷ 0x00 ∷ 0x00 ∷ 0x81 ∷ 0x02 ∷ 0x00 ∷ 0x00 ∷ 0x00 ∷ 0x81 ∷ 0x02 ∷ 0x00 ∷ 0x00 ∷ 0x00 ∷ 0x81 ∷ 0x02 ∷ 0x00 ∷ 0x01 ∷ 0x00 ∷
    0x81 ∷ 0x02 ∷ 0x00 ∷ 0xFE ∷ 0xFF ∷ 0x81 ∷ 0x02 ∷ 0x00 ∷ 0xFF ∷ 0xFF ∷ 0x00 ∷ [])

abbrev pub S5 : Row
S5 = row lowered.S5
    (0x88 ∷ 0x02 ∷ 0x00 ∷ 0x00 ∷ 0x00 ∷ 0x00 ∷ [])

abbrev pub S6 : Row
S6 = row lowered.S6
    (0x88 ∷ 0x02 ∷ 0x00 ∷ 0x00 ∷ 0x00 ∷ 0x00 ∷ [])

abbrev pub S10 : Row
S10 = row lowered.S10
    (0x88 ∷ 0x04 ∷ 0x00 ∷ 0x01 ∷ 0x00 ∷ 0x66 ∷ 0x00 ∷ 0x96 ∷ 0x11 ∷ 0x00 ∷ 0x07 ∷ 0x02 ∷ 0x00 ∷ 0x00 ∷ 0x00 ∷ 0x07 ∷ 0x01 ∷ 0x00 ∷ 0x00 ∷ 0x00 ∷
    0x07 ∷ 0x02 ∷ 0x00 ∷ 0x00 ∷ 0x00 ∷ 0x08 ∷ 0x00 ∷ 0x3D ∷ 0x17 ∷ 0x00 ∷ [])

abbrev pub S11 : Row
S11 = row lowered.S11
    (0x88 ∷ 0x04 ∷ 0x00 ∷ 0x01 ∷ 0x00 ∷ 0x63 ∷ 0x00 ∷ 0x96 ∷ 0x02 ∷ 0x00 ∷ 0x08 ∷ 0x00 ∷ 0x1C ∷ 0x9D ∷ 0x02 ∷ 0x00 ∷ 0x0D ∷ 0x00 ∷ 0x96 ∷ 0x05 ∷
    0x00 ∷ 0x07 ∷ 0x02 ∷ 0x00 ∷ 0x00 ∷ 0x00 ∷ 0x99 ∷ 0x02 ∷ 0x00 ∷ 0x08 ∷ 0x00 ∷ 0x96 ∷ 0x05 ∷ 0x00 ∷ 0x07 ∷ 0x01 ∷ 0x00 ∷ 0x00 ∷ 0x00 ∷ 0x17 ∷
    0x00 ∷ [])

abbrev pub S12 : Row
S12 = row lowered.S12
    (0x88 ∷ 0x03 ∷ 0x00 ∷ 0x01 ∷ 0x00 ∷ 0x00 ∷ 0x96 ∷ 0x07 ∷ 0x00 ∷ 0x08 ∷ 0x00 ∷ 0x07 ∷ 0x00 ∷ 0x00 ∷ 0x00 ∷ 0x00 ∷ 0x22 ∷ 0x17 ∷ 0x00 ∷ [])

-- where a port goes astray

-- the push after the ternary's end is a record of its own: the Jump goes 8 bytes, to its first byte, and skips none of its values
abbrev pub across_a_mark : Row
across_a_mark = row lowered.across_a_mark
    (0x88 ∷ 0x06 ∷ 0x00 ∷ 0x02 ∷ 0x00 ∷ 0x63 ∷ 0x00 ∷ 0x66 ∷ 0x00 ∷ 0x96 ∷ 0x02 ∷ 0x00 ∷ 0x08 ∷ 0x00 ∷ 0x1C ∷ 0x9D ∷ 0x02 ∷ 0x00 ∷ 0x0D ∷ 0x00 ∷
    0x96 ∷ 0x05 ∷ 0x00 ∷ 0x07 ∷ 0x02 ∷ 0x00 ∷ 0x00 ∷ 0x00 ∷ 0x99 ∷ 0x02 ∷ 0x00 ∷ 0x08 ∷ 0x00 ∷ 0x96 ∷ 0x05 ∷ 0x00 ∷ 0x07 ∷ 0x01 ∷ 0x00 ∷ 0x00 ∷
    0x00 ∷ 0x96 ∷ 0x07 ∷ 0x00 ∷ 0x07 ∷ 0x01 ∷ 0x00 ∷ 0x00 ∷ 0x00 ∷ 0x08 ∷ 0x01 ∷ 0x3D ∷ 0x17 ∷ 0x00 ∷ [])

-- the function's body is empty: its Break has no label there
abbrev pub function_in_switch : Row
function_in_switch = row lowered.function_in_switch
    (0x88 ∷ 0x02 ∷ 0x00 ∷ 0x00 ∷ 0x00 ∷ 0x99 ∷ 0x02 ∷ 0x00 ∷ 0x00 ∷ 0x00 ∷ 0x9B ∷ 0x05 ∷ 0x00 ∷ 0x00 ∷ 0x00 ∷ 0x00 ∷ 0x00 ∷ 0x00 ∷ 0x17 ∷ 0x99 ∷
    0x02 ∷ 0x00 ∷ 0x00 ∷ 0x00 ∷ 0x00 ∷ [])

-- the label's string stands in its own record and not in the pool
abbrev pub goto_label : Row
goto_label = row lowered.goto_label
    (0x88 ∷ 0x04 ∷ 0x00 ∷ 0x01 ∷ 0x00 ∷ 0x6D ∷ 0x00 ∷ 0x8C ∷ 0x02 ∷ 0x00 ∷ 0x6C ∷ 0x00 ∷ 0x96 ∷ 0x02 ∷ 0x00 ∷ 0x08 ∷ 0x00 ∷ 0x17 ∷ 0x00 ∷ [])

-- the If of the second Case goes over two Jumps, the Jump to the Default over one
abbrev pub cases_and_default : Row
cases_and_default = row lowered.cases_and_default
    (0x88 ∷ 0x04 ∷ 0x00 ∷ 0x01 ∷ 0x00 ∷ 0x61 ∷ 0x00 ∷ 0x96 ∷ 0x02 ∷ 0x00 ∷ 0x08 ∷ 0x00 ∷ 0x1C ∷ 0x87 ∷ 0x01 ∷ 0x00 ∷ 0x00 ∷ 0x96 ∷ 0x05 ∷ 0x00 ∷
    0x07 ∷ 0x01 ∷ 0x00 ∷ 0x00 ∷ 0x00 ∷ 0x66 ∷ 0x9D ∷ 0x02 ∷ 0x00 ∷ 0x15 ∷ 0x00 ∷ 0x96 ∷ 0x07 ∷ 0x00 ∷ 0x04 ∷ 0x00 ∷ 0x07 ∷ 0x02 ∷ 0x00 ∷ 0x00 ∷
    0x00 ∷ 0x66 ∷ 0x9D ∷ 0x02 ∷ 0x00 ∷ 0x0A ∷ 0x00 ∷ 0x99 ∷ 0x02 ∷ 0x00 ∷ 0x05 ∷ 0x00 ∷ 0x99 ∷ 0x02 ∷ 0x00 ∷ 0x00 ∷ 0x00 ∷ 0x00 ∷ [])

-- a function's body inside a function's body
abbrev pub hoisting : Row
hoisting = row lowered.hoisting
    (0x88 ∷ 0x02 ∷ 0x00 ∷ 0x00 ∷ 0x00 ∷ 0x8E ∷ 0x0C ∷ 0x00 ∷ 0x67 ∷ 0x00 ∷ 0x01 ∷ 0x00 ∷ 0x02 ∷ 0x05 ∷ 0x00 ∷ 0x01 ∷ 0x70 ∷ 0x00 ∷ 0x09 ∷ 0x00 ∷
    0x9B ∷ 0x05 ∷ 0x00 ∷ 0x00 ∷ 0x00 ∷ 0x00 ∷ 0x00 ∷ 0x00 ∷ 0x17 ∷ 0x96 ∷ 0x05 ∷ 0x00 ∷ 0x07 ∷ 0x01 ∷ 0x00 ∷ 0x00 ∷ 0x00 ∷ 0x17 ∷ 0x00 ∷ [])

-- S3 as a function's body: its offsets are those of S3, since both branches count from the byte after them, in their own body
abbrev pub loop_in_function : Row
loop_in_function = row
    (lowered.row_of_lists (one (whole (function none 0 0 no_tree (one (statement StatementKind.While (one (name "b") and block))))))
    ((pool ("b" ∷ []) ∷ define (DefineFunction [] []) 1 ∷ act op.Pop ∷ []) ∷
    (mark 0 ∷ pushes (Constant 0 ∷ []) ∷ act op.GetVariable ∷ act op.Not ∷ if 1 ∷ jump 0 ∷ mark 1 ∷ []) ∷ []))
    (0x88 ∷ 0x04 ∷ 0x00 ∷ 0x01 ∷ 0x00 ∷ 0x62 ∷ 0x00 ∷ 0x9B ∷ 0x05 ∷ 0x00 ∷ 0x00 ∷ 0x00 ∷ 0x00 ∷ 0x11 ∷ 0x00 ∷ 0x96 ∷ 0x02 ∷ 0x00 ∷ 0x08 ∷ 0x00 ∷
    0x1C ∷ 0x12 ∷ 0x9D ∷ 0x02 ∷ 0x00 ∷ 0x05 ∷ 0x00 ∷ 0x99 ∷ 0x02 ∷ 0x00 ∷ 0xEF ∷ 0xFF ∷ 0x17 ∷ 0x00 ∷ [])

abbrev pub rows : List Row
rows = S1 ∷ S2 ∷ S3 ∷ S4 ∷ S5 ∷ S6 ∷ no_bytes lowered.S7 ∷ no_bytes lowered.S8 ∷ no_bytes lowered.S9 ∷ S10 ∷ S11 ∷ S12 ∷
    across_a_mark ∷ function_in_switch ∷ goto_label ∷ cases_and_default ∷ hoisting ∷ loop_in_function ∷ []

-- every script of the table gives what its row says, in an output of 65,536 bytes
pub table : map (λ (r : Row). if_lowered (script_to_actions limits01 r.script) 65536) rows ≡ map (λ (r : Row). r.outcome) rows
unfolding names same to_ascii_lowercase first_from get_special_property ◌>>=◌ ◌>>◌ pure refuse create_label stack_size assume_stack_delta action_with_stack_delta mark_label mark_default push add define_function meanings generate_actions script_to_actions encode nest word zero_ended stored code_bytes position
table = refl

-- from a file's bytes

-- the script file of S1: its root, and the trailer
abbrev pub S1File : List ℕ
S1File =
    0x61 ∷ 0x00 ∷ 0x00 ∷ 0x00 ∷ 0x00 ∷ 0x00 ∷ 0x00 ∷ 0x00 ∷ 0x00 ∷ 0x00 ∷ 0x00 ∷ 0x00 ∷ 0x00 ∷ 0x00 ∷ 0x00 ∷ 0x00 ∷ 0x01 ∷ 0x00 ∷ 0x00 ∷ 0x00 ∷
    0x14 ∷ 0x00 ∷ 0x00 ∷ 0x00 ∷ 0x14 ∷ 0x00 ∷ 0x00 ∷ 0x00 ∷ 0x01 ∷ 0x00 ∷ 0x00 ∷ 0x00 ∷ 0x00 ∷ 0x00 ∷ 0x00 ∷ 0x00 ∷ 0x01 ∷ 0x00 ∷ 0x00 ∷ 0x00 ∷ []

-- the script file of S2, as docs/SCRIPT_FILE.md has it
abbrev pub S2File : List ℕ
S2File =
    0x61 ∷ 0x01 ∷ 0x00 ∷ 0x00 ∷ 0x00 ∷ 0x20 ∷ 0x00 ∷ 0x00 ∷ 0x00 ∷ 0x01 ∷ 0x00 ∷ 0x00 ∷ 0x00 ∷ 0x00 ∷ 0x00 ∷ 0x00 ∷ 0x00 ∷ 0x00 ∷ 0x00 ∷ 0x00 ∷
    0x00 ∷ 0x01 ∷ 0x00 ∷ 0x00 ∷ 0x00 ∷ 0x20 ∷ 0x00 ∷ 0x00 ∷ 0x00 ∷ 0x03 ∷ 0x00 ∷ 0x00 ∷ 0x00 ∷ 0x50 ∷ 0x00 ∷ 0x00 ∷ 0x00 ∷ 0x00 ∷ 0x00 ∷ 0x00 ∷
    0x00 ∷ 0x01 ∷ 0x00 ∷ 0x00 ∷ 0x00 ∷ 0x28 ∷ 0x00 ∷ 0x00 ∷ 0x00 ∷ 0x01 ∷ 0x00 ∷ 0x00 ∷ 0x00 ∷ 0x00 ∷ 0x00 ∷ 0x00 ∷ 0x00 ∷ 0x00 ∷ 0x00 ∷ 0x00 ∷
    0x00 ∷ 0x03 ∷ 0x00 ∷ 0x00 ∷ 0x00 ∷ 0x03 ∷ 0x00 ∷ 0x00 ∷ 0x00 ∷ 0x00 ∷ 0x00 ∷ 0x00 ∷ 0x00 ∷ 0x00 ∷ 0x00 ∷ 0x00 ∷ 0x00 ∷ 0x00 ∷ 0x00 ∷ 0x00 ∷
    0x00 ∷ 0x04 ∷ 0x00 ∷ 0x00 ∷ 0x00 ∷ 0x61 ∷ 0x00 ∷ 0x00 ∷ 0x00 ∷ 0x01 ∷ 0x00 ∷ 0x00 ∷ 0x00 ∷ 0x00 ∷ 0x00 ∷ 0x00 ∷ 0x00 ∷ 0x00 ∷ 0x00 ∷ 0x00 ∷
    0x00 ∷ 0x05 ∷ 0x00 ∷ 0x00 ∷ 0x00 ∷ 0x64 ∷ 0x00 ∷ 0x00 ∷ 0x00 ∷ 0x68 ∷ 0x00 ∷ 0x00 ∷ 0x00 ∷ 0x05 ∷ 0x00 ∷ 0x00 ∷ 0x00 ∷ 0x01 ∷ 0x00 ∷ 0x00 ∷
    0x00 ∷ 0x01 ∷ 0x00 ∷ 0x00 ∷ 0x00 ∷ []

pub record Call : Type 0 where
  pub file : List ℕ
  pub list_words : ℕ
  pub room : ℕ
  pub outcome : Outcome

abbrev call : List ℕ → (list_words room : ℕ) → Outcome → Call
call f w r o = record { file = f; list_words = w; room = r; outcome = o }

-- with just room enough, with one byte less, with one word less, and a file without a trailer
abbrev pub calls : List Call
calls =
    call S1File 16384 6 S1.outcome ∷
    call S2File 16384 19 S2.outcome ∷
    call S2File 16384 18 (refused 12) ∷
    call S2File 16383 19 (refused 13) ∷
    call [] 16384 0 (refused 1) ∷
    call [] 16383 0 (refused 13) ∷ []

pub files : map (λ (c : Call). compile_of c.file c.list_words c.room) calls ≡ map (λ (c : Call). c.outcome) calls
unfolding compile_with lowered_with check_of rules_hold layout_of word_at end_at string_at strings_from strings_of row_at rows_from rows_of span_at forest_in forest all_below parted_in parted record_holds root_holds all_utf8 all_supported tree_in depth script_of map_forest resolved record_of plain_of statement_kinds signed binary_operators constant_of form_of all_of matches trees fits utf8 completes next started Option-elim names same to_ascii_lowercase first_from get_special_property ◌>>=◌ ◌>>◌ pure refuse create_label stack_size assume_stack_delta action_with_stack_delta mark_label mark_default push add define_function meanings generate_actions script_to_actions encode nest word zero_ended stored code_bytes position
files = refl

-- that a file is of bytes is no empty premise
are_bytes : (F : List ℕ) → T (all (λ (b : ℕ). ltb b 256) F) → Bytes F
are_bytes [] h i = omega arith
are_bytes (b ∷ F) h zero = ltb→lt b 256 (and_first (ltb b 256) (all (λ (b : ℕ). ltb b 256) F) h)
are_bytes (b ∷ F) h (suc i) = are_bytes F (and_second (ltb b 256) (all (λ (b : ℕ). ltb b 256) F) h) i

pub met : Bytes S1File × Bytes S2File
met = (are_bytes S1File tt, are_bytes S2File tt)
