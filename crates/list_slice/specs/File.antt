-- What the references of a compiled list name in its script file.
use Rattle.std.specs.Prelude.{ℕ, ◌-◌, ◌^◌, List, [], ◌∷◌, ◌++◌, map, Bool, cond, ◌&&◌, ◌||◌, leb, ltb, eqb, take}
use Rattle.std.proofs.Math.Option.{get_or}
use Rattle.hir.specs.Hir.{Str, Rec, ExprKind}
use Rattle.hir.specs.Tree.{Forest, more, map_forest}
use Rattle.pcode.specs.Pcode.{Param, Header, DefineFunction}
use Rattle.script_records.specs.Layout.{Words, layout_of, string_at, words_of, row_in, rows_of, children_of}
use Rattle.decode.specs.Decode.{record_of}
use Rattle.script.specs.Resolve.{resolved}
use Rattle.lowering.specs.Meaning.{list, param}
use Rattle.lowering.specs.Statement.{header}
use Rattle.list_slice.specs.Items.{References}

-- the reference of an empty string that comes from no string of the file: the target of a property
abbrev pub no_string : ℕ
no_string = 2 ^ 32 - 1

-- any other reference is an index of the file's table of strings
unfoldable pub text_in : List ℕ → ℕ → Str
text_in F r = cond (eqb r no_string) [] (string_at F (layout_of F) r)

unfoldable pub names_string : List ℕ → ℕ → Bool
names_string F r = ltb r (layout_of F).strings || eqb r no_string

-- the file's record of a number, and its children

unfoldable pub rec_in : List ℕ → Words → Rec
rec_in F w = resolved (string_at F (layout_of F)) (record_of w)

unfoldable pub record_in : List ℕ → ℕ → Rec
record_in F k = rec_in F (words_of (row_in (rows_of F (layout_of F)) k))

unfoldable pub children_in : List ℕ → ℕ → Forest Rec
children_in F k = map_forest (rec_in F) (children_of (rows_of F (layout_of F)) k)

-- a function's name, parameters, registers and marks, from its record and children: the parameters and the body

unfoldable pub params_of : Forest Rec → List Param
params_of Forest.none = []
params_of (more ps p kids) = params_of ps ++ (param p ∷ [])

abbrev pub expr_header : ExprKind → Forest Rec → Header
expr_header (ExprKind.Function name registers marks) kids = header (get_or name []) registers marks (params_of (list 1 kids)) (leb registers 1)
expr_header (ExprKind.Constant c) kids = DefineFunction [] []
expr_header (ExprKind.Simple k) kids = DefineFunction [] []
expr_header (ExprKind.Binary o) kids = DefineFunction [] []
expr_header (ExprKind.Unary o) kids = DefineFunction [] []
expr_header ExprKind.Call kids = DefineFunction [] []
expr_header ExprKind.New kids = DefineFunction [] []
expr_header ExprKind.DuplicateMovieClip kids = DefineFunction [] []
expr_header ExprKind.Ternary kids = DefineFunction [] []
expr_header ExprKind.InitObject kids = DefineFunction [] []
expr_header ExprKind.InitArray kids = DefineFunction [] []
expr_header ExprKind.Field kids = DefineFunction [] []
expr_header ExprKind.Delete kids = DefineFunction [] []
expr_header ExprKind.Void kids = DefineFunction [] []
expr_header (ExprKind.GotoFrame p) kids = DefineFunction [] []
expr_header (ExprKind.StartDrag l) kids = DefineFunction [] []
expr_header (ExprKind.GetProperty p) kids = DefineFunction [] []
expr_header (ExprKind.SetProperty p) kids = DefineFunction [] []

abbrev pub rec_header : Rec → Forest Rec → Header
rec_header (Rec.Expr k) kids = expr_header k kids
rec_header (Rec.Statement k) kids = DefineFunction [] []
rec_header Rec.Absent kids = DefineFunction [] []
rec_header Rec.List kids = DefineFunction [] []
rec_header Rec.Case kids = DefineFunction [] []
rec_header Rec.Default kids = DefineFunction [] []
rec_header Rec.Other kids = DefineFunction [] []
rec_header (Rec.ObjectField key) kids = DefineFunction [] []
rec_header (Rec.Parameter name r) kids = DefineFunction [] []

unfoldable pub header_in : List ℕ → ℕ → Header
header_in F k = rec_header (record_in F k) (children_in F k)

-- a function's record has kind 49
unfoldable pub names_function : List ℕ → ℕ → Bool
names_function F k = ltb k (layout_of F).count && eqb (row_in (rows_of F (layout_of F)) k).kind 49

-- a pool of n strings is the first n pool words
abbrev pub in_file : List ℕ → (pool : List ℕ) → References
in_file F pool = record { text = text_in F; strings = λ n. map (text_in F) (take n pool); header = header_in F }
