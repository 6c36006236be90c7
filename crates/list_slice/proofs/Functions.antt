-- The header that a function's reference names is the one that lowering gives the function.
use Prim.Native.Nat.{ℕ}
use mathlib.Core.Path.{◌≡◌, refl, ap}
use mathlib.Core.List.{List, [], ◌∷◌, ◌++◌}
use mathlib.Core.Bool.{Bool}
use mathlib.Core.Option.{Option}
use Rattle.hir.specs.Hir.{Str, Rec, ExprKind}
use Rattle.hir.specs.Tree.{Forest, none, more}
use Rattle.pcode.specs.Pcode.{Param}
use Rattle.lowering.specs.Builder.{define_function}
use Rattle.lowering.specs.Meaning.{list, param}
use Rattle.lowering.specs.Statement.{params, meanings, no_loop, gen_statements, gen_expr}
use Rattle.lowering.proofs.Laws.{list_law}
use Rattle.list_slice.specs.File.{params_of, expr_header}

pub params_meanings : (ps : Forest Rec) → params (meanings ps) ≡ params_of ps
unfolding meanings params_of
params_meanings none = refl
params_meanings (more ps p kids) = ap (λ (r : List Param). r ++ (param p ∷ [])) (params_meanings ps)

pub function_header : (name : Option Str) (registers marks : ℕ) (kids : Forest Rec) (discard : Bool) →
    gen_expr (ExprKind.Function name registers marks) (meanings kids) discard ≡
    define_function (expr_header (ExprKind.Function name registers marks) kids) (gen_statements no_loop (list 0 (meanings kids)))
function_header name registers marks kids discard =
    rw (list_law 1 kids, params_meanings (list 1 kids))
