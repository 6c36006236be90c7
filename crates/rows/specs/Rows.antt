-- What is done with each tree of a row, in one form for all rows.
use Rattle.std.specs.Prelude.{ℕ, ◌+◌, Bool, true, false, not, ◌||◌, List, ltb}
use Rattle.std.specs.Prelude as std
use Rattle.std.proofs.Math.Option.{Option, none, some}
use Rattle.hir.specs.Tree.{Forest, more}
use Rattle.pcode.specs.Pcode.{Value}
use Rattle.pcode.specs.declared.Label.{Label}
use Rattle.pcode.specs.declared.Op.TheVariants.{StrictEquals}
use Rattle.lowering.specs.Builder.{Step, ◌>>◌, done, when, action, push, push_string, mark_label, mark_default}
use Rattle.lowering.specs.Access.{store_register}
use Rattle.lowering.specs.Meaning.{Loop, Meaning, param, hoisted, element, width}
use Rattle.lowering.specs.Meaning as meaning
use Rattle.lowering.specs.Statement.{SwitchElement, branch, expr, discarded, has_case, gen_conditionals, gen_call, gen_new}
use Rattle.builder.specs.Labels.{labels_of_forest}
use Rattle.rows.specs.declared.Each.{Each}
use Rattle.rows.specs.declared.Each.TheVariants.{Expr, Discarded, Field, Statement, Hoisted, Unhoisted, Conditional, Element}
use Rattle.rows.specs.declared.Loop as code

-- the labels that Break and Continue jump to

abbrev pub label_of : std.Option Label → Option ℕ
label_of (std.Some l) = some l.0
label_of std.None = none

abbrev pub loop_of : code.Loop → Loop
loop_of lp = record { break_label = label_of lp.exit; continue_label = label_of lp.next }

-- how many Cases there are
abbrev pub one_case : meaning.Element → ℕ
one_case meaning.case = 1
one_case meaning.default = 0
one_case meaning.statement = 0

unfoldable pub cases_of : Forest Meaning → ℕ
cases_of Forest.none = 0
cases_of (more ms m kids) = cases_of ms + one_case (element m.rec)

-- an element of a switch, s of those before it having labels from f on, and c of them being Cases

abbrev pub conditional : (f s c : ℕ) → Meaning → meaning.Element → Step
conditional f s c m meaning.case = when (ltb 0 c) (push (Value.Register 0)) >> (expr m >> (action StrictEquals >> branch (f + s)))
conditional f s c m meaning.default = done
conditional f s c m meaning.statement = done

abbrev pub switch_element : Loop → (f d s : ℕ) → Meaning → meaning.Element → Step
switch_element lp f d s m meaning.case = mark_label (f + s)
switch_element lp f d s m meaning.default = mark_default d
switch_element lp f d s m meaning.statement = when (ltb 0 s) (m.gen_statement lp)

abbrev pub one_of : Each → Loop → (first default seen cases : ℕ) → Meaning → Forest Meaning → Step
one_of Expr lp f d s c m kids = expr m
one_of Discarded lp f d s c m kids = discarded m
one_of Field lp f d s c m kids = push_string (param m.rec).name >> expr m
one_of Statement lp f d s c m kids = m.gen_statement lp
one_of Hoisted lp f d s c m kids = when (hoisted m.rec kids) (m.gen_statement lp)
one_of Unhoisted lp f d s c m kids = when (not (hoisted m.rec kids)) (m.gen_statement lp)
one_of Conditional lp f d s c m kids = conditional f s c m (element m.rec)
one_of Element lp f d s c m kids = switch_element lp f d s m (element m.rec)

unfoldable pub each_of : Each → Loop → (first default : ℕ) → Forest Meaning → Step
each_of e lp f d Forest.none = done
each_of e lp f d (more ms m kids) = each_of e lp f d ms >> one_of e lp f d (labels_of_forest ms) (cases_of ms) m kids

-- whether a row has a tree that is hoisted
unfoldable pub any_hoisted : Forest Meaning → Bool
any_hoisted Forest.none = false
any_hoisted (more ms m kids) = hoisted m.rec kids || any_hoisted ms

-- the tests of a switch that has a Case
abbrev pub select : Meaning → List SwitchElement → Step
select target xs = when (has_case xs) (expr target >> store_register 0 >> gen_conditionals xs)

abbrev pub call_of : (new : Bool) → Meaning → Forest Meaning → Step
call_of true name args = gen_new name args
call_of false name args = gen_call name args
