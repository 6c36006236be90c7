-- What a part's last tree means, and rows that are empty or not.
use Prim.Native.Nat.{ℕ, ◌+◌, ◌-◌, ◌*◌, ◌≤◌, ◌<◌}
use mathlib.Core.Path.{◌≡◌, refl, sym, ap, ◌∙◌}
use mathlib.Core.List.{List, []}
use mathlib.Core.Bool.{Bool, true, false, cond, not, ◌&&◌, ◌||◌}
use mathlib.Core.Logic.{◌⊎◌, inl, inr}
use mathlib.Core.Option.{get_or, none, some}
use Rattle.std.specs.Prelude.{Option}
use Rattle.std.specs.Option.{option_map_or}
use native.Mathlib.Omega.{arith}
use lib.Dec.{T, leb, ltb, eqb}
use borrow.Author.Tests.{lt-ltb}
use Rattle.std.proofs.Math.Facts.{ltb_yes}
use Rattle.action_format.proofs.Tests.{and_first}
use lib.IntN.{pos}
use Rattle.std.specs.Int.{from_bool}
use Rattle.decode.specs.Numbers.{unsigned}
use Rattle.hir.specs.Hir.{Str, Rec}
use Rattle.hir.specs.declared.Affix.{Affix}
use Rattle.hir.specs.Tree.{Forest}
use Rattle.hir.specs.declared.ConstantKind.{ConstantKind}
use Rattle.hir.specs.declared.ConstantKind.TheVariants as code-constant
use Rattle.hir.specs.declared.ExprKind.{ExprKind}
use Rattle.hir.specs.declared.ExprKind.TheVariants as expr-kind
use Rattle.hir.specs.declared.StatementKind.{StatementKind}
use Rattle.hir.specs.declared.Record.{Record}
use Rattle.hir.specs.declared.Record.TheVariants as kind
use Rattle.pcode.specs.declared.Op.{Op}
use Rattle.pcode.specs.declared.Op.TheVariants.{Not, StartDrag}
use Rattle.pcode.specs.Pcode.{Integer, Param, op, down, moved}
use Rattle.script_records.specs.declared.layout.Layout.{Layout}
use Rattle.script_records.specs.declared.part.Part.{Part}
use Rattle.script_records.specs.Layout.{layout_of, string_at}
use Rattle.script.specs.Resolve.{resolved, statement_over}
use Rattle.lowering.specs.Builder.{Step, ◌>>◌, done, when, action, plain_action, push, define_function, define_delta, name_delta}
use Rattle.lowering.specs.Meaning as meaning
use Rattle.lowering.specs.Meaning.{Loop, Meaning, nth, list, present, element, shape_of, literal}
use Rattle.lowering.specs.Statement.{meanings, expr, exprs, all_discarded, branch, has_case, has_default, no_loop, header, gen_statements, gen_values, gen_condition, default_label, is_prefix, bit, gen_start_drag, gen_statement, expr_of, statement_of, for_shape}
use Rattle.lowering.proofs.Laws.{kid_law, list_law}
use Rattle.list_slice.specs.File.{header_in, params_of, names_string, names_function}
use Rattle.tree.specs.declared.Node.{Node}
use Rattle.tree.specs.declared.Element.{Element}
use Rattle.tree.specs.declared.Element.TheVariants as code-element
use Rattle.tree.specs.declared.Counts.{Counts}
use Rattle.tree.specs.declared.Trees.{Trees}
use Rattle.tree.specs.Trees.{trees, rec_of, node_of, element_of, meant, counts_of}
use Rattle.tree.specs.Handle.{file_of, parts_of}
use Rattle.tree.specs.Within.{live, constant_named, record_named, Within, IsNode, IsList, meanings_at, kid_at, list_at}
use Rattle.tree.proofs.Nodes.{is_node, trees_more, trees_none, name_bytes}
use Rattle.list_slice.proofs.Functions.{params_meanings}
use Rattle.tree.proofs.Meanings.{kid_zero, labelled_less}
use Rattle.tree.proofs.Meanings as tree-meanings
use Rattle.tree.proofs.Counting.{element_is}
use Rattle.operators.specs.declared.shape.Shape.{Shape}
use Rattle.operators.specs.declared.shape.Shape.TheVariants as code_shape
use Rattle.operators.specs.declared.shape.Literal.TheVariants as code-literal
use Rattle.std.specs.Prelude.{Some, IfSome, option_map, unwrap_or}
use Rattle.lowering.specs.Access.{Direct, ◌gives◌}
use Rattle.operators.specs.Shapes.{root_shape, constant_literal, shape_literal, shape_in}
use Rattle.operators.proofs.Shapes.{shape_named}
use Rattle.constants.specs.declared.context.ScriptContext.{ScriptContext}
use Rattle.builder.specs.Labels.{labels_of_forest, elements_from}
use Rattle.rows.specs.Rows.{cases_of, conditional}
use Rattle.leaves.proofs.Args.{expr_any, expr_at}
use Rattle.statement.specs.Walk.{Walk}
use Rattle.statement.proofs.Rows.{has_case_is, has_label_is, labels_is, cases_is, default_is}

-- a record that is no expression and stands for none, and one that is no statement, generate nothing

without_expr : (F : List ℕ) (r : Record) (ms : Forest Meaning) (d : Bool) → ((k : ExprKind) → r ≡ kind.Expr k → ⊥) → (r ≡ kind.Case → ⊥) → ((s : ℕ) → r ≡ kind.ObjectField s → ⊥) →
    expr_of (rec_of F r) ms d ≡ done
unfolding resolved
without_expr F (kind.Expr k) ms d x y z = absurd (x k refl)
without_expr F kind.Case ms d x y z = absurd (y refl)
without_expr F (kind.ObjectField s) ms d x y z = absurd (z s refl)
without_expr F (kind.Statement k) ms d x y z = refl
without_expr F kind.Absent ms d x y z = refl
without_expr F (kind.List n) ms d x y z = refl
without_expr F (kind.Parameter s n) ms d x y z = refl
without_expr F kind.Default ms d x y z = refl
without_expr F kind.Other ms d x y z = refl

without_statement : (F : List ℕ) (r : Record) (ms : Forest Meaning) (lp : Loop) → ((k : StatementKind) → r ≡ kind.Statement k → ⊥) → statement_of (rec_of F r) ms lp ≡ done
unfolding resolved
without_statement F (kind.Statement k) ms lp x = absurd (x k refl)
without_statement F (kind.Expr k) ms lp x = refl
without_statement F kind.Absent ms lp x = refl
without_statement F (kind.List n) ms lp x = refl
without_statement F (kind.ObjectField s) ms lp x = refl
without_statement F (kind.Parameter s n) ms lp x = refl
without_statement F kind.Case ms lp x = refl
without_statement F kind.Default ms lp x = refl
without_statement F kind.Other ms lp x = refl

module _ {F : List ℕ} {l : Layout} {p : Part} {t : Node Part} (n : IsNode F l p t) where
  pub rec_is : (kid_at F p 0).rec ≡ rec_of F t.root
  rec_is = ap (λ (m : Meaning). m.rec) (kid_zero F l p n)

  -- a switch's element
  pub element_at : {x : Element} → x ≡ element_of t.root → element (kid_at F p 0).rec ≡ meant x
  element_at e = rw (rec_is, e) (element_is (string_at F (layout_of F)) t.root)

  -- an expression, a statement, an access

  -- a Case or an object's field stands for its value
  pub value_at : (d : Bool) → (t.root ≡ kind.Case) ⊎ ((s : ℕ) × (t.root ≡ kind.ObjectField s)) → (kid_at F p 0).gen_expr d ≡ (kid_at F t.children 0).gen_expr d
  unfolding resolved
  value_at d (inl e) = expr_any n d ∙ rw e
  value_at d (inr e) = expr_any n d ∙ rw e.1

  pub no_expr : (d : Bool) → ((k : ExprKind) → t.root ≡ kind.Expr k → ⊥) → (t.root ≡ kind.Case → ⊥) → ((s : ℕ) → t.root ≡ kind.ObjectField s → ⊥) → (kid_at F p 0).gen_expr d ≡ done
  no_expr d x y z = expr_any n d ∙ without_expr F t.root (meanings_at F t.children) d x y z

  statement_any : (lp : Loop) → (kid_at F p 0).gen_statement lp ≡ statement_of (rec_of F t.root) (meanings_at F t.children) lp
  statement_any lp = ap (λ (m : Meaning). m.gen_statement lp) (kid_zero F l p n)

  pub statement_at : {k : StatementKind} (lp : Loop) → t.root ≡ kind.Statement k →
      (kid_at F p 0).gen_statement lp ≡ gen_statement (statement_over (string_at F (layout_of F)) k) (meanings_at F t.children) lp
  unfolding resolved
  statement_at lp e = statement_any lp ∙ rw e

  pub no_statement : (lp : Loop) → ((k : StatementKind) → t.root ≡ kind.Statement k → ⊥) → (kid_at F p 0).gen_statement lp ≡ done
  no_statement lp x = statement_any lp ∙ without_statement F t.root (meanings_at F t.children) lp x

  pub access_at : (kid_at F p 0).for_expr ≡ for_shape (shape_of (rec_of F t.root)) (meanings_at F t.children) ((kid_at F p 0).gen_expr false)
  access_at = ap (λ (m : Meaning). m.for_expr) (kid_zero F l p n) ∙ ap (λ (s : Step). for_shape (shape_of (rec_of F t.root)) (meanings_at F t.children) s) (sym (expr_any n false))

  pub literal_of : literal (shape_of (kid_at F p 0).rec) ≡ literal (shape_of (rec_of F t.root))
  literal_of = ap (λ (r : Rec). literal (shape_of r)) rec_is

  pub condition_law : (p.n ≡ 0 → ⊥) → (end : ℕ) → gen_condition end (meanings_at F p) ≡ all_discarded (meanings_at F t.before) >> expr (kid_at F p 0) >> action Not >> branch end
  unfolding meanings
  condition_law z end = rw (trees_more F l p n (omega arith))

-- the children of a node that is there are fewer records
pub kids_less : (t : Trees) (n : Node Trees) → parts_of n ≡ node_of (file_of t) t.script.layout t.part → live n.root ≡ 1 → n.children.part.n < t.part.n
kids_less t n e h = let i = is_node _ _ _ t.within e in omega (arith, i.apart, i.real, h)

-- a call for them, at any place of the order
pub in_kids : {t : Trees} {c : ScriptContext} {room m : ℕ} (n : Node Trees) (own at : ℕ) → at < 8 → 8 * t.part.n + own ≡ m → Walk t c room → n.children.script ≡ t.script → parts_of n ≡ node_of (file_of t) t.script.layout t.part → live n.root ≡ 1 →
    (8 * n.children.part.n + at < m) × Walk n.children c room
in_kids {t} n own at h d w e q v = let less = kids_less t n q v in (omega (arith, d, h, less), record { script = w.script ∙ sym e; fits = omega (arith, w.fits, less) })

pub value_live : {r : Record} → (r ≡ kind.Case) ⊎ ((s : ℕ) × (r ≡ kind.ObjectField s)) → live r ≡ 1
value_live (inl e) = ap live e
value_live (inr e) = ap live e.1

-- only a Case is tested
pub untested : (f s c : ℕ) (m : Meaning) {e : meaning.Element} {x : Element} → e ≡ meant x → (x ≡ code-element.Default) ⊎ (x ≡ code-element.Statement) → conditional f s c m e ≡ done
untested f s c m e (inl x) = rw (e, x)
untested f s c m e (inr x) = rw (e, x)

-- rows with and without trees
pub none_at : (F : List ℕ) (p : Part) → p.n ≡ 0 → meanings_at F p ≡ Forest.none
unfolding meanings
none_at F p z = rw (trees_none F p z)

module _ {F : List ℕ} {l : Layout} {p : Part} (i : Within F l p) (z : p.n ≡ 0 → ⊥) where
  pub values_law : (o : Op) → gen_values (meanings_at F p) o ≡ exprs (meanings_at F p) >> action o
  unfolding meanings
  values_law o = rw (trees_more F l p (is_node F l p i refl) (omega arith))

  pub drag_law : (m : Meaning) (lock : Bool) → gen_start_drag m lock (meanings_at F p) ≡
      exprs (meanings_at F p) >> (push (Integer 1) >> (push (Integer (bit lock)) >> (expr m >> plain_action (op StartDrag) (down 7))))
  unfolding meanings
  drag_law m lock = rw (trees_more F l p (is_node F l p i refl) (omega arith))

-- of a switch: its number of cases, and room for its labels' numbers
pub record Testing (F : List ℕ) (p : Part) (first n : ℕ) : Type 0 where
  pub cases : n ≡ cases_of (list_at F p 0)
  pub small : first + p.n < 0x1_0000_0000

pub record Switching (F : List ℕ) (p : Part) (end first default n : ℕ) : Type 0 where
  pub testing : Testing F p first n
  pub default_is : default ≡ default_label end (elements_from first (list_at F p 0))

-- what is absent generates nothing
maybe : (r : Rec) (kids : Forest Meaning) (lp : Loop) → when (present r) (statement_of r kids lp) ≡ statement_of r kids lp
maybe Rec.Absent kids lp = refl
maybe (Rec.Expr k) kids lp = refl
maybe (Rec.Statement k) kids lp = refl
maybe Rec.List kids lp = refl
maybe Rec.Case kids lp = refl
maybe Rec.Default kids lp = refl
maybe Rec.Other kids lp = refl
maybe (Rec.ObjectField key) kids lp = refl
maybe (Rec.Parameter name r) kids lp = refl

pub present_law : (F : List ℕ) (p : Part) (lp : Loop) → when (present (kid_at F p 0).rec) ((kid_at F p 0).gen_statement lp) ≡ (kid_at F p 0).gen_statement lp
present_law F p lp = rw (kid_law 0 (trees F p)) (maybe (nth Rec.Absent 0 (trees F p)) (meanings (list 0 (trees F p))) lp)

-- a switch that has a Case
pub has_tests : {F : List ℕ} {p : Part} {first n : ℕ} → Testing F p first n → (n ≡ 0 → ⊥) → has_case (elements_from first (list_at F p 0)) ≡ true
has_tests {F} {p} {first} {n} s z = has_case_is first (list_at F p 0) ∙ lt-ltb 0 (cases_of (list_at F p 0)) (omega (arith, s.cases))

pub has_no_tests : {F : List ℕ} {p : Part} {first n : ℕ} → Testing F p first n → n ≡ 0 → has_case (elements_from first (list_at F p 0)) ≡ false
has_no_tests {F} {p} {first} {n} s z = has_case_is first (list_at F p 0) ∙ ap (ltb 0) (sym s.cases ∙ z)

-- a switch's counts
module _ {F : List ℕ} {l : Layout} {p es : Part} (k : IsList F l p 0 es) {n : Counts} (e : n ≡ counts_of (trees F es)) where
  pub labels_counted : labels_of_forest (list_at F p 0) ≡ n.labels
  labels_counted = rw (k.means, e) (labels_is (trees F es))

  pub cases_counted : n.cases ≡ cases_of (list_at F p 0)
  cases_counted = rw (k.means, e) (sym (cases_is (trees F es)))

  pub labels_less : n.labels ≤ p.n
  labels_less = rw e (omega (arith, labelled_less F es, k.fewer))

  pub default_less : IfSome n.from_default (λ k. k ≤ n.labels)
  default_less = rw e (tree-meanings.default_less F es)

  pub switching : (end first : ℕ) {default : ℕ} → first + p.n < 0x1_0000_0000 → default ≡ unwrap_or (option_map (λ k. first + (n.labels - k)) n.from_default) end → Switching F p end first default n.cases
  switching end first s d = record { testing = record { cases = cases_counted; small = s }; default_is = d ∙ rw (e, k.means) (sym (default_is end first (trees F es))) }

pub no_labels : (F : List ℕ) (p : Part) (first : ℕ) → labels_of_forest (list_at F p 0) ≡ 0 → (has_case (elements_from first (list_at F p 0)) || has_default (elements_from first (list_at F p 0))) ≡ false
no_labels F p first z = has_label_is first (list_at F p 0) ∙ ap (ltb 0) z

pub some_labels : (F : List ℕ) (p : Part) (first : ℕ) → (labels_of_forest (list_at F p 0) ≡ 0 → ⊥) → (has_case (elements_from first (list_at F p 0)) || has_default (elements_from first (list_at F p 0))) ≡ true
some_labels F p first z = has_label_is first (list_at F p 0) ∙ lt-ltb 0 (labels_of_forest (list_at F p 0)) (omega arith)

-- a function
delta_at : (name : Str) (g m : ℕ) (ps : List Param) (t : Bool) → define_delta (header name g m ps t) ≡ name_delta name
delta_at name g m ps true = refl
delta_at name g m ps false = refl

module _ {F : List ℕ} {l : Layout} {p : Part} {t : Node Part} (i : IsNode F l p t) {n : Option ℕ} {g m : ℕ} (e : t.root ≡ kind.Expr (expr-kind.Function n g m)) where
  pub function_at : (d : Bool) → (kid_at F p 0).gen_expr d ≡ define_function (header_in F t.number) (gen_statements no_loop (list_at F t.children 0))
  function_at d =
      expr_at i d e ∙ rw (name_bytes (string_at F (layout_of F)) n, list_law 1 (trees F t.children), params_meanings (list 1 (trees F t.children)), ← i.function_header n g m e)

  pub function_size : (up : ℕ) → ((z : ℕ) → moved (name_delta (option_map_or (string_at F (layout_of F)) n [])) z ≡ z + up) → (z : ℕ) → moved (define_delta (header_in F t.number)) z ≡ z + up
  function_size up h z = rw (i.function_header n g m e, delta_at (option_map_or (string_at F (layout_of F)) n []) g m (params_of (list 1 (trees F t.children))) (leb g 1)) (h z)

-- a literal's string is a string of the file

constant_string : (F : List ℕ) (c : ConstantKind) (s : ℕ) → T (constant_named F c) → constant_literal c ≡ Some (code-literal.String s) → T (names_string F s)
constant_string F (code-constant.String r) s h e = let x : r ≡ s = cc in rw (← x) h
constant_string F (code-constant.Identifier r) s h e = cc
constant_string F (code-constant.Float low high) s h e = cc
constant_string F (code-constant.Integer n) s h e = cc
constant_string F (code-constant.Boolean b) s h e = cc
constant_string F (code-constant.Register r) s h e = cc

shape_string : (F : List ℕ) (i : ℕ) (r : Record) (x : Shape) (s : ℕ) → T (record_named F i r) → root_shape r ≡ x → shape_literal x ≡ Some (code-literal.String s) → T (names_string F s)
shape_string F i r (code_shape.Constant c) s h k e = constant_string F c s (shape_named F i r h c k) e
shape_string F i r code_shape.Field s h k e = cc
shape_string F i r code_shape.NamedFunction s h k e = cc
shape_string F i r code_shape.Other s h k e = cc

pub literal_named : (F : List ℕ) (i : ℕ) (r : Record) (s : ℕ) → T (record_named F i r) → shape_literal (root_shape r) ≡ Some (code-literal.String s) → T (names_string F s)
literal_named F i r s h e = shape_string F i r (root_shape r) s h refl e

-- what is generated as any other expression is
pub plain_access : (F : List ℕ) {x : Shape} → (x ≡ code_shape.NamedFunction) ⊎ (x ≡ code_shape.Other) → (ms : Forest Meaning) (m : Step) → for_shape (shape_in F x) ms m ≡ (m gives Direct)
plain_access F (inl e) ms m = rw e
plain_access F (inr e) ms m = rw e

-- a Field is there
pub field_live : (r : Record) → root_shape r ≡ code_shape.Field → 1 ≤ live r
field_live (kind.Expr k) e = omega arith
field_live (kind.Statement k) e = omega arith
field_live kind.Absent e = cc
field_live (kind.List n) e = omega arith
field_live (kind.ObjectField n) e = omega arith
field_live (kind.Parameter n r) e = omega arith
field_live kind.Case e = omega arith
field_live kind.Default e = omega arith
field_live kind.Other e = omega arith

-- a function's number is that of a record
pub number_less : (F : List ℕ) (i : ℕ) → T (names_function F i) → i < (layout_of F).count
unfolding names_function
number_less F i h = ltb_yes (and_first (ltb i (layout_of F).count) _ h)

pub bit_is : (b : Bool) → unsigned (pos (from_bool b)) ≡ bit b
bit_is true = refl
bit_is false = refl

-- `adjust` with a value that is wanted passes its part on to itself with a value that is not. The library has no lemma that bounds a choice of two numbers.
pub rank_least : (d : Bool) → 3 ≤ cond d 3 4
rank_least true = omega arith
rank_least false = omega arith

pub rank_kept : (d : Bool) (affix : Affix) {x : Bool} → x ≡ (not d && not (is_prefix affix)) → x ≡ true → ◌≡◌ {A = ℕ} (cond d 3 4) 4
rank_kept false affix e t = refl
rank_kept true affix e t = absurd (omega (arith, ap (λ (x : Bool). cond {A = ℕ} x 1 0) (sym t ∙ e)))
