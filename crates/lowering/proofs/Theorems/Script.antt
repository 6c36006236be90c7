-- Every record keeps the invariant, so what holds of its last state holds of every script.
use Prim.Native.Nat.{ℕ, ◌≤◌}
use mathlib.Core.Path.{◌≡◌, refl, ap, sym, ◌∙◌, subst}
use mathlib.Core.List.{List, []}
use mathlib.Core.Option.{get_or}
use mathlib.Core.Bool.{Bool, false}
use native.Mathlib.Omega.{arith}
use lib.Dec.{lit≤}
use Rattle.hir.specs.declared.UnaryOperator.{UnaryOperator}
use Rattle.hir.specs.Hir.{Str, EnumeratorTarget, ForCondition, ExprKind, StatementKind, Rec}
use Rattle.hir.specs.Tree.{Forest, more}
use Rattle.pcode.specs.declared.Op.TheVariants as op
use Rattle.lowering.specs.Builder.{Limits, Step}
use Rattle.lowering.specs.Access.{Direct}
use Rattle.lowering.specs.Operators.{plan, simple_action}
use Rattle.lowering.specs.Meaning.{Loop, Meaning, kid, list, Shape, constant, field, named-function, other, shape_of, literal, present}
use Rattle.lowering.specs.Statement
use Rattle.lowering.specs.Statement.{meaning, meanings, start, generate_actions}
use Rattle.lowering.proofs.Laws.{kid_law, list_law, width_law}
use Rattle.lowering.proofs.Theorems.Facts.{ExprOk, StatementOk, ForOk, RecOk, InRange, access_of_rec, rec_at, defaults, Cause, sets_direct, sets_direct_by, increments_direct, decrements_direct, enumerates_direct, deletes_property, calls_property, constructs_property, second_default, negates_least, Somewhere, here, earlier, below}
use Rattle.lowering.proofs.Theorems.Invariant.{Context, Good, After, Post, Covered, Waiting, top, begin_top, Ranged}
use Rattle.lowering.proofs.Theorems.Steps.{either, good, good_pure, good_value}
use Rattle.lowering.proofs.Theorems.Constructs.{ShapeOk, Within, Fine, AllFine, no_tree, one_more, kid_fine, list_fine, list_width, name_str, literal_ok, rec_shape_ok, shape_access_ok, yields_shape, yields_constant, good_constant, good_get, good_delete, good_access, good_jump_to, good_discarded, good_exprs, good_statements, good_block, good_values, good_declaration, good_trivial, good_gen_call, good_gen_new, good_duplicate, good_goto_frame, good_drag, good_ternary, good_while, good_enumerate, good_classic, good_gen_if, good_binary, good_unary, good_init_object, good_init_array, good_function}
use Rattle.lowering.proofs.Theorems.Switch.{defaults_of, good_switch}

-- a forest of meanings and its records

kid_rec : (n : ℕ) (f : Forest Rec) → (kid n (meanings f)).rec ≡ rec_at n f
kid_rec n f = ap (λ (m : Meaning). m.rec) (kid_law n f)

as_many : (f : Forest Rec) → defaults_of (meanings f) ≡ defaults f
unfolding meanings
as_many Forest.none = refl
as_many (more before r kids) = omega (arith, as_many before)

-- one record, over children that keep the invariant

module _ {K : Context} (kids : Forest Rec) (x : AllFine K (meanings kids)) where
  module _ {O : List ℕ} where
    good_expr_kind : (k : ExprKind) → (K.ranges → ExprOk K.text k) → ((n : ℕ) → Cause n (Rec.Expr k) kids → K.cause n) → (d : Bool) →
        Good K O [] (Statement.gen_expr k (meanings kids) d)
    good_expr_kind (ExprKind.Constant c) h p d = good_value (good_constant c h) (yields_constant c)
        (λ a e. good_get a (λ z. rw e (shape_access_ok K.text (constant c) (h z))))
    good_expr_kind (ExprKind.Simple k) h p d = good_trivial (simple_action k) x
    good_expr_kind (ExprKind.Binary o) h p d = good_binary (plan o) d x (λ e q. p 5 (sets_direct e (ap access_of_rec (sym (kid_rec 1 kids)) ∙ q)))
        (λ a e q. p 5 (sets_direct_by e (ap access_of_rec (sym (kid_rec 1 kids)) ∙ q)))
    good_expr_kind (ExprKind.Unary o) h p d = good_unary o d (kid_fine 0 x)
        (λ e q. p 7 (subst (λ (o : UnaryOperator). Cause 7 (Rec.Expr (ExprKind.Unary o)) kids) (sym e)
        (negates_least (ap (λ (r : Rec). literal (shape_of r)) (sym (kid_rec 0 kids)) ∙ q))))
        (λ affix e q. let direct : access_of_rec (rec_at 0 kids) ≡ Direct = ap access_of_rec (sym (kid_rec 0 kids)) ∙ q in p 5
        (either (λ i. subst (λ (o : UnaryOperator). Cause 5 (Rec.Expr (ExprKind.Unary o)) kids) (sym i) (increments_direct direct))
        (λ i. subst (λ (o : UnaryOperator). Cause 5 (Rec.Expr (ExprKind.Unary o)) kids) (sym i) (decrements_direct direct)) e))
    good_expr_kind ExprKind.Call h p d = good_gen_call (kid_fine 1 x) (list_width 0 x) (list_fine 0 x)
        (λ q. p 5 (calls_property (ap access_of_rec (sym (kid_rec 1 kids)) ∙ q)))
    good_expr_kind ExprKind.New h p d = good_gen_new (kid_fine 1 x) (list_width 0 x) (list_fine 0 x)
        (λ q. p 5 (constructs_property (ap access_of_rec (sym (kid_rec 1 kids)) ∙ q)))
    good_expr_kind ExprKind.DuplicateMovieClip h p d = good_duplicate (kid_fine 2 x) (kid_fine 1 x) (kid_fine 0 x)
    good_expr_kind ExprKind.Ternary h p d = good_ternary (kid_fine 2 x) (kid_fine 1 x) (kid_fine 0 x)
    good_expr_kind ExprKind.InitObject h p d = good_init_object (list_width 0 x) (list_fine 0 x)
    good_expr_kind ExprKind.InitArray h p d = good_init_array (list_width 0 x) (list_fine 0 x)
    good_expr_kind ExprKind.Field h p d = good_trivial op.GetMember x
    good_expr_kind ExprKind.Delete h p d = good_access (kid_fine 0 x) (λ a e k. good_delete a k
        (λ q. p 5 (deletes_property (ap access_of_rec (sym (kid_rec 0 kids)) ∙ sym e ∙ q))))
    good_expr_kind ExprKind.Void h p d = good_pure tt
    good_expr_kind (ExprKind.Function name r m) h p d = good_function (get_or name []) r m
        (λ z. (name_str K.text (K.empty z) name (h z).0, (h z).1, (h z).2)) (list_fine 1 x) (list_fine 0 x)
    good_expr_kind (ExprKind.GotoFrame play) h p d = good_goto_frame play (literal (shape_of (kid 0 (meanings kids)).rec))
        (λ z. literal_ok K.text (shape_of (kid 0 (meanings kids)).rec)
        (rec_shape_ok K.text (kid 0 (meanings kids)).rec ((kid_fine 0 x).in_range_lem z))) (kid_fine 0 x)
    good_expr_kind (ExprKind.StartDrag lock) h p d = good_drag lock (kid_fine 1 x) (list_fine 0 x)
    good_expr_kind (ExprKind.GetProperty n) h p d = search (good, (kid_fine 0 x).expr_good)
    good_expr_kind (ExprKind.SetProperty n) h p d = search (good, (kid_fine 0 x).expr_good, (kid_fine 1 x).expr_good)

    good_expr_of : (r : Rec) → (K.ranges → RecOk K.text r) → ((n : ℕ) → Cause n r kids → K.cause n) → (d : Bool) →
        Good K O [] (Statement.expr_of r (meanings kids) d)
    good_expr_of (Rec.Expr k) h p d = good_expr_kind k h p d
    good_expr_of Rec.Case h p d = (kid_fine 0 x).expr_good d
    good_expr_of (Rec.ObjectField key) h p d = (kid_fine 0 x).expr_good d
    good_expr_of (Rec.Statement k) h p d = search good
    good_expr_of Rec.Absent h p d = search good
    good_expr_of Rec.List h p d = search good
    good_expr_of Rec.Default h p d = search good
    good_expr_of Rec.Other h p d = search good
    good_expr_of (Rec.Parameter name r) h p d = search good

    good_shape : (s : Shape) → (K.ranges → ShapeOk K.text s) → {e : Step} → Good K O [] e → Good K O [] (Statement.for_shape s (meanings kids) e)
    good_shape (constant c) h g = good_constant c h
    good_shape field h g = search (good, good_exprs)
    good_shape named-function h g = search good
    good_shape other h g = search good

    good_for : (c : ForCondition) → (K.ranges → ForOk K.text c) → ((n : ℕ) → Cause n (Rec.Statement (StatementKind.ForIn c)) kids → K.cause n) →
        Good K O [] (Statement.gen_for_loop c (meanings kids))
    good_for (ForCondition.Enumerate t) h p = good_enumerate t h
        (λ name e q. p 5 (subst (λ (t : EnumeratorTarget). Cause 5 (Rec.Statement (StatementKind.ForIn (ForCondition.Enumerate t))) kids) (sym e)
        (enumerates_direct q))) (kid_fine 1 x) (kid_fine 0 x)
    good_for ForCondition.Classic h p = good_classic (kid_fine 3 x) (list_fine 2 x) (list_fine 1 x) (kid_fine 0 x)

    good_statement_kind : (k : StatementKind) → (K.ranges → StatementOk K.text k) → ((n : ℕ) → Cause n (Rec.Statement k) kids → K.cause n) →
        (loop : Loop) → Within O loop.break_label → Within O loop.continue_label →
        Good K O [] (Statement.gen_statement k (meanings kids) loop)
    good_statement_kind (StatementKind.Declare name) h p loop b c = good_declaration name h (present (kid 0 (meanings kids)).rec) (kid_fine 0 x)
    good_statement_kind StatementKind.Return h p loop b c = good_values op.Return (list_fine 0 x)
    good_statement_kind StatementKind.Throw h p loop b c = good_values op.Throw (list_fine 0 x)
    good_statement_kind StatementKind.Expr h p loop b c = good_discarded (kid_fine 0 x)
    good_statement_kind StatementKind.Block h p loop b c = good_block loop b c (list_fine 0 x)
    good_statement_kind (StatementKind.ForIn f) h p loop b c = good_for f h p
    good_statement_kind StatementKind.While h p loop b c = good_while (kid_fine 1 x) (kid_fine 0 x)
    good_statement_kind StatementKind.If h p loop b c = good_gen_if loop b c (kid_fine 2 x) (kid_fine 1 x) (kid_fine 0 x)
    good_statement_kind StatementKind.Break h p loop b c = good_jump_to loop.break_label b
    good_statement_kind StatementKind.Continue h p loop b c = good_jump_to loop.continue_label c
    good_statement_kind StatementKind.Switch h p loop b c = good_switch O loop c (kid_fine 1 x) (list_fine 0 x)
        (λ q. p 6 (second_default (omega (arith, as_many (list 0 kids), ap defaults_of (list_law 0 kids)))))

    good_statement_of : (r : Rec) → (K.ranges → RecOk K.text r) → ((n : ℕ) → Cause n r kids → K.cause n) → (loop : Loop) →
        Within O loop.break_label → Within O loop.continue_label → Good K O [] (Statement.statement_of r (meanings kids) loop)
    good_statement_of (Rec.Statement k) h p loop b c = good_statement_kind k h p loop b c
    good_statement_of (Rec.Expr k) h p loop b c = search good
    good_statement_of Rec.Absent h p loop b c = search good
    good_statement_of Rec.List h p loop b c = search good
    good_statement_of Rec.Case h p loop b c = search good
    good_statement_of Rec.Default h p loop b c = search good
    good_statement_of Rec.Other h p loop b c = search good
    good_statement_of (Rec.ObjectField key) h p loop b c = search good
    good_statement_of (Rec.Parameter name r) h p loop b c = search good

  fine_record : (r : Rec) → (K.ranges → RecOk K.text r) → ((n : ℕ) → Cause n r kids → K.cause n) → Fine K (meaning r (meanings kids))
  fine_record r h p = record {
    in_range_lem = h;
    expr_good = λ d. good_expr_of r h p d;
    access_good = good_shape (shape_of r) (λ z. rec_shape_ok K.text r (h z)) (good_expr_of r h p false);
    access_is = yields_shape (shape_of r) (meanings kids) (Statement.expr_of r (meanings kids) false);
    statement_good = λ loop b c. good_statement_of r h p loop b c;
  }

fine_trees : {K : Context} (f : Forest Rec) → (K.ranges → InRange K.text f) → ((n : ℕ) → Somewhere (Cause n) f → K.cause n) →
    AllFine K (meanings f)
unfolding meanings
fine_trees Forest.none h p = no_tree
fine_trees {K} (more f r kids) h p =
    let x : AllFine K (meanings kids) = fine_trees kids (λ z. (h z).3) (λ n q. p n (below q)) in
    one_more {kids = meanings kids} (fine_trees f (λ z. (h z).0) (λ n q. p n (earlier q))) (fine_record kids x r (λ z. (h z).1) (λ n q. p n (here q)))
    (λ z. rw (width_law kids) (h z).2) x

-- a script, whose scalars may be assumed to be in range

-- T: what is to hold of the strings
abbrev pub context : Limits → Forest Rec → (Str → Type 0) → Context
context lim f T = record { limits = lim; cause = λ n. Somewhere (Cause n) f; ranges = T [] × InRange T f; text = T; empty = λ z. z.0 }

abbrev pub none_waiting : Waiting
none_waiting = record { actions = 0; values = 0 }

module _ (lim : Limits) (f : Forest Rec) (T : Str → Type 0) (room : 1 ≤ lim.actions) where
  started : Covered (context lim f T) [] top none_waiting (start lim)
  started = record {
    limited = refl;
    listed = record { numbered = begin_top; ranged = λ r. Ranged.begin_top; tabled = λ x. lit≤ tt; each = λ x q. elim q [ ] };
    finished = record { closed = tt; below = tt; fit = λ r. tt };
    labels = record { bits = λ x. lit≤ tt; few = omega arith };
    pooled = record { strings = λ r. tt; fewer = lit≤ tt; total = refl; small = lit≤ tt };
    counted = record { actions = refl; values = refl; few_actions = room; few_values = omega arith };
  }

  pub lowered : Post {A = Unit {0}} (context lim f T) (λ a t. After (context lim f T) [] [] top none_waiting (start lim) t) (generate_actions lim f)
  unfolding generate_actions
  lowered = (good_statements Statement.no_loop tt tt (fine_trees {K = context lim f T} f (λ r. r.1) (λ n q. q))).run top none_waiting
      (start lim) started (λ l q. elim q [ ])
