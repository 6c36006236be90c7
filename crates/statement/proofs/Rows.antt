-- Every row of the definition is a row in the one form.
use Prim.Native.Nat.{ℕ, suc, ◌+◌, ◌-◌}
use mathlib.Core.Path.{◌≡◌, refl, sym, ap, ◌∙◌}
use mathlib.Core.List.{List, ◌∷◌}
use mathlib.Core.Bool.{false, not, ◌||◌, or-true}
use native.Mathlib.Omega.{arith}
use native.Mathlib.Nat.{add-zero}
use lib.Dec.{ltb}
use borrow.Author.Tests.{lt-ltb}
use Rattle.std.specs.Prelude.{Option, Some, None, option_map, unwrap_or}
use Rattle.std.proofs.lemmas.Bool.{or_parts}
use Rattle.hir.specs.Hir.{Rec}
use Rattle.hir.specs.Tree.{Forest, more}
use Rattle.pcode.specs.Pcode.{Value}
use Rattle.pcode.specs.declared.Op.TheVariants.{StrictEquals}
use Rattle.lowering.specs.Builder.{Step, ◌>>◌, done, when, action, push, push_string, mark_label, mark_default}
use Rattle.lowering.specs.Meaning.{Loop, Meaning, param, hoisted, element}
use Rattle.lowering.specs.Meaning as meaning
use Rattle.lowering.specs.Statement.{meanings, branch, expr, discarded, exprs, all_discarded, gen_fields, has_case, has_default, default_label, gen_conditionals, gen_elements}
use Rattle.codegen_state.specs.declared.BuilderState.{BuilderState}
use Rattle.codegen_state.specs.View.{Held, after}
use Rattle.codegen_state.specs.Does.{Does}
use Rattle.codegen_state.proofs.Steps.{after_then, after_done}
use Rattle.tree.specs.Trees.{labelled, cases, from_default_of, from_default_at, is_labelled, is_case}
use Rattle.builder.specs.Labels.{one_label, labels_of_forest, with_number, elements_from}
use Rattle.rows.specs.declared.Each.TheVariants.{Expr, Discarded, Field, Statement, Hoisted, Unhoisted, Conditional, Element}
use Rattle.rows.specs.Innermost.{Same}
use Rattle.rows.specs.Rows.{one_case, cases_of, conditional, switch_element, each_of, any_hoisted}

pub same_does : {F : List ℕ} {b r : BuilderState} {w w' : List ℕ} (m n : Step) → Same m n → Does F n b w tt r w' → Does F m b w tt r w'
same_does m n e d = record { same = d.same ∙ sym (e _); fine = d.fine; named = d.named }

module _ (lp : Loop) (f d : ℕ) where
  pub exprs_each : (ms : Forest Meaning) → Same (exprs ms) (each_of Expr lp f d ms)
  unfolding each_of
  exprs_each Forest.none v = refl
  exprs_each (more ms m kids) v =
      after_then v (exprs ms) (expr m) ∙ ap (λ (x : Held (Unit {0})). after x (expr m)) (exprs_each ms v) ∙ sym (after_then v (each_of Expr lp f d ms) (expr m))

  pub discarded_each : (ms : Forest Meaning) → Same (all_discarded ms) (each_of Discarded lp f d ms)
  unfolding each_of
  discarded_each Forest.none v = refl
  discarded_each (more ms m kids) v =
      after_then v (all_discarded ms) (discarded m) ∙ ap (λ (x : Held (Unit {0})). after x (discarded m)) (discarded_each ms v) ∙ sym (after_then v (each_of Discarded lp f d ms) (discarded m))

  pub fields_each : (ms : Forest Meaning) → Same (gen_fields ms) (each_of Field lp f d ms)
  unfolding each_of
  fields_each Forest.none v = refl
  fields_each (more ms m kids) v =
      let s = push_string (param m.rec).name in
      rw (
        after_then v (gen_fields ms >> s) (expr m),
        after_then v (gen_fields ms) s,
        after_then v (each_of Field lp f d ms) (s >> expr m),
        after_then (after v (each_of Field lp f d ms)) s (expr m),
        fields_each ms v,
      )

  -- a row in which no tree is hoisted
  pub hoisted_none : (ms : Forest Meaning) → any_hoisted ms ≡ false → Same (each_of Hoisted lp f d ms) done
  unfolding each_of any_hoisted
  hoisted_none Forest.none e v = refl
  hoisted_none (more ms m kids) e v =
      let h = or_parts (hoisted m.rec kids) (any_hoisted ms) e in
      rw (after_then v (each_of Hoisted lp f d ms) (when (hoisted m.rec kids) (m.gen_statement lp)), h.0) (after_done (after v (each_of Hoisted lp f d ms)) ∙ hoisted_none ms h.1 v)

  pub statements_each : (ms : Forest Meaning) → any_hoisted ms ≡ false → Same (each_of Unhoisted lp f d ms) (each_of Statement lp f d ms)
  unfolding each_of any_hoisted
  statements_each Forest.none e v = refl
  statements_each (more ms m kids) e v =
      let h = or_parts (hoisted m.rec kids) (any_hoisted ms) e in
      rw (
        after_then v (each_of Unhoisted lp f d ms) (when (not (hoisted m.rec kids)) (m.gen_statement lp)),
        after_then v (each_of Statement lp f d ms) (m.gen_statement lp),
        h.0,
        statements_each ms h.1 v,
      )

-- a switch's elements

module _ (f : ℕ) where
  case_at : (ms : Forest Meaning) (m : Meaning) (e : meaning.Element) → has_case (elements_from f ms) ≡ ltb 0 (cases_of ms) →
      has_case (with_number (f + labels_of_forest ms) m e ∷ elements_from f ms) ≡ ltb 0 (cases_of ms + one_case e)
  case_at ms m meaning.case h = sym (lt-ltb 0 (cases_of ms + 1) (omega arith))
  case_at ms m meaning.default h = rw (add-zero (cases_of ms)) h
  case_at ms m meaning.statement h = rw (add-zero (cases_of ms)) h

  pub has_case_is : (ms : Forest Meaning) → has_case (elements_from f ms) ≡ ltb 0 (cases_of ms)
  unfolding elements_from cases_of
  has_case_is Forest.none = refl
  has_case_is (more ms m kids) = case_at ms m (element m.rec) (has_case_is ms)

  label_at : (ms : Forest Meaning) (m : Meaning) (e : meaning.Element) → (has_case (elements_from f ms) || has_default (elements_from f ms)) ≡ ltb 0 (labels_of_forest ms) →
      (has_case (with_number (f + labels_of_forest ms) m e ∷ elements_from f ms) || has_default (with_number (f + labels_of_forest ms) m e ∷ elements_from f ms)) ≡ ltb 0 (labels_of_forest ms + one_label e)
  label_at ms m meaning.case h = sym (lt-ltb 0 (labels_of_forest ms + 1) (omega arith))
  label_at ms m meaning.default h = or-true (has_case (elements_from f ms)) ∙ sym (lt-ltb 0 (labels_of_forest ms + 1) (omega arith))
  label_at ms m meaning.statement h = rw (add-zero (labels_of_forest ms)) h

  pub has_label_is : (ms : Forest Meaning) → (has_case (elements_from f ms) || has_default (elements_from f ms)) ≡ ltb 0 (labels_of_forest ms)
  unfolding elements_from labels_of_forest
  has_label_is Forest.none = refl
  has_label_is (more ms m kids) = label_at ms m (element m.rec) (has_label_is ms)

  module _ (lp : Loop) (d : ℕ) where
    test_at : (ms : Forest Meaning) (m : Meaning) (e : meaning.Element) → Same (gen_conditionals (elements_from f ms)) (each_of Conditional lp f d ms) →
        Same (gen_conditionals (with_number (f + labels_of_forest ms) m e ∷ elements_from f ms)) (each_of Conditional lp f d ms >> conditional f (labels_of_forest ms) (cases_of ms) m e)
    test_at ms m meaning.case h v =
        let k = when (ltb 0 (cases_of ms)) (push (Value.Register 0)) >> (expr m >> (action StrictEquals >> branch (f + labels_of_forest ms))) in
        rw (has_case_is ms, after_then v (gen_conditionals (elements_from f ms)) k, after_then v (each_of Conditional lp f d ms) k, h v)
    test_at ms m meaning.default h v = h v ∙ sym (after_then v (each_of Conditional lp f d ms) done ∙ after_done (after v (each_of Conditional lp f d ms)))
    test_at ms m meaning.statement h v = h v ∙ sym (after_then v (each_of Conditional lp f d ms) done ∙ after_done (after v (each_of Conditional lp f d ms)))

    pub tests_each : (ms : Forest Meaning) → Same (gen_conditionals (elements_from f ms)) (each_of Conditional lp f d ms)
    unfolding elements_from each_of
    tests_each Forest.none v = refl
    tests_each (more ms m kids) v = test_at ms m (element m.rec) (tests_each ms) v

    element_at : (ms : Forest Meaning) (m : Meaning) (e : meaning.Element) → Same (gen_elements lp d (elements_from f ms)) (each_of Element lp f d ms) →
        Same (gen_elements lp d (with_number (f + labels_of_forest ms) m e ∷ elements_from f ms)) (each_of Element lp f d ms >> switch_element lp f d (labels_of_forest ms) m e)
    element_at ms m meaning.case h v = rw (after_then v (gen_elements lp d (elements_from f ms)) (mark_label (f + labels_of_forest ms)), after_then v (each_of Element lp f d ms) (mark_label (f + labels_of_forest ms)), h v)
    element_at ms m meaning.default h v = rw (after_then v (gen_elements lp d (elements_from f ms)) (mark_default d), after_then v (each_of Element lp f d ms) (mark_default d), h v)
    element_at ms m meaning.statement h v =
        let k = when (ltb 0 (labels_of_forest ms)) (m.gen_statement lp) in
        rw (has_label_is ms, after_then v (gen_elements lp d (elements_from f ms)) k, after_then v (each_of Element lp f d ms) k, h v)

    pub elements_each : (ms : Forest Meaning) → Same (gen_elements lp d (elements_from f ms)) (each_of Element lp f d ms)
    unfolding elements_from each_of
    elements_each Forest.none v = refl
    elements_each (more ms m kids) v = element_at ms m (element m.rec) (elements_each ms) v

-- the counts of trees are those of their meanings

pub one_is : (e : meaning.Element) → (one_label e ≡ is_labelled e) × (one_case e ≡ is_case e)
one_is meaning.case = (refl, refl)
one_is meaning.default = (refl, refl)
one_is meaning.statement = (refl, refl)

pub labels_is : (g : Forest Rec) → labels_of_forest (meanings g) ≡ labelled g
unfolding meanings labels_of_forest labelled
labels_is Forest.none = refl
labels_is (more g r kids) = rw (labels_is g, (one_is (element r)).0)

pub cases_is : (g : Forest Rec) → cases_of (meanings g) ≡ cases g
unfolding meanings cases_of cases
cases_is Forest.none = refl
cases_is (more g r kids) = rw (cases_is g, (one_is (element r)).1)

-- the label of the last Default, by how many labels stand from it on
abbrev label_from : (end f n : ℕ) → Option ℕ → ℕ
label_from end f n o = unwrap_or (option_map (λ k. f + (n - k)) o) end

after_at_lem : (end f n : ℕ) (o : Option ℕ) → label_from end f n o ≡ label_from end f (n + 1) (from_default_at meaning.case o)
after_at_lem end f n None = refl
after_at_lem end f n (Some k) = let e : n + 1 - suc k ≡ n - k = omega arith in rw e

default_at : (end f : ℕ) (g : Forest Rec) (m : Meaning) (e : meaning.Element) → labels_of_forest (meanings g) ≡ labelled g →
    default_label end (elements_from f (meanings g)) ≡ label_from end f (labelled g) (from_default_of g) →
    default_label end (with_number (f + labels_of_forest (meanings g)) m e ∷ elements_from f (meanings g)) ≡ label_from end f (labelled g + is_labelled e) (from_default_at e (from_default_of g))
default_at end f g m meaning.case k h = h ∙ after_at_lem end f (labelled g) (from_default_of g)
default_at end f g m meaning.default k h = let e : labelled g + 1 - 1 ≡ labelled g = omega arith in rw (k, e)
default_at end f g m meaning.statement k h = rw (add-zero (labelled g)) h

pub default_is : (end f : ℕ) (g : Forest Rec) → default_label end (elements_from f (meanings g)) ≡ label_from end f (labelled g) (from_default_of g)
unfolding meanings elements_from labelled from_default_of
default_is end f Forest.none = refl
default_is end f (more g r kids) = default_at end f g _ (element r) (labels_is g) (default_is end f g)
