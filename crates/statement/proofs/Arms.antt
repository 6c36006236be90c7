-- What each construct does, from what its steps do.
use Prim.Native.Nat.{ℕ, ◌+◌}
use mathlib.Core.Path.{◌≡◌, sym, ◌∙◌}
use mathlib.Core.List.{List}
use mathlib.Core.Bool.{Bool, true, false, not, ◌&&◌, ◌||◌}
use mathlib.Core.Option.{some}
use lib.Dec.{ltb}
use Rattle.std.proofs.lemmas.Bool.{and_parts, not-true}
use Rattle.hir.specs.declared.Affix.{Affix}
use Rattle.hir.specs.Hir.{Str, EnumeratorTarget}
use Rattle.pcode.specs.declared.Op.{Op}
use Rattle.pcode.specs.declared.Op.TheVariants.{Add2, BitXor, CloneSprite, DefineLocal, DefineLocal2, Enumerate2, Equals2, GetProperty, InitArray, InitObject, Not, Play, Pop, PushDuplicate, SetProperty, StartDrag, StrictEquals, Subtract}
use Rattle.pcode.specs.Pcode.{Value, Null, Undefined, Integer, Float, op, GotoFrame, GotoFrame2, GotoLabel, up, down}
use Rattle.script_records.specs.declared.layout.Layout.{Layout}
use Rattle.script_records.specs.declared.part.Part.{Part}
use Rattle.lowering.specs.Builder.{Step, ◌>>◌, ◌>>=◌, done, when, action, plain_action, push, push_string, create_label, mark_label, truncate_stack, assume_stack_delta}
use Rattle.lowering.specs.Access.{Access, Object, Direct, ◌gives◌, store_register, get_value, delete, call, call_new}
use Rattle.lowering.specs.Operators.{trivial-assign, assign, logical-and, logical-or}
use Rattle.lowering.specs.Meaning.{Loop, width, present, param, string, integer}
use Rattle.lowering.specs.Statement.{jump, branch, expr, discarded, exprs, all_discarded, gen_those, gen_statements, gen_block, gen_values, gen_declaration, with_labels, has_case, has_default, gen_conditionals, gen_elements, gen_cases, gen_switch, gen_while_loop, gen_target, gen_condition, gen_enumerate, gen_classic, gen_branches, gen_if, assign_value, gen_trivial, gen_binary_op, is_prefix, adjust_in_place, gen_ternary, gen_arguments, gen_call, gen_new, gen_fields, gen_init_object, gen_init_array, gen_duplicate, frame, gen_goto_frame, bit, gen_start_drag}
use Rattle.lowering.proofs.Laws.{width_law}
use Rattle.list_slice.specs.File.{text_in}
use Rattle.codegen_state.specs.declared.BuilderState.{BuilderState}
use Rattle.codegen_state.specs.Does.{Fine, Does}
use Rattle.codegen_state.proofs.Steps.{idle, after_done, after_then, after_bind, after_size, carry_held, returned}
use Rattle.tree.specs.declared.Node.{Node}
use Rattle.tree.specs.Trees.{trees, rec_of}
use Rattle.tree.specs.Within.{IsNode, IsKid, IsList, meanings_at, kid_at, list_at}
use Rattle.builder.specs.Labels.{elements_from}
use Rattle.rows.specs.declared.Each.TheVariants.{Expr, Discarded, Field, Statement, Hoisted, Unhoisted, Conditional, Element}
use Rattle.rows.specs.Rows.{each_of, any_hoisted, select}
use Rattle.rows.specs.Innermost.{Innermost}
use Rattle.rows.proofs.Statements.{hoisted_each, others_each}
use Rattle.statement.proofs.Rows.{same_does, exprs_each, discarded_each, fields_each, hoisted_none, statements_each, tests_each, elements_each}
use Rattle.statement.proofs.Laws.{Testing, Switching, rec_is, none_at, values_law, drag_law, condition_law, present_law, has_tests, has_no_tests}

module _ {F : List ℕ} (l : Layout) (p : Part) {b : BuilderState} {w : List ℕ} where
  pub statements_arm : {b1 b2 : BuilderState} {w1 w2 : List ℕ} →
      (lp : Loop) →
      Does F (each_of Hoisted lp 0 0 (meanings_at F p)) b w tt b1 w1 →
      Does F (each_of Unhoisted lp 0 0 (meanings_at F p)) b1 w1 tt b2 w2 →
      Does F (gen_statements lp (meanings_at F p)) b w tt b2 w2
  statements_arm lp d1 d2 =
      let e1 = same_does (gen_those true lp (meanings_at F p)) (each_of Hoisted lp 0 0 (meanings_at F p)) (hoisted_each lp 0 0 (meanings_at F p)) d1 in
      let e2 = same_does (gen_those false lp (meanings_at F p)) (each_of Unhoisted lp 0 0 (meanings_at F p)) (others_each lp 0 0 (meanings_at F p)) d2 in
      record { same = rw (after_then, ← e1.same, e2.same); fine = d2.fine; named = λ n. d2.named (d1.named n) }

  pub unhoisted_arm : {b1 : BuilderState} {w1 : List ℕ} →
      (lp : Loop) →
      {h : Bool} → h ≡ any_hoisted (meanings_at F p) → h ≡ false →
      Fine b w →
      Does F (each_of Statement lp 0 0 (meanings_at F p)) b w tt b1 w1 →
      Does F (gen_statements lp (meanings_at F p)) b w tt b1 w1
  unhoisted_arm lp e h f d =
      let none' = sym e ∙ h in
      let first = same_does (each_of Hoisted lp 0 0 (meanings_at F p)) done (hoisted_none lp 0 0 (meanings_at F p) none') (idle f) in
      let others = same_does (each_of Unhoisted lp 0 0 (meanings_at F p)) (each_of Statement lp 0 0 (meanings_at F p)) (statements_each lp 0 0 (meanings_at F p) none') d in
      statements_arm lp first others

  pub field_arm : {b1 b2 : BuilderState} {w1 w2 : List ℕ} →
      {t : Node Part} → IsNode F l p t →
      (key : ℕ) → text_in F key ≡ (param (rec_of F t.root)).name →
      Does F (push_string (text_in F key)) b w tt b1 w1 →
      Does F ((kid_at F p 0).gen_expr false) b1 w1 tt b2 w2 →
      Does F (push_string (param (kid_at F p 0).rec).name >> expr (kid_at F p 0)) b w tt b2 w2
  field_arm {t = t} n key e d1 d2 =
      record { same = rw (rec_is n, ← e, after_then, ← d1.same, d2.same); fine = d2.fine; named = λ n. d2.named (d1.named n) }

  pub test_arm : {b1 b2 b3 b4 : BuilderState} {w1 w2 w3 w4 : List ℕ} →
      (first seen cases : ℕ) →
      Does F (when (ltb 0 cases) (push (Value.Register 0))) b w tt b1 w1 →
      Does F ((kid_at F p 0).gen_expr false) b1 w1 tt b2 w2 →
      Does F (action StrictEquals) b2 w2 tt b3 w3 →
      Does F (branch (first + seen)) b3 w3 tt b4 w4 →
      Does F (when (ltb 0 cases) (push (Value.Register 0)) >> (expr (kid_at F p 0) >> (action StrictEquals >> branch (first + seen)))) b w tt b4 w4
  test_arm first seen cases d1 d2 d3 d4 =
      record { same = rw (after_then, ← d1.same, after_then, ← d2.same, after_then, ← d3.same, d4.same); fine = d4.fine; named = λ n. d4.named (d3.named (d2.named (d1.named n))) }

  pub block_arm : {b1 b2 : BuilderState} {w1 w2 : List ℕ} →
      (lp : Loop) →
      {body : Part} → IsList F l p 0 body →
      {inner : Part} → Innermost F l lp body inner →
      Does F (gen_statements lp (meanings_at F inner)) b w tt b1 w1 →
      Does F (truncate_stack b.size) b1 w1 tt b2 w2 →
      Does F (gen_block lp (list_at F p 0)) b w tt b2 w2
  block_arm lp {body = body} k-body {inner = inner} i d1 d2 =
      record { same = rw (k-body.means, i.same, after_size, after_then, ← d1.same, d2.same); fine = d2.fine; named = λ n. d2.named (d1.named n) }

  pub local_arm : {b1 b2 b3 : BuilderState} {w1 w2 w3 : List ℕ} →
      (name : Str) →
      Does F (push_string name) b w tt b1 w1 →
      Does F ((kid_at F p 0).gen_expr false) b1 w1 tt b2 w2 →
      Does F (action DefineLocal) b2 w2 tt b3 w3 →
      Does F (gen_declaration name (kid_at F p 0) true) b w tt b3 w3
  local_arm name d1 d2 d3 =
      record { same = rw (after_then, after_then, ← d1.same, ← d2.same, d3.same); fine = d3.fine; named = λ n. d3.named (d2.named (d1.named n)) }

  pub local_none_arm : {b1 b2 : BuilderState} {w1 w2 : List ℕ} →
      (name : Str) →
      Does F (push_string name) b w tt b1 w1 →
      Does F (action DefineLocal2) b1 w1 tt b2 w2 →
      Does F (gen_declaration name (kid_at F p 0) false) b w tt b2 w2
  local_none_arm name d1 d2 =
      record { same = rw (after_then, ← d1.same, d2.same); fine = d2.fine; named = λ n. d2.named (d1.named n) }

  pub no_values_arm : {b1 b2 : BuilderState} {w1 w2 : List ℕ} →
      {es : Part} → IsList F l p 0 es →
      es.n ≡ 0 →
      (o : Op) →
      Does F (push Undefined) b w tt b1 w1 →
      Does F (action o) b1 w1 tt b2 w2 →
      Does F (gen_values (list_at F p 0) o) b w tt b2 w2
  no_values_arm {es = es} k-es z o d1 d2 =
      record { same = rw (k-es.means, none_at F es z, after_then, ← d1.same, d2.same); fine = d2.fine; named = λ n. d2.named (d1.named n) }

  pub values_arm : {b1 b2 : BuilderState} {w1 w2 : List ℕ} →
      (lp : Loop) →
      {es : Part} → IsList F l p 0 es →
      (es.n ≡ 0 → ⊥) →
      (o : Op) →
      Does F (each_of Expr lp 0 0 (meanings_at F es)) b w tt b1 w1 →
      Does F (action o) b1 w1 tt b2 w2 →
      Does F (gen_values (list_at F p 0) o) b w tt b2 w2
  values_arm lp {es = es} k-es z o d1 d2 =
      let e1 = same_does (exprs (meanings_at F es)) (each_of Expr lp 0 0 (meanings_at F es)) (exprs_each lp 0 0 (meanings_at F es)) d1 in
      record { same = rw (k-es.means, values_law k-es.within z o, after_then, ← e1.same, d2.same); fine = d2.fine; named = λ n. d2.named (d1.named n) }

  pub switch_arm : {b1 b2 b3 : BuilderState} {w1 w2 w3 : List ℕ} {q : ℕ} (q1 : ℕ) →
      (lp : Loop) →
      Does F (create_label) b w q b1 w1 →
      Does F (with_labels (list_at F p 0)) b1 w1 (elements_from q1 (list_at F p 0)) b2 w2 →
      Does F (when (has_case (elements_from q1 (list_at F p 0)) || has_default (elements_from q1 (list_at F p 0))) (gen_cases lp (kid_at F p 1) q (elements_from q1 (list_at F p 0)))) b2 w2 tt b3 w3 →
      Does F (gen_switch lp (kid_at F p 1) (list_at F p 0)) b w tt b3 w3
  switch_arm q1 lp d1 d2 d3 =
      record { same = rw (after_bind, ← d1.same, carry_held, after_bind, ← d2.same, carry_held, d3.same); fine = d3.fine; named = λ n. d3.named (d2.named (d1.named n)) }

  cases_arm : {b1 b2 b3 b4 : BuilderState} {w1 w2 w3 w4 : List ℕ} →
      (lp inner : Loop) (end first default n : ℕ) →
      {es : Part} → IsList F l p 0 es →
      Switching F p end first default n →
      inner ≡ record { break_label = some end; continue_label = lp.continue_label } →
      Does F (select (kid_at F p 1) (elements_from first (list_at F p 0))) b w tt b1 w1 →
      Does F (jump default) b1 w1 tt b2 w2 →
      Does F (each_of Element inner first default (meanings_at F es)) b2 w2 tt b3 w3 →
      Does F (mark_label end) b3 w3 tt b4 w4 →
      Does F (gen_cases lp (kid_at F p 1) end (elements_from first (list_at F p 0))) b w tt b4 w4
  cases_arm lp inner end first default n {es = es} k-es s i d1 d2 d3 d4 =
      let e3 = same_does (gen_elements inner default (elements_from first (list_at F p 0))) (each_of Element inner first default (meanings_at F es)) (λ v. rw k-es.means (elements_each first inner default (meanings_at F es) v)) d3 in
      record { same = rw (← s.default_is, ← i, after_then, ← d1.same, after_then, ← d2.same, after_then, ← e3.same, d4.same); fine = d4.fine; named = λ n. d4.named (d3.named (d2.named (d1.named n))) }

  pub no_tests_arm : (first n : ℕ) → Testing F p first n → n ≡ 0 → Fine b w → Does F (select (kid_at F p 1) (elements_from first (list_at F p 0))) b w tt b w
  no_tests_arm first n s z f = rw (has_no_tests s z) (idle f)

  pub tests_arm : {b1 b2 b3 : BuilderState} {w1 w2 w3 : List ℕ} →
      (lp : Loop) (first d n : ℕ) →
      {target : Part} → IsKid F l p 1 target →
      {es : Part} → IsList F l p 0 es →
      Testing F p first n →
      (n ≡ 0 → ⊥) →
      Does F ((kid_at F target 0).gen_expr false) b w tt b1 w1 →
      Does F (store_register 0) b1 w1 tt b2 w2 →
      Does F (each_of Conditional lp first d (meanings_at F es)) b2 w2 tt b3 w3 →
      Does F (select (kid_at F p 1) (elements_from first (list_at F p 0))) b w tt b3 w3
  tests_arm lp first d n {target = target} k-target {es = es} k-es s z d1 d2 d3 =
      let e3 = same_does (gen_conditionals (elements_from first (list_at F p 0))) (each_of Conditional lp first d (meanings_at F es)) (λ v. rw k-es.means (tests_each first lp d (meanings_at F es) v)) d3 in
      record { same = rw (has_tests s z, k-target.meaning, after_then, after_then, ← d1.same, ← d2.same, e3.same); fine = d3.fine; named = λ n. d3.named (d2.named (d1.named n)) }

  pub while_arm : {b1 b2 b3 b4 b5 b6 b7 b8 b9 : BuilderState} {w1 w2 w3 w4 w5 w6 w7 w8 w9 : List ℕ} {q q1 : ℕ} →
      {condition : Part} → IsKid F l p 1 condition →
      (inner : Loop) → inner ≡ record { break_label = some q1; continue_label = some q } →
      Does F (create_label) b w q b1 w1 →
      Does F (create_label) b1 w1 q1 b2 w2 →
      Does F (mark_label q) b2 w2 tt b3 w3 →
      Does F ((kid_at F condition 0).gen_expr false) b3 w3 tt b4 w4 →
      Does F (action Not) b4 w4 tt b5 w5 →
      Does F (branch q1) b5 w5 tt b6 w6 →
      Does F ((kid_at F p 0).gen_statement inner) b6 w6 tt b7 w7 →
      Does F (jump q) b7 w7 tt b8 w8 →
      Does F (mark_label q1) b8 w8 tt b9 w9 →
      Does F (gen_while_loop (kid_at F p 1) (kid_at F p 0)) b w tt b9 w9
  while_arm {condition = condition} k-condition inner i d1 d2 d3 d4 d5 d6 d7 d8 d9 =
      let e7 = rw i at d7 in
      record { same = rw (k-condition.meaning, after_bind, ← d1.same, carry_held, after_bind, ← d2.same, carry_held, after_then, ← d3.same, after_then, ← d4.same, after_then, ← d5.same, after_then, ← d6.same, after_then, ← e7.same, after_then, ← d8.same, d9.same); fine = d9.fine; named = λ n. d9.named (d8.named (d7.named (d6.named (d5.named (d4.named (d3.named (d2.named (d1.named n)))))))) }

  pub for_in_arm : {b1 b2 b3 b4 b5 b6 b7 b8 b9 b10 b11 b12 b13 b14 : BuilderState} {w1 w2 w3 w4 w5 w6 w7 w8 w9 w10 w11 w12 w13 w14 : List ℕ} {q q1 : ℕ} →
      (target : EnumeratorTarget) →
      {object : Part} → IsKid F l p 1 object →
      (inner : Loop) → inner ≡ record { break_label = some q; continue_label = some q1 } →
      Does F (create_label) b w q b1 w1 →
      Does F (create_label) b1 w1 q1 b2 w2 →
      Does F ((kid_at F object 0).gen_expr false) b2 w2 tt b3 w3 →
      Does F (action Enumerate2) b3 w3 tt b4 w4 →
      Does F (mark_label q1) b4 w4 tt b5 w5 →
      Does F (store_register 0) b5 w5 tt b6 w6 →
      Does F (push Null) b6 w6 tt b7 w7 →
      Does F (action Equals2) b7 w7 tt b8 w8 →
      Does F (branch q) b8 w8 tt b9 w9 →
      Does F (gen_target target) b9 w9 tt b10 w10 →
      Does F ((kid_at F p 0).gen_statement inner) b10 w10 tt b11 w11 →
      Does F (jump q1) b11 w11 tt b12 w12 →
      Does F (truncate_stack b.size) b12 w12 tt b13 w13 →
      Does F (mark_label q) b13 w13 tt b14 w14 →
      Does F (gen_enumerate target (kid_at F p 1) (kid_at F p 0)) b w tt b14 w14
  for_in_arm target {object = object} k-object inner i d1 d2 d3 d4 d5 d6 d7 d8 d9 d10 d11 d12 d13 d14 =
      let e11 = rw i at d11 in
      record { same = rw (k-object.meaning, after_size, after_bind, ← d1.same, carry_held, after_bind, ← d2.same, carry_held, after_then, ← d3.same, after_then, ← d4.same, after_then, ← d5.same, after_then, ← d6.same, after_then, ← d7.same, after_then, ← d8.same, after_then, ← d9.same, after_then, ← d10.same, after_then, ← e11.same, after_then, ← d12.same, after_then, ← d13.same, d14.same); fine = d14.fine; named = λ n. d14.named (d13.named (d12.named (d11.named (d10.named (d9.named (d8.named (d7.named (d6.named (d5.named (d4.named (d3.named (d2.named (d1.named n))))))))))))) }

  pub for_loop_arm : {b1 b2 b3 b4 b5 b6 b7 b8 b9 b10 b11 b12 : BuilderState} {w1 w2 w3 w4 w5 w6 w7 w8 w9 w10 w11 w12 : List ℕ} {q q1 q3 : ℕ} →
      {initialize : Part} → IsKid F l p 3 initialize →
      {condition : Part} → IsList F l p 2 condition →
      {update : Part} → IsList F l p 1 update →
      (inner : Loop) → inner ≡ record { break_label = some q; continue_label = some q1 } →
      Does F (create_label) b w q b1 w1 →
      Does F (create_label) b1 w1 q1 b2 w2 →
      Does F ((kid_at F initialize 0).gen_statement inner) b2 w2 tt b3 w3 →
      Does F (create_label) b3 w3 q3 b4 w4 →
      Does F (mark_label q3) b4 w4 tt b5 w5 →
      Does F (gen_condition q (meanings_at F condition)) b5 w5 tt b6 w6 →
      Does F ((kid_at F p 0).gen_statement inner) b6 w6 tt b7 w7 →
      Does F (mark_label q1) b7 w7 tt b8 w8 →
      Does F (each_of Discarded inner 0 0 (meanings_at F update)) b8 w8 tt b9 w9 →
      Does F (jump q3) b9 w9 tt b10 w10 →
      Does F (truncate_stack b.size) b10 w10 tt b11 w11 →
      Does F (mark_label q) b11 w11 tt b12 w12 →
      Does F (gen_classic (kid_at F p 3) (list_at F p 2) (list_at F p 1) (kid_at F p 0)) b w tt b12 w12
  for_loop_arm {initialize = initialize} k-initialize {condition = condition} k-condition {update = update} k-update inner i d1 d2 d3 d4 d5 d6 d7 d8 d9 d10 d11 d12 =
      let e3 = rw i at d3 in
      let e7 = rw i at d7 in
      let e9 = same_does (all_discarded (meanings_at F update)) (each_of Discarded inner 0 0 (meanings_at F update)) (discarded_each inner 0 0 (meanings_at F update)) d9 in
      record { same = rw (k-initialize.meaning, k-condition.means, k-update.means, after_size, after_bind, ← d1.same, carry_held, after_bind, ← d2.same, carry_held, present_law F initialize, after_then, ← e3.same, after_bind, ← d4.same, carry_held, after_then, ← d5.same, after_then, ← d6.same, after_then, ← e7.same, after_then, ← d8.same, after_then, ← e9.same, after_then, ← d10.same, after_then, ← d11.same, d12.same); fine = d12.fine; named = λ n. d12.named (d11.named (d10.named (d9.named (d8.named (d7.named (d6.named (d5.named (d4.named (d3.named (d2.named (d1.named n))))))))))) }

  pub ends_arm : {b1 b2 b3 b4 : BuilderState} {w1 w2 w3 w4 : List ℕ} →
      (lp : Loop) →
      (end : ℕ) →
      {t : Node Part} → IsNode F l p t →
      (p.n ≡ 0 → ⊥) →
      Does F (each_of Discarded lp 0 0 (meanings_at F t.before)) b w tt b1 w1 →
      Does F ((kid_at F p 0).gen_expr false) b1 w1 tt b2 w2 →
      Does F (action Not) b2 w2 tt b3 w3 →
      Does F (branch end) b3 w3 tt b4 w4 →
      Does F (gen_condition end (meanings_at F p)) b w tt b4 w4
  ends_arm lp end {t = t} n z d1 d2 d3 d4 =
      let e1 = same_does (all_discarded (meanings_at F t.before)) (each_of Discarded lp 0 0 (meanings_at F t.before)) (discarded_each lp 0 0 (meanings_at F t.before)) d1 in
      record { same = rw (condition_law n z end, after_then, after_then, after_then, ← e1.same, ← d2.same, ← d3.same, d4.same); fine = d4.fine; named = λ n. d4.named (d3.named (d2.named (d1.named n))) }

  if_arm : {b1 b2 b3 b4 b5 : BuilderState} {w1 w2 w3 w4 w5 : List ℕ} {q : ℕ} →
      (lp : Loop) →
      {condition : Part} → IsKid F l p 2 condition →
      Does F (create_label) b w q b1 w1 →
      Does F ((kid_at F condition 0).gen_expr false) b1 w1 tt b2 w2 →
      Does F (action Not) b2 w2 tt b3 w3 →
      Does F (gen_branches lp q (kid_at F p 1) (kid_at F p 0) (present (kid_at F p 0).rec)) b3 w3 tt b4 w4 →
      Does F (mark_label q) b4 w4 tt b5 w5 →
      Does F (gen_if lp (kid_at F p 2) (kid_at F p 1) (kid_at F p 0)) b w tt b5 w5
  if_arm lp {condition = condition} k-condition d1 d2 d3 d4 d5 =
      record { same = rw (k-condition.meaning, after_bind, ← d1.same, carry_held, after_then, ← d2.same, after_then, ← d3.same, after_then, ← d4.same, d5.same); fine = d5.fine; named = λ n. d5.named (d4.named (d3.named (d2.named (d1.named n)))) }

  both_arm : {b1 b2 b3 b4 b5 b6 : BuilderState} {w1 w2 w3 w4 w5 w6 : List ℕ} {q : ℕ} →
      (lp : Loop) →
      (end : ℕ) →
      {yes' : Part} → IsKid F l p 1 yes' →
      Does F (create_label) b w q b1 w1 →
      Does F (branch q) b1 w1 tt b2 w2 →
      Does F ((kid_at F yes' 0).gen_statement lp) b2 w2 tt b3 w3 →
      Does F (jump end) b3 w3 tt b4 w4 →
      Does F (mark_label q) b4 w4 tt b5 w5 →
      Does F ((kid_at F p 0).gen_statement lp) b5 w5 tt b6 w6 →
      Does F (gen_branches lp end (kid_at F p 1) (kid_at F p 0) true) b w tt b6 w6
  both_arm lp end {yes' = yes'} k-yes' d1 d2 d3 d4 d5 d6 =
      record { same = rw (k-yes'.meaning, after_bind, ← d1.same, carry_held, after_then, ← d2.same, after_then, ← d3.same, after_then, ← d4.same, after_then, ← d5.same, d6.same); fine = d6.fine; named = λ n. d6.named (d5.named (d4.named (d3.named (d2.named (d1.named n))))) }

  one_arm : {b1 b2 : BuilderState} {w1 w2 : List ℕ} →
      (lp : Loop) →
      (end : ℕ) →
      {yes' : Part} → IsKid F l p 1 yes' →
      Does F (branch end) b w tt b1 w1 →
      Does F ((kid_at F yes' 0).gen_statement lp) b1 w1 tt b2 w2 →
      Does F (gen_branches lp end (kid_at F p 1) (kid_at F p 0) false) b w tt b2 w2
  one_arm lp end {yes' = yes'} k-yes' d1 d2 =
      record { same = rw (k-yes'.meaning, after_then, ← d1.same, d2.same); fine = d2.fine; named = λ n. d2.named (d1.named n) }

  pub void_arm : {b1 b2 : BuilderState} {w1 w2 : List ℕ} →
      Does F ((kid_at F p 0).gen_expr true) b w tt b1 w1 →
      Does F (truncate_stack b.size) b1 w1 tt b2 w2 →
      Does F (discarded (kid_at F p 0)) b w tt b2 w2
  void_arm d1 d2 =
      record { same = rw (after_size, after_then, ← d1.same, d2.same); fine = d2.fine; named = λ n. d2.named (d1.named n) }

  pub trivial_arm : {b1 b2 : BuilderState} {w1 w2 : List ℕ} →
      (lp : Loop) →
      (o : Op) →
      Does F (each_of Expr lp 0 0 (meanings_at F p)) b w tt b1 w1 →
      Does F (action o) b1 w1 tt b2 w2 →
      Does F (gen_trivial o (meanings_at F p)) b w tt b2 w2
  trivial_arm lp o d1 d2 =
      let e1 = same_does (exprs (meanings_at F p)) (each_of Expr lp 0 0 (meanings_at F p)) (exprs_each lp 0 0 (meanings_at F p)) d1 in
      record { same = rw (after_then, ← e1.same, d2.same); fine = d2.fine; named = λ n. d2.named (d1.named n) }

  pub trivial_not_arm : {b1 b2 b3 : BuilderState} {w1 w2 w3 : List ℕ} →
      (lp : Loop) →
      (o : Op) →
      Does F (each_of Expr lp 0 0 (meanings_at F p)) b w tt b1 w1 →
      Does F (action o) b1 w1 tt b2 w2 →
      Does F (action Not) b2 w2 tt b3 w3 →
      Does F (gen_trivial o (meanings_at F p) >> action Not) b w tt b3 w3
  trivial_not_arm lp o d1 d2 d3 =
      let e1 = same_does (exprs (meanings_at F p)) (each_of Expr lp 0 0 (meanings_at F p)) (exprs_each lp 0 0 (meanings_at F p)) d1 in
      record { same = rw (after_then, after_then, ← e1.same, ← d2.same, d3.same); fine = d3.fine; named = λ n. d3.named (d2.named (d1.named n)) }

  pub assign_arm : {b1 b2 b3 : BuilderState} {w1 w2 w3 : List ℕ} →
      (discard : Bool) →
      {left : Part} → IsKid F l p 1 left →
      {a : Access} →
      Does F (kid_at F left 0).for_expr b w a b1 w1 →
      Does F ((kid_at F p 0).gen_expr false) b1 w1 tt b2 w2 →
      Does F (assign_value discard a) b2 w2 tt b3 w3 →
      Does F (gen_binary_op assign (meanings_at F p) discard) b w tt b3 w3
  assign_arm discard {left = left} k-left d1 d2 d3 =
      record { same = rw (k-left.meaning, after_bind, ← d1.same, carry_held, after_then, ← d2.same, d3.same); fine = d3.fine; named = λ n. d3.named (d2.named (d1.named n)) }

  pub and_arm : {b1 b2 b3 b4 b5 b6 b7 b8 : BuilderState} {w1 w2 w3 w4 w5 w6 w7 w8 : List ℕ} {q : ℕ} →
      {left : Part} → IsKid F l p 1 left →
      (discard : Bool) →
      Does F (create_label) b w q b1 w1 →
      Does F ((kid_at F left 0).gen_expr false) b1 w1 tt b2 w2 →
      Does F (action PushDuplicate) b2 w2 tt b3 w3 →
      Does F (action Not) b3 w3 tt b4 w4 →
      Does F (branch q) b4 w4 tt b5 w5 →
      Does F (action Pop) b5 w5 tt b6 w6 →
      Does F ((kid_at F p 0).gen_expr false) b6 w6 tt b7 w7 →
      Does F (mark_label q) b7 w7 tt b8 w8 →
      Does F (gen_binary_op logical-and (meanings_at F p) discard) b w tt b8 w8
  and_arm {left = left} k-left discard d1 d2 d3 d4 d5 d6 d7 d8 =
      record { same = rw (k-left.meaning, after_bind, ← d1.same, carry_held, after_then, ← d2.same, after_then, ← d3.same, after_then, ← d4.same, after_then, ← d5.same, after_then, ← d6.same, after_then, ← d7.same, d8.same); fine = d8.fine; named = λ n. d8.named (d7.named (d6.named (d5.named (d4.named (d3.named (d2.named (d1.named n))))))) }

  pub or_arm : {b1 b2 b3 b4 b5 b6 b7 : BuilderState} {w1 w2 w3 w4 w5 w6 w7 : List ℕ} {q : ℕ} →
      {left : Part} → IsKid F l p 1 left →
      (discard : Bool) →
      Does F (create_label) b w q b1 w1 →
      Does F ((kid_at F left 0).gen_expr false) b1 w1 tt b2 w2 →
      Does F (action PushDuplicate) b2 w2 tt b3 w3 →
      Does F (branch q) b3 w3 tt b4 w4 →
      Does F (action Pop) b4 w4 tt b5 w5 →
      Does F ((kid_at F p 0).gen_expr false) b5 w5 tt b6 w6 →
      Does F (mark_label q) b6 w6 tt b7 w7 →
      Does F (gen_binary_op logical-or (meanings_at F p) discard) b w tt b7 w7
  or_arm {left = left} k-left discard d1 d2 d3 d4 d5 d6 d7 =
      record { same = rw (k-left.meaning, after_bind, ← d1.same, carry_held, after_then, ← d2.same, after_then, ← d3.same, after_then, ← d4.same, after_then, ← d5.same, after_then, ← d6.same, d7.same); fine = d7.fine; named = λ n. d7.named (d6.named (d5.named (d4.named (d3.named (d2.named (d1.named n)))))) }

  pub bit_not_arm : {b1 b2 b3 : BuilderState} {w1 w2 w3 : List ℕ} →
      Does F ((kid_at F p 0).gen_expr false) b w tt b1 w1 →
      Does F (push (Float 0x41EF_FFFF_FFE0_0000)) b1 w1 tt b2 w2 →
      Does F (action BitXor) b2 w2 tt b3 w3 →
      Does F (expr (kid_at F p 0) >> push (Float 0x41EF_FFFF_FFE0_0000) >> action BitXor) b w tt b3 w3
  bit_not_arm d1 d2 d3 =
      record { same = rw (after_then, after_then, ← d1.same, ← d2.same, d3.same); fine = d3.fine; named = λ n. d3.named (d2.named (d1.named n)) }

  pub not_arm : {b1 b2 : BuilderState} {w1 w2 : List ℕ} →
      Does F ((kid_at F p 0).gen_expr false) b w tt b1 w1 →
      Does F (action Not) b1 w1 tt b2 w2 →
      Does F (expr (kid_at F p 0) >> action Not) b w tt b2 w2
  not_arm d1 d2 =
      record { same = rw (after_then, ← d1.same, d2.same); fine = d2.fine; named = λ n. d2.named (d1.named n) }

  pub minus_arm : {b1 b2 b3 : BuilderState} {w1 w2 w3 : List ℕ} →
      Does F (push (Integer 0)) b w tt b1 w1 →
      Does F ((kid_at F p 0).gen_expr false) b1 w1 tt b2 w2 →
      Does F (action Subtract) b2 w2 tt b3 w3 →
      Does F (push (Integer 0) >> expr (kid_at F p 0) >> action Subtract) b w tt b3 w3
  minus_arm d1 d2 d3 =
      record { same = rw (after_then, after_then, ← d1.same, ← d2.same, d3.same); fine = d3.fine; named = λ n. d3.named (d2.named (d1.named n)) }

  old_arm : {b1 b2 : BuilderState} {w1 w2 : List ℕ} →
      {a : Access} →
      Does F (kid_at F p 0).for_expr b w a b1 w1 →
      Does F (get_value a) b1 w1 tt b2 w2 →
      Does F ((kid_at F p 0).for_expr >>= get_value) b w tt b2 w2
  old_arm d1 d2 =
      record { same = rw (after_bind, ← d1.same, carry_held, d2.same); fine = d2.fine; named = λ n. d2.named (d1.named n) }

  -- the old value is left, and then as if the value were discarded
  pub kept_arm : {b1 b2 b3 : BuilderState} {w1 w2 w3 : List ℕ} →
      (o : Op) (affix : Affix) (discard : Bool) {x : Bool} {a : Access} →
      x ≡ (not discard && not (is_prefix affix)) → x ≡ true →
      Does F (kid_at F p 0).for_expr b w a b1 w1 →
      Does F (get_value a) b1 w1 tt b2 w2 →
      Does F (adjust_in_place (kid_at F p 0) o affix true) b2 w2 tt b3 w3 →
      Does F (adjust_in_place (kid_at F p 0) o affix discard) b w tt b3 w3
  kept_arm o affix discard e t d1 d2 d3 =
      let k = and_parts (not discard) (not (is_prefix affix)) (sym e ∙ t) in
      let old = old_arm d1 d2 in
      let rest = rw (after_then, after_done) at d3.same in
      record { same = rw (not-true discard k.0, not-true (is_prefix affix) k.1, after_then, ← old.same) rest; fine = d3.fine; named = λ n. d3.named (old.named n) }

  pub adjust_arm : {b2 b3 b4 b5 b6 : BuilderState} {w2 w3 w4 w5 w6 : List ℕ} →
      (o : Op) (affix : Affix) (discard : Bool) {x : Bool} {a0 a : Access} →
      x ≡ (not discard && not (is_prefix affix)) → x ≡ false →
      Fine b w →
      Does F (kid_at F p 0).for_expr b w a0 b2 w2 →
      Does F (kid_at F p 0).for_expr b2 w2 a b3 w3 →
      Does F (get_value a) b3 w3 tt b4 w4 →
      Does F (action o) b4 w4 tt b5 w5 →
      Does F (assign_value (discard || not (is_prefix affix)) a) b5 w5 tt b6 w6 →
      Does F (adjust_in_place (kid_at F p 0) o affix discard) b w tt b6 w6
  adjust_arm o affix discard e t f d2 d3 d4 d5 d6 =
      record { same = rw (← e, t, after_then, after_done, after_bind, ← d2.same, carry_held, after_bind, ← d3.same, carry_held, after_then, ← d4.same, after_then, ← d5.same, d6.same); fine = d6.fine; named = λ n. d6.named (d5.named (d4.named (d3.named (d2.named n)))) }

  pub delete_arm : {b1 b2 : BuilderState} {w1 w2 : List ℕ} →
      {a : Access} →
      Does F (kid_at F p 0).for_expr b w a b1 w1 →
      Does F (delete a) b1 w1 tt b2 w2 →
      Does F ((kid_at F p 0).for_expr >>= delete) b w tt b2 w2
  delete_arm d1 d2 =
      record { same = rw (after_bind, ← d1.same, carry_held, d2.same); fine = d2.fine; named = λ n. d2.named (d1.named n) }

  pub ternary_arm : {b1 b2 b3 b4 b5 b6 b7 b8 b9 b10 : BuilderState} {w1 w2 w3 w4 w5 w6 w7 w8 w9 w10 : List ℕ} {q q1 : ℕ} →
      {condition : Part} → IsKid F l p 2 condition →
      {yes' : Part} → IsKid F l p 1 yes' →
      Does F (create_label) b w q b1 w1 →
      Does F (create_label) b1 w1 q1 b2 w2 →
      Does F ((kid_at F condition 0).gen_expr false) b2 w2 tt b3 w3 →
      Does F (branch q1) b3 w3 tt b4 w4 →
      Does F ((kid_at F p 0).gen_expr false) b4 w4 tt b5 w5 →
      Does F (jump q) b5 w5 tt b6 w6 →
      Does F (mark_label q1) b6 w6 tt b7 w7 →
      Does F ((kid_at F yes' 0).gen_expr false) b7 w7 tt b8 w8 →
      Does F (mark_label q) b8 w8 tt b9 w9 →
      Does F (assume_stack_delta (down 1)) b9 w9 tt b10 w10 →
      Does F (gen_ternary (kid_at F p 2) (kid_at F p 1) (kid_at F p 0)) b w tt b10 w10
  ternary_arm {condition = condition} k-condition {yes' = yes'} k-yes' d1 d2 d3 d4 d5 d6 d7 d8 d9 d10 =
      record { same = rw (k-condition.meaning, k-yes'.meaning, after_bind, ← d1.same, carry_held, after_bind, ← d2.same, carry_held, after_then, ← d3.same, after_then, ← d4.same, after_then, ← d5.same, after_then, ← d6.same, after_then, ← d7.same, after_then, ← d8.same, after_then, ← d9.same, d10.same); fine = d10.fine; named = λ n. d10.named (d9.named (d8.named (d7.named (d6.named (d5.named (d4.named (d3.named (d2.named (d1.named n))))))))) }

  pub array_arm : {b1 b2 : BuilderState} {w1 w2 : List ℕ} →
      {es : Part} → IsList F l p 0 es →
      (n : ℕ) → n ≡ width (trees F es) →
      Does F (gen_arguments (meanings_at F es)) b w tt b1 w1 →
      Does F (plain_action (op InitArray) (down n)) b1 w1 tt b2 w2 →
      Does F (gen_init_array (list_at F p 0)) b w tt b2 w2
  array_arm {es = es} k-es n e d1 d2 =
      let e2 = rw (e, ← width_law (trees F es)) at d2 in
      record { same = rw (k-es.means, after_then, ← d1.same, e2.same); fine = d2.fine; named = λ n. d2.named (d1.named n) }

  pub object_arm : {b1 b2 b3 : BuilderState} {w1 w2 w3 : List ℕ} →
      (lp : Loop) →
      {es : Part} → IsList F l p 0 es →
      (n : ℕ) → n ≡ width (trees F es) →
      Does F (each_of Field lp 0 0 (meanings_at F es)) b w tt b1 w1 →
      Does F (push (Integer n)) b1 w1 tt b2 w2 →
      Does F (plain_action (op InitObject) (down (n + n))) b2 w2 tt b3 w3 →
      Does F (gen_init_object (list_at F p 0)) b w tt b3 w3
  object_arm lp {es = es} k-es n e d1 d2 d3 =
      let e1 = same_does (gen_fields (meanings_at F es)) (each_of Field lp 0 0 (meanings_at F es)) (fields_each lp 0 0 (meanings_at F es)) d1 in
      record { same = rw (k-es.means, width_law (trees F es), ← e, after_then, ← e1.same, after_then, ← d2.same, d3.same); fine = d3.fine; named = λ n. d3.named (d2.named (d1.named n)) }

  pub copy_arm : {b1 b2 b3 b4 b5 b6 : BuilderState} {w1 w2 w3 w4 w5 w6 : List ℕ} →
      {source : Part} → IsKid F l p 2 source →
      {target : Part} → IsKid F l p 1 target →
      Does F ((kid_at F source 0).gen_expr false) b w tt b1 w1 →
      Does F ((kid_at F target 0).gen_expr false) b1 w1 tt b2 w2 →
      Does F (push (Integer 16384)) b2 w2 tt b3 w3 →
      Does F ((kid_at F p 0).gen_expr false) b3 w3 tt b4 w4 →
      Does F (action Add2) b4 w4 tt b5 w5 →
      Does F (action CloneSprite) b5 w5 tt b6 w6 →
      Does F (gen_duplicate (kid_at F p 2) (kid_at F p 1) (kid_at F p 0)) b w tt b6 w6
  copy_arm {source = source} k-source {target = target} k-target d1 d2 d3 d4 d5 d6 =
      record { same = rw (k-source.meaning, k-target.meaning, after_then, ← d1.same, after_then, ← d2.same, after_then, ← d3.same, after_then, ← d4.same, after_then, ← d5.same, d6.same); fine = d6.fine; named = λ n. d6.named (d5.named (d4.named (d3.named (d2.named (d1.named n))))) }

  pub goto_label_arm : {b1 b2 : BuilderState} {w1 w2 : List ℕ} →
      (s : Str) (play : Bool) →
      Does F (plain_action (GotoLabel s) (up 0)) b w tt b1 w1 →
      Does F (when play (action Play)) b1 w1 tt b2 w2 →
      Does F (gen_goto_frame (kid_at F p 0) play (string s)) b w tt b2 w2
  goto_label_arm s play d1 d2 =
      record { same = rw (after_then, ← d1.same, d2.same); fine = d2.fine; named = λ n. d2.named (d1.named n) }

  pub goto_frame_arm : {b1 b2 : BuilderState} {w1 w2 : List ℕ} →
      (v : ℕ) (play : Bool) →
      Does F (plain_action (GotoFrame (frame v)) (up 0)) b w tt b1 w1 →
      Does F (when play (action Play)) b1 w1 tt b2 w2 →
      Does F (gen_goto_frame (kid_at F p 0) play (integer v)) b w tt b2 w2
  goto_frame_arm v play d1 d2 =
      record { same = rw (after_then, ← d1.same, d2.same); fine = d2.fine; named = λ n. d2.named (d1.named n) }

  pub goto_arm : {b1 b2 : BuilderState} {w1 w2 : List ℕ} →
      (play : Bool) →
      Does F ((kid_at F p 0).gen_expr false) b w tt b1 w1 →
      Does F (plain_action (GotoFrame2 play) (down 1)) b1 w1 tt b2 w2 →
      Does F (expr (kid_at F p 0) >> plain_action (GotoFrame2 play) (down 1)) b w tt b2 w2
  goto_arm play d1 d2 =
      record { same = rw (after_then, ← d1.same, d2.same); fine = d2.fine; named = λ n. d2.named (d1.named n) }

  pub drag_arm : {b1 b2 b3 b4 : BuilderState} {w1 w2 w3 w4 : List ℕ} →
      (lock : Bool) →
      {target : Part} → IsKid F l p 1 target →
      {es : Part} → IsList F l p 0 es →
      es.n ≡ 0 →
      Does F (push (Integer 0)) b w tt b1 w1 →
      Does F (push (Integer (bit lock))) b1 w1 tt b2 w2 →
      Does F ((kid_at F target 0).gen_expr false) b2 w2 tt b3 w3 →
      Does F (plain_action (op StartDrag) (down 3)) b3 w3 tt b4 w4 →
      Does F (gen_start_drag (kid_at F p 1) lock (list_at F p 0)) b w tt b4 w4
  drag_arm lock {target = target} k-target {es = es} k-es z d1 d2 d3 d4 =
      record { same = rw (k-es.means, none_at F es z, k-target.meaning, after_then, ← d1.same, after_then, ← d2.same, after_then, ← d3.same, d4.same); fine = d4.fine; named = λ n. d4.named (d3.named (d2.named (d1.named n))) }

  pub drag_within_arm : {b1 b2 b3 b4 b5 : BuilderState} {w1 w2 w3 w4 w5 : List ℕ} →
      (lp : Loop) →
      (lock : Bool) →
      {target : Part} → IsKid F l p 1 target →
      {es : Part} → IsList F l p 0 es →
      (es.n ≡ 0 → ⊥) →
      Does F (each_of Expr lp 0 0 (meanings_at F es)) b w tt b1 w1 →
      Does F (push (Integer 1)) b1 w1 tt b2 w2 →
      Does F (push (Integer (bit lock))) b2 w2 tt b3 w3 →
      Does F ((kid_at F target 0).gen_expr false) b3 w3 tt b4 w4 →
      Does F (plain_action (op StartDrag) (down 7)) b4 w4 tt b5 w5 →
      Does F (gen_start_drag (kid_at F p 1) lock (list_at F p 0)) b w tt b5 w5
  drag_within_arm lp lock {target = target} k-target {es = es} k-es z d1 d2 d3 d4 d5 =
      let e1 = same_does (exprs (meanings_at F es)) (each_of Expr lp 0 0 (meanings_at F es)) (exprs_each lp 0 0 (meanings_at F es)) d1 in
      record { same = rw (k-es.means, drag_law k-es.within z (kid_at F p 1) lock, k-target.meaning, after_then, ← e1.same, after_then, ← d2.same, after_then, ← d3.same, after_then, ← d4.same, d5.same); fine = d5.fine; named = λ n. d5.named (d4.named (d3.named (d2.named (d1.named n)))) }

  pub get_property_arm : {b1 b2 b3 : BuilderState} {w1 w2 w3 : List ℕ} →
      (v : ℕ) →
      Does F ((kid_at F p 0).gen_expr false) b w tt b1 w1 →
      Does F (push (Integer v)) b1 w1 tt b2 w2 →
      Does F (action GetProperty) b2 w2 tt b3 w3 →
      Does F (expr (kid_at F p 0) >> push (Integer v) >> action GetProperty) b w tt b3 w3
  get_property_arm v d1 d2 d3 =
      record { same = rw (after_then, after_then, ← d1.same, ← d2.same, d3.same); fine = d3.fine; named = λ n. d3.named (d2.named (d1.named n)) }

  pub set_property_arm : {b1 b2 b3 b4 : BuilderState} {w1 w2 w3 w4 : List ℕ} →
      (v : ℕ) →
      {target : Part} → IsKid F l p 1 target →
      Does F ((kid_at F target 0).gen_expr false) b w tt b1 w1 →
      Does F (push (Integer v)) b1 w1 tt b2 w2 →
      Does F ((kid_at F p 0).gen_expr false) b2 w2 tt b3 w3 →
      Does F (action SetProperty) b3 w3 tt b4 w4 →
      Does F (expr (kid_at F p 1) >> push (Integer v) >> expr (kid_at F p 0) >> action SetProperty) b w tt b4 w4
  set_property_arm v {target = target} k-target d1 d2 d3 d4 =
      record { same = rw (k-target.meaning, after_then, after_then, after_then, ← d1.same, ← d2.same, ← d3.same, d4.same); fine = d4.fine; named = λ n. d4.named (d3.named (d2.named (d1.named n))) }

  pub trivial_assign_arm : (lp : Loop) (o : Op) (discard : Bool) → {left : Part} → IsKid F l p 1 left → {a : Access} {b1 b2 b3 b4 : BuilderState} {w1 w2 w3 w4 : List ℕ} →
      Does F (kid_at F left 0).for_expr b w a b1 w1 →
      Does F (each_of Expr lp 0 0 (meanings_at F p)) b1 w1 tt b2 w2 →
      Does F (action o) b2 w2 tt b3 w3 →
      Does F (assign_value discard a) b3 w3 tt b4 w4 →
      Does F (gen_binary_op (trivial-assign o) (meanings_at F p) discard) b w tt b4 w4
  trivial_assign_arm lp o discard k-left d1 d2 d3 d4 =
      let e2 = same_does (exprs (meanings_at F p)) (each_of Expr lp 0 0 (meanings_at F p)) (exprs_each lp 0 0 (meanings_at F p)) d2 in
      record { same = rw (k-left.meaning, after_bind, ← d1.same, carry_held, after_then, after_then, ← e2.same, ← d3.same, d4.same); fine = d4.fine; named = λ n. d4.named (d3.named (d2.named (d1.named n))) }

  pub call_arm : {name es : Part} → IsKid F l p 1 name → IsList F l p 0 es → (n : ℕ) → n ≡ width (trees F es) → {a : Access} {b1 b2 b3 : BuilderState} {w1 w2 w3 : List ℕ} →
      Does F (gen_arguments (meanings_at F es)) b w tt b1 w1 →
      Does F (kid_at F name 0).for_expr b1 w1 a b2 w2 →
      Does F (call n a) b2 w2 tt b3 w3 →
      Does F (gen_call (kid_at F p 1) (list_at F p 0)) b w tt b3 w3
  call_arm {es = es} k-name k-es n e d1 d2 d3 =
      let e3 = rw (e, ← width_law (trees F es)) at d3 in
      record { same = rw (k-name.meaning, k-es.means, after_then, ← d1.same, after_bind, ← d2.same, carry_held, e3.same); fine = d3.fine; named = λ n. d3.named (d2.named (d1.named n)) }

  pub new_arm : {name es : Part} → IsKid F l p 1 name → IsList F l p 0 es → (n : ℕ) → n ≡ width (trees F es) → {a : Access} {b1 b2 b3 : BuilderState} {w1 w2 w3 : List ℕ} →
      Does F (gen_arguments (meanings_at F es)) b w tt b1 w1 →
      Does F (kid_at F name 0).for_expr b1 w1 a b2 w2 →
      Does F (call_new n a) b2 w2 tt b3 w3 →
      Does F (gen_new (kid_at F p 1) (list_at F p 0)) b w tt b3 w3
  new_arm {es = es} k-name k-es n e d1 d2 d3 =
      let e3 = rw (e, ← width_law (trees F es)) at d3 in
      record { same = rw (k-name.meaning, k-es.means, after_then, ← d1.same, after_bind, ← d2.same, carry_held, e3.same); fine = d3.fine; named = λ n. d3.named (d2.named (d1.named n)) }

  -- an access that is generated as an expression, or as an object and its field
  pub direct_arm : {b1 : BuilderState} {w1 : List ℕ} → (m : Step) → Does F m b w tt b1 w1 → Fine b1 w1 → Does F (m gives Direct) b w Direct b1 w1
  direct_arm m d f = let r = returned {F = F} {a = Direct} f in record { same = rw (after_then, ← d.same, r.same); fine = d.fine; named = d.named }

  pub object_access_arm : (lp : Loop) {b1 : BuilderState} {w1 : List ℕ} → Does F (each_of Expr lp 0 0 (meanings_at F p)) b w tt b1 w1 → Does F (exprs (meanings_at F p) gives Object) b w Object b1 w1
  object_access_arm lp d =
      let e = same_does (exprs (meanings_at F p)) (each_of Expr lp 0 0 (meanings_at F p)) (exprs_each lp 0 0 (meanings_at F p)) d in
      let r = returned {F = F} {a = Object} d.fine in
      record { same = rw (after_then, ← e.same, r.same); fine = d.fine; named = d.named }

-- constructs that end in others
module _ {F : List ℕ} (l : Layout) (p : Part) {b : BuilderState} {w : List ℕ} where
  -- a switch that has a Case or a Default
  pub switch_cases_arm : {b1 b2 b3 b4 b5 b6 : BuilderState} {w1 w2 w3 w4 w5 w6 : List ℕ} {q : ℕ} (q1 : ℕ) →
      (lp inner : Loop) (default n : ℕ) →
      {es : Part} → IsList F l p 0 es →
      Switching F p q q1 default n →
      inner ≡ record { break_label = some q; continue_label = lp.continue_label } →
      (has_case (elements_from q1 (list_at F p 0)) || has_default (elements_from q1 (list_at F p 0))) ≡ true →
      Does F (create_label) b w q b1 w1 →
      Does F (with_labels (list_at F p 0)) b1 w1 (elements_from q1 (list_at F p 0)) b2 w2 →
      Does F (select (kid_at F p 1) (elements_from q1 (list_at F p 0))) b2 w2 tt b3 w3 →
      Does F (jump default) b3 w3 tt b4 w4 →
      Does F (each_of Element inner q1 default (meanings_at F es)) b4 w4 tt b5 w5 →
      Does F (mark_label q) b5 w5 tt b6 w6 →
      Does F (gen_switch lp (kid_at F p 1) (list_at F p 0)) b w tt b6 w6
  switch_cases_arm {q = q} q1 lp inner default n k-es s i h d1 d2 d3 d4 d5 d6 =
      switch_arm l p q1 lp d1 d2 (rw h (cases_arm l p lp inner q q1 default n k-es s i d3 d4 d5 d6))

  pub if_both_arm : {b1 b2 b3 b4 b5 b6 b7 b8 b9 b10 : BuilderState} {w1 w2 w3 w4 w5 w6 w7 w8 w9 w10 : List ℕ} {q q3 : ℕ} →
      (lp : Loop) →
      {condition : Part} → IsKid F l p 2 condition →
      {yes' : Part} → IsKid F l p 1 yes' →
      present (kid_at F p 0).rec ≡ true →
      Does F (create_label) b w q b1 w1 →
      Does F ((kid_at F condition 0).gen_expr false) b1 w1 tt b2 w2 →
      Does F (action Not) b2 w2 tt b3 w3 →
      Does F (create_label) b3 w3 q3 b4 w4 →
      Does F (branch q3) b4 w4 tt b5 w5 →
      Does F ((kid_at F yes' 0).gen_statement lp) b5 w5 tt b6 w6 →
      Does F (jump q) b6 w6 tt b7 w7 →
      Does F (mark_label q3) b7 w7 tt b8 w8 →
      Does F ((kid_at F p 0).gen_statement lp) b8 w8 tt b9 w9 →
      Does F (mark_label q) b9 w9 tt b10 w10 →
      Does F (gen_if lp (kid_at F p 2) (kid_at F p 1) (kid_at F p 0)) b w tt b10 w10
  if_both_arm {q = q} lp k-condition k-yes' e d1 d2 d3 d4 d5 d6 d7 d8 d9 d10 =
      let branches = both_arm l p lp q k-yes' d4 d5 d6 d7 d8 d9 in
      if_arm l p lp k-condition d1 d2 d3 (rw e branches) d10

  pub if_one_arm : {b1 b2 b3 b4 b5 b6 : BuilderState} {w1 w2 w3 w4 w5 w6 : List ℕ} {q : ℕ} →
      (lp : Loop) →
      {condition : Part} → IsKid F l p 2 condition →
      {yes' : Part} → IsKid F l p 1 yes' →
      present (kid_at F p 0).rec ≡ false →
      Does F (create_label) b w q b1 w1 →
      Does F ((kid_at F condition 0).gen_expr false) b1 w1 tt b2 w2 →
      Does F (action Not) b2 w2 tt b3 w3 →
      Does F (branch q) b3 w3 tt b4 w4 →
      Does F ((kid_at F yes' 0).gen_statement lp) b4 w4 tt b5 w5 →
      Does F (mark_label q) b5 w5 tt b6 w6 →
      Does F (gen_if lp (kid_at F p 2) (kid_at F p 1) (kid_at F p 0)) b w tt b6 w6
  if_one_arm {q = q} lp k-condition k-yes' e d1 d2 d3 d4 d5 d6 =
      let branches = one_arm l p lp q k-yes' d4 d5 in
      if_arm l p lp k-condition d1 d2 d3 (rw e branches) d6
