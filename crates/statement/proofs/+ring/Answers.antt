-- Each goal has names of its own, so that goals with one proof have an answer each; what they share is a lemma.
use Rattle.statement.proofs.Arms.{statements_arm, unhoisted_arm, field_arm, test_arm, block_arm, local_arm, local_none_arm, no_values_arm, values_arm, switch_arm, switch_cases_arm, no_tests_arm, tests_arm, while_arm, for_in_arm, for_loop_arm, ends_arm, if_both_arm, if_one_arm, void_arm, trivial_arm, trivial_not_arm, trivial_assign_arm, assign_arm, and_arm, or_arm, bit_not_arm, not_arm, minus_arm, adjust_arm, kept_arm, delete_arm, ternary_arm, array_arm, object_arm, copy_arm, goto_label_arm, goto_frame_arm, goto_arm, drag_arm, drag_within_arm, get_property_arm, set_property_arm, call_arm, new_arm, direct_arm, object_access_arm}
use borrow.Author.Rules.{rules}
use borrow.Author.Tests.{not-true, lt-ltb, eqb-false}
use native.Mathlib.Omega.{arith}
use Prim.Native.Nat.{◌+◌}
use mathlib.Core.Path.{refl, sym, ap, ◌∙◌}
use mathlib.Core.Bool.{false}
use lib.ListN.{length-take, length-drop}
use Rattle.pcode.specs.declared.Op.TheVariants.{GetMember}
use Rattle.script_records.specs.declared.part.Part.{Part}
use Rattle.script_records.specs.Layout.{layout_of, string_at}
use Rattle.decode.specs.Numbers.{unsigned}
use Rattle.script.specs.Resolve.{target_over}
use Rattle.lowering.specs.Meaning.{present}
use Rattle.list_slice.specs.File.{text_in}
use Rattle.codegen_state.proofs.Steps.{idle, stays}
use Rattle.tree.specs.Within.{live, kid_at, list_at}
use Rattle.tree.specs.Handle.{file_of}
use borrow.Author.Tests.{true-eqb}
use Rattle.tree.proofs.Nodes.{is_node}
use Rattle.tree.proofs.Meanings.{width_less}
use Rattle.operators.proofs.Shapes.{shape_is, literal_is, shape_named}
use Rattle.builder.proofs.Body.{ready, function_done}
use Rattle.slice_words.proofs.Strings.{text_is}
use Rattle.rows.specs.Rows.{loop_of}
use Rattle.leaves.proofs.Args.{expr_at, args_again, args_stopped, args_done}
use Rattle.statement.proofs.Laws.{rec_is, element_at, value_at, value_live, no_expr, statement_at, no_statement, untested, access_at, literal_of, none_at, labels_counted, labels_less, default_less, switching, no_labels, some_labels, function_at, function_size, literal_named, field_live, kids_less, in_kids, number_less, plain_access, bit_is, rank_least, rank_kept}
use Rattle.statement.proofs.Walks.{start, walked, acted, built, pushed, walks, walk}
use Rattle.builder.proofs.Runs.{same_list_then, keeps_then, index_stays}
use Rattle.statement.proofs.Lists.{pop_holds, pop_top, pop_inside, pop_fits, pop_below, pop_few, pop_again, pop_stopped, pop_done, element_few}
use mir.ValLaws.{to_z-of_z}
use mir.Syntax.{w32}
use Prim.Native.Nat.{ℕ}
use Rattle.statement.proofs.+ring.Goals as goal

pub adjust-adjust-requires : goal.adjust-adjust-requires
adjust-adjust-requires t c = (omega (arith, c.decreases, c.requires.fits, c.for_expr-old.auto.scratch, rank_least c.args.discard, rank_kept c.args.discard c.args.affix c.keeps_old.ensures c.if-keeps_old.true), walk (built {d = c.for_expr-old.new.context} (c.get_value.ensures (file_of c.args.t.now)).keeps.list (walked c.for_expr-old.ensures start)) c.requires.script (omega (arith, c.requires.fits, c.for_expr-old.auto.scratch, rank_least c.args.discard)))

pub adjust-for_expr-access-requires : goal.adjust-for_expr-access-requires
adjust-for_expr-access-requires t c = (omega (arith, c.decreases, c.requires.fits, c.for_expr.auto.scratch, rank_least c.args.discard), walk (walked c.for_expr.ensures start) c.requires.script (omega (arith, c.requires.fits, c.for_expr.auto.scratch, rank_least c.args.discard)))

pub adjust-invariant_of-context : goal.adjust-invariant_of-context
adjust-invariant_of-context t c = record { laid_out = c.for_expr-old.new.context.laid_out; indexed = index_stays (c.get_value.ensures (file_of c.args.t.now)).keeps.pool c.for_expr-old.new.context.indexed }

pub adjust-invariant_of-context-2 : goal.adjust-invariant_of-context-2
adjust-invariant_of-context-2 t c = record { laid_out = c.for_expr-access.new.context.laid_out; indexed = index_stays (keeps_then (c.get_value-2.ensures (file_of c.args.t.now)).keeps (keeps_then (c.action.ensures (file_of c.args.t.now)).keeps (c.assign_value.ensures (file_of c.args.t.now)).keeps)).pool c.for_expr-access.new.context.indexed }

pub adjust-returns : goal.adjust-returns
adjust-returns t c = walks (built {d = c.for_expr-access.new.context} (keeps_then (c.get_value-2.ensures (file_of c.args.t.now)).keeps (keeps_then (c.action.ensures (file_of c.args.t.now)).keeps (c.assign_value.ensures (file_of c.args.t.now)).keeps)).list (walked c.for_expr-access.ensures (walked c.for_expr.ensures start))) (adjust_arm c.args.t.now.script.layout c.args.t.now.part c.args.o c.args.affix c.args.discard c.keeps_old.ensures c.if-keeps_old.false c.args.context.now.builder.fine c.for_expr.ensures.does c.for_expr-access.ensures.does (c.get_value-2.ensures (file_of c.args.t.now)).does (c.action.ensures (file_of c.args.t.now)).does (rw c.leaves_none-alone.ensures at (c.assign_value.ensures (file_of c.args.t.now)).does))

pub adjust-returns-then-keeps_old : goal.adjust-returns-then-keeps_old
adjust-returns-then-keeps_old t c = walks (walked c.adjust.ensures (built {d = c.for_expr-old.new.context} (c.get_value.ensures (file_of c.args.t.now)).keeps.list (walked c.for_expr-old.ensures start))) (kept_arm c.args.t.now.script.layout c.args.t.now.part c.args.o c.args.affix c.args.discard c.keeps_old.ensures c.if-keeps_old.true c.for_expr-old.ensures.does (c.get_value.ensures (file_of c.args.t.now)).does c.adjust.ensures.does)

pub args-invariant_of-context : goal.args-invariant_of-context
args-invariant_of-context t c = record { laid_out = c.loop-tree.context.laid_out; indexed = index_stays (c.push_count.ensures (file_of c.args.t.now)).keeps.pool c.loop-tree.context.indexed }

pub args-loop-tree-preserved : goal.args-loop-tree-preserved
args-loop-tree-preserved t c =
    let i = c.loop-tree.invariant in
    let s = c.in-Some.ensures.steps in
    let e = c.gen_expr.ensures in (
      record {
        trees = s.2.script ∙ i.0.trees;
        script = e.script ∙ i.0.script;
        same_list = same_list_then i.0.same_list e.same_list;
        args = args_again i.0.args (omega (arith, s.1)) (rw i.0.trees at s.2.part) (rw (s.0, i.0.trees) at e.does) e.same_list.long;
      },
      c.gen_expr.auto.scratch ∙ i.1,
    )

pub args-returns : goal.args-returns
args-returns t c =
    let i = c.loop-tree.invariant.0 in
    walks (built {d = c.loop-tree.context} (c.push_count.ensures (file_of c.args.t.now)).keeps.list (pushed i)) (args_done i.args c.in-None.ensures.steps.0 c.args.n c.requires.n_value (c.push_count.ensures (file_of c.args.t.now)).does)

pub args-returns-then-is_some : goal.args-returns-then-is_some
args-returns-then-is_some t c = walks (pushed c.loop-tree.invariant.0) (args_stopped c.loop-tree.invariant.0.args (sym c.if-is_some.ensures))

pub drag-invariant_of-context : goal.drag-invariant_of-context
drag-invariant_of-context t c = record { laid_out = c.args.context.now.laid_out; indexed = index_stays (keeps_then c.push.ensures.keeps c.push-then-is_empty.ensures.keeps).pool c.args.context.now.indexed }

pub drag-invariant_of-context-2 : goal.drag-invariant_of-context-2
drag-invariant_of-context-2 t c = record { laid_out = c.each.new.context.laid_out; indexed = index_stays (keeps_then c.push-2.ensures.keeps c.push-3.ensures.keeps).pool c.each.new.context.indexed }

pub drag-invariant_of-context-3 : goal.drag-invariant_of-context-3
drag-invariant_of-context-3 t c = record { laid_out = c.gen_expr-2.new.context.laid_out; indexed = index_stays (c.action_down-2.ensures (file_of c.args.t.now)).keeps.pool c.gen_expr-2.new.context.indexed }

pub drag-invariant_of-context-then-is_empty : goal.drag-invariant_of-context-then-is_empty
drag-invariant_of-context-then-is_empty t c = record { laid_out = c.gen_expr.new.context.laid_out; indexed = index_stays (c.action_down.ensures (file_of c.args.t.now)).keeps.pool c.gen_expr.new.context.indexed }

pub drag-returns : goal.drag-returns
drag-returns t c = walks (built {d = c.gen_expr-2.new.context} (c.action_down-2.ensures (file_of c.args.t.now)).keeps.list (walked c.gen_expr-2.ensures (built {d = c.each.new.context} (keeps_then c.push-2.ensures.keeps c.push-3.ensures.keeps).list (walked c.each.ensures start)))) (drag_within_arm c.args.t.now.script.layout c.args.t.now.part (loop_of c.no_loop-idle.result) c.args.lock c.kid-target.ensures.kid c.list-es.ensures.list (eqb-false _ 0 (sym c.if-is_empty.ensures)) (rw c.list-es.ensures.script at c.each.ensures.does) (c.push-2.ensures.runs (file_of c.args.t.now) tt).does (rw (to_z-of_z w32 _ (record { sfits = c.from-bit.type_inv }), c.from-bit.ensures, bit_is c.args.lock) at (c.push-3.ensures.runs (file_of c.args.t.now) tt).does) (rw c.kid-target.ensures.script at c.gen_expr-2.ensures.does) (c.action_down-2.ensures (file_of c.args.t.now)).does)

pub drag-returns-then-is_empty : goal.drag-returns-then-is_empty
drag-returns-then-is_empty t c = walks (built {d = c.gen_expr.new.context} (c.action_down.ensures (file_of c.args.t.now)).keeps.list (walked c.gen_expr.ensures (built {d = c.args.context.now} (keeps_then c.push.ensures.keeps c.push-then-is_empty.ensures.keeps).list start))) (drag_arm c.args.t.now.script.layout c.args.t.now.part c.args.lock c.kid-target.ensures.kid c.list-es.ensures.list (true-eqb _ 0 c.if-is_empty.ensures) (c.push.ensures.runs (file_of c.args.t.now) tt).does (rw (to_z-of_z w32 _ (record { sfits = c.from-bit.type_inv }), c.from-bit.ensures, bit_is c.args.lock) at (c.push-then-is_empty.ensures.runs (file_of c.args.t.now) tt).does) (rw c.kid-target.ensures.script at c.gen_expr.ensures.does) (c.action_down.ensures (file_of c.args.t.now)).does)

pub each-bounds-scratch-top : goal.each-bounds-scratch-top
each-bounds-scratch-top t c = pop_inside c.loop-top.invariant.0 c.loop-top-test.true

pub each-invariant_of-trees : goal.each-invariant_of-trees
each-invariant_of-trees t c = record { within = (pop_top c.loop-top.invariant.0 c.loop-top-test.true).within }

pub each-loop-top-init : goal.each-loop-top-init
each-loop-top-init t c = (pop_holds c.args.context.now.builder.fine (omega (arith, c.requires.walk.fits, c.args.t.now.within.inside, c.ends_of-count.auto.scratch)) c.ends_of-count.ensures, start)

pub each-loop-top-preserved : goal.each-loop-top-preserved
each-loop-top-preserved t c = (
  pop_again c.loop-top.invariant.0 c.one.new.scratch c.loop-top-test.true c.one.ensures.does c.element-e.ensures (ap (λ (k : ℕ). c.loop-top.seen + k) (c.from-seen.ensures ∙ c.is_labelled.ensures)) (ap (λ (k : ℕ). c.loop-top.cases + k) (c.from-cases.ensures ∙ c.is_case.ensures)) c.one.ensures.same_list.long c.one.auto.scratch,
  walked c.one.ensures c.loop-top.invariant.1,
)

pub each-offset_bounds-scratch-top : goal.each-offset_bounds-scratch-top
each-offset_bounds-scratch-top t c = omega (arith, (pop_top c.loop-top.invariant.0 c.loop-top-test.true).room, c.args.t.now.within.inside, c.args.t.now.within.known, c.args.t.now.within.sound.few)

pub each-offset_bounds-scratch-top-in-loop-top : goal.each-offset_bounds-scratch-top-in-loop-top
each-offset_bounds-scratch-top-in-loop-top t c = omega (arith, (pop_top c.loop-top.invariant.0 c.loop-top-test.true).room, c.args.t.now.within.inside, c.args.t.now.within.known, c.args.t.now.within.sound.few)

pub each-one-requires : goal.each-one-requires
each-one-requires t c = (omega (arith, pop_below c.loop-top.invariant.0 c.loop-top-test.true c.args.t.now.part.n (omega (arith, c.args.t.now.within.inside)), c.decreases), (record { script = c.loop-top.invariant.1.script ∙ c.requires.walk.script; fits = simp (length-take, length-drop) (omega (arith, pop_fits c.loop-top.invariant.0 c.loop-top-test.true)) }, omega (arith, (pop_few c.loop-top.invariant.0 c.loop-top-test.true c.args.t.now.part.n (omega (arith, c.args.t.now.within.inside))).0, c.requires.n_bound)))

pub each-overflow_add-cases : goal.each-overflow_add-cases
each-overflow_add-cases t c = omega (arith, (pop_few c.loop-top.invariant.0 c.loop-top-test.true c.args.t.now.part.n (omega (arith, c.args.t.now.within.inside))).1, (c.from-cases.ensures ∙ c.is_case.ensures), (element_few c.element-e.result).1, c.args.t.now.within.inside, c.args.t.now.within.known, c.args.t.now.within.sound.few)

pub each-overflow_add-seen : goal.each-overflow_add-seen
each-overflow_add-seen t c = omega (arith, (pop_few c.loop-top.invariant.0 c.loop-top-test.true c.args.t.now.part.n (omega (arith, c.args.t.now.within.inside))).0, (c.from-seen.ensures ∙ c.is_labelled.ensures), (element_few c.element-e.result).0, c.args.t.now.within.inside, c.args.t.now.within.known, c.args.t.now.within.sound.few)

pub each-overflow_sub-trees : goal.each-overflow_sub-trees
each-overflow_sub-trees t c = let p = pop_top c.loop-top.invariant.0 c.loop-top-test.true in omega (arith, p.up, p.idle.up, c.loop-top.invariant.0.low)

pub each-returns : goal.each-returns
each-returns t c = walks c.loop-top.invariant.1 (pop_done c.loop-top.invariant.0 c.loop-top-test.false c.args.t.now.part refl (omega (arith, c.args.t.now.within.inside)))

pub each-returns-then-is_some : goal.each-returns-then-is_some
each-returns-then-is_some t c = walks start (stays (sym c.if-is_some.ensures) c.args.context.now.builder.fine)

pub each-returns-then-is_some-2 : goal.each-returns-then-is_some-2
each-returns-then-is_some-2 t c = walks c.loop-top.invariant.1 (pop_stopped c.loop-top.invariant.0 (sym c.if-is_some-2.ensures) c.args.t.now.part refl (omega (arith, c.args.t.now.within.inside)))

pub each-slice_bounds-one-count : goal.each-slice_bounds-one-count
each-slice_bounds-one-count t c = omega (arith, pop_inside c.loop-top.invariant.0 c.loop-top-test.true)

pub each-slice_bounds-one-start : goal.each-slice_bounds-one-start
each-slice_bounds-one-start t c = omega (arith, pop_inside c.loop-top.invariant.0 c.loop-top-test.true)

pub ends-each-requires : goal.ends-each-requires
ends-each-requires t c = (omega (arith, c.decreases, c.requires.fits, ap (λ (x : Part). x.n) c.rest-before.ensures.part, (is_node _ _ _ c.args.t.now.within refl).apart, (is_node _ _ _ c.args.t.now.within refl).real), (walk start (c.requires.script ∙ sym c.rest-before.ensures.script) (omega (arith, c.requires.fits, ap (λ (x : Part). x.n) c.rest-before.ensures.part, (is_node _ _ _ c.args.t.now.within refl).apart, (is_node _ _ _ c.args.t.now.within refl).real)), omega (arith, c.requires.fits, ap (λ (x : Part). x.n) c.rest-before.ensures.part, (is_node _ _ _ c.args.t.now.within refl).apart, (is_node _ _ _ c.args.t.now.within refl).real, c.args.t.now.within.known, c.args.t.now.within.sound.few, c.args.t.now.within.inside)))

pub ends-invariant_of-context : goal.ends-invariant_of-context
ends-invariant_of-context t c = record { laid_out = c.gen_expr.new.context.laid_out; indexed = index_stays (keeps_then (c.action.ensures (file_of c.args.t.now)).keeps (c.branch-context.ensures (file_of c.args.t.now)).keeps).pool c.gen_expr.new.context.indexed }

pub ends-returns : goal.ends-returns
ends-returns t c = walks (built {d = c.gen_expr.new.context} (keeps_then (c.action.ensures (file_of c.args.t.now)).keeps (c.branch-context.ensures (file_of c.args.t.now)).keeps).list (walked c.gen_expr.ensures (walked c.each.ensures start))) (ends_arm c.args.t.now.script.layout c.args.t.now.part (loop_of c.no_loop-idle.result) c.args.end.0 (is_node _ _ _ c.args.t.now.within refl) (eqb-false _ 0 (sym c.if-is_empty.ensures)) (rw (c.rest-before.ensures.script, c.rest-before.ensures.part) at c.each.ensures.does) c.gen_expr.ensures.does (c.action.ensures (file_of c.args.t.now)).does (c.branch-context.ensures (file_of c.args.t.now)).does)

pub ends-returns-then-is_empty : goal.ends-returns-then-is_empty
ends-returns-then-is_empty t c = walks start (rw (none_at (file_of c.args.t.now) c.args.t.now.part (true-eqb _ 0 c.if-is_empty.ensures)) (idle c.args.context.now.builder.fine))

pub exit-invariant_of-context : goal.exit-invariant_of-context
exit-invariant_of-context t c = record { laid_out = c.args.context.now.laid_out; indexed = index_stays (keeps_then c.push.ensures.keeps (c.action.ensures (file_of c.args.t.now)).keeps).pool c.args.context.now.indexed }

pub exit-invariant_of-context-2 : goal.exit-invariant_of-context-2
exit-invariant_of-context-2 t c = record { laid_out = c.each.new.context.laid_out; indexed = index_stays (c.action-2.ensures (file_of c.args.t.now)).keeps.pool c.each.new.context.indexed }

pub exit-returns : goal.exit-returns
exit-returns t c = walks (built {d = c.each.new.context} (c.action-2.ensures (file_of c.args.t.now)).keeps.list (walked c.each.ensures start)) (values_arm c.args.t.now.script.layout c.args.t.now.part (loop_of c.no_loop-idle.result) c.list-es.ensures.list (eqb-false _ 0 (sym c.if-is_empty.ensures)) c.args.o (rw c.list-es.ensures.script at c.each.ensures.does) (c.action-2.ensures (file_of c.args.t.now)).does)

pub exit-returns-then-is_empty : goal.exit-returns-then-is_empty
exit-returns-then-is_empty t c = walks (built {d = c.args.context.now} (keeps_then c.push.ensures.keeps (c.action.ensures (file_of c.args.t.now)).keeps).list start) (no_values_arm c.args.t.now.script.layout c.args.t.now.part c.list-es.ensures.list (true-eqb _ 0 c.if-is_empty.ensures) c.args.o (c.push.ensures.runs (file_of c.args.t.now) tt).does (c.action.ensures (file_of c.args.t.now)).does)

pub for_expr-each-requires : goal.for_expr-each-requires
for_expr-each-requires t c = (omega (arith, c.decreases, c.requires.fits, (is_node _ _ _ c.args.t.now.within c.node-node.ensures.node).apart, (is_node _ _ _ c.args.t.now.within c.node-node.ensures.node).real, field_live c.node-node.result.root (sym c.from.ensures ∙ c.in-Field.is)), (walk start (c.requires.script ∙ sym c.node-node.ensures.children) (omega (arith, c.requires.fits, (is_node _ _ _ c.args.t.now.within c.node-node.ensures.node).apart, (is_node _ _ _ c.args.t.now.within c.node-node.ensures.node).real, field_live c.node-node.result.root (sym c.from.ensures ∙ c.in-Field.is))), omega (arith, c.requires.fits, (is_node _ _ _ c.args.t.now.within c.node-node.ensures.node).apart, (is_node _ _ _ c.args.t.now.within c.node-node.ensures.node).real, field_live c.node-node.result.root (sym c.from.ensures ∙ c.in-Field.is), c.args.t.now.within.known, c.args.t.now.within.sound.few, c.args.t.now.within.inside)))

pub for_expr-returns-in-Constant : goal.for_expr-returns-in-Constant
for_expr-returns-in-Constant t c = walks (acted (c.for_constant.ensures (rw c.requires.script c.args.t.now.within.sound.short) (rw c.requires.script (shape_named (file_of c.args.t.now) c.node-node.result.number c.node-node.result.root (is_node _ _ _ c.args.t.now.within c.node-node.ensures.node).named _ (sym c.from.ensures ∙ c.in-Constant.is)))) start) (rw (access_at (is_node _ _ _ c.args.t.now.within c.node-node.ensures.node), ← shape_is (file_of c.args.t.now) c.node-node.result.root, ← c.from.ensures, c.in-Constant.is) (rw c.requires.script at (c.for_constant.ensures (rw c.requires.script c.args.t.now.within.sound.short) (rw c.requires.script (shape_named (file_of c.args.t.now) c.node-node.result.number c.node-node.result.root (is_node _ _ _ c.args.t.now.within c.node-node.ensures.node).named _ (sym c.from.ensures ∙ c.in-Constant.is)))).does))

pub for_expr-returns-in-Field : goal.for_expr-returns-in-Field
for_expr-returns-in-Field t c = walks (walked c.each.ensures start) (rw (access_at (is_node _ _ _ c.args.t.now.within c.node-node.ensures.node), ← shape_is (file_of c.args.t.now) c.node-node.result.root, ← c.from.ensures, c.in-Field.is) (object_access_arm c.args.t.now.script.layout c.node-node.result.children.part (loop_of c.no_loop-idle.result) (rw c.node-node.ensures.children at c.each.ensures.does)))

pub for_expr-returns-in-NamedFunction : goal.for_expr-returns-in-NamedFunction
for_expr-returns-in-NamedFunction t c = walks (walked c.gen_expr.ensures start) (rw (access_at (is_node _ _ _ c.args.t.now.within c.node-node.ensures.node), ← shape_is (file_of c.args.t.now) c.node-node.result.root, ← c.from.ensures, plain_access _ c.in-NamedFunction.is) (direct_arm c.args.t.now.script.layout c.args.t.now.part ((kid_at (file_of c.args.t.now) c.args.t.now.part 0).gen_expr false) c.gen_expr.ensures.does c.gen_expr.ensures.does.fine))

pub for_expr-returns-then-is_some : goal.for_expr-returns-then-is_some
for_expr-returns-then-is_some t c = walks start (stays (sym c.if-is_some.ensures) c.args.context.now.builder.fine)

pub gen_binary_op-invariant_of-context : goal.gen_binary_op-invariant_of-context
gen_binary_op-invariant_of-context t c = record { laid_out = c.each.new.context.laid_out; indexed = index_stays (c.action.ensures (file_of c.args.t.now)).keeps.pool c.each.new.context.indexed }

pub gen_binary_op-invariant_of-context-in-Assign : goal.gen_binary_op-invariant_of-context-in-Assign
gen_binary_op-invariant_of-context-in-Assign t c = record { laid_out = c.gen_expr.new.context.laid_out; indexed = index_stays (c.assign_value-in-Assign.ensures (file_of c.args.t.now)).keeps.pool c.gen_expr.new.context.indexed }

pub gen_binary_op-invariant_of-context-in-LogicalAnd : goal.gen_binary_op-invariant_of-context-in-LogicalAnd
gen_binary_op-invariant_of-context-in-LogicalAnd t c = record { laid_out = c.args.context.now.laid_out; indexed = index_stays (c.create_label-end.ensures.runs (file_of c.args.t.now)).keeps.pool c.args.context.now.indexed }

pub gen_binary_op-invariant_of-context-in-LogicalAnd-2 : goal.gen_binary_op-invariant_of-context-in-LogicalAnd-2
gen_binary_op-invariant_of-context-in-LogicalAnd-2 t c = record { laid_out = c.gen_expr-in-LogicalAnd.new.context.laid_out; indexed = index_stays (keeps_then (c.action-in-LogicalAnd.ensures (file_of c.args.t.now)).keeps (keeps_then (c.action-in-LogicalAnd-2.ensures (file_of c.args.t.now)).keeps (keeps_then (c.branch-context.ensures (file_of c.args.t.now)).keeps (c.action-in-LogicalAnd-3.ensures (file_of c.args.t.now)).keeps))).pool c.gen_expr-in-LogicalAnd.new.context.indexed }

pub gen_binary_op-invariant_of-context-in-LogicalAnd-3 : goal.gen_binary_op-invariant_of-context-in-LogicalAnd-3
gen_binary_op-invariant_of-context-in-LogicalAnd-3 t c = record { laid_out = c.gen_expr-in-LogicalAnd-2.new.context.laid_out; indexed = index_stays (c.mark_label.ensures (file_of c.args.t.now)).keeps.pool c.gen_expr-in-LogicalAnd-2.new.context.indexed }

pub gen_binary_op-invariant_of-context-in-LogicalOr : goal.gen_binary_op-invariant_of-context-in-LogicalOr
gen_binary_op-invariant_of-context-in-LogicalOr t c = record { laid_out = c.args.context.now.laid_out; indexed = index_stays (c.create_label-end-in-LogicalOr.ensures.runs (file_of c.args.t.now)).keeps.pool c.args.context.now.indexed }

pub gen_binary_op-invariant_of-context-in-LogicalOr-2 : goal.gen_binary_op-invariant_of-context-in-LogicalOr-2
gen_binary_op-invariant_of-context-in-LogicalOr-2 t c = record { laid_out = c.gen_expr-in-LogicalOr.new.context.laid_out; indexed = index_stays (keeps_then (c.action-in-LogicalOr.ensures (file_of c.args.t.now)).keeps (keeps_then (c.branch-context-in-LogicalOr.ensures (file_of c.args.t.now)).keeps (c.action-in-LogicalOr-2.ensures (file_of c.args.t.now)).keeps)).pool c.gen_expr-in-LogicalOr.new.context.indexed }

pub gen_binary_op-invariant_of-context-in-LogicalOr-3 : goal.gen_binary_op-invariant_of-context-in-LogicalOr-3
gen_binary_op-invariant_of-context-in-LogicalOr-3 t c = record { laid_out = c.gen_expr-in-LogicalOr-2.new.context.laid_out; indexed = index_stays (c.mark_label-in-LogicalOr.ensures (file_of c.args.t.now)).keeps.pool c.gen_expr-in-LogicalOr-2.new.context.indexed }

pub gen_binary_op-invariant_of-context-in-TrivialAssign : goal.gen_binary_op-invariant_of-context-in-TrivialAssign
gen_binary_op-invariant_of-context-in-TrivialAssign t c = record { laid_out = c.each-in-TrivialAssign.new.context.laid_out; indexed = index_stays (keeps_then (c.action-in-TrivialAssign.ensures (file_of c.args.t.now)).keeps (c.assign_value.ensures (file_of c.args.t.now)).keeps).pool c.each-in-TrivialAssign.new.context.indexed }

pub gen_binary_op-invariant_of-context-in-TrivialNot : goal.gen_binary_op-invariant_of-context-in-TrivialNot
gen_binary_op-invariant_of-context-in-TrivialNot t c = record { laid_out = c.each-in-TrivialNot.new.context.laid_out; indexed = index_stays (keeps_then (c.action-in-TrivialNot.ensures (file_of c.args.t.now)).keeps (c.action-in-TrivialNot-2.ensures (file_of c.args.t.now)).keeps).pool c.each-in-TrivialNot.new.context.indexed }

pub gen_binary_op-returns-in-Assign : goal.gen_binary_op-returns-in-Assign
gen_binary_op-returns-in-Assign t c = walks (built {d = c.gen_expr.new.context} (c.assign_value-in-Assign.ensures (file_of c.args.t.now)).keeps.list (walked c.gen_expr.ensures (walked c.for_expr-access-in-Assign.ensures start))) (rw (← c.from.ensures, c.in-Assign.is) (assign_arm c.args.t.now.script.layout c.args.t.now.part c.args.discard c.kid-left.ensures.kid (rw c.kid-left.ensures.script at c.for_expr-access-in-Assign.ensures.does) c.gen_expr.ensures.does (c.assign_value-in-Assign.ensures (file_of c.args.t.now)).does))

pub gen_binary_op-returns-in-LogicalAnd : goal.gen_binary_op-returns-in-LogicalAnd
gen_binary_op-returns-in-LogicalAnd t c = walks (built {d = c.gen_expr-in-LogicalAnd-2.new.context} (c.mark_label.ensures (file_of c.args.t.now)).keeps.list (walked c.gen_expr-in-LogicalAnd-2.ensures (built {d = c.gen_expr-in-LogicalAnd.new.context} (keeps_then (c.action-in-LogicalAnd.ensures (file_of c.args.t.now)).keeps (keeps_then (c.action-in-LogicalAnd-2.ensures (file_of c.args.t.now)).keeps (keeps_then (c.branch-context.ensures (file_of c.args.t.now)).keeps (c.action-in-LogicalAnd-3.ensures (file_of c.args.t.now)).keeps))).list (walked c.gen_expr-in-LogicalAnd.ensures (built {d = c.args.context.now} (c.create_label-end.ensures.runs (file_of c.args.t.now)).keeps.list start))))) (rw (← c.from.ensures, c.in-LogicalAnd.is) (and_arm c.args.t.now.script.layout c.args.t.now.part c.kid-left.ensures.kid c.args.discard (c.create_label-end.ensures.runs (file_of c.args.t.now)).does (rw c.kid-left.ensures.script at c.gen_expr-in-LogicalAnd.ensures.does) (c.action-in-LogicalAnd.ensures (file_of c.args.t.now)).does (c.action-in-LogicalAnd-2.ensures (file_of c.args.t.now)).does (c.branch-context.ensures (file_of c.args.t.now)).does (c.action-in-LogicalAnd-3.ensures (file_of c.args.t.now)).does c.gen_expr-in-LogicalAnd-2.ensures.does (c.mark_label.ensures (file_of c.args.t.now)).does))

pub gen_binary_op-returns-in-LogicalOr : goal.gen_binary_op-returns-in-LogicalOr
gen_binary_op-returns-in-LogicalOr t c = walks (built {d = c.gen_expr-in-LogicalOr-2.new.context} (c.mark_label-in-LogicalOr.ensures (file_of c.args.t.now)).keeps.list (walked c.gen_expr-in-LogicalOr-2.ensures (built {d = c.gen_expr-in-LogicalOr.new.context} (keeps_then (c.action-in-LogicalOr.ensures (file_of c.args.t.now)).keeps (keeps_then (c.branch-context-in-LogicalOr.ensures (file_of c.args.t.now)).keeps (c.action-in-LogicalOr-2.ensures (file_of c.args.t.now)).keeps)).list (walked c.gen_expr-in-LogicalOr.ensures (built {d = c.args.context.now} (c.create_label-end-in-LogicalOr.ensures.runs (file_of c.args.t.now)).keeps.list start))))) (rw (← c.from.ensures, c.in-LogicalOr.is) (or_arm c.args.t.now.script.layout c.args.t.now.part c.kid-left.ensures.kid c.args.discard (c.create_label-end-in-LogicalOr.ensures.runs (file_of c.args.t.now)).does (rw c.kid-left.ensures.script at c.gen_expr-in-LogicalOr.ensures.does) (c.action-in-LogicalOr.ensures (file_of c.args.t.now)).does (c.branch-context-in-LogicalOr.ensures (file_of c.args.t.now)).does (c.action-in-LogicalOr-2.ensures (file_of c.args.t.now)).does c.gen_expr-in-LogicalOr-2.ensures.does (c.mark_label-in-LogicalOr.ensures (file_of c.args.t.now)).does))

pub gen_binary_op-returns-in-Trivial : goal.gen_binary_op-returns-in-Trivial
gen_binary_op-returns-in-Trivial t c = walks (built {d = c.each.new.context} (c.action.ensures (file_of c.args.t.now)).keeps.list (walked c.each.ensures start)) (rw (← c.from.ensures, c.in-Trivial.is) (trivial_arm c.args.t.now.script.layout c.args.t.now.part (loop_of c.no_loop-idle.result) _ c.each.ensures.does (c.action.ensures (file_of c.args.t.now)).does))

pub gen_binary_op-returns-in-TrivialAssign : goal.gen_binary_op-returns-in-TrivialAssign
gen_binary_op-returns-in-TrivialAssign t c = walks (built {d = c.each-in-TrivialAssign.new.context} (keeps_then (c.action-in-TrivialAssign.ensures (file_of c.args.t.now)).keeps (c.assign_value.ensures (file_of c.args.t.now)).keeps).list (walked c.each-in-TrivialAssign.ensures (walked c.for_expr-access.ensures start))) (rw (← c.from.ensures, c.in-TrivialAssign.is) (trivial_assign_arm c.args.t.now.script.layout c.args.t.now.part (loop_of c.no_loop-idle-in-TrivialAssign.result) _ c.args.discard c.kid-left.ensures.kid (rw c.kid-left.ensures.script at c.for_expr-access.ensures.does) c.each-in-TrivialAssign.ensures.does (c.action-in-TrivialAssign.ensures (file_of c.args.t.now)).does (c.assign_value.ensures (file_of c.args.t.now)).does))

pub gen_binary_op-returns-in-TrivialNot : goal.gen_binary_op-returns-in-TrivialNot
gen_binary_op-returns-in-TrivialNot t c = walks (built {d = c.each-in-TrivialNot.new.context} (keeps_then (c.action-in-TrivialNot.ensures (file_of c.args.t.now)).keeps (c.action-in-TrivialNot-2.ensures (file_of c.args.t.now)).keeps).list (walked c.each-in-TrivialNot.ensures start)) (rw (← c.from.ensures, c.in-TrivialNot.is) (trivial_not_arm c.args.t.now.script.layout c.args.t.now.part (loop_of c.no_loop-idle-in-TrivialNot.result) _ c.each-in-TrivialNot.ensures.does (c.action-in-TrivialNot.ensures (file_of c.args.t.now)).does (c.action-in-TrivialNot-2.ensures (file_of c.args.t.now)).does))

pub gen_call-invariant_of-context : goal.gen_call-invariant_of-context
gen_call-invariant_of-context t c = record { laid_out = c.for_expr-access.new.context.laid_out; indexed = index_stays (c.call_new.ensures (file_of c.args.t.now)).keeps.pool c.for_expr-access.new.context.indexed }

pub gen_call-invariant_of-context-else-new : goal.gen_call-invariant_of-context-else-new
gen_call-invariant_of-context-else-new t c = record { laid_out = c.for_expr-access.new.context.laid_out; indexed = index_stays (c.call.ensures (file_of c.args.t.now)).keeps.pool c.for_expr-access.new.context.indexed }

pub gen_call-returns-else-new : goal.gen_call-returns-else-new
gen_call-returns-else-new t c = walks (built {d = c.for_expr-access.new.context} (c.call.ensures (file_of c.args.t.now)).keeps.list (walked c.for_expr-access.ensures (walked c.args-2.ensures start))) (rw c.if-new.false (call_arm c.args.t.now.script.layout c.args.t.now.part c.kid-name.ensures.kid c.list-es.ensures.list c.width-n.result (rw c.list-es.ensures.script at c.width-n.ensures) (rw c.list-es.ensures.script at c.args-2.ensures.does) (rw c.kid-name.ensures.script at c.for_expr-access.ensures.does) (c.call.ensures (file_of c.args.t.now)).does))

pub gen_call-returns-then-new : goal.gen_call-returns-then-new
gen_call-returns-then-new t c = walks (built {d = c.for_expr-access.new.context} (c.call_new.ensures (file_of c.args.t.now)).keeps.list (walked c.for_expr-access.ensures (walked c.args-2.ensures start))) (rw c.if-new.true (new_arm c.args.t.now.script.layout c.args.t.now.part c.kid-name.ensures.kid c.list-es.ensures.list c.width-n.result (rw c.list-es.ensures.script at c.width-n.ensures) (rw c.list-es.ensures.script at c.args-2.ensures.does) (rw c.kid-name.ensures.script at c.for_expr-access.ensures.does) (c.call_new.ensures (file_of c.args.t.now)).does))

pub gen_expr-args-requires : goal.gen_expr-args-requires
gen_expr-args-requires t c = (omega (arith, c.decreases, c.requires.fits, kids_less c.args.t.now c.node-node.result c.node-node.ensures.node (ap live c.in-Expr.is), c.list-es-in-InitArray.ensures.list.fewer), (walk start (c.requires.script ∙ sym (c.list-es-in-InitArray.ensures.script ∙ c.node-node.ensures.children)) (omega (arith, c.requires.fits, kids_less c.args.t.now c.node-node.result c.node-node.ensures.node (ap live c.in-Expr.is), c.list-es-in-InitArray.ensures.list.fewer)), c.width-n-in-InitArray.ensures))

pub gen_expr-drag-requires : goal.gen_expr-drag-requires
gen_expr-drag-requires t c = in_kids c.node-node.result 0 5 (omega arith) c.decreases c.requires c.node-node.ensures.children c.node-node.ensures.node (ap live c.in-Expr.is)

pub gen_expr-each-requires : goal.gen_expr-each-requires
gen_expr-each-requires t c = let i = in_kids c.node-node.result 0 3 (omega arith) c.decreases c.requires c.node-node.ensures.children c.node-node.ensures.node (ap live c.in-Expr.is) in (i.0, (i.1, omega (arith, i.1.fits, c.requires.fits, kids_less c.args.t.now c.node-node.result c.node-node.ensures.node (ap live c.in-Expr.is), c.args.t.now.within.known, c.args.t.now.within.sound.few, c.args.t.now.within.inside)))

pub gen_expr-each-requires-in-Field : goal.gen_expr-each-requires-in-Field
gen_expr-each-requires-in-Field t c = let i = in_kids c.node-node.result 0 3 (omega arith) c.decreases c.requires c.node-node.ensures.children c.node-node.ensures.node (ap live c.in-Expr.is) in (i.0, (i.1, omega (arith, i.1.fits, c.requires.fits, kids_less c.args.t.now c.node-node.result c.node-node.ensures.node (ap live c.in-Expr.is), c.args.t.now.within.known, c.args.t.now.within.sound.few, c.args.t.now.within.inside)))

pub gen_expr-each-requires-in-InitObject : goal.gen_expr-each-requires-in-InitObject
gen_expr-each-requires-in-InitObject t c = (omega (arith, c.decreases, c.requires.fits, kids_less c.args.t.now c.node-node.result c.node-node.ensures.node (ap live c.in-Expr.is), c.list-es.ensures.list.fewer), (walk start (c.requires.script ∙ sym (c.list-es.ensures.script ∙ c.node-node.ensures.children)) (omega (arith, c.requires.fits, kids_less c.args.t.now c.node-node.result c.node-node.ensures.node (ap live c.in-Expr.is), c.list-es.ensures.list.fewer)), omega (arith, c.requires.fits, kids_less c.args.t.now c.node-node.result c.node-node.ensures.node (ap live c.in-Expr.is), c.list-es.ensures.list.fewer, c.args.t.now.within.known, c.args.t.now.within.sound.few, c.args.t.now.within.inside)))

pub gen_expr-for_expr-access-requires : goal.gen_expr-for_expr-access-requires
gen_expr-for_expr-access-requires t c = in_kids c.node-node.result 0 1 (omega arith) c.decreases c.requires c.node-node.ensures.children c.node-node.ensures.node (ap live c.in-Expr.is)

pub gen_expr-gen_binary_op-requires : goal.gen_expr-gen_binary_op-requires
gen_expr-gen_binary_op-requires t c = in_kids c.node-node.result 0 5 (omega arith) c.decreases c.requires c.node-node.ensures.children c.node-node.ensures.node (ap live c.in-Expr.is)

pub gen_expr-gen_call-requires : goal.gen_expr-gen_call-requires
gen_expr-gen_call-requires t c = in_kids c.node-node.result 0 5 (omega arith) c.decreases c.requires c.node-node.ensures.children c.node-node.ensures.node (ap live c.in-Expr.is)

pub gen_expr-gen_call-requires-in-New : goal.gen_expr-gen_call-requires-in-New
gen_expr-gen_call-requires-in-New t c = in_kids c.node-node.result 0 5 (omega arith) c.decreases c.requires c.node-node.ensures.children c.node-node.ensures.node (ap live c.in-Expr.is)

pub gen_expr-gen_expr-requires : goal.gen_expr-gen_expr-requires
gen_expr-gen_expr-requires t c = (omega (arith, c.decreases, c.requires.fits, kids_less c.args.t.now c.node-node.result c.node-node.ensures.node (ap live c.in-Expr.is), c.kid-source.ensures.kid.fewer, c.kid-target.ensures.kid.fewer), walk start (c.requires.script ∙ sym (c.kid-source.ensures.script ∙ c.node-node.ensures.children)) (omega (arith, c.requires.fits, kids_less c.args.t.now c.node-node.result c.node-node.ensures.node (ap live c.in-Expr.is), c.kid-source.ensures.kid.fewer, c.kid-target.ensures.kid.fewer)))

pub gen_expr-gen_expr-requires-in-Case : goal.gen_expr-gen_expr-requires-in-Case
gen_expr-gen_expr-requires-in-Case t c = in_kids c.node-node.result 0 0 (omega arith) c.decreases c.requires c.node-node.ensures.children c.node-node.ensures.node (value_live c.in-Case.is)

pub gen_expr-gen_expr-requires-in-DuplicateMovieClip : goal.gen_expr-gen_expr-requires-in-DuplicateMovieClip
gen_expr-gen_expr-requires-in-DuplicateMovieClip t c = (omega (arith, c.decreases, c.requires.fits, kids_less c.args.t.now c.node-node.result c.node-node.ensures.node (ap live c.in-Expr.is), c.kid-source.ensures.kid.fewer, c.kid-target.ensures.kid.fewer, c.gen_expr.auto.scratch), walk (walked c.gen_expr.ensures start) (c.requires.script ∙ sym (c.kid-target.ensures.script ∙ c.node-node.ensures.children)) (omega (arith, c.requires.fits, kids_less c.args.t.now c.node-node.result c.node-node.ensures.node (ap live c.in-Expr.is), c.kid-source.ensures.kid.fewer, c.kid-target.ensures.kid.fewer, c.gen_expr.auto.scratch)))

pub gen_expr-gen_expr-requires-in-DuplicateMovieClip-2 : goal.gen_expr-gen_expr-requires-in-DuplicateMovieClip-2
gen_expr-gen_expr-requires-in-DuplicateMovieClip-2 t c = (omega (arith, c.decreases, c.requires.fits, kids_less c.args.t.now c.node-node.result c.node-node.ensures.node (ap live c.in-Expr.is), c.kid-source.ensures.kid.fewer, c.kid-target.ensures.kid.fewer, c.gen_expr.auto.scratch, c.gen_expr-in-DuplicateMovieClip.auto.scratch), walk (built {d = c.gen_expr-in-DuplicateMovieClip.new.context} c.push.ensures.keeps.list (walked c.gen_expr-in-DuplicateMovieClip.ensures (walked c.gen_expr.ensures start))) (c.requires.script ∙ sym c.node-node.ensures.children) (omega (arith, c.requires.fits, kids_less c.args.t.now c.node-node.result c.node-node.ensures.node (ap live c.in-Expr.is), c.kid-source.ensures.kid.fewer, c.kid-target.ensures.kid.fewer, c.gen_expr.auto.scratch, c.gen_expr-in-DuplicateMovieClip.auto.scratch)))

pub gen_expr-gen_expr-requires-in-GetProperty : goal.gen_expr-gen_expr-requires-in-GetProperty
gen_expr-gen_expr-requires-in-GetProperty t c = in_kids c.node-node.result 0 0 (omega arith) c.decreases c.requires c.node-node.ensures.children c.node-node.ensures.node (ap live c.in-Expr.is)

pub gen_expr-gen_expr-requires-in-SetProperty : goal.gen_expr-gen_expr-requires-in-SetProperty
gen_expr-gen_expr-requires-in-SetProperty t c = (omega (arith, c.decreases, c.requires.fits, kids_less c.args.t.now c.node-node.result c.node-node.ensures.node (ap live c.in-Expr.is), c.kid-target-in-SetProperty.ensures.kid.fewer), walk start (c.requires.script ∙ sym (c.kid-target-in-SetProperty.ensures.script ∙ c.node-node.ensures.children)) (omega (arith, c.requires.fits, kids_less c.args.t.now c.node-node.result c.node-node.ensures.node (ap live c.in-Expr.is), c.kid-target-in-SetProperty.ensures.kid.fewer)))

pub gen_expr-gen_expr-requires-in-SetProperty-2 : goal.gen_expr-gen_expr-requires-in-SetProperty-2
gen_expr-gen_expr-requires-in-SetProperty-2 t c = (omega (arith, c.decreases, c.requires.fits, kids_less c.args.t.now c.node-node.result c.node-node.ensures.node (ap live c.in-Expr.is), c.kid-target-in-SetProperty.ensures.kid.fewer, c.gen_expr-in-SetProperty.auto.scratch), walk (built {d = c.gen_expr-in-SetProperty.new.context} c.push-in-SetProperty.ensures.keeps.list (walked c.gen_expr-in-SetProperty.ensures start)) (c.requires.script ∙ sym c.node-node.ensures.children) (omega (arith, c.requires.fits, kids_less c.args.t.now c.node-node.result c.node-node.ensures.node (ap live c.in-Expr.is), c.kid-target-in-SetProperty.ensures.kid.fewer, c.gen_expr-in-SetProperty.auto.scratch)))

pub gen_expr-gen_function-requires : goal.gen_expr-gen_function-requires
gen_expr-gen_function-requires t c = (omega (arith, c.decreases, c.requires.fits, kids_less c.args.t.now c.node-node.result c.node-node.ensures.node (ap live c.in-Expr.is)), (walk start (c.requires.script ∙ sym c.node-node.ensures.children) (omega (arith, c.requires.fits, kids_less c.args.t.now c.node-node.result c.node-node.ensures.node (ap live c.in-Expr.is))), omega (arith, number_less (file_of c.args.t.now) _ (rw (c.in-Expr.is, c.in-Function.is) at (is_node _ _ _ c.args.t.now.within c.node-node.ensures.node).named), c.args.t.now.within.sound.few)))

pub gen_expr-gen_ternary-requires : goal.gen_expr-gen_ternary-requires
gen_expr-gen_ternary-requires t c = in_kids c.node-node.result 0 5 (omega arith) c.decreases c.requires c.node-node.ensures.children c.node-node.ensures.node (ap live c.in-Expr.is)

pub gen_expr-gen_unary_op-requires : goal.gen_expr-gen_unary_op-requires
gen_expr-gen_unary_op-requires t c = in_kids c.node-node.result 0 5 (omega arith) c.decreases c.requires c.node-node.ensures.children c.node-node.ensures.node (ap live c.in-Expr.is)

pub gen_expr-goto-requires : goal.gen_expr-goto-requires
gen_expr-goto-requires t c = in_kids c.node-node.result 0 5 (omega arith) c.decreases c.requires c.node-node.ensures.children c.node-node.ensures.node (ap live c.in-Expr.is)

pub gen_expr-invariant_of-context : goal.gen_expr-invariant_of-context
gen_expr-invariant_of-context t c = record { laid_out = c.each.new.context.laid_out; indexed = index_stays (c.action.ensures (file_of c.args.t.now)).keeps.pool c.each.new.context.indexed }

pub gen_expr-invariant_of-context-in-Delete : goal.gen_expr-invariant_of-context-in-Delete
gen_expr-invariant_of-context-in-Delete t c = record { laid_out = c.for_expr-access.new.context.laid_out; indexed = index_stays (c.delete.ensures (file_of c.args.t.now)).keeps.pool c.for_expr-access.new.context.indexed }

pub gen_expr-invariant_of-context-in-DuplicateMovieClip : goal.gen_expr-invariant_of-context-in-DuplicateMovieClip
gen_expr-invariant_of-context-in-DuplicateMovieClip t c = record { laid_out = c.gen_expr-in-DuplicateMovieClip.new.context.laid_out; indexed = index_stays c.push.ensures.keeps.pool c.gen_expr-in-DuplicateMovieClip.new.context.indexed }

pub gen_expr-invariant_of-context-in-DuplicateMovieClip-2 : goal.gen_expr-invariant_of-context-in-DuplicateMovieClip-2
gen_expr-invariant_of-context-in-DuplicateMovieClip-2 t c = record { laid_out = c.gen_expr-in-DuplicateMovieClip-2.new.context.laid_out; indexed = index_stays (keeps_then (c.action-in-DuplicateMovieClip.ensures (file_of c.args.t.now)).keeps (c.action-in-DuplicateMovieClip-2.ensures (file_of c.args.t.now)).keeps).pool c.gen_expr-in-DuplicateMovieClip-2.new.context.indexed }

pub gen_expr-invariant_of-context-in-Field : goal.gen_expr-invariant_of-context-in-Field
gen_expr-invariant_of-context-in-Field t c = record { laid_out = c.each-in-Field.new.context.laid_out; indexed = index_stays (c.action-in-Field.ensures (file_of c.args.t.now)).keeps.pool c.each-in-Field.new.context.indexed }

pub gen_expr-invariant_of-context-in-GetProperty : goal.gen_expr-invariant_of-context-in-GetProperty
gen_expr-invariant_of-context-in-GetProperty t c = record { laid_out = c.gen_expr-in-GetProperty.new.context.laid_out; indexed = index_stays (keeps_then c.push-in-GetProperty.ensures.keeps (c.action-in-GetProperty.ensures (file_of c.args.t.now)).keeps).pool c.gen_expr-in-GetProperty.new.context.indexed }

pub gen_expr-invariant_of-context-in-InitArray : goal.gen_expr-invariant_of-context-in-InitArray
gen_expr-invariant_of-context-in-InitArray t c = record { laid_out = c.args-in-InitArray.new.context.laid_out; indexed = index_stays (c.action_down-in-InitArray.ensures (file_of c.args.t.now)).keeps.pool c.args-in-InitArray.new.context.indexed }

pub gen_expr-invariant_of-context-in-InitObject : goal.gen_expr-invariant_of-context-in-InitObject
gen_expr-invariant_of-context-in-InitObject t c = record { laid_out = c.each-in-InitObject.new.context.laid_out; indexed = index_stays (keeps_then (c.push_count.ensures (file_of c.args.t.now)).keeps (c.action_down.ensures (file_of c.args.t.now)).keeps).pool c.each-in-InitObject.new.context.indexed }

pub gen_expr-invariant_of-context-in-SetProperty : goal.gen_expr-invariant_of-context-in-SetProperty
gen_expr-invariant_of-context-in-SetProperty t c = record { laid_out = c.gen_expr-in-SetProperty.new.context.laid_out; indexed = index_stays c.push-in-SetProperty.ensures.keeps.pool c.gen_expr-in-SetProperty.new.context.indexed }

pub gen_expr-invariant_of-context-in-SetProperty-2 : goal.gen_expr-invariant_of-context-in-SetProperty-2
gen_expr-invariant_of-context-in-SetProperty-2 t c = record { laid_out = c.gen_expr-in-SetProperty-2.new.context.laid_out; indexed = index_stays (c.action-in-SetProperty.ensures (file_of c.args.t.now)).keeps.pool c.gen_expr-in-SetProperty-2.new.context.indexed }

pub gen_expr-overflow_add-n : goal.gen_expr-overflow_add-n
gen_expr-overflow_add-n t c = omega (arith, c.width-n.ensures, width_less (file_of c.list-es.result) c.list-es.result.part, c.list-es.ensures.list.fewer, (is_node _ _ _ c.args.t.now.within c.node-node.ensures.node).apart, c.args.t.now.within.known, c.args.t.now.within.sound.few, c.args.t.now.within.inside)

pub gen_expr-read_constant-requires-clause-t : goal.gen_expr-read_constant-requires-clause-t
gen_expr-read_constant-requires-clause-t t c = rw c.requires.script (rw (c.in-Expr.is, c.in-Constant.is) at (is_node _ _ _ c.args.t.now.within c.node-node.ensures.node).named)

pub gen_expr-returns-in-Binary : goal.gen_expr-returns-in-Binary
gen_expr-returns-in-Binary t c = walks (walked c.gen_binary_op.ensures start) (rw (expr_at (is_node _ _ _ c.args.t.now.within c.node-node.ensures.node) c.args.discard c.in-Expr.is, c.in-Binary.is) (rw c.node-node.ensures.children at c.gen_binary_op.ensures.does))

pub gen_expr-returns-in-Call : goal.gen_expr-returns-in-Call
gen_expr-returns-in-Call t c = walks (walked c.gen_call.ensures start) (rw (expr_at (is_node _ _ _ c.args.t.now.within c.node-node.ensures.node) c.args.discard c.in-Expr.is, c.in-Call.is) (rw c.node-node.ensures.children at c.gen_call.ensures.does))

pub gen_expr-returns-in-Case : goal.gen_expr-returns-in-Case
gen_expr-returns-in-Case t c = walks (walked c.gen_expr-in-Case.ensures start) (rw (value_at (is_node _ _ _ c.args.t.now.within c.node-node.ensures.node) c.args.discard c.in-Case.is) (rw c.node-node.ensures.children at c.gen_expr-in-Case.ensures.does))

pub gen_expr-returns-in-Constant : goal.gen_expr-returns-in-Constant
gen_expr-returns-in-Constant t c = walks (acted c.read_constant.ensures start) (rw (expr_at (is_node _ _ _ c.args.t.now.within c.node-node.ensures.node) c.args.discard c.in-Expr.is, c.in-Constant.is) (rw c.requires.script at c.read_constant.ensures.does))

pub gen_expr-returns-in-Delete : goal.gen_expr-returns-in-Delete
gen_expr-returns-in-Delete t c = walks (built {d = c.for_expr-access.new.context} (c.delete.ensures (file_of c.args.t.now)).keeps.list (walked c.for_expr-access.ensures start)) (rw (expr_at (is_node _ _ _ c.args.t.now.within c.node-node.ensures.node) c.args.discard c.in-Expr.is, c.in-Delete.is) (delete_arm c.args.t.now.script.layout c.node-node.result.children.part (rw c.node-node.ensures.children at c.for_expr-access.ensures.does) (c.delete.ensures (file_of c.args.t.now)).does))

pub gen_expr-returns-in-DuplicateMovieClip : goal.gen_expr-returns-in-DuplicateMovieClip
gen_expr-returns-in-DuplicateMovieClip t c = walks (built {d = c.gen_expr-in-DuplicateMovieClip-2.new.context} (keeps_then (c.action-in-DuplicateMovieClip.ensures (file_of c.args.t.now)).keeps (c.action-in-DuplicateMovieClip-2.ensures (file_of c.args.t.now)).keeps).list (walked c.gen_expr-in-DuplicateMovieClip-2.ensures (built {d = c.gen_expr-in-DuplicateMovieClip.new.context} c.push.ensures.keeps.list (walked c.gen_expr-in-DuplicateMovieClip.ensures (walked c.gen_expr.ensures start))))) (rw (expr_at (is_node _ _ _ c.args.t.now.within c.node-node.ensures.node) c.args.discard c.in-Expr.is, c.in-DuplicateMovieClip.is) (copy_arm c.args.t.now.script.layout c.node-node.result.children.part (rw c.node-node.ensures.children at c.kid-source.ensures.kid) (rw c.node-node.ensures.children at c.kid-target.ensures.kid) (rw (c.kid-source.ensures.script ∙ c.node-node.ensures.children) at c.gen_expr.ensures.does) (rw (c.kid-target.ensures.script ∙ c.node-node.ensures.children) at c.gen_expr-in-DuplicateMovieClip.ensures.does) (c.push.ensures.runs (file_of c.args.t.now) tt).does (rw c.node-node.ensures.children at c.gen_expr-in-DuplicateMovieClip-2.ensures.does) (c.action-in-DuplicateMovieClip.ensures (file_of c.args.t.now)).does (c.action-in-DuplicateMovieClip-2.ensures (file_of c.args.t.now)).does))

pub gen_expr-returns-in-Field : goal.gen_expr-returns-in-Field
gen_expr-returns-in-Field t c = walks (built {d = c.each-in-Field.new.context} (c.action-in-Field.ensures (file_of c.args.t.now)).keeps.list (walked c.each-in-Field.ensures start)) (rw (expr_at (is_node _ _ _ c.args.t.now.within c.node-node.ensures.node) c.args.discard c.in-Expr.is, c.in-Field.is) (trivial_arm c.args.t.now.script.layout c.node-node.result.children.part (loop_of c.no_loop-idle-in-Field.result) GetMember (rw c.node-node.ensures.children at c.each-in-Field.ensures.does) (c.action-in-Field.ensures (file_of c.args.t.now)).does))

pub gen_expr-returns-in-Function : goal.gen_expr-returns-in-Function
gen_expr-returns-in-Function t c = walks (walked (c.gen_function.ensures (rw c.node-node.ensures.children (rw (c.in-Expr.is, c.in-Function.is) at (is_node _ _ _ c.args.t.now.within c.node-node.ensures.node).named)) (rw c.node-node.ensures.children (function_size (is_node _ _ _ c.args.t.now.within c.node-node.ensures.node) (rw c.in-Function.is at c.in-Expr.is) _ c.leaves_value-up.ensures c.args.context.now.builder.state.size))) start) (rw (function_at (is_node _ _ _ c.args.t.now.within c.node-node.ensures.node) (rw c.in-Function.is at c.in-Expr.is) c.args.discard) (rw c.node-node.ensures.children at (c.gen_function.ensures (rw c.node-node.ensures.children (rw (c.in-Expr.is, c.in-Function.is) at (is_node _ _ _ c.args.t.now.within c.node-node.ensures.node).named)) (rw c.node-node.ensures.children (function_size (is_node _ _ _ c.args.t.now.within c.node-node.ensures.node) (rw c.in-Function.is at c.in-Expr.is) _ c.leaves_value-up.ensures c.args.context.now.builder.state.size))).does))

pub gen_expr-returns-in-GetProperty : goal.gen_expr-returns-in-GetProperty
gen_expr-returns-in-GetProperty t c = walks (built {d = c.gen_expr-in-GetProperty.new.context} (keeps_then c.push-in-GetProperty.ensures.keeps (c.action-in-GetProperty.ensures (file_of c.args.t.now)).keeps).list (walked c.gen_expr-in-GetProperty.ensures start)) (rw (expr_at (is_node _ _ _ c.args.t.now.within c.node-node.ensures.node) c.args.discard c.in-Expr.is, c.in-GetProperty.is) (get_property_arm c.args.t.now.script.layout c.node-node.result.children.part (unsigned c.in-GetProperty.n) (rw c.node-node.ensures.children at c.gen_expr-in-GetProperty.ensures.does) (rw (ap unsigned (to_z-of_z w32 c.in-GetProperty.n (search rules))) at (c.push-in-GetProperty.ensures.runs (file_of c.args.t.now) tt).does) (c.action-in-GetProperty.ensures (file_of c.args.t.now)).does))

pub gen_expr-returns-in-GotoFrame : goal.gen_expr-returns-in-GotoFrame
gen_expr-returns-in-GotoFrame t c = walks (walked c.goto.ensures start) (rw (expr_at (is_node _ _ _ c.args.t.now.within c.node-node.ensures.node) c.args.discard c.in-Expr.is, c.in-GotoFrame.is) (rw c.node-node.ensures.children at c.goto.ensures.does))

pub gen_expr-returns-in-InitArray : goal.gen_expr-returns-in-InitArray
gen_expr-returns-in-InitArray t c = walks (built {d = c.args-in-InitArray.new.context} (c.action_down-in-InitArray.ensures (file_of c.args.t.now)).keeps.list (walked c.args-in-InitArray.ensures start)) (rw (expr_at (is_node _ _ _ c.args.t.now.within c.node-node.ensures.node) c.args.discard c.in-Expr.is, c.in-InitArray.is) (array_arm c.args.t.now.script.layout c.node-node.result.children.part (rw c.node-node.ensures.children at c.list-es-in-InitArray.ensures.list) c.width-n-in-InitArray.result (rw (c.list-es-in-InitArray.ensures.script ∙ c.node-node.ensures.children) at c.width-n-in-InitArray.ensures) (rw (c.list-es-in-InitArray.ensures.script ∙ c.node-node.ensures.children) at c.args-in-InitArray.ensures.does) (c.action_down-in-InitArray.ensures (file_of c.args.t.now)).does))

pub gen_expr-returns-in-InitObject : goal.gen_expr-returns-in-InitObject
gen_expr-returns-in-InitObject t c = walks (built {d = c.each-in-InitObject.new.context} (keeps_then (c.push_count.ensures (file_of c.args.t.now)).keeps (c.action_down.ensures (file_of c.args.t.now)).keeps).list (walked c.each-in-InitObject.ensures start)) (rw (expr_at (is_node _ _ _ c.args.t.now.within c.node-node.ensures.node) c.args.discard c.in-Expr.is, c.in-InitObject.is) (object_arm c.args.t.now.script.layout c.node-node.result.children.part (loop_of c.no_loop-idle-in-InitObject.result) (rw c.node-node.ensures.children at c.list-es.ensures.list) c.width-n.result (rw (c.list-es.ensures.script ∙ c.node-node.ensures.children) at c.width-n.ensures) (rw (c.list-es.ensures.script ∙ c.node-node.ensures.children) at c.each-in-InitObject.ensures.does) (c.push_count.ensures (file_of c.args.t.now)).does (c.action_down.ensures (file_of c.args.t.now)).does))

pub gen_expr-returns-in-New : goal.gen_expr-returns-in-New
gen_expr-returns-in-New t c = walks (walked c.gen_call-in-New.ensures start) (rw (expr_at (is_node _ _ _ c.args.t.now.within c.node-node.ensures.node) c.args.discard c.in-Expr.is, c.in-New.is) (rw c.node-node.ensures.children at c.gen_call-in-New.ensures.does))

pub gen_expr-returns-in-SetProperty : goal.gen_expr-returns-in-SetProperty
gen_expr-returns-in-SetProperty t c = walks (built {d = c.gen_expr-in-SetProperty-2.new.context} (c.action-in-SetProperty.ensures (file_of c.args.t.now)).keeps.list (walked c.gen_expr-in-SetProperty-2.ensures (built {d = c.gen_expr-in-SetProperty.new.context} c.push-in-SetProperty.ensures.keeps.list (walked c.gen_expr-in-SetProperty.ensures start)))) (rw (expr_at (is_node _ _ _ c.args.t.now.within c.node-node.ensures.node) c.args.discard c.in-Expr.is, c.in-SetProperty.is) (set_property_arm c.args.t.now.script.layout c.node-node.result.children.part (unsigned c.in-SetProperty.n) (rw c.node-node.ensures.children at c.kid-target-in-SetProperty.ensures.kid) (rw (c.kid-target-in-SetProperty.ensures.script ∙ c.node-node.ensures.children) at c.gen_expr-in-SetProperty.ensures.does) (rw (ap unsigned (to_z-of_z w32 c.in-SetProperty.n (search rules))) at (c.push-in-SetProperty.ensures.runs (file_of c.args.t.now) tt).does) (rw c.node-node.ensures.children at c.gen_expr-in-SetProperty-2.ensures.does) (c.action-in-SetProperty.ensures (file_of c.args.t.now)).does))

pub gen_expr-returns-in-Simple : goal.gen_expr-returns-in-Simple
gen_expr-returns-in-Simple t c = walks (built {d = c.each.new.context} (c.action.ensures (file_of c.args.t.now)).keeps.list (walked c.each.ensures start)) (rw (expr_at (is_node _ _ _ c.args.t.now.within c.node-node.ensures.node) c.args.discard c.in-Expr.is, c.in-Simple.is, ← c.action_of-o.ensures) (trivial_arm c.args.t.now.script.layout c.node-node.result.children.part (loop_of c.no_loop-idle.result) c.action_of-o.result (rw c.node-node.ensures.children at c.each.ensures.does) (c.action.ensures (file_of c.args.t.now)).does))

pub gen_expr-returns-in-StartDrag : goal.gen_expr-returns-in-StartDrag
gen_expr-returns-in-StartDrag t c = walks (walked c.drag.ensures start) (rw (expr_at (is_node _ _ _ c.args.t.now.within c.node-node.ensures.node) c.args.discard c.in-Expr.is, c.in-StartDrag.is) (rw c.node-node.ensures.children at c.drag.ensures.does))

pub gen_expr-returns-in-Ternary : goal.gen_expr-returns-in-Ternary
gen_expr-returns-in-Ternary t c = walks (walked c.gen_ternary.ensures start) (rw (expr_at (is_node _ _ _ c.args.t.now.within c.node-node.ensures.node) c.args.discard c.in-Expr.is, c.in-Ternary.is) (rw c.node-node.ensures.children at c.gen_ternary.ensures.does))

pub gen_expr-returns-in-Unary : goal.gen_expr-returns-in-Unary
gen_expr-returns-in-Unary t c = walks (walked c.gen_unary_op.ensures start) (rw (expr_at (is_node _ _ _ c.args.t.now.within c.node-node.ensures.node) c.args.discard c.in-Expr.is, c.in-Unary.is) (rw c.node-node.ensures.children at c.gen_unary_op.ensures.does))

pub gen_expr-returns-in-Void : goal.gen_expr-returns-in-Void
gen_expr-returns-in-Void t c = walks start (rw (expr_at (is_node _ _ _ c.args.t.now.within c.node-node.ensures.node) c.args.discard c.in-Expr.is, c.in-Void.is) (idle c.args.context.now.builder.fine))

pub gen_expr-returns-in_default : goal.gen_expr-returns-in_default
gen_expr-returns-in_default t c = walks start (rw (no_expr (is_node _ _ _ c.args.t.now.within c.node-node.ensures.node) c.args.discard c.in_default.not-Expr c.in_default.not-Case c.in_default.not-ObjectField) (idle c.args.context.now.builder.fine))

pub gen_expr-returns-then-is_some : goal.gen_expr-returns-then-is_some
gen_expr-returns-then-is_some t c = walks start (stays (sym c.if-is_some.ensures) c.args.context.now.builder.fine)

pub gen_for_loop-each-requires : goal.gen_for_loop-each-requires
gen_for_loop-each-requires t c = (omega (arith, c.decreases, c.requires.walk.fits, c.kid-initialize.ensures.kid.fewer, c.list-conditions.ensures.list.fewer, c.list-update.ensures.list.fewer, c.gen_statement-in-Classic.auto.scratch, c.ends.auto.scratch, c.gen_statement-in-Classic-2.auto.scratch), (walk (built {d = c.gen_statement-in-Classic-2.new.context} (c.mark_label-in-Classic-2.ensures (file_of c.args.t.now)).keeps.list (walked c.gen_statement-in-Classic-2.ensures (walked c.ends.ensures (built {d = c.gen_statement-in-Classic.new.context} (keeps_then (c.create_label-start.ensures.runs (file_of c.args.t.now)).keeps (c.mark_label-in-Classic.ensures (file_of c.args.t.now)).keeps).list (walked c.gen_statement-in-Classic.ensures (built {d = c.args.context.now} (keeps_then (c.create_label-end.ensures.runs (file_of c.args.t.now)).keeps (c.create_label-next.ensures.runs (file_of c.args.t.now)).keeps).list start)))))) (c.requires.walk.script ∙ sym c.list-update.ensures.script) (omega (arith, c.requires.walk.fits, c.kid-initialize.ensures.kid.fewer, c.list-conditions.ensures.list.fewer, c.list-update.ensures.list.fewer, c.gen_statement-in-Classic.auto.scratch, c.ends.auto.scratch, c.gen_statement-in-Classic-2.auto.scratch)), omega (arith, c.requires.walk.fits, c.kid-initialize.ensures.kid.fewer, c.list-conditions.ensures.list.fewer, c.list-update.ensures.list.fewer, c.gen_statement-in-Classic.auto.scratch, c.ends.auto.scratch, c.gen_statement-in-Classic-2.auto.scratch, c.args.t.now.within.known, c.args.t.now.within.sound.few, c.args.t.now.within.inside)))

pub gen_for_loop-gen_target-requires-clause-file_len_bound : goal.gen_for_loop-gen_target-requires-clause-file_len_bound
gen_for_loop-gen_target-requires-clause-file_len_bound t c = rw ((walked c.gen_expr.ensures (built {d = c.args.context.now} (keeps_then (c.create_label-end.ensures.runs (file_of c.args.t.now)).keeps (c.create_label-next.ensures.runs (file_of c.args.t.now)).keeps).list start)).script ∙ c.requires.walk.script) c.args.t.now.within.sound.short

pub gen_for_loop-gen_target-requires-clause-t : goal.gen_for_loop-gen_target-requires-clause-t
gen_for_loop-gen_target-requires-clause-t t c = rw ((walked c.gen_expr.ensures (built {d = c.args.context.now} (keeps_then (c.create_label-end.ensures.runs (file_of c.args.t.now)).keeps (c.create_label-next.ensures.runs (file_of c.args.t.now)).keeps).list start)).script ∙ c.requires.walk.script) (rw c.in-Enumerate.is at c.requires.named)

pub gen_for_loop-invariant_of-context : goal.gen_for_loop-invariant_of-context
gen_for_loop-invariant_of-context t c = record { laid_out = c.args.context.now.laid_out; indexed = index_stays (keeps_then (c.create_label-end.ensures.runs (file_of c.args.t.now)).keeps (c.create_label-next.ensures.runs (file_of c.args.t.now)).keeps).pool c.args.context.now.indexed }

pub gen_for_loop-invariant_of-context-in-Classic : goal.gen_for_loop-invariant_of-context-in-Classic
gen_for_loop-invariant_of-context-in-Classic t c = record { laid_out = c.gen_statement-in-Classic.new.context.laid_out; indexed = index_stays (keeps_then (c.create_label-start.ensures.runs (file_of c.args.t.now)).keeps (c.mark_label-in-Classic.ensures (file_of c.args.t.now)).keeps).pool c.gen_statement-in-Classic.new.context.indexed }

pub gen_for_loop-invariant_of-context-in-Classic-2 : goal.gen_for_loop-invariant_of-context-in-Classic-2
gen_for_loop-invariant_of-context-in-Classic-2 t c = record { laid_out = c.gen_statement-in-Classic-2.new.context.laid_out; indexed = index_stays (c.mark_label-in-Classic-2.ensures (file_of c.args.t.now)).keeps.pool c.gen_statement-in-Classic-2.new.context.indexed }

pub gen_for_loop-invariant_of-context-in-Classic-3 : goal.gen_for_loop-invariant_of-context-in-Classic-3
gen_for_loop-invariant_of-context-in-Classic-3 t c = record { laid_out = c.each.new.context.laid_out; indexed = index_stays (keeps_then (c.jump-in-Classic.ensures (file_of c.args.t.now)).keeps (keeps_then (c.truncate_stack-in-Classic.ensures (file_of c.args.t.now)).keeps (c.mark_label-in-Classic-3.ensures (file_of c.args.t.now)).keeps)).pool c.each.new.context.indexed }

pub gen_for_loop-invariant_of-context-in-Enumerate : goal.gen_for_loop-invariant_of-context-in-Enumerate
gen_for_loop-invariant_of-context-in-Enumerate t c = record { laid_out = c.gen_expr.new.context.laid_out; indexed = index_stays (keeps_then (c.action.ensures (file_of c.args.t.now)).keeps (keeps_then (c.mark_label.ensures (file_of c.args.t.now)).keeps (keeps_then (c.store_register.ensures (file_of c.args.t.now)).keeps (keeps_then c.push.ensures.keeps (keeps_then (c.action-in-Enumerate.ensures (file_of c.args.t.now)).keeps (c.branch-context.ensures (file_of c.args.t.now)).keeps))))).pool c.gen_expr.new.context.indexed }

pub gen_for_loop-invariant_of-context-in-Enumerate-2 : goal.gen_for_loop-invariant_of-context-in-Enumerate-2
gen_for_loop-invariant_of-context-in-Enumerate-2 t c = record { laid_out = c.gen_statement.new.context.laid_out; indexed = index_stays (keeps_then (c.jump.ensures (file_of c.args.t.now)).keeps (keeps_then (c.truncate_stack.ensures (file_of c.args.t.now)).keeps (c.mark_label-in-Enumerate.ensures (file_of c.args.t.now)).keeps)).pool c.gen_statement.new.context.indexed }

pub gen_for_loop-returns-in-Classic : goal.gen_for_loop-returns-in-Classic
gen_for_loop-returns-in-Classic t c = walks (built {d = c.each.new.context} (keeps_then (c.jump-in-Classic.ensures (file_of c.args.t.now)).keeps (keeps_then (c.truncate_stack-in-Classic.ensures (file_of c.args.t.now)).keeps (c.mark_label-in-Classic-3.ensures (file_of c.args.t.now)).keeps)).list (walked c.each.ensures (built {d = c.gen_statement-in-Classic-2.new.context} (c.mark_label-in-Classic-2.ensures (file_of c.args.t.now)).keeps.list (walked c.gen_statement-in-Classic-2.ensures (walked c.ends.ensures (built {d = c.gen_statement-in-Classic.new.context} (keeps_then (c.create_label-start.ensures.runs (file_of c.args.t.now)).keeps (c.mark_label-in-Classic.ensures (file_of c.args.t.now)).keeps).list (walked c.gen_statement-in-Classic.ensures (built {d = c.args.context.now} (keeps_then (c.create_label-end.ensures.runs (file_of c.args.t.now)).keeps (c.create_label-next.ensures.runs (file_of c.args.t.now)).keeps).list start)))))))) (rw c.in-Classic.is (for_loop_arm c.args.t.now.script.layout c.args.t.now.part c.kid-initialize.ensures.kid c.list-conditions.ensures.list c.list-update.ensures.list (loop_of c.loop_to-inner.result) c.loop_to-inner.ensures (c.create_label-end.ensures.runs (file_of c.args.t.now)).does (c.create_label-next.ensures.runs (file_of c.args.t.now)).does (rw c.kid-initialize.ensures.script at c.gen_statement-in-Classic.ensures.does) (c.create_label-start.ensures.runs (file_of c.args.t.now)).does (c.mark_label-in-Classic.ensures (file_of c.args.t.now)).does (rw c.list-conditions.ensures.script at c.ends.ensures.does) c.gen_statement-in-Classic-2.ensures.does (c.mark_label-in-Classic-2.ensures (file_of c.args.t.now)).does (rw c.list-update.ensures.script at c.each.ensures.does) (c.jump-in-Classic.ensures (file_of c.args.t.now)).does (c.truncate_stack-in-Classic.ensures (file_of c.args.t.now)).does (c.mark_label-in-Classic-3.ensures (file_of c.args.t.now)).does))

pub gen_for_loop-returns-in-Enumerate : goal.gen_for_loop-returns-in-Enumerate
gen_for_loop-returns-in-Enumerate t c = walks (built {d = c.gen_statement.new.context} (keeps_then (c.jump.ensures (file_of c.args.t.now)).keeps (keeps_then (c.truncate_stack.ensures (file_of c.args.t.now)).keeps (c.mark_label-in-Enumerate.ensures (file_of c.args.t.now)).keeps)).list (walked c.gen_statement.ensures (acted c.gen_target.ensures (built {d = c.gen_expr.new.context} (keeps_then (c.action.ensures (file_of c.args.t.now)).keeps (keeps_then (c.mark_label.ensures (file_of c.args.t.now)).keeps (keeps_then (c.store_register.ensures (file_of c.args.t.now)).keeps (keeps_then c.push.ensures.keeps (keeps_then (c.action-in-Enumerate.ensures (file_of c.args.t.now)).keeps (c.branch-context.ensures (file_of c.args.t.now)).keeps))))).list (walked c.gen_expr.ensures (built {d = c.args.context.now} (keeps_then (c.create_label-end.ensures.runs (file_of c.args.t.now)).keeps (c.create_label-next.ensures.runs (file_of c.args.t.now)).keeps).list start)))))) (rw c.in-Enumerate.is (for_in_arm c.args.t.now.script.layout c.args.t.now.part (target_over (string_at (file_of c.args.t.now) (layout_of (file_of c.args.t.now))) c.in-Enumerate.target) c.kid-object.ensures.kid (loop_of c.loop_to-inner.result) c.loop_to-inner.ensures (c.create_label-end.ensures.runs (file_of c.args.t.now)).does (c.create_label-next.ensures.runs (file_of c.args.t.now)).does (rw c.kid-object.ensures.script at c.gen_expr.ensures.does) (c.action.ensures (file_of c.args.t.now)).does (c.mark_label.ensures (file_of c.args.t.now)).does (c.store_register.ensures (file_of c.args.t.now)).does (c.push.ensures.runs (file_of c.args.t.now) tt).does (c.action-in-Enumerate.ensures (file_of c.args.t.now)).does (c.branch-context.ensures (file_of c.args.t.now)).does (rw ((walked c.gen_expr.ensures (built {d = c.args.context.now} (keeps_then (c.create_label-end.ensures.runs (file_of c.args.t.now)).keeps (c.create_label-next.ensures.runs (file_of c.args.t.now)).keeps).list start)).script ∙ c.requires.walk.script) at c.gen_target.ensures.does) c.gen_statement.ensures.does (c.jump.ensures (file_of c.args.t.now)).does (c.truncate_stack.ensures (file_of c.args.t.now)).does (c.mark_label-in-Enumerate.ensures (file_of c.args.t.now)).does))

pub gen_function-end_function-requires : goal.gen_function-end_function-requires
gen_function-end_function-requires t c = rw (c.begin_function-outer.ensures.outer.0, c.begin_function-outer.ensures.outer.1) (ready (file_of c.args.t.now) _ c.args.context.now.builder.state _ c.args.context.now.builder.fine (rw (c.begin_function-outer.ensures.state, c.begin_function-outer.ensures.list, c.no_loop-idle.ensures, ← c.list-body.ensures.list.means) at (rw c.list-body.ensures.script at c.gen_statements.ensures.does)))

pub gen_function-invariant_of-context-2 : goal.gen_function-invariant_of-context-2
gen_function-invariant_of-context-2 t c = record { laid_out = c.gen_statements.new.context.laid_out; indexed = index_stays c.end_function.ensures.keeps.pool c.gen_statements.new.context.indexed }

pub gen_function-returns : goal.gen_function-returns
gen_function-returns t c = λ nf mv. walks (built {d = c.gen_statements.new.context} c.end_function.ensures.keeps.list (walked c.gen_statements.ensures (built {d = c.args.context.now} c.begin_function-outer.ensures.keeps.list start))) (function_done (file_of c.args.t.now) _ c.args.context.now.builder.state _ c.args.context.now.builder.fine (rw (c.begin_function-outer.ensures.state, c.begin_function-outer.ensures.list, c.no_loop-idle.ensures, ← c.list-body.ensures.list.means) at (rw c.list-body.ensures.script at c.gen_statements.ensures.does)) _ (rw (c.begin_function-outer.ensures.outer.0, c.begin_function-outer.ensures.outer.1) at (c.end_function.ensures.ends (file_of c.args.t.now) nf (rw c.begin_function-outer.ensures.outer.1 mv)).ends))

pub gen_if-invariant_of-context : goal.gen_if-invariant_of-context
gen_if-invariant_of-context t c = record { laid_out = c.args.context.now.laid_out; indexed = index_stays (c.create_label-end.ensures.runs (file_of c.args.t.now)).keeps.pool c.args.context.now.indexed }

pub gen_if-invariant_of-context-2 : goal.gen_if-invariant_of-context-2
gen_if-invariant_of-context-2 t c = record { laid_out = c.gen_expr.new.context.laid_out; indexed = index_stays (keeps_then (c.action.ensures (file_of c.args.t.now)).keeps (c.branch-context-2.ensures (file_of c.args.t.now)).keeps).pool c.gen_expr.new.context.indexed }

pub gen_if-invariant_of-context-3 : goal.gen_if-invariant_of-context-3
gen_if-invariant_of-context-3 t c = record { laid_out = c.gen_statement-2.new.context.laid_out; indexed = index_stays (c.mark_label-2.ensures (file_of c.args.t.now)).keeps.pool c.gen_statement-2.new.context.indexed }

pub gen_if-invariant_of-context-then-is_present : goal.gen_if-invariant_of-context-then-is_present
gen_if-invariant_of-context-then-is_present t c = record { laid_out = c.gen_expr.new.context.laid_out; indexed = index_stays (keeps_then (c.action.ensures (file_of c.args.t.now)).keeps (keeps_then (c.create_label-no.ensures.runs (file_of c.args.t.now)).keeps (c.branch-context.ensures (file_of c.args.t.now)).keeps)).pool c.gen_expr.new.context.indexed }

pub gen_if-invariant_of-context-then-is_present-2 : goal.gen_if-invariant_of-context-then-is_present-2
gen_if-invariant_of-context-then-is_present-2 t c = record { laid_out = c.gen_statement.new.context.laid_out; indexed = index_stays (keeps_then (c.jump.ensures (file_of c.args.t.now)).keeps (c.mark_label.ensures (file_of c.args.t.now)).keeps).pool c.gen_statement.new.context.indexed }

pub gen_if-invariant_of-context-then-is_present-3 : goal.gen_if-invariant_of-context-then-is_present-3
gen_if-invariant_of-context-then-is_present-3 t c = record { laid_out = c.gen_statement-then-is_present.new.context.laid_out; indexed = index_stays (c.mark_label-then-is_present.ensures (file_of c.args.t.now)).keeps.pool c.gen_statement-then-is_present.new.context.indexed }

pub gen_if-returns : goal.gen_if-returns
gen_if-returns t c = walks (built {d = c.gen_statement-2.new.context} (c.mark_label-2.ensures (file_of c.args.t.now)).keeps.list (walked c.gen_statement-2.ensures (built {d = c.gen_expr.new.context} (keeps_then (c.action.ensures (file_of c.args.t.now)).keeps (c.branch-context-2.ensures (file_of c.args.t.now)).keeps).list (walked c.gen_expr.ensures (built {d = c.args.context.now} (c.create_label-end.ensures.runs (file_of c.args.t.now)).keeps.list start))))) (if_one_arm c.args.t.now.script.layout c.args.t.now.part (loop_of c.args.lp) c.kid-condition.ensures.kid c.kid-yes.ensures.kid (ap present (rec_is (is_node _ _ _ c.args.t.now.within c.node-node.ensures.node)) ∙ sym (c.is_present.ensures (file_of c.args.t.now)) ∙ c.if-is_present.false) (c.create_label-end.ensures.runs (file_of c.args.t.now)).does (rw c.kid-condition.ensures.script at c.gen_expr.ensures.does) (c.action.ensures (file_of c.args.t.now)).does (c.branch-context-2.ensures (file_of c.args.t.now)).does (rw c.kid-yes.ensures.script at c.gen_statement-2.ensures.does) (c.mark_label-2.ensures (file_of c.args.t.now)).does)

pub gen_if-returns-then-is_present : goal.gen_if-returns-then-is_present
gen_if-returns-then-is_present t c = walks (built {d = c.gen_statement-then-is_present.new.context} (c.mark_label-then-is_present.ensures (file_of c.args.t.now)).keeps.list (walked c.gen_statement-then-is_present.ensures (built {d = c.gen_statement.new.context} (keeps_then (c.jump.ensures (file_of c.args.t.now)).keeps (c.mark_label.ensures (file_of c.args.t.now)).keeps).list (walked c.gen_statement.ensures (built {d = c.gen_expr.new.context} (keeps_then (c.action.ensures (file_of c.args.t.now)).keeps (keeps_then (c.create_label-no.ensures.runs (file_of c.args.t.now)).keeps (c.branch-context.ensures (file_of c.args.t.now)).keeps)).list (walked c.gen_expr.ensures (built {d = c.args.context.now} (c.create_label-end.ensures.runs (file_of c.args.t.now)).keeps.list start))))))) (if_both_arm c.args.t.now.script.layout c.args.t.now.part (loop_of c.args.lp) c.kid-condition.ensures.kid c.kid-yes.ensures.kid (ap present (rec_is (is_node _ _ _ c.args.t.now.within c.node-node.ensures.node)) ∙ sym (c.is_present.ensures (file_of c.args.t.now)) ∙ c.if-is_present.true) (c.create_label-end.ensures.runs (file_of c.args.t.now)).does (rw c.kid-condition.ensures.script at c.gen_expr.ensures.does) (c.action.ensures (file_of c.args.t.now)).does (c.create_label-no.ensures.runs (file_of c.args.t.now)).does (c.branch-context.ensures (file_of c.args.t.now)).does (rw c.kid-yes.ensures.script at c.gen_statement.ensures.does) (c.jump.ensures (file_of c.args.t.now)).does (c.mark_label.ensures (file_of c.args.t.now)).does c.gen_statement-then-is_present.ensures.does (c.mark_label-then-is_present.ensures (file_of c.args.t.now)).does)

pub gen_statement-exit-requires : goal.gen_statement-exit-requires
gen_statement-exit-requires t c = in_kids c.node-node.result 0 5 (omega arith) c.decreases c.requires c.node-node.ensures.children c.node-node.ensures.node (ap live c.in-Statement.is)

pub gen_statement-exit-requires-in-Throw : goal.gen_statement-exit-requires-in-Throw
gen_statement-exit-requires-in-Throw t c = in_kids c.node-node.result 0 5 (omega arith) c.decreases c.requires c.node-node.ensures.children c.node-node.ensures.node (ap live c.in-Statement.is)

pub gen_statement-gen_expr-requires : goal.gen_statement-gen_expr-requires
gen_statement-gen_expr-requires t c = (omega (arith, c.decreases, c.requires.fits, kids_less c.args.t.now c.node-node.result c.node-node.ensures.node (ap live c.in-Statement.is)), walk (acted (c.push_string.ensures (rw c.requires.script ((rw (c.in-Statement.is, c.in-Declare.is) at (is_node _ _ _ c.args.t.now.within c.node-node.ensures.node).named)))) start) (c.requires.script ∙ sym c.node-node.ensures.children) (omega (arith, c.requires.fits, kids_less c.args.t.now c.node-node.result c.node-node.ensures.node (ap live c.in-Statement.is))))

pub gen_statement-gen_expr-requires-in-Expr : goal.gen_statement-gen_expr-requires-in-Expr
gen_statement-gen_expr-requires-in-Expr t c = in_kids c.node-node.result 0 0 (omega arith) c.decreases c.requires c.node-node.ensures.children c.node-node.ensures.node (ap live c.in-Statement.is)

pub gen_statement-gen_for_loop-requires : goal.gen_statement-gen_for_loop-requires
gen_statement-gen_for_loop-requires t c = (omega (arith, c.decreases, c.requires.fits, kids_less c.args.t.now c.node-node.result c.node-node.ensures.node (ap live c.in-Statement.is)), (walk start (c.requires.script ∙ sym c.node-node.ensures.children) (omega (arith, c.requires.fits, kids_less c.args.t.now c.node-node.result c.node-node.ensures.node (ap live c.in-Statement.is))), rw c.node-node.ensures.children (rw (c.in-Statement.is, c.in-ForIn.is) at (is_node _ _ _ c.args.t.now.within c.node-node.ensures.node).named)))

pub gen_statement-gen_if-requires : goal.gen_statement-gen_if-requires
gen_statement-gen_if-requires t c = in_kids c.node-node.result 0 5 (omega arith) c.decreases c.requires c.node-node.ensures.children c.node-node.ensures.node (ap live c.in-Statement.is)

pub gen_statement-gen_statements-requires : goal.gen_statement-gen_statements-requires
gen_statement-gen_statements-requires t c = (omega (arith, c.decreases, c.requires.fits, kids_less c.args.t.now c.node-node.result c.node-node.ensures.node (ap live c.in-Statement.is), c.list-body.ensures.list.fewer, c.innermost-inner.ensures.innermost.fewer), walk start (c.requires.script ∙ sym (c.innermost-inner.ensures.script ∙ c.list-body.ensures.script ∙ c.node-node.ensures.children)) (omega (arith, c.requires.fits, kids_less c.args.t.now c.node-node.result c.node-node.ensures.node (ap live c.in-Statement.is), c.list-body.ensures.list.fewer, c.innermost-inner.ensures.innermost.fewer)))

pub gen_statement-gen_switch-requires : goal.gen_statement-gen_switch-requires
gen_statement-gen_switch-requires t c = in_kids c.node-node.result 0 5 (omega arith) c.decreases c.requires c.node-node.ensures.children c.node-node.ensures.node (ap live c.in-Statement.is)

pub gen_statement-gen_while_loop-requires : goal.gen_statement-gen_while_loop-requires
gen_statement-gen_while_loop-requires t c = in_kids c.node-node.result 0 5 (omega arith) c.decreases c.requires c.node-node.ensures.children c.node-node.ensures.node (ap live c.in-Statement.is)

pub gen_statement-invariant_of-context : goal.gen_statement-invariant_of-context
gen_statement-invariant_of-context t c = record { laid_out = c.gen_expr.new.context.laid_out; indexed = index_stays (c.action.ensures (file_of c.args.t.now)).keeps.pool c.gen_expr.new.context.indexed }

pub gen_statement-invariant_of-context-in-Block : goal.gen_statement-invariant_of-context-in-Block
gen_statement-invariant_of-context-in-Block t c = record { laid_out = c.gen_statements.new.context.laid_out; indexed = index_stays (c.truncate_stack-in-Block.ensures (file_of c.args.t.now)).keeps.pool c.gen_statements.new.context.indexed }

pub gen_statement-invariant_of-context-in-Break : goal.gen_statement-invariant_of-context-in-Break
gen_statement-invariant_of-context-in-Break t c = record { laid_out = c.args.context.now.laid_out; indexed = index_stays (c.jump_to.ensures (file_of c.args.t.now)).keeps.pool c.args.context.now.indexed }

pub gen_statement-invariant_of-context-in-Continue : goal.gen_statement-invariant_of-context-in-Continue
gen_statement-invariant_of-context-in-Continue t c = record { laid_out = c.args.context.now.laid_out; indexed = index_stays (c.jump_to-in-Continue.ensures (file_of c.args.t.now)).keeps.pool c.args.context.now.indexed }

pub gen_statement-invariant_of-context-in-Declare : goal.gen_statement-invariant_of-context-in-Declare
gen_statement-invariant_of-context-in-Declare t c = record { laid_out = c.push_string.new.self.laid_out; indexed = index_stays (c.action-in-Declare.ensures (file_of c.args.t.now)).keeps.pool c.push_string.new.self.indexed }

pub gen_statement-invariant_of-context-in-Expr : goal.gen_statement-invariant_of-context-in-Expr
gen_statement-invariant_of-context-in-Expr t c = record { laid_out = c.gen_expr-in-Expr.new.context.laid_out; indexed = index_stays (c.truncate_stack.ensures (file_of c.args.t.now)).keeps.pool c.gen_expr-in-Expr.new.context.indexed }

pub gen_statement-returns-else-is_present : goal.gen_statement-returns-else-is_present
gen_statement-returns-else-is_present t c = walks (built {d = c.push_string.new.self} (c.action-in-Declare.ensures (file_of c.args.t.now)).keeps.list (acted (c.push_string.ensures (rw c.requires.script ((rw (c.in-Statement.is, c.in-Declare.is) at (is_node _ _ _ c.args.t.now.within c.node-node.ensures.node).named)))) start)) (rw (statement_at (is_node _ _ _ c.args.t.now.within c.node-node.ensures.node) (loop_of c.args.lp) c.in-Statement.is, c.in-Declare.is, ← text_is (file_of c.args.t.now) c.in-Declare.name c.args.t.now.within.sound.short, rec_is (is_node _ _ _ (is_node _ _ _ c.args.t.now.within c.node-node.ensures.node).kids_within (rw c.node-node.ensures.children at c.node-value.ensures.node)), ← c.is_present.ensures (file_of c.args.t.now), c.if-is_present.false) (local_none_arm c.args.t.now.script.layout c.node-node.result.children.part (text_in (file_of c.args.t.now) c.in-Declare.name) (rw c.requires.script at (c.push_string.ensures (rw c.requires.script ((rw (c.in-Statement.is, c.in-Declare.is) at (is_node _ _ _ c.args.t.now.within c.node-node.ensures.node).named)))).does) (c.action-in-Declare.ensures (file_of c.args.t.now)).does))

pub gen_statement-returns-in-Block : goal.gen_statement-returns-in-Block
gen_statement-returns-in-Block t c = walks (built {d = c.gen_statements.new.context} (c.truncate_stack-in-Block.ensures (file_of c.args.t.now)).keeps.list (walked c.gen_statements.ensures start)) (rw (statement_at (is_node _ _ _ c.args.t.now.within c.node-node.ensures.node) (loop_of c.args.lp) c.in-Statement.is, c.in-Block.is) (block_arm c.args.t.now.script.layout c.node-node.result.children.part (loop_of c.args.lp) (rw c.node-node.ensures.children at c.list-body.ensures.list) (rw (c.list-body.ensures.script ∙ c.node-node.ensures.children) at c.innermost-inner.ensures.innermost) (rw (c.innermost-inner.ensures.script ∙ c.list-body.ensures.script ∙ c.node-node.ensures.children) at c.gen_statements.ensures.does) (c.truncate_stack-in-Block.ensures (file_of c.args.t.now)).does))

pub gen_statement-returns-in-Break : goal.gen_statement-returns-in-Break
gen_statement-returns-in-Break t c = walks (built {d = c.args.context.now} (c.jump_to.ensures (file_of c.args.t.now)).keeps.list start) (rw (statement_at (is_node _ _ _ c.args.t.now.within c.node-node.ensures.node) (loop_of c.args.lp) c.in-Statement.is, c.in-Break.is) (c.jump_to.ensures (file_of c.args.t.now)).does)

pub gen_statement-returns-in-Continue : goal.gen_statement-returns-in-Continue
gen_statement-returns-in-Continue t c = walks (built {d = c.args.context.now} (c.jump_to-in-Continue.ensures (file_of c.args.t.now)).keeps.list start) (rw (statement_at (is_node _ _ _ c.args.t.now.within c.node-node.ensures.node) (loop_of c.args.lp) c.in-Statement.is, c.in-Continue.is) (c.jump_to-in-Continue.ensures (file_of c.args.t.now)).does)

pub gen_statement-returns-in-Expr : goal.gen_statement-returns-in-Expr
gen_statement-returns-in-Expr t c = walks (built {d = c.gen_expr-in-Expr.new.context} (c.truncate_stack.ensures (file_of c.args.t.now)).keeps.list (walked c.gen_expr-in-Expr.ensures start)) (rw (statement_at (is_node _ _ _ c.args.t.now.within c.node-node.ensures.node) (loop_of c.args.lp) c.in-Statement.is, c.in-Expr.is) (void_arm c.args.t.now.script.layout c.node-node.result.children.part (rw c.node-node.ensures.children at c.gen_expr-in-Expr.ensures.does) (c.truncate_stack.ensures (file_of c.args.t.now)).does))

pub gen_statement-returns-in-ForIn : goal.gen_statement-returns-in-ForIn
gen_statement-returns-in-ForIn t c = walks (walked c.gen_for_loop.ensures start) (rw (statement_at (is_node _ _ _ c.args.t.now.within c.node-node.ensures.node) (loop_of c.args.lp) c.in-Statement.is, c.in-ForIn.is) (rw c.node-node.ensures.children at c.gen_for_loop.ensures.does))

pub gen_statement-returns-in-If : goal.gen_statement-returns-in-If
gen_statement-returns-in-If t c = walks (walked c.gen_if.ensures start) (rw (statement_at (is_node _ _ _ c.args.t.now.within c.node-node.ensures.node) (loop_of c.args.lp) c.in-Statement.is, c.in-If.is) (rw c.node-node.ensures.children at c.gen_if.ensures.does))

pub gen_statement-returns-in-Return : goal.gen_statement-returns-in-Return
gen_statement-returns-in-Return t c = walks (walked c.exit.ensures start) (rw (statement_at (is_node _ _ _ c.args.t.now.within c.node-node.ensures.node) (loop_of c.args.lp) c.in-Statement.is, c.in-Return.is) (rw c.node-node.ensures.children at c.exit.ensures.does))

pub gen_statement-returns-in-Switch : goal.gen_statement-returns-in-Switch
gen_statement-returns-in-Switch t c = walks (walked c.gen_switch.ensures start) (rw (statement_at (is_node _ _ _ c.args.t.now.within c.node-node.ensures.node) (loop_of c.args.lp) c.in-Statement.is, c.in-Switch.is) (rw c.node-node.ensures.children at c.gen_switch.ensures.does))

pub gen_statement-returns-in-Throw : goal.gen_statement-returns-in-Throw
gen_statement-returns-in-Throw t c = walks (walked c.exit-in-Throw.ensures start) (rw (statement_at (is_node _ _ _ c.args.t.now.within c.node-node.ensures.node) (loop_of c.args.lp) c.in-Statement.is, c.in-Throw.is) (rw c.node-node.ensures.children at c.exit-in-Throw.ensures.does))

pub gen_statement-returns-in-While : goal.gen_statement-returns-in-While
gen_statement-returns-in-While t c = walks (walked c.gen_while_loop.ensures start) (rw (statement_at (is_node _ _ _ c.args.t.now.within c.node-node.ensures.node) (loop_of c.args.lp) c.in-Statement.is, c.in-While.is) (rw c.node-node.ensures.children at c.gen_while_loop.ensures.does))

pub gen_statement-returns-in_default : goal.gen_statement-returns-in_default
gen_statement-returns-in_default t c = walks start (rw (no_statement (is_node _ _ _ c.args.t.now.within c.node-node.ensures.node) (loop_of c.args.lp) c.in_default.not-Statement) (idle c.args.context.now.builder.fine))

pub gen_statement-returns-then-is_present : goal.gen_statement-returns-then-is_present
gen_statement-returns-then-is_present t c = walks (built {d = c.gen_expr.new.context} (c.action.ensures (file_of c.args.t.now)).keeps.list (walked c.gen_expr.ensures (acted (c.push_string.ensures (rw c.requires.script ((rw (c.in-Statement.is, c.in-Declare.is) at (is_node _ _ _ c.args.t.now.within c.node-node.ensures.node).named)))) start))) (rw (statement_at (is_node _ _ _ c.args.t.now.within c.node-node.ensures.node) (loop_of c.args.lp) c.in-Statement.is, c.in-Declare.is, ← text_is (file_of c.args.t.now) c.in-Declare.name c.args.t.now.within.sound.short, rec_is (is_node _ _ _ (is_node _ _ _ c.args.t.now.within c.node-node.ensures.node).kids_within (rw c.node-node.ensures.children at c.node-value.ensures.node)), ← c.is_present.ensures (file_of c.args.t.now), c.if-is_present.true) (local_arm c.args.t.now.script.layout c.node-node.result.children.part (text_in (file_of c.args.t.now) c.in-Declare.name) (rw c.requires.script at (c.push_string.ensures (rw c.requires.script ((rw (c.in-Statement.is, c.in-Declare.is) at (is_node _ _ _ c.args.t.now.within c.node-node.ensures.node).named)))).does) (rw c.node-node.ensures.children at c.gen_expr.ensures.does) (c.action.ensures (file_of c.args.t.now)).does))

pub gen_statement-returns-then-is_some : goal.gen_statement-returns-then-is_some
gen_statement-returns-then-is_some t c = walks start (stays (sym c.if-is_some.ensures) c.args.context.now.builder.fine)

pub gen_statements-returns : goal.gen_statements-returns
gen_statements-returns t c = walks (walked c.each-3.ensures (walked c.each-2.ensures start)) (statements_arm c.args.t.now.script.layout c.args.t.now.part (loop_of c.args.lp) c.each-2.ensures.does c.each-3.ensures.does)

pub gen_statements-returns-then-not-has_hoisted : goal.gen_statements-returns-then-not-has_hoisted
gen_statements-returns-then-not-has_hoisted t c = walks (walked c.each.ensures start) (unhoisted_arm c.args.t.now.script.layout c.args.t.now.part (loop_of c.args.lp) c.has_hoisted.ensures (not-true _ c.if-not-has_hoisted.true-raw) c.args.context.now.builder.fine c.each.ensures.does)

pub gen_switch-default_label-default-requires-clause-from_default_bound : goal.gen_switch-default_label-default-requires-clause-from_default_bound
gen_switch-default_label-default-requires-clause-from_default_bound t c = default_less c.list-elements.ensures.list (rw c.list-elements.ensures.script at c.counts-n.ensures)

pub gen_switch-default_label-default-requires-clause-labels_bound : goal.gen_switch-default_label-default-requires-clause-labels_bound
gen_switch-default_label-default-requires-clause-labels_bound t c = omega (arith, labels_less c.list-elements.ensures.list (rw c.list-elements.ensures.script at c.counts-n.ensures), c.args.t.now.within.known, c.args.t.now.within.sound.few, c.args.t.now.within.inside, c.create_labels-first.ensures.bound)

pub gen_switch-each-requires : goal.gen_switch-each-requires
gen_switch-each-requires t c = (omega (arith, c.decreases, c.requires.fits, c.list-elements.ensures.list.fewer), (walk (built {d = c.args.context.now} (keeps_then (c.create_label-end.ensures.runs (file_of c.args.t.now)).keeps (keeps_then c.create_labels-first.ensures.keeps (c.jump.ensures (file_of c.args.t.now)).keeps)).list start) (c.requires.script ∙ sym c.list-elements.ensures.script) (omega (arith, c.requires.fits, c.list-elements.ensures.list.fewer)), omega (arith, c.requires.fits, c.list-elements.ensures.list.fewer, c.args.t.now.within.known, c.args.t.now.within.sound.few, c.args.t.now.within.inside, c.create_labels-first.ensures.bound)))

pub gen_switch-each-requires-2 : goal.gen_switch-each-requires-2
gen_switch-each-requires-2 t c = (omega (arith, c.decreases, c.requires.fits, c.list-elements.ensures.list.fewer, c.kid-target.ensures.kid.fewer, c.gen_expr.auto.scratch), (walk (built {d = c.gen_expr.new.context} (c.store_register.ensures (file_of c.args.t.now)).keeps.list (walked c.gen_expr.ensures (built {d = c.args.context.now} (keeps_then (c.create_label-end.ensures.runs (file_of c.args.t.now)).keeps c.create_labels-first.ensures.keeps).list start))) (c.requires.script ∙ sym c.list-elements.ensures.script) (omega (arith, c.requires.fits, c.list-elements.ensures.list.fewer, c.kid-target.ensures.kid.fewer, c.gen_expr.auto.scratch)), omega (arith, c.requires.fits, c.list-elements.ensures.list.fewer, c.kid-target.ensures.kid.fewer, c.gen_expr.auto.scratch, c.args.t.now.within.known, c.args.t.now.within.sound.few, c.args.t.now.within.inside, c.create_labels-first.ensures.bound)))

pub gen_switch-each-requires-3 : goal.gen_switch-each-requires-3
gen_switch-each-requires-3 t c = (omega (arith, c.decreases, c.requires.fits, c.list-elements.ensures.list.fewer, c.kid-target.ensures.kid.fewer, c.gen_expr.auto.scratch, c.each-2.auto.scratch), (walk (built {d = c.each-2.new.context} (c.jump-2.ensures (file_of c.args.t.now)).keeps.list (walked c.each-2.ensures (built {d = c.gen_expr.new.context} (c.store_register.ensures (file_of c.args.t.now)).keeps.list (walked c.gen_expr.ensures (built {d = c.args.context.now} (keeps_then (c.create_label-end.ensures.runs (file_of c.args.t.now)).keeps c.create_labels-first.ensures.keeps).list start))))) (c.requires.script ∙ sym c.list-elements.ensures.script) (omega (arith, c.requires.fits, c.list-elements.ensures.list.fewer, c.kid-target.ensures.kid.fewer, c.gen_expr.auto.scratch, c.each-2.auto.scratch)), omega (arith, c.requires.fits, c.list-elements.ensures.list.fewer, c.kid-target.ensures.kid.fewer, c.gen_expr.auto.scratch, c.each-2.auto.scratch, c.args.t.now.within.known, c.args.t.now.within.sound.few, c.args.t.now.within.inside, c.create_labels-first.ensures.bound)))

pub gen_switch-invariant_of-context : goal.gen_switch-invariant_of-context
gen_switch-invariant_of-context t c = record { laid_out = c.args.context.now.laid_out; indexed = index_stays (keeps_then (c.create_label-end.ensures.runs (file_of c.args.t.now)).keeps c.create_labels-first.ensures.keeps).pool c.args.context.now.indexed }

pub gen_switch-invariant_of-context-2 : goal.gen_switch-invariant_of-context-2
gen_switch-invariant_of-context-2 t c = record { laid_out = c.gen_expr.new.context.laid_out; indexed = index_stays (c.store_register.ensures (file_of c.args.t.now)).keeps.pool c.gen_expr.new.context.indexed }

pub gen_switch-invariant_of-context-3 : goal.gen_switch-invariant_of-context-3
gen_switch-invariant_of-context-3 t c = record { laid_out = c.each-2.new.context.laid_out; indexed = index_stays (c.jump-2.ensures (file_of c.args.t.now)).keeps.pool c.each-2.new.context.indexed }

pub gen_switch-invariant_of-context-4 : goal.gen_switch-invariant_of-context-4
gen_switch-invariant_of-context-4 t c = record { laid_out = c.each-3.new.context.laid_out; indexed = index_stays (c.mark_label-2.ensures (file_of c.args.t.now)).keeps.pool c.each-3.new.context.indexed }

pub gen_switch-invariant_of-context-then-n-eq0-2 : goal.gen_switch-invariant_of-context-then-n-eq0-2
gen_switch-invariant_of-context-then-n-eq0-2 t c = record { laid_out = c.args.context.now.laid_out; indexed = index_stays (keeps_then (c.create_label-end.ensures.runs (file_of c.args.t.now)).keeps (keeps_then c.create_labels-first.ensures.keeps (c.jump.ensures (file_of c.args.t.now)).keeps)).pool c.args.context.now.indexed }

pub gen_switch-invariant_of-context-then-n-eq0-2-2 : goal.gen_switch-invariant_of-context-then-n-eq0-2-2
gen_switch-invariant_of-context-then-n-eq0-2-2 t c = record { laid_out = c.each.new.context.laid_out; indexed = index_stays (c.mark_label.ensures (file_of c.args.t.now)).keeps.pool c.each.new.context.indexed }

pub gen_switch-returns : goal.gen_switch-returns
gen_switch-returns t c = walks (built {d = c.each-3.new.context} (c.mark_label-2.ensures (file_of c.args.t.now)).keeps.list (walked c.each-3.ensures (built {d = c.each-2.new.context} (c.jump-2.ensures (file_of c.args.t.now)).keeps.list (walked c.each-2.ensures (built {d = c.gen_expr.new.context} (c.store_register.ensures (file_of c.args.t.now)).keeps.list (walked c.gen_expr.ensures (built {d = c.args.context.now} (keeps_then (c.create_label-end.ensures.runs (file_of c.args.t.now)).keeps c.create_labels-first.ensures.keeps).list start))))))) (switch_cases_arm c.args.t.now.script.layout c.args.t.now.part c.create_labels-first.result.0 (loop_of c.args.lp) (loop_of c.with_exit-inner.result) _ _ c.list-elements.ensures.list (switching c.list-elements.ensures.list (rw c.list-elements.ensures.script at c.counts-n.ensures) _ _ (omega (arith, c.args.t.now.within.known, c.args.t.now.within.sound.few, c.args.t.now.within.inside, c.create_labels-first.ensures.bound)) c.default_label-default.ensures) c.with_exit-inner.ensures (some_labels (file_of c.args.t.now) c.args.t.now.part c.create_labels-first.result.0 (λ z. c.if-n-eq0.false (sym (labels_counted c.list-elements.ensures.list (rw c.list-elements.ensures.script at c.counts-n.ensures)) ∙ z))) (c.create_label-end.ensures.runs (file_of c.args.t.now)).does (c.create_labels-first.ensures.runs (file_of c.args.t.now) (list_at (file_of c.args.t.now) c.args.t.now.part 0) (labels_counted c.list-elements.ensures.list (rw c.list-elements.ensures.script at c.counts-n.ensures))).does (tests_arm c.args.t.now.script.layout c.args.t.now.part (loop_of c.no_loop-idle.result) _ 0 _ c.kid-target.ensures.kid c.list-elements.ensures.list (switching c.list-elements.ensures.list (rw c.list-elements.ensures.script at c.counts-n.ensures) _ _ (omega (arith, c.args.t.now.within.known, c.args.t.now.within.sound.few, c.args.t.now.within.inside, c.create_labels-first.ensures.bound)) c.default_label-default.ensures).testing c.if-n-eq0-2.false (rw c.kid-target.ensures.script at c.gen_expr.ensures.does) (c.store_register.ensures (file_of c.args.t.now)).does (rw c.list-elements.ensures.script at c.each-2.ensures.does)) (c.jump-2.ensures (file_of c.args.t.now)).does (rw c.list-elements.ensures.script at c.each-3.ensures.does) (c.mark_label-2.ensures (file_of c.args.t.now)).does)

pub gen_switch-returns-then-is_some : goal.gen_switch-returns-then-is_some
gen_switch-returns-then-is_some t c = walks (built {d = c.args.context.now} (keeps_then (c.create_label-end.ensures.runs (file_of c.args.t.now)).keeps c.create_labels-first.ensures.keeps).list start) (switch_arm c.args.t.now.script.layout c.args.t.now.part c.create_labels-first.result.0 (loop_of c.args.lp) (c.create_label-end.ensures.runs (file_of c.args.t.now)).does (c.create_labels-first.ensures.runs (file_of c.args.t.now) (list_at (file_of c.args.t.now) c.args.t.now.part 0) (labels_counted c.list-elements.ensures.list (rw c.list-elements.ensures.script at c.counts-n.ensures))).does (stays (sym c.if-is_some.ensures) (c.create_labels-first.ensures.runs (file_of c.args.t.now) (list_at (file_of c.args.t.now) c.args.t.now.part 0) (labels_counted c.list-elements.ensures.list (rw c.list-elements.ensures.script at c.counts-n.ensures))).does.fine))

pub gen_switch-returns-then-n-eq0 : goal.gen_switch-returns-then-n-eq0
gen_switch-returns-then-n-eq0 t c = walks (built {d = c.args.context.now} (keeps_then (c.create_label-end.ensures.runs (file_of c.args.t.now)).keeps c.create_labels-first.ensures.keeps).list start) (switch_arm c.args.t.now.script.layout c.args.t.now.part c.create_labels-first.result.0 (loop_of c.args.lp) (c.create_label-end.ensures.runs (file_of c.args.t.now)).does (c.create_labels-first.ensures.runs (file_of c.args.t.now) (list_at (file_of c.args.t.now) c.args.t.now.part 0) (labels_counted c.list-elements.ensures.list (rw c.list-elements.ensures.script at c.counts-n.ensures))).does (rw (no_labels (file_of c.args.t.now) c.args.t.now.part c.create_labels-first.result.0 ((labels_counted c.list-elements.ensures.list (rw c.list-elements.ensures.script at c.counts-n.ensures)) ∙ c.if-n-eq0.true)) (idle (c.create_labels-first.ensures.runs (file_of c.args.t.now) (list_at (file_of c.args.t.now) c.args.t.now.part 0) (labels_counted c.list-elements.ensures.list (rw c.list-elements.ensures.script at c.counts-n.ensures))).does.fine)))

pub gen_switch-returns-then-n-eq0-2 : goal.gen_switch-returns-then-n-eq0-2
gen_switch-returns-then-n-eq0-2 t c = walks (built {d = c.each.new.context} (c.mark_label.ensures (file_of c.args.t.now)).keeps.list (walked c.each.ensures (built {d = c.args.context.now} (keeps_then (c.create_label-end.ensures.runs (file_of c.args.t.now)).keeps (keeps_then c.create_labels-first.ensures.keeps (c.jump.ensures (file_of c.args.t.now)).keeps)).list start))) (switch_cases_arm c.args.t.now.script.layout c.args.t.now.part c.create_labels-first.result.0 (loop_of c.args.lp) (loop_of c.with_exit-inner.result) _ _ c.list-elements.ensures.list (switching c.list-elements.ensures.list (rw c.list-elements.ensures.script at c.counts-n.ensures) _ _ (omega (arith, c.args.t.now.within.known, c.args.t.now.within.sound.few, c.args.t.now.within.inside, c.create_labels-first.ensures.bound)) c.default_label-default.ensures) c.with_exit-inner.ensures (some_labels (file_of c.args.t.now) c.args.t.now.part c.create_labels-first.result.0 (λ z. c.if-n-eq0.false (sym (labels_counted c.list-elements.ensures.list (rw c.list-elements.ensures.script at c.counts-n.ensures)) ∙ z))) (c.create_label-end.ensures.runs (file_of c.args.t.now)).does (c.create_labels-first.ensures.runs (file_of c.args.t.now) (list_at (file_of c.args.t.now) c.args.t.now.part 0) (labels_counted c.list-elements.ensures.list (rw c.list-elements.ensures.script at c.counts-n.ensures))).does (no_tests_arm c.args.t.now.script.layout c.args.t.now.part _ _ (switching c.list-elements.ensures.list (rw c.list-elements.ensures.script at c.counts-n.ensures) _ _ (omega (arith, c.args.t.now.within.known, c.args.t.now.within.sound.few, c.args.t.now.within.inside, c.create_labels-first.ensures.bound)) c.default_label-default.ensures).testing c.if-n-eq0-2.true (c.create_labels-first.ensures.runs (file_of c.args.t.now) (list_at (file_of c.args.t.now) c.args.t.now.part 0) (labels_counted c.list-elements.ensures.list (rw c.list-elements.ensures.script at c.counts-n.ensures))).does.fine) (c.jump.ensures (file_of c.args.t.now)).does (rw c.list-elements.ensures.script at c.each.ensures.does) (c.mark_label.ensures (file_of c.args.t.now)).does)

pub gen_ternary-invariant_of-context : goal.gen_ternary-invariant_of-context
gen_ternary-invariant_of-context t c = record { laid_out = c.args.context.now.laid_out; indexed = index_stays (keeps_then (c.create_label-end.ensures.runs (file_of c.args.t.now)).keeps (c.create_label-label.ensures.runs (file_of c.args.t.now)).keeps).pool c.args.context.now.indexed }

pub gen_ternary-invariant_of-context-2 : goal.gen_ternary-invariant_of-context-2
gen_ternary-invariant_of-context-2 t c = record { laid_out = c.gen_expr.new.context.laid_out; indexed = index_stays (c.branch-context.ensures (file_of c.args.t.now)).keeps.pool c.gen_expr.new.context.indexed }

pub gen_ternary-invariant_of-context-3 : goal.gen_ternary-invariant_of-context-3
gen_ternary-invariant_of-context-3 t c = record { laid_out = c.gen_expr-2.new.context.laid_out; indexed = index_stays (keeps_then (c.jump.ensures (file_of c.args.t.now)).keeps (c.mark_label.ensures (file_of c.args.t.now)).keeps).pool c.gen_expr-2.new.context.indexed }

pub gen_ternary-invariant_of-context-4 : goal.gen_ternary-invariant_of-context-4
gen_ternary-invariant_of-context-4 t c = record { laid_out = c.gen_expr-3.new.context.laid_out; indexed = index_stays (keeps_then (c.mark_label-2.ensures (file_of c.args.t.now)).keeps (c.assume_stack_delta.ensures.runs (file_of c.args.t.now)).keeps).pool c.gen_expr-3.new.context.indexed }

pub gen_ternary-returns : goal.gen_ternary-returns
gen_ternary-returns t c = walks (built {d = c.gen_expr-3.new.context} (keeps_then (c.mark_label-2.ensures (file_of c.args.t.now)).keeps (c.assume_stack_delta.ensures.runs (file_of c.args.t.now)).keeps).list (walked c.gen_expr-3.ensures (built {d = c.gen_expr-2.new.context} (keeps_then (c.jump.ensures (file_of c.args.t.now)).keeps (c.mark_label.ensures (file_of c.args.t.now)).keeps).list (walked c.gen_expr-2.ensures (built {d = c.gen_expr.new.context} (c.branch-context.ensures (file_of c.args.t.now)).keeps.list (walked c.gen_expr.ensures (built {d = c.args.context.now} (keeps_then (c.create_label-end.ensures.runs (file_of c.args.t.now)).keeps (c.create_label-label.ensures.runs (file_of c.args.t.now)).keeps).list start))))))) (ternary_arm c.args.t.now.script.layout c.args.t.now.part c.kid-condition.ensures.kid c.kid-yes.ensures.kid (c.create_label-end.ensures.runs (file_of c.args.t.now)).does (c.create_label-label.ensures.runs (file_of c.args.t.now)).does (rw c.kid-condition.ensures.script at c.gen_expr.ensures.does) (c.branch-context.ensures (file_of c.args.t.now)).does c.gen_expr-2.ensures.does (c.jump.ensures (file_of c.args.t.now)).does (c.mark_label.ensures (file_of c.args.t.now)).does (rw c.kid-yes.ensures.script at c.gen_expr-3.ensures.does) (c.mark_label-2.ensures (file_of c.args.t.now)).does (c.assume_stack_delta.ensures.runs (file_of c.args.t.now)).does)

pub gen_unary_op-invariant_of-context : goal.gen_unary_op-invariant_of-context
gen_unary_op-invariant_of-context t c = record { laid_out = c.args.context.now.laid_out; indexed = index_stays (c.negate_integer.ensures (file_of c.args.t.now)).keeps.pool c.args.context.now.indexed }

pub gen_unary_op-invariant_of-context-in-BitNot : goal.gen_unary_op-invariant_of-context-in-BitNot
gen_unary_op-invariant_of-context-in-BitNot t c = record { laid_out = c.gen_expr-in-BitNot.new.context.laid_out; indexed = index_stays (keeps_then c.push-in-BitNot.ensures.keeps (c.action-in-BitNot.ensures (file_of c.args.t.now)).keeps).pool c.gen_expr-in-BitNot.new.context.indexed }

pub gen_unary_op-invariant_of-context-in-LogicalNot : goal.gen_unary_op-invariant_of-context-in-LogicalNot
gen_unary_op-invariant_of-context-in-LogicalNot t c = record { laid_out = c.gen_expr-in-LogicalNot.new.context.laid_out; indexed = index_stays (c.action-in-LogicalNot.ensures (file_of c.args.t.now)).keeps.pool c.gen_expr-in-LogicalNot.new.context.indexed }

pub gen_unary_op-invariant_of-context-in-None : goal.gen_unary_op-invariant_of-context-in-None
gen_unary_op-invariant_of-context-in-None t c = record { laid_out = c.args.context.now.laid_out; indexed = index_stays c.push-in-None.ensures.keeps.pool c.args.context.now.indexed }

pub gen_unary_op-invariant_of-context-in-None-2 : goal.gen_unary_op-invariant_of-context-in-None-2
gen_unary_op-invariant_of-context-in-None-2 t c = record { laid_out = c.gen_expr-in-None.new.context.laid_out; indexed = index_stays (c.action-in-None.ensures (file_of c.args.t.now)).keeps.pool c.gen_expr-in-None.new.context.indexed }

pub gen_unary_op-invariant_of-context-in-Some-Float : goal.gen_unary_op-invariant_of-context-in-Some-Float
gen_unary_op-invariant_of-context-in-Some-Float t c = record { laid_out = c.args.context.now.laid_out; indexed = index_stays (c.negate_float.ensures (file_of c.args.t.now)).keeps.pool c.args.context.now.indexed }

pub gen_unary_op-invariant_of-context-in-Some-String : goal.gen_unary_op-invariant_of-context-in-Some-String
gen_unary_op-invariant_of-context-in-Some-String t c = record { laid_out = c.args.context.now.laid_out; indexed = index_stays c.push.ensures.keeps.pool c.args.context.now.indexed }

pub gen_unary_op-invariant_of-context-in-Some-String-2 : goal.gen_unary_op-invariant_of-context-in-Some-String-2
gen_unary_op-invariant_of-context-in-Some-String-2 t c = record { laid_out = c.gen_expr.new.context.laid_out; indexed = index_stays (c.action.ensures (file_of c.args.t.now)).keeps.pool c.gen_expr.new.context.indexed }

pub gen_unary_op-returns-in-Add : goal.gen_unary_op-returns-in-Add
gen_unary_op-returns-in-Add t c = walks (walked c.gen_expr-in-Add.ensures start) (rw c.in-Add.is c.gen_expr-in-Add.ensures.does)

pub gen_unary_op-returns-in-BitNot : goal.gen_unary_op-returns-in-BitNot
gen_unary_op-returns-in-BitNot t c = walks (built {d = c.gen_expr-in-BitNot.new.context} (keeps_then c.push-in-BitNot.ensures.keeps (c.action-in-BitNot.ensures (file_of c.args.t.now)).keeps).list (walked c.gen_expr-in-BitNot.ensures start)) (rw c.in-BitNot.is (bit_not_arm c.args.t.now.script.layout c.args.t.now.part c.gen_expr-in-BitNot.ensures.does (c.push-in-BitNot.ensures.runs (file_of c.args.t.now) tt).does (c.action-in-BitNot.ensures (file_of c.args.t.now)).does))

pub gen_unary_op-returns-in-Decrement : goal.gen_unary_op-returns-in-Decrement
gen_unary_op-returns-in-Decrement t c = walks (walked c.adjust-in-Decrement.ensures start) (rw c.in-Decrement.is c.adjust-in-Decrement.ensures.does)

pub gen_unary_op-returns-in-Increment : goal.gen_unary_op-returns-in-Increment
gen_unary_op-returns-in-Increment t c = walks (walked c.adjust.ensures start) (rw c.in-Increment.is c.adjust.ensures.does)

pub gen_unary_op-returns-in-LogicalNot : goal.gen_unary_op-returns-in-LogicalNot
gen_unary_op-returns-in-LogicalNot t c = walks (built {d = c.gen_expr-in-LogicalNot.new.context} (c.action-in-LogicalNot.ensures (file_of c.args.t.now)).keeps.list (walked c.gen_expr-in-LogicalNot.ensures start)) (rw c.in-LogicalNot.is (not_arm c.args.t.now.script.layout c.args.t.now.part c.gen_expr-in-LogicalNot.ensures.does (c.action-in-LogicalNot.ensures (file_of c.args.t.now)).does))

pub gen_unary_op-returns-in-None : goal.gen_unary_op-returns-in-None
gen_unary_op-returns-in-None t c = walks (built {d = c.gen_expr-in-None.new.context} (c.action-in-None.ensures (file_of c.args.t.now)).keeps.list (walked c.gen_expr-in-None.ensures (built {d = c.args.context.now} c.push-in-None.ensures.keeps.list start))) (rw (c.in-Sub.is, literal_of (is_node _ _ _ c.args.t.now.within c.node-node.ensures.node), ← literal_is (file_of c.args.t.now) c.node-node.result.root, ← c.literal_of.ensures, c.in-None.is) (minus_arm c.args.t.now.script.layout c.args.t.now.part (c.push-in-None.ensures.runs (file_of c.args.t.now) tt).does c.gen_expr-in-None.ensures.does (c.action-in-None.ensures (file_of c.args.t.now)).does))

pub gen_unary_op-returns-in-Some-Float : goal.gen_unary_op-returns-in-Some-Float
gen_unary_op-returns-in-Some-Float t c = walks (built {d = c.args.context.now} (c.negate_float.ensures (file_of c.args.t.now)).keeps.list start) (rw (c.in-Sub.is, literal_of (is_node _ _ _ c.args.t.now.within c.node-node.ensures.node), ← literal_is (file_of c.args.t.now) c.node-node.result.root, ← c.literal_of.ensures, c.in-Some-Float.is, c.in-Some-Float.field-0-is) (c.negate_float.ensures (file_of c.args.t.now)).does)

pub gen_unary_op-returns-in-Some-Integer : goal.gen_unary_op-returns-in-Some-Integer
gen_unary_op-returns-in-Some-Integer t c = walks (built {d = c.args.context.now} (c.negate_integer.ensures (file_of c.args.t.now)).keeps.list start) (rw (c.in-Sub.is, literal_of (is_node _ _ _ c.args.t.now.within c.node-node.ensures.node), ← literal_is (file_of c.args.t.now) c.node-node.result.root, ← c.literal_of.ensures, c.in-Some-Integer.is, c.in-Some-Integer.field-0-is) (rw (ap unsigned (to_z-of_z w32 c.in-Some-Integer.n (search rules))) at (c.negate_integer.ensures (file_of c.args.t.now)).does))

pub gen_unary_op-returns-in-Some-String : goal.gen_unary_op-returns-in-Some-String
gen_unary_op-returns-in-Some-String t c = walks (built {d = c.gen_expr.new.context} (c.action.ensures (file_of c.args.t.now)).keeps.list (walked c.gen_expr.ensures (built {d = c.args.context.now} c.push.ensures.keeps.list start))) (rw (c.in-Sub.is, literal_of (is_node _ _ _ c.args.t.now.within c.node-node.ensures.node), ← literal_is (file_of c.args.t.now) c.node-node.result.root, ← c.literal_of.ensures, c.in-Some-String.is, c.in-Some-String.field-0-is) (minus_arm c.args.t.now.script.layout c.args.t.now.part (c.push.ensures.runs (file_of c.args.t.now) tt).does c.gen_expr.ensures.does (c.action.ensures (file_of c.args.t.now)).does))

pub gen_while_loop-invariant_of-context : goal.gen_while_loop-invariant_of-context
gen_while_loop-invariant_of-context t c = record { laid_out = c.args.context.now.laid_out; indexed = index_stays (keeps_then (c.create_label-start.ensures.runs (file_of c.args.t.now)).keeps (keeps_then (c.create_label-end.ensures.runs (file_of c.args.t.now)).keeps (c.mark_label.ensures (file_of c.args.t.now)).keeps)).pool c.args.context.now.indexed }

pub gen_while_loop-invariant_of-context-2 : goal.gen_while_loop-invariant_of-context-2
gen_while_loop-invariant_of-context-2 t c = record { laid_out = c.gen_expr.new.context.laid_out; indexed = index_stays (keeps_then (c.action.ensures (file_of c.args.t.now)).keeps (c.branch-context.ensures (file_of c.args.t.now)).keeps).pool c.gen_expr.new.context.indexed }

pub gen_while_loop-invariant_of-context-3 : goal.gen_while_loop-invariant_of-context-3
gen_while_loop-invariant_of-context-3 t c = record { laid_out = c.gen_statement.new.context.laid_out; indexed = index_stays (keeps_then (c.jump.ensures (file_of c.args.t.now)).keeps (c.mark_label-2.ensures (file_of c.args.t.now)).keeps).pool c.gen_statement.new.context.indexed }

pub gen_while_loop-returns : goal.gen_while_loop-returns
gen_while_loop-returns t c = walks (built {d = c.gen_statement.new.context} (keeps_then (c.jump.ensures (file_of c.args.t.now)).keeps (c.mark_label-2.ensures (file_of c.args.t.now)).keeps).list (walked c.gen_statement.ensures (built {d = c.gen_expr.new.context} (keeps_then (c.action.ensures (file_of c.args.t.now)).keeps (c.branch-context.ensures (file_of c.args.t.now)).keeps).list (walked c.gen_expr.ensures (built {d = c.args.context.now} (keeps_then (c.create_label-start.ensures.runs (file_of c.args.t.now)).keeps (keeps_then (c.create_label-end.ensures.runs (file_of c.args.t.now)).keeps (c.mark_label.ensures (file_of c.args.t.now)).keeps)).list start))))) (while_arm c.args.t.now.script.layout c.args.t.now.part c.kid-condition.ensures.kid (loop_of c.loop_to-inner.result) c.loop_to-inner.ensures (c.create_label-start.ensures.runs (file_of c.args.t.now)).does (c.create_label-end.ensures.runs (file_of c.args.t.now)).does (c.mark_label.ensures (file_of c.args.t.now)).does (rw c.kid-condition.ensures.script at c.gen_expr.ensures.does) (c.action.ensures (file_of c.args.t.now)).does (c.branch-context.ensures (file_of c.args.t.now)).does c.gen_statement.ensures.does (c.jump.ensures (file_of c.args.t.now)).does (c.mark_label-2.ensures (file_of c.args.t.now)).does)

pub goto-invariant_of-context : goal.goto-invariant_of-context
goto-invariant_of-context t c = record { laid_out = c.args.context.now.laid_out; indexed = index_stays (keeps_then c.goto_label.ensures.keeps (c.play_if.ensures (file_of c.args.t.now)).keeps).pool c.args.context.now.indexed }

pub goto-invariant_of-context-in-None : goal.goto-invariant_of-context-in-None
goto-invariant_of-context-in-None t c = record { laid_out = c.gen_expr-in-None.new.context.laid_out; indexed = index_stays (c.goto_frame2-in-None.ensures (file_of c.args.t.now)).keeps.pool c.gen_expr-in-None.new.context.indexed }

pub goto-invariant_of-context-in-Some-Float : goal.goto-invariant_of-context-in-Some-Float
goto-invariant_of-context-in-Some-Float t c = record { laid_out = c.gen_expr.new.context.laid_out; indexed = index_stays (c.goto_frame2.ensures (file_of c.args.t.now)).keeps.pool c.gen_expr.new.context.indexed }

pub goto-invariant_of-context-in-Some-Integer : goal.goto-invariant_of-context-in-Some-Integer
goto-invariant_of-context-in-Some-Integer t c = record { laid_out = c.args.context.now.laid_out; indexed = index_stays (keeps_then (c.goto_frame.ensures (file_of c.args.t.now)).keeps (c.play_if-in-Some-Integer.ensures (file_of c.args.t.now)).keeps).pool c.args.context.now.indexed }

pub goto-returns-in-None : goal.goto-returns-in-None
goto-returns-in-None t c = walks (built {d = c.gen_expr-in-None.new.context} (c.goto_frame2-in-None.ensures (file_of c.args.t.now)).keeps.list (walked c.gen_expr-in-None.ensures start)) (rw (literal_of (is_node _ _ _ c.args.t.now.within c.node-node.ensures.node), ← literal_is (file_of c.args.t.now) c.node-node.result.root, ← c.literal_of.ensures, c.in-None.is) (goto_arm c.args.t.now.script.layout c.args.t.now.part c.args.play c.gen_expr-in-None.ensures.does (c.goto_frame2-in-None.ensures (file_of c.args.t.now)).does))

pub goto-returns-in-Some-Float : goal.goto-returns-in-Some-Float
goto-returns-in-Some-Float t c = walks (built {d = c.gen_expr.new.context} (c.goto_frame2.ensures (file_of c.args.t.now)).keeps.list (walked c.gen_expr.ensures start)) (rw (literal_of (is_node _ _ _ c.args.t.now.within c.node-node.ensures.node), ← literal_is (file_of c.args.t.now) c.node-node.result.root, ← c.literal_of.ensures, c.in-Some-Float.is, c.in-Some-Float.field-0-is) (goto_arm c.args.t.now.script.layout c.args.t.now.part c.args.play c.gen_expr.ensures.does (c.goto_frame2.ensures (file_of c.args.t.now)).does))

pub goto-returns-in-Some-Integer : goal.goto-returns-in-Some-Integer
goto-returns-in-Some-Integer t c = walks (built {d = c.args.context.now} (keeps_then (c.goto_frame.ensures (file_of c.args.t.now)).keeps (c.play_if-in-Some-Integer.ensures (file_of c.args.t.now)).keeps).list start) (rw (literal_of (is_node _ _ _ c.args.t.now.within c.node-node.ensures.node), ← literal_is (file_of c.args.t.now) c.node-node.result.root, ← c.literal_of.ensures, c.in-Some-Integer.is, c.in-Some-Integer.field-0-is) (goto_frame_arm c.args.t.now.script.layout c.args.t.now.part (unsigned c.in-Some-Integer.n) c.args.play (rw (c.frame_of-frame.ensures, ap unsigned (to_z-of_z w32 c.in-Some-Integer.n (search rules))) at (c.goto_frame.ensures (file_of c.args.t.now)).does) (c.play_if-in-Some-Integer.ensures (file_of c.args.t.now)).does))

pub goto-returns-in-Some-String : goal.goto-returns-in-Some-String
goto-returns-in-Some-String t c = walks (built {d = c.args.context.now} (keeps_then c.goto_label.ensures.keeps (c.play_if.ensures (file_of c.args.t.now)).keeps).list start) (rw (literal_of (is_node _ _ _ c.args.t.now.within c.node-node.ensures.node), ← literal_is (file_of c.args.t.now) c.node-node.result.root, ← c.literal_of.ensures, c.in-Some-String.is, c.in-Some-String.field-0-is, ← text_is (file_of c.args.t.now) c.in-Some-String.s c.args.t.now.within.sound.short) (goto_label_arm c.args.t.now.script.layout c.args.t.now.part (text_in (file_of c.args.t.now) c.in-Some-String.s) c.args.play (c.goto_label.ensures.runs (file_of c.args.t.now) (literal_named (file_of c.args.t.now) c.node-node.result.number c.node-node.result.root c.in-Some-String.s (is_node _ _ _ c.args.t.now.within c.node-node.ensures.node).named (sym c.literal_of.ensures ∙ (rw c.in-Some-String.field-0-is at c.in-Some-String.is)))).does (c.play_if.ensures (file_of c.args.t.now)).does))

pub one-gen_expr-requires-in-Field : goal.one-gen_expr-requires-in-Field
one-gen_expr-requires-in-Field t c = (omega (arith, c.decreases, c.requires.walk.fits), walk (acted (c.push_string.ensures (rw c.requires.walk.script ((c.name_of-key.ensures (file_of c.args.t.now) c.node-node.result.number c.args.t.now.within.sound.short (is_node _ _ _ c.args.t.now.within c.node-node.ensures.node).named).1))) start) c.requires.walk.script (omega (arith, c.requires.walk.fits)))

pub one-invariant_of-context : goal.one-invariant_of-context
one-invariant_of-context t c = record { laid_out = c.gen_expr-in-Discarded.new.context.laid_out; indexed = index_stays (c.truncate_stack.ensures (file_of c.args.t.now)).keeps.pool c.gen_expr-in-Discarded.new.context.indexed }

pub one-invariant_of-context-in-Case : goal.one-invariant_of-context-in-Case
one-invariant_of-context-in-Case t c = record { laid_out = c.args.context.now.laid_out; indexed = index_stays (c.push_if.ensures (file_of c.args.t.now)).keeps.pool c.args.context.now.indexed }

pub one-invariant_of-context-in-Case-2 : goal.one-invariant_of-context-in-Case-2
one-invariant_of-context-in-Case-2 t c = record { laid_out = c.gen_expr-in-Case.new.context.laid_out; indexed = index_stays (keeps_then (c.action.ensures (file_of c.args.t.now)).keeps (c.branch-context.ensures (file_of c.args.t.now)).keeps).pool c.gen_expr-in-Case.new.context.indexed }

pub one-invariant_of-context-in-Case-e : goal.one-invariant_of-context-in-Case-e
one-invariant_of-context-in-Case-e t c = record { laid_out = c.args.context.now.laid_out; indexed = index_stays (c.mark_label.ensures (file_of c.args.t.now)).keeps.pool c.args.context.now.indexed }

pub one-invariant_of-context-in-Default-e : goal.one-invariant_of-context-in-Default-e
one-invariant_of-context-in-Default-e t c = record { laid_out = c.args.context.now.laid_out; indexed = index_stays (c.mark_default.ensures (file_of c.args.t.now)).keeps.pool c.args.context.now.indexed }

pub one-returns-else-is_hoisted : goal.one-returns-else-is_hoisted
one-returns-else-is_hoisted t c = walks start (rw (c.in-Hoisted.is, ← c.is_hoisted.ensures, c.if-is_hoisted.false) (idle c.args.context.now.builder.fine))

pub one-returns-else-not-is_hoisted : goal.one-returns-else-not-is_hoisted
one-returns-else-not-is_hoisted t c = walks start (rw (c.in-Unhoisted.is, ← c.is_hoisted-in-Unhoisted.ensures, c.if-not-is_hoisted.false) (idle c.args.context.now.builder.fine))

pub one-returns-else-seen-ne0 : goal.one-returns-else-seen-ne0
one-returns-else-seen-ne0 t c = walks start (rw (c.in-Element.is, element_at (is_node _ _ _ c.args.t.now.within refl) c.element-e-in-Element.ensures, c.in-Statement-e.is, c.if-seen-ne0.false) (idle c.args.context.now.builder.fine))

pub one-returns-in-Case : goal.one-returns-in-Case
one-returns-in-Case t c = walks (built {d = c.gen_expr-in-Case.new.context} (keeps_then (c.action.ensures (file_of c.args.t.now)).keeps (c.branch-context.ensures (file_of c.args.t.now)).keeps).list (walked c.gen_expr-in-Case.ensures (built {d = c.args.context.now} (c.push_if.ensures (file_of c.args.t.now)).keeps.list start))) (rw (c.in-Conditional.is, element_at (is_node _ _ _ c.args.t.now.within refl) c.element-e.ensures, c.in-Case.is) (test_arm c.args.t.now.script.layout c.args.t.now.part c.args.first c.args.seen c.args.cases (c.push_if.ensures (file_of c.args.t.now)).does c.gen_expr-in-Case.ensures.does (c.action.ensures (file_of c.args.t.now)).does (c.branch-context.ensures (file_of c.args.t.now)).does))

pub one-returns-in-Case-e : goal.one-returns-in-Case-e
one-returns-in-Case-e t c = walks (built {d = c.args.context.now} (c.mark_label.ensures (file_of c.args.t.now)).keeps.list start) (rw (c.in-Element.is, element_at (is_node _ _ _ c.args.t.now.within refl) c.element-e-in-Element.ensures, c.in-Case-e.is) (c.mark_label.ensures (file_of c.args.t.now)).does)

pub one-returns-in-Default : goal.one-returns-in-Default
one-returns-in-Default t c = walks start (rw (c.in-Conditional.is, untested _ _ _ _ (element_at (is_node _ _ _ c.args.t.now.within refl) c.element-e.ensures) c.in-Default.is) (idle c.args.context.now.builder.fine))

pub one-returns-in-Default-e : goal.one-returns-in-Default-e
one-returns-in-Default-e t c = walks (built {d = c.args.context.now} (c.mark_default.ensures (file_of c.args.t.now)).keeps.list start) (rw (c.in-Element.is, element_at (is_node _ _ _ c.args.t.now.within refl) c.element-e-in-Element.ensures, c.in-Default-e.is) (c.mark_default.ensures (file_of c.args.t.now)).does)

pub one-returns-in-Discarded : goal.one-returns-in-Discarded
one-returns-in-Discarded t c = walks (built {d = c.gen_expr-in-Discarded.new.context} (c.truncate_stack.ensures (file_of c.args.t.now)).keeps.list (walked c.gen_expr-in-Discarded.ensures start)) (rw c.in-Discarded.is (void_arm c.args.t.now.script.layout c.args.t.now.part c.gen_expr-in-Discarded.ensures.does (c.truncate_stack.ensures (file_of c.args.t.now)).does))

pub one-returns-in-Expr : goal.one-returns-in-Expr
one-returns-in-Expr t c = walks (walked c.gen_expr.ensures start) (rw c.in-Expr.is c.gen_expr.ensures.does)

pub one-returns-in-Field : goal.one-returns-in-Field
one-returns-in-Field t c = walks (walked c.gen_expr-in-Field.ensures (acted (c.push_string.ensures (rw c.requires.walk.script ((c.name_of-key.ensures (file_of c.args.t.now) c.node-node.result.number c.args.t.now.within.sound.short (is_node _ _ _ c.args.t.now.within c.node-node.ensures.node).named).1))) start)) (rw c.in-Field.is (field_arm c.args.t.now.script.layout c.args.t.now.part (is_node _ _ _ c.args.t.now.within c.node-node.ensures.node) c.name_of-key.result (c.name_of-key.ensures (file_of c.args.t.now) c.node-node.result.number c.args.t.now.within.sound.short (is_node _ _ _ c.args.t.now.within c.node-node.ensures.node).named).0 (rw c.requires.walk.script at (c.push_string.ensures (rw c.requires.walk.script ((c.name_of-key.ensures (file_of c.args.t.now) c.node-node.result.number c.args.t.now.within.sound.short (is_node _ _ _ c.args.t.now.within c.node-node.ensures.node).named).1))).does) c.gen_expr-in-Field.ensures.does))

pub one-returns-in-Statement : goal.one-returns-in-Statement
one-returns-in-Statement t c = walks (walked c.gen_statement.ensures start) (rw c.in-Statement.is c.gen_statement.ensures.does)

pub one-returns-then-is_hoisted : goal.one-returns-then-is_hoisted
one-returns-then-is_hoisted t c = walks (walked c.gen_statement-then-is_hoisted.ensures start) (rw (c.in-Hoisted.is, ← c.is_hoisted.ensures, c.if-is_hoisted.true) c.gen_statement-then-is_hoisted.ensures.does)

pub one-returns-then-not-is_hoisted : goal.one-returns-then-not-is_hoisted
one-returns-then-not-is_hoisted t c = walks (walked c.gen_statement-then-not-is_hoisted.ensures start) (rw (c.in-Unhoisted.is, ← c.is_hoisted-in-Unhoisted.ensures, c.if-not-is_hoisted.true) c.gen_statement-then-not-is_hoisted.ensures.does)

pub one-returns-then-seen-ne0 : goal.one-returns-then-seen-ne0
one-returns-then-seen-ne0 t c = walks (walked c.gen_statement-then-seen-ne0.ensures start) (rw (c.in-Element.is, element_at (is_node _ _ _ c.args.t.now.within refl) c.element-e-in-Element.ensures, c.in-Statement-e.is, lt-ltb 0 c.args.seen (omega (arith, c.if-seen-ne0.true))) c.gen_statement-then-seen-ne0.ensures.does)
