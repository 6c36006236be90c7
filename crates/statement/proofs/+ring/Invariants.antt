-- The ring: each function does its step of the definition.
use Prim.Native.Nat.{◌+◌, ◌*◌}
use mathlib.Core.Path.{◌≡◌}
use mathlib.Core.Bool.{cond}
use lib.ListN.{length}
use Rattle.rows.specs.Rows.{loop_of}
use Rattle.leaves.specs.Args.{Pushes}
use Rattle.statement.proofs.Walks.{Goes}
use Rattle.statement.proofs.Lists.{PopInv}
use Rattle.statement.proofs.+ring.Given as goal

abbrev pub decreases-adjust : goal.decreases-adjust
decreases-adjust l = 8 * l.t.now.part.n + cond l.discard 3 4

abbrev pub decreases-args : goal.decreases-args
decreases-args l = 8 * l.t.now.part.n + 3

abbrev pub invariant-args-loop-tree : goal.invariant-args-loop-tree
invariant-args-loop-tree l = Pushes l.t l.fn.context l.tree-iterator l.context × (length l.scratch ≡ length l.initial.scratch)

abbrev pub decreases-drag : goal.decreases-drag
decreases-drag l = 8 * l.t.now.part.n + 5

abbrev pub decreases-each : goal.decreases-each
decreases-each l = 8 * l.t.now.part.n + 3

abbrev pub invariant-each-loop-top : goal.invariant-each-loop-top
invariant-each-loop-top l =
    PopInv l.t.script.bytes.now l.t.script.layout l.what (loop_of l.lp) l.first l.default l.initial.context.builder.list.now l.initial.scratch l.t.part.end l.start l.initial.context.builder.state
    l.context.builder.list.now l.scratch l.top l.context.builder.state l.seen l.cases × Goes l.initial.context l.context

abbrev pub decreases-ends : goal.decreases-ends
decreases-ends l = 8 * l.t.now.part.n + 4

abbrev pub decreases-exit : goal.decreases-exit
decreases-exit l = 8 * l.t.now.part.n + 5

abbrev pub decreases-for_expr : goal.decreases-for_expr
decreases-for_expr l = 8 * l.t.now.part.n + 1

abbrev pub decreases-gen_binary_op : goal.decreases-gen_binary_op
decreases-gen_binary_op l = 8 * l.t.now.part.n + 5

abbrev pub decreases-gen_call : goal.decreases-gen_call
decreases-gen_call l = 8 * l.t.now.part.n + 5

abbrev pub decreases-gen_expr : goal.decreases-gen_expr
decreases-gen_expr l = 8 * l.t.now.part.n + 0

abbrev pub decreases-gen_for_loop : goal.decreases-gen_for_loop
decreases-gen_for_loop l = 8 * l.t.now.part.n + 5

abbrev pub decreases-gen_function : goal.decreases-gen_function
decreases-gen_function l = 8 * l.t.now.part.n + 5

abbrev pub decreases-gen_if : goal.decreases-gen_if
decreases-gen_if l = 8 * l.t.now.part.n + 5

abbrev pub decreases-gen_statement : goal.decreases-gen_statement
decreases-gen_statement l = 8 * l.t.now.part.n + 0

abbrev pub decreases-gen_statements : goal.decreases-gen_statements
decreases-gen_statements l = 8 * l.t.now.part.n + 4

abbrev pub decreases-gen_switch : goal.decreases-gen_switch
decreases-gen_switch l = 8 * l.t.now.part.n + 5

abbrev pub decreases-gen_ternary : goal.decreases-gen_ternary
decreases-gen_ternary l = 8 * l.t.now.part.n + 5

abbrev pub decreases-gen_unary_op : goal.decreases-gen_unary_op
decreases-gen_unary_op l = 8 * l.t.now.part.n + 5

abbrev pub decreases-gen_while_loop : goal.decreases-gen_while_loop
decreases-gen_while_loop l = 8 * l.t.now.part.n + 5

abbrev pub decreases-goto : goal.decreases-goto
decreases-goto l = 8 * l.t.now.part.n + 5

abbrev pub decreases-one : goal.decreases-one
decreases-one l = 8 * l.t.now.part.n + 2
