use mathlib.Core.Path.{refl, sym, ◌∙◌}
use native.Mathlib.Omega.{arith}
use Rattle.leaves.proofs.Args.{args_holds, args_named, args_constant, args_void, args_none, before_all}
use Rattle.leaves.proofs.push_constants.Goals as goal

pub loop-tree-init : goal.loop-tree-init
loop-tree-init c = rw c.into_iter-tree-iterator.ensures.into_iter_gives (record {
  trees = refl;
  script = refl;
  same_list = record { name = refl; long = refl };
  args = args_holds _ _ _ _ _ c.args.t.now.within c.args.context.now.builder.fine;
})

pub loop-tree-preserved-then-kind : goal.loop-tree-preserved-then-kind
loop-tree-preserved-then-kind c =
    let i = c.loop-tree.invariant in
    let s = c.in-Some.ensures.steps in
    record {
      trees = s.2.script ∙ i.trees;
      script = i.script;
      same_list = i.same_list;
      args = args_void i.args (omega (arith, s.1)) (rw (s.0, i.trees) at (sym c.kind-kind.ensures ∙ c.if-kind.true)) (rw i.trees at s.2.part);
    }

pub returns-then-is_some : goal.returns-then-is_some
returns-then-is_some c = rw c.in-Some.ensures.steps.0 c.loop-tree.invariant

pub returns-then-kind-2 : goal.returns-then-kind-2
returns-then-kind-2 c = rw c.in-Some.ensures.steps.0 c.loop-tree.invariant

pub read_constant-requires-clause-t : goal.read_constant-requires-clause-t
read_constant-requires-clause-t c =
    let i = c.loop-tree.invariant in
    let s = c.in-Some.ensures.steps in
    rw (i.script ∙ c.requires) (args_named i.args (omega (arith, s.1)) (rw (s.0, i.trees) at (sym c.kind-kind.ensures ∙ c.if-kind-2.false)) (rw (s.0, i.trees) at c.known_row-row.ensures) c.constant.ensures)

pub loop-tree-preserved : goal.loop-tree-preserved
loop-tree-preserved c =
    let i = c.loop-tree.invariant in
    let s = c.in-Some.ensures.steps in
    let r = c.read_constant.ensures in
    record {
      trees = s.2.script ∙ i.trees;
      script = r.script ∙ i.script;
      same_list = record { name = r.same_list.name ∙ i.same_list.name; long = r.same_list.long ∙ i.same_list.long };
      args = args_constant i.args (omega (arith, s.1)) (rw (s.0, i.trees) at (sym c.kind-kind.ensures ∙ c.if-kind-2.false)) (rw (s.0, i.trees) at c.known_row-row.ensures) c.constant.ensures (rw i.trees at s.2.part) (rw (i.script ∙ c.requires) at r.does) r.same_list.long;
    }

pub invariant_of-result : goal.invariant_of-result
invariant_of-result c = record { within = before_all c.args.t.now.within }

pub returns : goal.returns
returns c =
    let i = c.loop-tree.invariant in
    record {
      trees = refl;
      script = i.script;
      same_list = i.same_list;
      args = args_none i.args c.in-None.ensures.steps.0 refl (before_all c.args.t.now.within);
    }
