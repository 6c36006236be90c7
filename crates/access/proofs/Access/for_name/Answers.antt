use mathlib.Core.Path.{sym, ◌∙◌}
use Rattle.constants.proofs.Acts.{acts, in_context}
use Rattle.access.proofs.Accesses.{null_name, undefined_name, other_name}
use Rattle.access.proofs.Access.for_name.Goals as goal

pub invariant_of-context : goal.invariant_of-context
invariant_of-context c = in_context c.args.context.now c.push.ensures.keeps

pub returns-then-is_null : goal.returns-then-is_null
returns-then-is_null c = λ t. acts c.push.ensures.keeps.list (null_name c.args.context.now.script.bytes.now c.args.name (rw (← c.text-s.ensures) (sym c.is_null.ensures ∙ c.if-is_null.true)) (c.push.ensures.runs c.args.context.now.script.bytes.now tt).does)

pub invariant_of-context-then-is_undefined : goal.invariant_of-context-then-is_undefined
invariant_of-context-then-is_undefined c = in_context c.args.context.now c.push-then-is_undefined.ensures.keeps

pub returns-then-is_undefined : goal.returns-then-is_undefined
returns-then-is_undefined c = λ t.
    acts c.push-then-is_undefined.ensures.keeps.list
    (undefined_name c.args.context.now.script.bytes.now c.args.name (rw (← c.text-s.ensures) (sym c.is_null.ensures ∙ c.if-is_null.false)) (rw (← c.text-s.ensures) (sym c.is_undefined.ensures ∙ c.if-is_undefined.true)) (c.push-then-is_undefined.ensures.runs c.args.context.now.script.bytes.now tt).does)

pub returns : goal.returns
returns c = λ t. let a = c.push_string.ensures t in record {
  script = a.script;
  same_list = a.same_list;
  does = other_name c.args.context.now.script.bytes.now c.args.name (rw (← c.text-s.ensures) (sym c.is_null.ensures ∙ c.if-is_null.false)) (rw (← c.text-s.ensures) (sym c.is_undefined.ensures ∙ c.if-is_undefined.false)) a.does;
}
