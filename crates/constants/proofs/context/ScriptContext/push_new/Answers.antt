use Rattle.builder.proofs.Runs.{index_stays, same_list_then}
use Rattle.constants.proofs.HashLaws.{headed}
use Rattle.constants.proofs.PushLaws.{room, total_fits, push_unpooled, push_refused, pushed_indexed, push_added}
use Rattle.constants.proofs.Acts.{acts, in_context}
use Rattle.constants.proofs.context.ScriptContext.push_new.Goals as goal

pub invariant_of-self : goal.invariant_of-self
invariant_of-self c = in_context c.args.self.now c.push.ensures.keeps

pub returns-then-self-size : goal.returns-then-self-size
returns-then-self-size c = λ t e. acts c.push.ensures.keeps.list (push_unpooled c.args.self.now.script.bytes.now c.args.s c.args.self.now.builder.fine c.requires.going c.text-size.ensures e c.if-self-size.true (c.push.ensures.runs c.args.self.now.script.bytes.now t).does)

pub invariant_of-self-2 : goal.invariant_of-self-2
invariant_of-self-2 c = in_context c.args.self.now c.push-2.ensures.keeps

pub returns-else-is_none : goal.returns-else-is_none
returns-else-is_none c = λ t e. acts c.push-2.ensures.keeps.list (push_refused c.args.self.now.script.bytes.now c.args.s c.args.self.now.builder.fine c.requires.going c.text-size.ensures e c.if-self-size.false (c.push-2.ensures.runs c.args.self.now.script.bytes.now tt).does c.if-is_none.ensures)

pub add-requires-clause-room : goal.add-requires-clause-room
add-requires-clause-room c = room c.args.self.now.builder.fine c.requires.going (c.push-2.ensures.runs c.args.self.now.script.bytes.now tt).does c.if-is_none.ensures

pub add-requires-clause-h_bound : goal.add-requires-clause-h_bound
add-requires-clause-h_bound c = (headed _ c.requires.h_value).1

pub add-requires-clause-size_bound : goal.add-requires-clause-size_bound
add-requires-clause-size_bound c = total_fits c.args.self.now.builder.fine c.requires.going (c.push-2.ensures.runs c.args.self.now.script.bytes.now tt).does c.if-is_none.ensures c.if-self-size.false

pub invariant_of-self-then-is_none : goal.invariant_of-self-then-is_none
invariant_of-self-then-is_none c = record {
  laid_out = c.args.self.now.laid_out;
  indexed = pushed_indexed c.push-2.new.self.fine (room c.args.self.now.builder.fine c.requires.going (c.push-2.ensures.runs c.args.self.now.script.bytes.now tt).does c.if-is_none.ensures) (headed _ c.requires.h_value) c.add.ensures.added
      (index_stays c.push-2.ensures.keeps.pool c.args.self.now.indexed);
}

pub returns-then-is_none : goal.returns-then-is_none
returns-then-is_none c = λ t e.
    acts (same_list_then c.push-2.ensures.keeps.list c.add.ensures.same_list)
    (push_added c.args.self.now.script.bytes.now c.args.s c.args.self.now.builder.fine c.requires.going c.text-size.ensures e c.if-self-size.false (c.push-2.ensures.runs c.args.self.now.script.bytes.now tt).does c.if-is_none.ensures (headed _ c.requires.h_value) c.add.ensures.added t)
