use Rattle.std.proofs.Common.{arith}
use Rattle.action_reader.proofs.Pushing.{push_holds, loop_safe, loop_more, push_done}
use Rattle.action_reader.proofs.push.value_entries.Goals as goal

pub loop-v-init : goal.loop-v-init
loop-v-init c = push_holds

pub overflow_sub-top : goal.overflow_sub-top
overflow_sub-top c = (loop_safe c.loop-v.invariant c.requires.values c.args.pool c.in-Some.v c.in-Some.ensures c.requires.near).room

pub overflow_add-base : goal.overflow_add-base
overflow_add-base c = omega (arith, (loop_safe c.loop-v.invariant c.requires.values c.args.pool c.in-Some.v c.in-Some.ensures c.requires.near).code)

pub overflow_cast-v : goal.overflow_cast-v
overflow_cast-v c = omega (arith, (loop_safe c.loop-v.invariant c.requires.values c.args.pool c.in-Some.v c.in-Some.ensures c.requires.near).first)

pub loop-v-smaller : goal.loop-v-smaller
loop-v-smaller c = let z = loop_safe c.loop-v.invariant c.requires.values c.args.pool c.in-Some.v c.in-Some.ensures c.requires.near in omega (arith, z.later, z.inside)

pub loop-v-preserved : goal.loop-v-preserved
loop-v-preserved c = loop_more c.loop-v.invariant c.requires.values c.args.pool c.in-Some.v c.in-Some.ensures c.put.ensures

pub returns : goal.returns
returns c = push_done c.loop-v.invariant c.args.pool c.in_default.ensures
