use Rattle.std.proofs.Common.{arith}
use Rattle.action_reader.proofs.Arms.{arm_pool, arm_plain, arm_branch, arm_push, arm_function}
use Rattle.action_reader.proofs.Stepping.{end_inside, numbers}
use Rattle.action_reader.proofs.walk.Walk.take.Goals as goal

pub returns-in-Pool : goal.returns-in-Pool
returns-in-Pool c = arm_pool c.requires _ c.in-Pool.is

pub single-requires-clause-first_bound : goal.single-requires-clause-first_bound
single-requires-clause-first_bound c = (arm_plain c.requires _ _ c.in-Plain.is).small

pub returns-in-Plain : goal.returns-in-Plain
returns-in-Plain c = (arm_plain c.requires _ _ c.in-Plain.is).step c.single.ensures.list_after c.single.ensures.value

pub target_of-requires-clause-offset_bound : goal.target_of-requires-clause-offset_bound
target_of-requires-clause-offset_bound c = (arm_branch c.requires _ _ c.in-Branch.is).small

pub returns-in_err-target-in-Branch : goal.returns-in_err-target-in-Branch
returns-in_err-target-in-Branch c = rw c.from_residual.ensures ((arm_branch c.requires _ _ c.in-Branch.is).lost c.in_err-target-in-Branch.ensures)

pub single-requires-in-Branch-clause-first_bound : goal.single-requires-in-Branch-clause-first_bound
single-requires-in-Branch-clause-first_bound c = (arm_branch c.requires _ _ c.in-Branch.is).target_small _ c.in_ok-target-in-Branch.ensures

pub returns-in_ok-target-in-Branch : goal.returns-in_ok-target-in-Branch
returns-in_ok-target-in-Branch c = (arm_branch c.requires _ _ c.in-Branch.is).step _ c.in_ok-target-in-Branch.ensures c.single-in-Branch.ensures.list_after c.single-in-Branch.ensures.value

pub returns-then-self-values : goal.returns-then-self-values
returns-then-self-values c = (arm_push c.requires _ c.in-Push.is).full c.if-self-values.true

pub push-requires-clause-next_bound : goal.push-requires-clause-next_bound
push-requires-clause-next_bound c = (arm_push c.requires _ c.in-Push.is).near

pub push-requires-clause-inside : goal.push-requires-clause-inside
push-requires-clause-inside c = (arm_push c.requires _ c.in-Push.is).inside

pub push-requires-clause-values : goal.push-requires-clause-values
push-requires-clause-values c = (arm_push c.requires _ c.in-Push.is).needs c.if-self-values.false

pub returns-else-self-values : goal.returns-else-self-values
returns-else-self-values c = (arm_push c.requires _ c.in-Push.is).step c.if-self-values.false c.push.ensures.value c.push.ensures.pushed c.push.auto.list

pub overflow_sub-self-in-Function : goal.overflow_sub-self-in-Function
overflow_sub-self-in-Function c = (arm_function c.requires _ c.in-Function.is).inside

pub returns-then-self-h : goal.returns-then-self-h
returns-then-self-h c = (arm_function c.requires _ c.in-Function.is).short c.if-self-h.true

pub open_body-requires-clause-size_bound : goal.open_body-requires-clause-size_bound
open_body-requires-clause-size_bound c = omega (arith, (arm_function c.requires _ c.in-Function.is).inside, c.if-self-h.false, end_inside c.requires.stands)

pub open_body-requires-clause-depth_bound : goal.open_body-requires-clause-depth_bound
open_body-requires-clause-depth_bound c = (numbers c.requires.stands).depth_few

pub returns-else-self-h : goal.returns-else-self-h
returns-else-self-h c = (arm_function c.requires _ c.in-Function.is).step c.if-self-h.false c.open_body.ensures
