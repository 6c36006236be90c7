use Rattle.std.proofs.Common.{sym}
use borrow.Author.Tests.{not-true, not-false}
use Rattle.action_reader.proofs.Stepping.{d_length}
use Rattle.action_reader.proofs.Arms.{no_head, arm_unfit, arm_full}
use Rattle.action_reader.proofs.walk.Walk.next_record.Goals as goal

pub slice_bounds-head_at-end : goal.slice_bounds-head_at-end
slice_bounds-head_at-end c = sym (d_length c.requires.stands)

pub returns-in_err-h : goal.returns-in_err-h
returns-in_err-h c = rw c.from_residual.ensures (no_head c.requires.stands c.in_err-h.ensures c.requires.inside)

pub returns-then-not-h : goal.returns-then-not-h
returns-then-not-h c = arm_unfit c.requires.stands c.in_ok-h.ensures (not-true _ c.if-not-h.true)

pub returns-then-self-ge-MAX_ACTIONS : goal.returns-then-self-ge-MAX_ACTIONS
returns-then-self-ge-MAX_ACTIONS c = arm_full c.requires.stands c.in_ok-h.ensures (not-false _ c.if-not-h.false) c.if-self-ge-MAX_ACTIONS.true
